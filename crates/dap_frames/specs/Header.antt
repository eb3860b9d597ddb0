-- What a header says.
use Rattle.std.specs.Prelude.{ℕ, Bool, true, false, not, cond, ◌&&◌, ◌==◌, ◌+◌, List, [], ◌∷◌, Option, Some, None, MatchOption, drop, nat_eq, codes}
use Rattle.std.specs.Char.{eq_ignore_ascii_case}
use Rattle.std.specs.List.{starts_with}
use Rattle.decimal.specs.Reading.{Reads, IsNoNumber}
use Rattle.dap_frames.specs.Frames.{header_end}

-- a line ends here, and behind it an empty line
abbrev pub ends_here : List ℕ → Bool
ends_here bytes = starts_with nat_eq bytes header_end

-- the index behind the first empty line, where `n` stands before these bytes
abbrev pub header_length_from : ℕ → List ℕ → Option ℕ
header_length_from n [] = None
header_length_from n (x ∷ xs) = cond (ends_here (x ∷ xs)) (Some (n + 4)) (header_length_from (n + 1) xs)

-- the index behind the first empty line
abbrev pub header_length : List ℕ → Option ℕ
header_length bytes = header_length_from 0 bytes

-- whether a line ends by a byte 10 with no byte 13 before it; `returned` where a byte 13 stands before these
abbrev pub ends_bare : Bool → List ℕ → Bool
ends_bare returned [] = false
ends_bare returned (x ∷ xs) = cond (x == 10 && not returned) true (ends_bare (x == 13) xs)

-- a key stands at the beginning, in small letters or large ones
abbrev pub begins_with : List ℕ → List ℕ → Bool
begins_with [] text = true
begins_with (k ∷ key) [] = false
begins_with (k ∷ key) (x ∷ text) = eq_ignore_ascii_case k x && begins_with key text

-- the key of a header that tells how many bytes come
abbrev pub has_key : List ℕ → Bool
has_key text = begins_with (codes "Content-Length:") text

-- what stands behind the key of the first line that begins with it; `begins` where a line begins here
abbrev pub value_text : Bool → List ℕ → Option (List ℕ)
value_text begins [] = None
value_text begins (x ∷ xs) = cond (begins && has_key (x ∷ xs)) (Some (drop 15 (x ∷ xs))) (value_text (x == 10) xs)

-- what stands behind the spaces at the beginning
abbrev pub behind_spaces : List ℕ → List ℕ
behind_spaces [] = []
behind_spaces (x ∷ xs) = cond (x == 32) (behind_spaces xs) (x ∷ xs)

-- what stands before the first byte 13
abbrev pub up_to_return : List ℕ → List ℕ
up_to_return [] = []
up_to_return (x ∷ xs) = cond (x == 13) [] (x ∷ up_to_return xs)

-- the text of the number
abbrev pub number_text : List ℕ → List ℕ
number_text text = up_to_return (behind_spaces text)

-- the header tells that n bytes come
abbrev pub Tells : List ℕ → ℕ → Type 0
Tells header n = MatchOption (value_text true header) ⊥ (λ text. Reads (number_text text) n)

-- the header does not tell how many bytes come
abbrev pub TellsNone : List ℕ → Type 0
TellsNone header = MatchOption (value_text true header) (Unit {0}) (λ text. IsNoNumber (number_text text))
