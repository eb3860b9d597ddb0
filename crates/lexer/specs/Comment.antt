-- Comments that nest, from `(--` to the `--)` that closes it.
use Rattle.std.specs.Prelude.{ℕ, zero, suc, Bool, true, false, ◌&&◌, if◌then◌else◌, nat_eq, [], ◌∷◌, take, drop, IsTrue}
use Rattle.std.specs.List.{starts_with}
use Rattle.syntax.specs.Texts.{Text}

-- whether a text begins with `(--`
abbrev pub is_opening : Text → Bool
is_opening text = starts_with nat_eq text (40 ∷ 45 ∷ 45 ∷ [])

-- whether a text begins with `--)`
abbrev pub is_closing : Text → Bool
is_closing text = starts_with nat_eq text (45 ∷ 45 ∷ 41 ∷ [])

-- Whether a text is what stands inside so many open comments, up to its end with the `--)` of the
-- outermost: `(--` opens one more, `--)` closes one, and a byte that begins neither is skipped.
abbrev pub closes : ℕ → Text → Bool
closes zero [] = true
closes zero (_ ∷ _) = false
closes (suc depth) (a ∷ b ∷ c ∷ rest) =
    if is_opening (a ∷ b ∷ c ∷ rest) then closes (suc (suc depth)) rest
    else (if is_closing (a ∷ b ∷ c ∷ rest) then closes depth rest
    else closes (suc depth) (b ∷ c ∷ rest))
closes (suc depth) _ = false

-- whether a text is one whole nested comment
abbrev pub is_nested_comment : Text → Bool
is_nested_comment text = is_opening text && closes 1 (drop 3 text)

-- the text begins a nested comment, and no front of it is a whole one
abbrev pub IsOpenComment : Text → Type 0
IsOpenComment text = IsTrue (is_opening text) × ((n : ℕ) → ¬ IsTrue (is_nested_comment (take n text)))
