-- Text of XML (Extensible Markup Language 1.0, sections 2.2, 2.4 and 4.1) in printable ASCII.
use Rattle.std.specs.Prelude.{◌≡◌, ◌≢◌, ◌⊎◌, ℕ, ◌<◌, ◌≤◌, ◌==◌, ◌&&◌, ◌||◌, nat_lt, nat_le}
use Rattle.std.specs.Prelude.{List, [], ◌∷◌, ◌++◌, map, Bool, true, false, cond}
use Rattle.std.specs.Fmt.{decimal}
use Rattle.std.specs.List.{All}
use Rattle.std.specs.Str.Parse.{IsNumeral, digits_value}

-- printable ASCII that ends neither a text nor an attribute: none of `"`, `'`, `<` and `>`
abbrev pub IsQuiet : ℕ → Type 0
IsQuiet b = (32 ≤ b) × (b < 127) × (b ≢ 34) × (b ≢ 39) × (b ≢ 60) × (b ≢ 62)

-- XML can have the character: no control character but three, no half of a pair, and neither U+FFFE nor U+FFFF
abbrev pub is_allowed : ℕ → Bool
is_allowed c =
    cond (nat_lt c 32) ((c == 9) || ((c == 10) || (c == 13)))
    (cond (nat_lt c 65536) (nat_lt c 65534 && (nat_lt c 55296 || nat_lt 57343 c)) (nat_lt c 1114112))

-- the character, or U+FFFD where XML cannot have it
abbrev pub readable : ℕ → ℕ
readable c = cond (is_allowed c) c 65533

-- a character that stands for itself: printable ASCII but `"`, `&`, `'`, `<` and `>`
abbrev pub is_literal : ℕ → Bool
is_literal c =
    nat_le 32 c && (nat_lt c 127 && (cond (c == 34) false true && (cond (c == 38) false true
    && (cond (c == 39) false true && (cond (c == 60) false true && cond (c == 62) false true)))))

-- a reference to a character: `&#`, its number in decimal, and `;`
abbrev pub reference : ℕ → List ℕ
reference c = 38 ∷ 35 ∷ (decimal c ++ 59 ∷ [])

-- a character as it stands in a text
abbrev pub character_text : ℕ → List ℕ
character_text c = cond (is_literal c) (c ∷ []) (reference (readable c))

-- the characters, one after another
abbrev pub escaped : List ℕ → List ℕ
escaped [] = []
escaped (c ∷ cs) = character_text c ++ escaped cs

-- the text begins with this character, itself or a reference to it, and this is the rest
abbrev pub BeginsWith : List ℕ → ℕ → List ℕ → Type 0
BeginsWith text c rest =
    ((text ≡ c ∷ rest) × (c ≢ 38) × (c ≢ 60))
    ⊎ ((digits : List ℕ) × (text ≡ 38 ∷ 35 ∷ (digits ++ 59 ∷ rest)) × IsNumeral 10 digits
    × (digits_value 10 digits ≡ c))

-- the text is read as these characters
abbrev pub ReadsAs : List ℕ → List ℕ → Type 0
ReadsAs text [] = text ≡ []
ReadsAs text (c ∷ cs) = (rest : List ℕ) × BeginsWith text c rest × ReadsAs rest cs

-- no byte of a text ends what it stands in
abbrev pub TextsAreQuiet : Type 0
TextsAreQuiet = (cs : List ℕ) → All IsQuiet (escaped cs)

-- a text is read as its characters, of which those that XML cannot have became U+FFFD
abbrev pub TextsReadBack : Type 0
TextsReadBack = (cs : List ℕ) → ReadsAs (escaped cs) (map readable cs)
