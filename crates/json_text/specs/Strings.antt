-- Strings of JSON (RFC 8259, section 7) in printable ASCII without `<`.
use Rattle.std.specs.Prelude.{ℕ, ◌≢◌, ◌<◌, ◌≤◌, ◌+◌, ◌-◌, ◌/◌, ◌%◌, ◌==◌, ◌&&◌, nat_lt, nat_le, List, [], ◌∷◌, ◌++◌, Bool, true, false, cond}
use Rattle.std.specs.List.{All}

-- printable ASCII, and no `<`
abbrev pub IsPlain : ℕ → Type 0
IsPlain b = (32 ≤ b) × (b < 127) × (b ≢ 60)

-- a digit of 16
abbrev pub hex_digit : ℕ → ℕ
hex_digit n = cond (nat_lt n 10) (48 + n) (87 + n)

-- a unit of 16 bits: `\u` and four digits
abbrev pub unit : ℕ → List ℕ
unit u =
    92 ∷ 117 ∷ hex_digit (u / 4096 % 16) ∷ hex_digit (u / 256 % 16) ∷ hex_digit (u / 16 % 16) ∷ hex_digit (u % 16) ∷ []

-- the two units of UTF-16 for a character whose code, less 2^16, is this
abbrev pub pair : ℕ → List ℕ
pair n = unit (55296 + n / 1024) ++ unit (56320 + n % 1024)

-- a character that stands for itself: printable ASCII but `"`, `<` and `\`
abbrev pub is_literal : ℕ → Bool
is_literal c =
    nat_le 32 c
    && (nat_lt c 127 && (cond (c == 34) false true && (cond (c == 60) false true && cond (c == 92) false true)))

-- a character as it stands in a string
abbrev pub character_text : ℕ → List ℕ
character_text c = cond (is_literal c) (c ∷ []) (cond (nat_lt c 65536) (unit c) (pair (c - 65536)))

-- the characters, one after another
abbrev pub escaped : List ℕ → List ℕ
escaped [] = []
escaped (c ∷ cs) = character_text c ++ escaped cs

-- a string
abbrev pub json_string : List ℕ → List ℕ
json_string cs = 34 ∷ (escaped cs ++ 34 ∷ [])

-- each byte of a string is plain
abbrev pub StringsArePlain : Type 0
StringsArePlain = (cs : List ℕ) → All IsPlain (json_string cs)
