-- How a string of JSON is read (RFC 8259, section 7): each character itself, or by its units of UTF-16.
use Rattle.std.specs.Prelude.{◌≡◌, ◌≢◌, ◌⊎◌, ℕ, ◌+◌, ◌-◌, ◌*◌, ◌<◌, ◌≤◌, List, [], ◌∷◌}
use Rattle.std.specs.List.{All}
use Rattle.json_text.specs.Strings.{hex_digit, json_string}

-- no half of a pair
abbrev pub IsWhole : ℕ → Type 0
IsWhole c = (c < 55296) ⊎ (57343 < c)

-- a character of Unicode
abbrev pub IsCharacter : ℕ → Type 0
IsCharacter c = IsWhole c × (c < 1114112)

-- the text begins with `\u` and the four digits of this number, and this is the rest
pub record BeginsWithUnit (text : List ℕ) (u : ℕ) (rest : List ℕ) : Type 0 where
  pub first : ℕ
  pub second : ℕ
  pub third : ℕ
  pub fourth : ℕ
  pub first_below : first < 16
  pub second_below : second < 16
  pub third_below : third < 16
  pub fourth_below : fourth < 16
  pub begins : text ≡ 92 ∷ 117 ∷ hex_digit first ∷ hex_digit second ∷ hex_digit third ∷ hex_digit fourth ∷ rest
  pub value : u ≡ 4096 * first + 256 * second + 16 * third + fourth

-- two halves stand for a character past 2^16
pub record ArePair (high low c : ℕ) : Type 0 where
  pub high_from : 55296 ≤ high
  pub high_below : high < 56320
  pub low_from : 56320 ≤ low
  pub low_below : low < 57344
  pub value : c ≡ 65536 + (high - 55296) * 1024 + (low - 56320)

-- the text begins with this character, itself or its one or two units, and this is the rest
pub data BeginsWith (text : List ℕ) (c : ℕ) (rest : List ℕ) : Type 0 where
  itself : text ≡ c ∷ rest → 32 ≤ c → c ≢ 34 → c ≢ 92 → BeginsWith text c rest
  one : IsWhole c → BeginsWithUnit text c rest → BeginsWith text c rest
  two : (high low : ℕ) (middle : List ℕ) → BeginsWithUnit text high middle → BeginsWithUnit middle low rest →
      ArePair high low c →
      BeginsWith text c rest

-- up to the mark that ends a string the text is read as these characters
abbrev pub ReadsAs : List ℕ → List ℕ → Type 0
ReadsAs text [] = text ≡ 34 ∷ []
ReadsAs text (c ∷ cs) = (rest : List ℕ) × BeginsWith text c rest × ReadsAs rest cs

-- a string is read as its characters
abbrev pub StringsReadBack : Type 0
StringsReadBack =
    (cs : List ℕ) → All IsCharacter cs → (body : List ℕ) × (json_string cs ≡ 34 ∷ body) × ReadsAs body cs
