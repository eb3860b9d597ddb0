-- Values of JSON, and their texts (RFC 8259, sections 3 to 7), without blanks between.
use Rattle.std.specs.Prelude.{◌≡◌, ◌⊎◌, ℕ, ◌<◌, ◌^◌, List, [], ◌∷◌, ◌++◌, length, get_or}
use Rattle.std.specs.Fmt.{decimal}
use Rattle.std.specs.Str.Parse.{IsNumeral}
use Rattle.bstr.specs.Utf8.{lossy_chars}
use Rattle.json_text.specs.Reading.{ReadsAs}
use Rattle.json_text.specs.Values.{list_text, object_text, string_text}

mutual
  -- a string by its characters, a number by its sign and digits
  pub data Json : Type 0 where
    string : List ℕ → Json
    number : List ℕ → Json
    list : Elements → Json
    object : Members → Json

  pub data Elements : Type 0 where
    no_elements : Elements
    element : Json → Elements → Elements

  -- each with its name
  pub data Members : Type 0 where
    no_members : Members
    member : List ℕ → Json → Members → Members

-- digits, of which a zero is the first only where it stands alone
abbrev pub IsInteger : List ℕ → Type 0
IsInteger ds = IsNumeral 10 ds × (get_or ds 0 0 ≡ 48 → length ds ≡ 1)

-- such digits, behind a minus or not; or any 64 digits, since of a longer number `decimal` has the last 64 alone
abbrev pub IsNumber : List ℕ → Type 0
IsNumber ds =
    IsInteger ds ⊎ (((rest : List ℕ) × (ds ≡ 45 ∷ rest) × IsInteger rest) ⊎ (IsNumeral 10 ds × (length ds ≡ 64)))

-- a number of 64 bits, as each is that is written, has no zero in front of others
abbrev pub NumbersAreIntegers : Type 0
NumbersAreIntegers = (n : ℕ) → n < 2 ^ 64 → IsInteger (decimal n)

-- the text is read as a string of these characters
abbrev pub IsStringOf : List ℕ → List ℕ → Type 0
IsStringOf cs text = (body : List ℕ) × (text ≡ 34 ∷ body) × ReadsAs body cs

abbrev mutual
  -- the text is one of the value
  pub IsTextOf : Json → List ℕ → Type 0
  IsTextOf (string cs) text = IsStringOf cs text
  IsTextOf (number ds) text = (text ≡ ds) × IsNumber ds
  IsTextOf (list vs) text = (texts : List (List ℕ)) × (text ≡ list_text texts) × AreTextsOf vs texts
  IsTextOf (object ms) text = (texts : List (List ℕ)) × (text ≡ object_text texts) × AreMembersOf ms texts

  -- one of each
  pub AreTextsOf : Elements → List (List ℕ) → Type 0
  AreTextsOf no_elements [] = Unit {0}
  AreTextsOf no_elements (t ∷ ts) = ⊥
  AreTextsOf (element v vs) [] = ⊥
  AreTextsOf (element v vs) (t ∷ ts) = IsTextOf v t × AreTextsOf vs ts

  -- of each a string that is its name, a colon, and one of its value
  pub AreMembersOf : Members → List (List ℕ) → Type 0
  AreMembersOf no_members [] = Unit {0}
  AreMembersOf no_members (t ∷ ts) = ⊥
  AreMembersOf (member name v ms) [] = ⊥
  AreMembersOf (member name v ms) (t ∷ ts) =
      (n : List ℕ) × (value : List ℕ) × (t ≡ n ++ 58 ∷ value) × IsStringOf name n × IsTextOf v value
      × AreMembersOf ms ts

-- a text has one value
abbrev pub TextsHaveOneValue : Type 0
TextsHaveOneValue = (v w : Json) (text : List ℕ) → IsTextOf v text → IsTextOf w text → v ≡ w

-- the string of any bytes is one of their characters, of which those that are no UTF-8 are U+FFFD
abbrev pub BytesReadBack : Type 0
BytesReadBack = (bytes : List ℕ) → IsTextOf (string (lossy_chars bytes)) (string_text bytes)

-- it is one of some value
abbrev pub IsJson : List ℕ → Type 0
IsJson text = (v : Json) × IsTextOf v text
