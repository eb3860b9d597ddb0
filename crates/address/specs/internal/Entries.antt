-- What is found at the start of a text: the digits of a number, and an entry.
-- But for what `read_entry` says by `ReadsEntry` and `BeginsNoEntry`, no reader has to believe it:
-- `proofs/public/Finds.antt` ties it to
-- `IsTextOf` and `HasNoText` of `Reading.antt`.
use Rattle.std.specs.Prelude.{◌≡◌, ℕ, ◌<◌, ◌≤◌, ◌^◌, List, [], ◌∷◌, ◌++◌, length, take, drop}
use Rattle.std.specs.Fmt.{decimal}
use Rattle.std.specs.Char.{digit_value}
use Rattle.std.specs.Str.Parse.{AllDigits}
use Rattle.address.specs.declared.Entry.{Entry}
use Rattle.address.specs.Text.{entry_text}
use Rattle.address.specs.Reading.{EntryFits}

-- the first byte, if there is one, is no decimal digit
abbrev pub StartsNoDigit : List ℕ → Type 0
StartsNoDigit [] = Unit {0}
StartsNoDigit (c ∷ _) = 10 ≤ digit_value c

-- the first `count` bytes are digits, and the next one, if there is one, is not
abbrev pub IsDigitsEnd : List ℕ → ℕ → Type 0
IsDigitsEnd text count =
    (count ≤ length text) × AllDigits 10 (take count text) × StartsNoDigit (drop count text)

-- `digits` are the decimal text of the number `n` of 32 bits
abbrev pub ReadsNumber : List ℕ → ℕ → Type 0
ReadsNumber digits n = (n < 2 ^ 32) × (decimal n ≡ digits)

-- `digits` are not the decimal text of a number of 32 bits
abbrev pub ReadsNoNumber : List ℕ → Type 0
ReadsNoNumber digits = (n : ℕ) → ReadsNumber digits n → ⊥

-- `text` is the entry `e` and then `after`, whose first byte does not go on with its number
abbrev pub ReadsEntry : List ℕ → Entry → List ℕ → Type 0
ReadsEntry text e after = EntryFits e × (entry_text e ++ after ≡ text) × StartsNoDigit after

-- no entry stands at the start of `text`
abbrev pub BeginsNoEntry : List ℕ → Type 0
BeginsNoEntry text = (e : Entry) (after : List ℕ) → ReadsEntry text e after → ⊥
