-- A line as people type it, made a line of fields.
use Rattle.std.specs.Prelude.{ℕ, ◌+◌, List, [], ◌∷◌, ◌++◌, Bool, ◌==◌, ◌||◌, ◌&&◌, nat_le, if◌then◌else◌, codes}
use Rattle.std.specs.Str.{bytes_eq}
use Rattle.shell_desk.specs.declared.tidy.Part.{Part}
use Rattle.shell_desk.specs.declared.tidy.Part.TheVariants.{Start, Word, Gap, Field}

-- a space, a tab, or what a line end from elsewhere leaves
abbrev pub is_blank : ℕ → Bool
is_blank byte = (byte == 32) || (byte == 9) || (byte == 13)

-- the small letter for a large one
abbrev pub small_letter : ℕ → ℕ
small_letter byte = if nat_le 65 byte && nat_le byte 90 then byte + 32 else byte

-- what stands in the place of a byte that is no blank
abbrev pub shown_in : Part → ℕ → List ℕ
shown_in Start byte = small_letter byte ∷ []
shown_in Word byte = small_letter byte ∷ []
shown_in Gap byte = 32 ∷ byte ∷ []
shown_in Field byte = byte ∷ []

-- which part of the line goes on behind it
abbrev pub behind_byte : Part → Part
behind_byte Start = Word
behind_byte Word = Word
behind_byte Gap = Field
behind_byte Field = Field

-- and behind a blank
abbrev pub behind_blank : Part → Part
behind_blank Start = Start
behind_blank _ = Gap

-- the bytes of a line from this part on: no blanks before, one space between fields, none behind, and small letters in
-- the first field
abbrev pub tidy_from : Part → List ℕ → List ℕ
tidy_from part [] = []
tidy_from part (byte ∷ bytes) =
    if is_blank byte then tidy_from (behind_blank part) bytes
    else (shown_in part byte ++ tidy_from (behind_byte part) bytes)

-- the text without blanks before
abbrev pub no_blanks_before : List ℕ → List ℕ
no_blanks_before [] = []
no_blanks_before (byte ∷ bytes) = if is_blank byte then no_blanks_before bytes else byte ∷ bytes

-- a byte before others, or nothing where it is a blank before nothing
abbrev pub kept_before : ℕ → List ℕ → List ℕ
kept_before byte [] = if is_blank byte then [] else byte ∷ []
kept_before byte (next ∷ bytes) = byte ∷ next ∷ bytes

-- the text without blanks behind
abbrev pub no_blanks_behind : List ℕ → List ℕ
no_blanks_behind [] = []
no_blanks_behind (byte ∷ bytes) = kept_before byte (no_blanks_behind bytes)

-- the field with which a text begins, in small letters
abbrev pub first_field : List ℕ → List ℕ
first_field [] = []
first_field (byte ∷ bytes) = if is_blank byte then [] else small_letter byte ∷ first_field bytes

-- and what stands behind it
abbrev pub behind_field : List ℕ → List ℕ
behind_field [] = []
behind_field (byte ∷ bytes) = if is_blank byte then byte ∷ bytes else behind_field bytes

-- the words behind which the name of a file stands
abbrev pub names_file : List ℕ → Bool
names_file word =
    bytes_eq word (codes "save") || (bytes_eq word (codes "save!") || (bytes_eq word (codes "load")
    || (bytes_eq word (codes "script") || bytes_eq word (codes "script!"))))

-- a name behind a word, where there is one
abbrev pub name_behind : List ℕ → List ℕ
name_behind [] = []
name_behind (byte ∷ bytes) = 32 ∷ byte ∷ bytes

-- the word of a file, and its name as it was typed but for blanks at its ends
abbrev pub with_name : List ℕ → List ℕ
with_name text = first_field text ++ name_behind (no_blanks_behind (no_blanks_before (behind_field text)))

-- the line as it is read: the name of a file keeps its blanks
abbrev pub tidied : List ℕ → List ℕ
tidied line =
    if names_file (first_field (no_blanks_before line)) then with_name (no_blanks_before line) else tidy_from Start line
