-- Values of JSON as texts (RFC 8259, sections 3 to 6), and how a text of them grows.
use Rattle.std.specs.Prelude.{ℕ, List, [], ◌∷◌, ◌++◌, Bool, true, false, cond, Option, None, Some}
use Rattle.std.specs.Fmt.{decimal}
use Rattle.std.specs.List.{flat_map}
use Rattle.bstr.specs.Utf8.{lossy_chars}
use Rattle.json_text.specs.Strings.{json_string}
use Rattle.json_text.specs.declared.item.Item.{Item}

-- ---- values

-- bytes as a string, of which those that are no UTF-8 are U+FFFD
abbrev pub string_text : List ℕ → List ℕ
string_text bytes = json_string (lossy_chars bytes)

-- a number, or -1
abbrev pub optional_text : Option ℕ → List ℕ
optional_text None = 45 ∷ 49 ∷ []
optional_text (Some n) = decimal n

-- a value that is no list
abbrev pub item_text : Item → List ℕ
item_text (Item.Text bytes) = string_text bytes.now
item_text (Item.Number n) = decimal n
item_text (Item.Optional n) = optional_text n

-- texts with a comma between any two
abbrev pub with_commas : List (List ℕ) → List ℕ
with_commas [] = []
with_commas (x ∷ xs) = x ++ flat_map (λ (y : List ℕ). 44 ∷ y) xs

-- a list of these values
abbrev pub list_text : List (List ℕ) → List ℕ
list_text values = 91 ∷ (with_commas values ++ 93 ∷ [])

-- a member of an object: its name and its value
abbrev pub member_text : List ℕ → List ℕ → List ℕ
member_text name value = string_text name ++ 58 ∷ value

-- an object of these members
abbrev pub object_text : List (List ℕ) → List ℕ
object_text members = 123 ∷ (with_commas members ++ 125 ∷ [])

-- ---- a text that grows

-- its bytes, and whether what comes next is the first of its list, or stands behind a name
pub record Growing : Type 0 where
  pub text : List ℕ
  pub first : Bool

-- what stands before what comes next
abbrev pub comma : Bool → List ℕ
comma first = cond first [] (44 ∷ [])

-- nothing yet
abbrev pub nothing_yet : Growing
nothing_yet = record { text = []; first = true }

-- a value or a member behind it
unfoldable pub with_value : Growing → List ℕ → Growing
with_value g value = record { text = g.text ++ (comma g.first ++ value); first = false }

-- several
abbrev pub with_values : Growing → List (List ℕ) → Growing
with_values g [] = g
with_values g (x ∷ xs) = with_values (with_value g x) xs

-- the mark that begins a list or an object
unfoldable pub opened : ℕ → Growing → Growing
opened mark g = record { text = g.text ++ (comma g.first ++ mark ∷ []); first = true }

-- the mark that ends one
unfoldable pub closed : ℕ → Growing → Growing
closed mark g = record { text = g.text ++ mark ∷ []; first = false }

-- the name of a member
unfoldable pub named : Growing → List ℕ → Growing
named g name = record { text = g.text ++ (comma g.first ++ (string_text name ++ 58 ∷ [])); first = true }
