-- Which address has a text.
use Rattle.std.specs.Prelude.{◌≡◌, ℕ, ◌<◌, ◌^◌, List, [], ◌∷◌}
use Rattle.address.specs.declared.Entry.{Entry}
use Rattle.address.specs.declared.Entry.TheVariants.{Ordered, Branch}
use Rattle.address.specs.Text.{text_of}

-- the number of an entry has 32 bits
abbrev pub EntryFits : Entry → Type 0
EntryFits (Ordered i) = i < 2 ^ 32
EntryFits (Branch i) = i < 2 ^ 32

-- the number of each entry has 32 bits
abbrev pub NumbersFit : List Entry → Type 0
NumbersFit [] = Unit {0}
NumbersFit (e ∷ a) = EntryFits e × NumbersFit a

-- `a` is an address whose numbers have 32 bits, and has this text
abbrev pub IsTextOf : List Entry → List ℕ → Type 0
IsTextOf a text = (text_of a ≡ text) × NumbersFit a

-- no address whose numbers have 32 bits has this text
abbrev pub HasNoText : List ℕ → Type 0
HasNoText text = (a : List Entry) → IsTextOf a text → ⊥
