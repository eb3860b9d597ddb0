-- The text of an address.
use Rattle.std.specs.Prelude.{ℕ, List, ◌∷◌}
use Rattle.std.specs.List.{flat_map}
use Rattle.std.specs.Fmt.{decimal}
use Rattle.address.specs.declared.Entry.{Entry}
use Rattle.address.specs.declared.Entry.TheVariants.{Ordered, Branch}

-- a dot and the number for an ordered entry, a slash and the number for a branch
abbrev pub entry_text : Entry → List ℕ
entry_text (Ordered i) = 46 ∷ decimal i
entry_text (Branch i) = 47 ∷ decimal i

-- the texts of the entries, one after another
abbrev pub text_of : List Entry → List ℕ
text_of a = flat_map entry_text a
