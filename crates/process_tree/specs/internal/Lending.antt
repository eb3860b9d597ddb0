-- One step down to a part, as the code makes it.
-- No reader has to believe it: the clauses of `Tree::at_mut` say what is lent by `Lent.antt` alone.
use Rattle.std.specs.Prelude.{◌≡◌, Option, Some, None}
use Rattle.address.specs.declared.Entry.{Entry}
use Rattle.process_tree.specs.Lent.{child_at, NotBegun}
use Rattle.process_tree.specs.Proc.{Proc}

-- what is lent is the child at this entry; where nothing is, there is none, or it has not begun
abbrev pub IsLent : Entry → Proc → Option Proc → Type 0
IsLent e p None = (q : Proc) → child_at e p ≡ Some q → NotBegun e p
IsLent e p (Some part) = child_at e p ≡ Some part
