-- Answers of children, put together.
use Rattle.std.specs.Prelude.{ℕ, ◌==◌, [], ◌∷◌, cond, Option, Some, None}
use Rattle.address.specs.declared.Entry.TheVariants.{Ordered, Branch}
use Rattle.runs.specs.Moves.{Place}
use Rattle.process_tree.specs.Proc.{Proc}

-- the child's answer at places in child n of a sequence, and elsewhere that of the rest
abbrev pub if_child_or : {X : Type 0} → ℕ → Place → (Place → Option X) → Option X → Option X
if_child_or n [] f rest = rest
if_child_or n (Ordered i ∷ a) f rest = cond (i == n) (f a) rest
if_child_or n (Branch i ∷ a) f rest = rest

-- the answer of a child with the rest put around it; what was taken out stays
abbrev pub wrap : {X Y : Type 0} → (X → Y) → Option (X × Option Proc) → Option (Y × Option Proc)
wrap w None = None
wrap w (Some x) = Some (w x.0, x.1)
