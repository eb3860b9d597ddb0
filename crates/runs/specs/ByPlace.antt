-- Answers by places: whether a place is the command's own, one of its acts, or in one of its children.
use Rattle.std.specs.Prelude.{ℕ, ◌==◌, [], ◌∷◌, cond, Option, None}
use Rattle.address.specs.declared.Entry.TheVariants.{Ordered, Branch}
use Rattle.runs.specs.Moves.{Place}

-- the answer, at the command's own place
abbrev pub if_here : {X : Type 0} → Place → Option X → Option X
if_here [] o = o
if_here (x ∷ a) o = None

-- the answer, at act n of the command
abbrev pub if_act : {X : Type 0} → ℕ → Place → Option X → Option X
if_act n [] o = None
if_act n (Ordered i ∷ []) o = cond (i == n) o None
if_act n (Ordered i ∷ x ∷ a) o = None
if_act n (Branch i ∷ a) o = None

-- the child's answer, at places in child n of a sequence
abbrev pub if_child : {X : Type 0} → ℕ → Place → (Place → Option X) → Option X
if_child n [] f = None
if_child n (Ordered i ∷ a) f = cond (i == n) (f a) None
if_child n (Branch i ∷ a) f = None

-- the child's answer at places in branch n, and elsewhere that of the rest
abbrev pub if_branch : {X : Type 0} → ℕ → Place → (Place → Option X) → Option X → Option X
if_branch n [] f rest = rest
if_branch n (Ordered i ∷ a) f rest = rest
if_branch n (Branch i ∷ a) f rest = cond (i == n) (f a) rest
