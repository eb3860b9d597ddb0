-- The parts of a process by their places, as a tree lends them.
use Rattle.std.specs.Prelude.{◌≡◌, ◌⊎◌, ℕ, ◌+◌, ◌*◌, ◌==◌, [], ◌∷◌, cond, Option, Some, None, option_and_then}
use Rattle.address.specs.declared.Entry.{Entry}
use Rattle.address.specs.declared.Entry.TheVariants.{Ordered, Branch}
use Rattle.runs.specs.Moves.{Place}
use Rattle.process_tree.specs.Children.{proc_at}
use Rattle.process_tree.specs.Code.{Code}
use Rattle.process_tree.specs.Proc.{Proc, idle, stopped, once, sender, fresh, turn, ended_at_once, ended, untested, skipped, took, unopened, entered, closed, sequence, parallel, drained, Procs, started}

-- the one child that there is, at this number in a sequence
abbrev pub only_at : ℕ → Proc → Entry → Option Proc
only_at n q (Ordered i) = cond (i == n) (Some q) None
only_at n q (Branch i) = None

-- the child of a sequence
abbrev pub ordered_at : Procs → Entry → Option Proc
ordered_at ps (Ordered i) = proc_at ps i
ordered_at ps (Branch i) = None

-- the branch of a parallel
abbrev pub branch_at : Procs → Entry → Option Proc
branch_at ps (Ordered i) = None
branch_at ps (Branch i) = proc_at ps i

-- the child of a process at this entry: the body of the turn that a loop is in or behind, the arm that was taken or
-- opened, the child of a sequence, the branch of a parallel
abbrev pub child_at : Entry → Proc → Option Proc
child_at e idle = None
child_at e stopped = None
child_at e (once o made) = None
child_at e (sender s p) = None
child_at e (fresh g c) = None
child_at e (turn g c n q) = only_at (2 * n + 1) q e
child_at e (ended_at_once g c) = None
child_at e (ended g c n q) = only_at (2 * n + 1) q e
child_at e (untested d cs) = None
child_at e (skipped d cs) = None
child_at e (took d cs j q) = only_at 1 q e
child_at e (unopened ds cs) = None
child_at e (entered ds cs c v q) = only_at 1 q e
child_at e (closed ds cs c v q) = only_at 1 q e
child_at e (sequence ps) = ordered_at ps e
child_at e (parallel ps) = branch_at ps e
child_at e (drained c n) = None

-- the part of a process at this place
abbrev pub part_at : Place → Proc → Option Proc
part_at [] p = Some p
part_at (e ∷ a) p = option_and_then (part_at a) (child_at e p)

-- the child at this entry is one of a sequence, and has made no move
pub record NotBegun (e : Entry) (p : Proc) : Type 0 where
  pub row : Procs
  pub number : ℕ
  pub command : Code
  pub is : p ≡ sequence row
  pub entry_is : e ≡ Ordered number
  pub child : proc_at row number ≡ Some (started command)

-- such a child is at this place or above it
abbrev pub NotBegunAt : Place → Proc → Type 0
NotBegunAt [] p = ⊥
NotBegunAt (e ∷ a) p = NotBegun e p ⊎ ((q : Proc) × (child_at e p ≡ Some q) × NotBegunAt a q)
