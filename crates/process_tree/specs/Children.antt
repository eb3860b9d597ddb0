-- The children of a row by their numbers: one of them moves, and the others stay.
-- The law `one_child_moves` says so; it lets the code go straight to a child.
use Rattle.std.specs.Prelude.{◌≡◌, ℕ, zero, suc, ◌<◌, ◌∷◌, true, Option, Some, None}
use Rattle.address.specs.declared.Entry.TheVariants.{Ordered, Branch}
use Rattle.runs.specs.Moves.{Place}
use Rattle.runs.specs.declared.ask.Ask.{Ask}
use Rattle.process_tree.specs.Proc.{Proc, Procs, no_procs, proc, finished}
use Rattle.process_tree.specs.Advanced.{Moved, MovedIn, advanced, advanced_sequence, advanced_parallel}
use Rattle.process_tree.specs.Retreated.{retreated, retreated_sequence, retreated_parallel}

-- the process of this number, if there are so many
abbrev pub proc_at : Procs → ℕ → Option Proc
proc_at no_procs i = None
proc_at (proc p ps) zero = Some p
proc_at (proc p ps) (suc i) = proc_at ps i

-- the row with another process at this number
abbrev pub with_proc : Procs → ℕ → Proc → Procs
with_proc no_procs i q = no_procs
with_proc (proc p ps) zero q = proc q ps
with_proc (proc p ps) (suc i) q = proc p (with_proc ps i q)

-- the child of this number moves, and the row is the same but for that child
pub record MovedChild (row : Procs) (i : ℕ) (b : Place) (k : Ask) (x : MovedIn) : Type 0 where
  pub child : Proc
  pub moved : Moved
  pub is : proc_at row i ≡ Some child
  pub moves : advanced child b k ≡ Some moved
  pub row_is : x ≡ (with_proc row i moved.0, moved.1)

-- the child of this number goes back, and the row is the same but for that child
pub record BackChild (row : Procs) (i : ℕ) (b : Place) (old : Option Proc) (x : Procs) : Type 0 where
  pub child : Proc
  pub before : Proc
  pub is : proc_at row i ≡ Some child
  pub goes_back : retreated child b old ≡ Some before
  pub row_is : x ≡ with_proc row i before

-- a move at a place in child i of a sequence is one of that child, and the earlier ones are finished
abbrev pub MovesInOneChild : Type 0
MovesInOneChild =
    (row : Procs) (i : ℕ) (b : Place) (k : Ask) (x : MovedIn) → advanced_sequence 0 row (Ordered i ∷ b) k ≡ Some x →
    MovedChild row i b k x × ((j : ℕ) (p : Proc) → j < i → proc_at row j ≡ Some p → finished p ≡ true)

-- a move at a place in branch i of a parallel is one of that branch
abbrev pub MovesInOneBranch : Type 0
MovesInOneBranch =
    (row : Procs) (i : ℕ) (b : Place) (k : Ask) (x : MovedIn) → advanced_parallel 0 row (Branch i ∷ b) k ≡ Some x →
    MovedChild row i b k x

-- a move in child i of a sequence is taken back in that child
abbrev pub BackInOneChild : Type 0
BackInOneChild =
    (row : Procs) (i : ℕ) (b : Place) (old : Option Proc) (x : Procs) →
    retreated_sequence 0 row (Ordered i ∷ b) old ≡ Some x → BackChild row i b old x

-- of a branch of a parallel likewise
abbrev pub BackInOneBranch : Type 0
BackInOneBranch =
    (row : Procs) (i : ℕ) (b : Place) (old : Option Proc) (x : Procs) →
    retreated_parallel 0 row (Branch i ∷ b) old ≡ Some x → BackChild row i b old x
