-- Which children of a sequence are finished, as the code asks for them.
-- No reader has to believe it: `finished` of `is_over` says the same of a whole process.
use Rattle.std.specs.Prelude.{◌≡◌, ℕ, Bool, true, false, [], ◌∷◌, Some}
use Rattle.address.specs.declared.Entry.TheVariants.{Ordered}
use Rattle.runs.specs.Moves.{Place}
use Rattle.system.specs.Expression.{Store}
use Rattle.process_tree.specs.Children.{proc_at}
use Rattle.process_tree.specs.Remaining.{Received}
use Rattle.process_tree.specs.Proc.{Proc, Procs}
use Rattle.process_tree.specs.Tidy.{last_moved}
use Rattle.local_actions.specs.internal.At.{under}
use Rattle.local_actions.specs.internal.Listed.{listed, listed_sequence, listed_parallel}

-- whether all of the processes are finished
abbrev pub AllOver : Bool → Procs → Type 0
AllOver b ps = (s : Store) (env : Received) (n : ℕ) → b ≡ (listed_parallel s env n ps).over

-- there is a process of this number, and it is finished
pub record HasOver (ps : Procs) (i : ℕ) : Type 0 where
  pub child : Proc
  pub is : proc_at ps i ≡ Some child
  pub over : (s : Store) (env : Received) → (listed s env child).over ≡ true

-- if there is one, it is not finished
abbrev pub HasNoneOver : Procs → ℕ → Type 0
HasNoneOver ps i = (p : Proc) → proc_at ps i ≡ Some p → (s : Store) (env : Received) → (listed s env p).over ≡ false

-- a sequence has come to the child of this number; or it offers nothing there
pub record IsReached (b : Bool) (i : ℕ) (ps : Procs) : Type 0 where
  pub reached : b ≡ true → (s : Store) (env : Received) →
      listed_sequence s env i 0 ps ≡ listed_sequence s env (last_moved ps) 0 ps
  pub elsewhere : b ≡ false → (s : Store) (env : Received) (a : Place) →
      under (Ordered i ∷ a) (listed_sequence s env (last_moved ps) 0 ps).actions ≡ []
