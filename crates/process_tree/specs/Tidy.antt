-- Trees in which a sequence is at work in one child: behind the first child that is not finished none has made a move.
-- After an undo children stay that have begun and made no move again. So the last child that has made one tells where
-- the work is: it is there, or behind it where it is finished, and all before it are finished.
use Rattle.std.specs.Prelude.{◌≡◌, ℕ, zero, suc, Bool, true, false, ◌||◌, cond, nat_lt, Some}
use Rattle.runs.specs.Moves.{Place}
use Rattle.runs.specs.declared.ask.Ask.{Ask}
use Rattle.process_tree.specs.Code.{Code}
use Rattle.process_tree.specs.Proc.{Phase, waiting, holding, past, Proc, idle, stopped, once, sender, fresh, turn, ended_at_once, ended, untested, skipped, took, unopened, entered, closed, sequence, parallel, drained, Procs, no_procs, proc, started, finished}
use Rattle.process_tree.specs.Advanced.{Moved, advanced}

-- whether a send or sync has made a move
abbrev pub is_begun : Phase → Bool
is_begun waiting = false
is_begun holding = true
is_begun past = true

abbrev mutual
  -- whether a process has made a move
  pub has_moved : Proc → Bool
  has_moved idle = false
  has_moved stopped = false
  has_moved (once o made) = made
  has_moved (sender s p) = is_begun p
  has_moved (fresh g c) = false
  has_moved (turn g c n q) = true
  has_moved (ended_at_once g c) = true
  has_moved (ended g c n q) = true
  has_moved (untested d cs) = false
  has_moved (skipped d cs) = true
  has_moved (took d cs j q) = true
  has_moved (unopened ds cs) = false
  has_moved (entered ds cs c v q) = true
  has_moved (closed ds cs c v q) = true
  has_moved (sequence ps) = any_moved ps
  has_moved (parallel ps) = any_moved ps
  has_moved (drained c n) = nat_lt 0 n

  -- whether one of them has
  pub any_moved : Procs → Bool
  any_moved no_procs = false
  any_moved (proc p ps) = has_moved p || any_moved ps

-- the number of the last that has, 0 where none has
abbrev pub last_moved : Procs → ℕ
last_moved no_procs = zero
last_moved (proc p ps) = cond (any_moved ps) (suc (last_moved ps)) zero

abbrev mutual
  -- in each sequence none behind the first child that is not finished has made a move
  pub Tidy : Proc → Type 0
  Tidy (turn g c n q) = Tidy q
  Tidy (ended g c n q) = Tidy q
  Tidy (took d cs j q) = Tidy q
  Tidy (entered ds cs c v q) = Tidy q
  Tidy (closed ds cs c v q) = Tidy q
  Tidy (sequence ps) = TidyInTurn ps
  Tidy (parallel ps) = TidySideBySide ps
  Tidy _ = Unit {0}

  -- the same of children one after another
  pub TidyInTurn : Procs → Type 0
  TidyInTurn no_procs = Unit {0}
  TidyInTurn (proc p ps) = Tidy p × TidyInTurn ps × (finished p ≡ false → any_moved ps ≡ false)

  -- each of children side by side is so
  pub TidySideBySide : Procs → Type 0
  TidySideBySide no_procs = Unit {0}
  TidySideBySide (proc p ps) = Tidy p × TidySideBySide ps

-- a command that has made no move is so
abbrev pub StartedIsTidy : Type 0
StartedIsTidy = (c : Code) → Tidy (started c)

-- a move keeps a process so
abbrev pub MovesKeepTidy : Type 0
MovesKeepTidy = (p : Proc) (a : Place) (k : Ask) (x : Moved) → Tidy p → advanced p a k ≡ Some x → Tidy x.0
