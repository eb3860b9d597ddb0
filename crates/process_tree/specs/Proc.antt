-- The tree that is changed in place, as contracts see it: each command with what it has done, the finished processes
-- kept.
use Rattle.std.specs.Prelude.{ℕ, Bool, true, false, ◌&&◌, List, Option}
use Rattle.value.specs.Word.{Word}
use Rattle.system.specs.Expression.{Expression, Decision}
use Rattle.process_tree.specs.Code.{Once, Sender, Code, continues, halts, moves_once, may_be_held, repeats, decides, awaits, in_turn, side_by_side, drains, Codes, no_code, code}

-- how far a send or sync is; it is held from the open that took it until the close
pub data Phase : Type 0 where
  waiting : Phase
  holding : Phase
  past : Phase

mutual
  -- a command with what it has done
  pub data Proc : Type 0 where
    -- `continue`
    idle : Proc
    -- `halt`
    stopped : Proc
    -- what makes one move, and whether it has made it
    once : Once → Bool → Proc
    sender : Sender → Phase → Proc
    -- a loop before its first turn
    fresh : Option Expression → Code → Proc
    -- a loop in this turn or behind it, and the body of that turn
    turn : Option Expression → Code → ℕ → Proc → Proc
    -- a loop whose first test ended it
    ended_at_once : Option Expression → Code → Proc
    -- a loop that a test ended behind this turn
    ended : Option Expression → Code → ℕ → Proc → Proc
    -- an `if` or `case` before its test
    untested : Decision → Codes → Proc
    -- one that took no arm
    skipped : Decision → Codes → Proc
    -- one that took this arm
    took : Decision → Codes → ℕ → Proc → Proc
    -- arms that wait on their channels
    unopened : List ℕ → Codes → Proc
    -- arms of which one has opened on this channel, with what was received if anything
    entered : List ℕ → Codes → ℕ → Option Word → Proc → Proc
    -- the same after the close
    closed : List ℕ → Codes → ℕ → Option Word → Proc → Proc
    -- children one after another: the first that is not finished is at work
    sequence : Procs → Proc
    -- children side by side
    parallel : Procs → Proc
    -- the receives on an output port, after so many
    drained : ℕ → ℕ → Proc

  -- processes in a row
  pub data Procs : Type 0 where
    no_procs : Procs
    proc : Proc → Procs → Procs

abbrev mutual
  -- a command that has made no move
  pub started : Code → Proc
  started continues = idle
  started halts = stopped
  started (moves_once o) = once o false
  started (may_be_held s) = sender s waiting
  started (repeats g c) = fresh g c
  started (decides d cs) = untested d cs
  started (awaits ds cs) = unopened ds cs
  started (in_turn cs) = sequence (all_started cs)
  started (side_by_side cs) = parallel (all_started cs)
  started (drains c) = drained c 0

  -- the same of each
  pub all_started : Codes → Procs
  all_started no_code = no_procs
  all_started (code c cs) = proc (started c) (all_started cs)

-- whether a send or sync is done
abbrev pub is_past : Phase → Bool
is_past waiting = false
is_past holding = false
is_past past = true

abbrev mutual
  -- whether nothing is left to do
  pub finished : Proc → Bool
  finished idle = true
  finished stopped = false
  finished (once o made) = made
  finished (sender s p) = is_past p
  finished (fresh g c) = false
  finished (turn g c n q) = false
  finished (ended_at_once g c) = true
  finished (ended g c n q) = true
  finished (untested d cs) = false
  finished (skipped d cs) = true
  finished (took d cs j q) = finished q
  finished (unopened ds cs) = false
  finished (entered ds cs c v q) = false
  finished (closed ds cs c v q) = true
  finished (sequence ps) = all_finished ps
  finished (parallel ps) = all_finished ps
  finished (drained c n) = false

  -- whether each is finished
  pub all_finished : Procs → Bool
  all_finished no_procs = true
  all_finished (proc p ps) = finished p && all_finished ps
