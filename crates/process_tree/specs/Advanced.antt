-- A move made on the tree: the process after it, and what it took out.
use Rattle.std.specs.Prelude.{ℕ, ◌+◌, ◌*◌, ◌==◌, Bool, true, false, List, Option, Some, None, cond, slice_get}
use Rattle.value.specs.Word.{Word}
use Rattle.system.specs.Expression.{Expression, Decision}
use Rattle.runs.specs.Moves.{Place}
use Rattle.runs.specs.declared.ask.Ask.{Ask}
use Rattle.runs.specs.declared.ask.Ask.TheVariants as ask
use Rattle.process_tree.specs.Code.{Once, assigning, receiving, Sender, sending, syncing, Code, Codes, code_at}
use Rattle.process_tree.specs.Proc.{waiting, holding, past, Proc, idle, stopped, once, sender, fresh, turn, ended_at_once, ended, untested, skipped, took, unopened, entered, closed, sequence, parallel, drained, Procs, no_procs, proc, started, finished}
use Rattle.runs.specs.ByPlace.{if_here, if_act, if_child, if_branch}
use Rattle.process_tree.specs.Places.{wrap}

-- the process after a move, and what the move took out: the body of the turn before it, where a loop turns again
abbrev pub Moved : Type 0
Moved = Proc × Option Proc

-- the same of processes in a row
abbrev pub MovedIn : Type 0
MovedIn = Procs × Option Proc

-- an assignment assigns, a receive receives, once
abbrev pub once_after : Once → Bool → Ask → Option Moved
once_after (assigning x w e) false ask.Assign = Some (once (assigning x w e) true, None)
once_after (receiving c x) false ask.Receive = Some (once (receiving c x) true, None)
once_after _ _ _ = None

-- a send or sync that waits meets its partner, or is held
abbrev pub sender_after : Sender → Ask → Option Moved
sender_after (sending c w e) ask.Send = Some (sender (sending c w e) past, None)
sender_after (sending c w e) ask.Hold = Some (sender (sending c w e) holding, None)
sender_after (syncing c) ask.Sync = Some (sender (syncing c) past, None)
sender_after (syncing c) ask.Hold = Some (sender (syncing c) holding, None)
sender_after _ _ = None

-- one that is held is released
abbrev pub holding_after : Sender → Ask → Option Moved
holding_after s ask.Release = Some (sender s past, None)
holding_after s _ = None

-- a loop begins turn n with a new body, and takes out `out`; or a test ends it, and it is `over`
abbrev pub again_after : Option Expression → Code → ℕ → Proc → Option Proc → Ask → Option Moved
again_after None c n over out ask.Turn = Some (turn None c n (started c), out)
again_after (Some e) c n over out (ask.Test None) = Some (over, None)
again_after (Some e) c n over out (ask.Test (Some j)) = cond (j == 0) (Some (turn (Some e) c n (started c), out)) None
again_after _ c n over out _ = None

-- a test takes an arm, or none
abbrev pub test_after : Decision → Codes → Ask → Option Moved
test_after d cs (ask.Test None) = Some (skipped d cs, None)
test_after d cs (ask.Test (Some j)) = Some (took d cs j (started (code_at cs j)), None)
test_after d cs _ = None

-- arm j opens on its channel, if there is one
abbrev pub open_on : List ℕ → Codes → Option ℕ → ℕ → Option Word → Option Moved
open_on ds cs None j v = None
open_on ds cs (Some c) j v = Some (entered ds cs c v (started (code_at cs j)), None)

-- one of the arms that wait opens
abbrev pub open_after : List ℕ → Codes → Ask → Option Moved
open_after ds cs (ask.Open j v) = open_on ds cs (slice_get ds j) j v
open_after ds cs _ = None

-- an opened arm is closed
abbrev pub close_after : List ℕ → Codes → ℕ → Option Word → Proc → Ask → Option Moved
close_after ds cs c v q ask.Close = Some (closed ds cs c v q, None)
close_after ds cs c v q _ = None

-- the environment receives again
abbrev pub drain_after : ℕ → ℕ → Ask → Option Moved
drain_after c n ask.Receive = Some (drained c (n + 1), None)
drain_after c n _ = None

abbrev mutual
  -- the process after the move that is asked for at the place, where it is possible
  pub advanced : Proc → Place → Ask → Option Moved
  advanced idle a k = None
  advanced stopped a k = None
  advanced (once o made) a k = if_here a (once_after o made k)
  advanced (sender s waiting) a k = if_act 0 a (sender_after s k)
  advanced (sender s holding) a k = if_act 1 a (holding_after s k)
  advanced (sender s past) a k = None
  advanced (fresh g c) a k = if_act 0 a (again_after g c 0 (ended_at_once g c) None k)
  advanced (turn g c n q) a k =
      cond (finished q) (if_act (2 * (n + 1)) a (again_after g c (n + 1) (ended g c n q) (Some q) k))
      (if_child (2 * n + 1) a (λ b. wrap (turn g c n) (advanced q b k)))
  advanced (ended_at_once g c) a k = None
  advanced (ended g c n q) a k = None
  advanced (untested d cs) a k = if_act 0 a (test_after d cs k)
  advanced (skipped d cs) a k = None
  advanced (took d cs j q) a k = cond (finished q) None (if_child 1 a (λ b. wrap (took d cs j) (advanced q b k)))
  advanced (unopened ds cs) a k = if_act 0 a (open_after ds cs k)
  advanced (entered ds cs c v q) a k =
      cond (finished q) (if_act 2 a (close_after ds cs c v q k))
      (if_child 1 a (λ b. wrap (entered ds cs c v) (advanced q b k)))
  advanced (closed ds cs c v q) a k = None
  advanced (sequence ps) a k = wrap sequence (advanced_sequence 0 ps a k)
  advanced (parallel ps) a k = wrap parallel (advanced_parallel 0 ps a k)
  advanced (drained c n) a k = if_act n a (drain_after c n k)

  -- of children one after another, the first with number n: the first that is not finished moves
  pub advanced_sequence : ℕ → Procs → Place → Ask → Option MovedIn
  advanced_sequence n no_procs a k = None
  advanced_sequence n (proc p ps) a k =
      cond (finished p) (wrap (proc p) (advanced_sequence (n + 1) ps a k))
      (if_child n a (λ b. wrap (λ q. proc q ps) (advanced p b k)))

  -- of children side by side, the first in branch n: that in the branch of the place moves
  pub advanced_parallel : ℕ → Procs → Place → Ask → Option MovedIn
  advanced_parallel n no_procs a k = None
  advanced_parallel n (proc p ps) a k =
      if_branch n a (λ b. wrap (λ q. proc q ps) (advanced p b k)) (wrap (proc p) (advanced_parallel (n + 1) ps a k))
