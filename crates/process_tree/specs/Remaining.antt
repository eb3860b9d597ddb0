-- What a process still has to do, as a residual: finished processes are erased, and received values stand in place of
-- their names.
use Rattle.std.specs.Prelude.{ℕ, ◌+◌, ◌*◌, true, false, List, [], ◌∷◌, Option, Some, None}
use Rattle.value.specs.Word.{Word}
use Rattle.system.specs.Expression.{Expression}
use Rattle.system.specs.Residual.{Residual, done, halted, assign, send, receive, sync, held, loop, while, test, choose, closing, drain, Arms, no_arms, arm, within, along, put_residual}
use Rattle.process_tree.specs.Code.{Once, assigning, receiving, Sender, sending, syncing, Code, continues, halts, moves_once, may_be_held, repeats, decides, awaits, in_turn, side_by_side, drains, Codes, no_code, code}
use Rattle.process_tree.specs.Proc.{waiting, holding, past, Proc, idle, stopped, once, sender, fresh, turn, ended_at_once, ended, untested, skipped, took, unopened, entered, closed, sequence, parallel, drained, Procs, no_procs, proc}

-- an assignment or a receive
abbrev pub residual_once : Once → Residual
residual_once (assigning x w e) = assign x w e
residual_once (receiving c x) = receive c x

-- a send or sync
abbrev pub residual_sender : Sender → Residual
residual_sender (sending c w e) = send c w e
residual_sender (syncing c) = sync c

-- its channel
abbrev pub channel_of : Sender → ℕ
channel_of (sending c w e) = c
channel_of (syncing c) = c

-- a loop before turn n
abbrev pub again : ℕ → Option Expression → Residual → Residual
again n None body = loop n body
again n (Some e) body = while n e body

abbrev mutual
  -- what a command is to do
  pub residual : Code → Residual
  residual continues = done
  residual halts = halted
  residual (moves_once o) = residual_once o
  residual (may_be_held s) = residual_sender s
  residual (repeats g c) = again 0 g (residual c)
  residual (decides d cs) = test d (residual_arms cs)
  residual (awaits ds cs) = choose ds (residual_arms cs)
  residual (in_turn cs) = residual_sequence 0 cs
  residual (side_by_side cs) = residual_parallel 0 cs
  residual (drains c) = drain c 0

  -- what arms are to do
  pub residual_arms : Codes → Arms
  residual_arms no_code = no_arms
  residual_arms (code c cs) = arm (residual c) (residual_arms cs)

  -- what children one after another are to do, the first with number n
  pub residual_sequence : ℕ → Codes → Residual
  residual_sequence n no_code = done
  residual_sequence n (code c cs) = within n (residual c) (residual_sequence (n + 1) cs)

  -- what children side by side are to do, the first in branch n
  pub residual_parallel : ℕ → Codes → Residual
  residual_parallel n no_code = done
  residual_parallel n (code c cs) = along n (residual c) (residual_parallel (n + 1) cs)

-- the values received in the arms around a process, each with its channel, the innermost first
abbrev pub Received : Type 0
Received = List (ℕ × Word)

-- with what an arm received on this channel, if anything
abbrev pub with_value : ℕ → Option Word → Received → Received
with_value c None env = env
with_value c (Some v) env = (c, v) ∷ env

-- the values put for their names, that of an outer arm before that of an inner one
abbrev pub puts : Received → Residual → Residual
puts [] r = r
puts (x ∷ env) r = put_residual x.0 x.1 (puts env r)

abbrev mutual
  -- what a process still has to do, in arms that received these values
  pub remaining : Received → Proc → Residual
  remaining env idle = done
  remaining env stopped = halted
  remaining env (once o true) = done
  remaining env (once o false) = puts env (residual_once o)
  remaining env (sender s waiting) = puts env (residual_sender s)
  remaining env (sender s holding) = held (channel_of s)
  remaining env (sender s past) = done
  remaining env (fresh g c) = puts env (again 0 g (residual c))
  remaining env (turn g c n q) = within (2 * n + 1) (remaining env q) (puts env (again (n + 1) g (residual c)))
  remaining env (ended_at_once g c) = done
  remaining env (ended g c n q) = done
  remaining env (untested d cs) = puts env (test d (residual_arms cs))
  remaining env (skipped d cs) = done
  remaining env (took d cs j q) = within 1 (remaining env q) done
  remaining env (unopened ds cs) = puts env (choose ds (residual_arms cs))
  remaining env (entered ds cs c v q) = within 1 (remaining (with_value c v env) q) (closing c)
  remaining env (closed ds cs c v q) = done
  remaining env (sequence ps) = remaining_sequence env 0 ps
  remaining env (parallel ps) = remaining_parallel env 0 ps
  remaining env (drained c n) = drain c n

  -- what children one after another still have to do, the first with number n
  pub remaining_sequence : Received → ℕ → Procs → Residual
  remaining_sequence env n no_procs = done
  remaining_sequence env n (proc p ps) = within n (remaining env p) (remaining_sequence env (n + 1) ps)

  -- what children side by side still have to do, the first in branch n
  pub remaining_parallel : Received → ℕ → Procs → Residual
  remaining_parallel env n no_procs = done
  remaining_parallel env n (proc p ps) = along n (remaining env p) (remaining_parallel env (n + 1) ps)
