-- A move taken back on the tree: the process before it, with what it took out put back.
-- The law `moves_go_back` says that it gives what `Advanced.antt` began with.
use Rattle.std.specs.Prelude.{ℕ, zero, suc, ◌+◌, ◌*◌, false, Option, Some, None, option_map}
use Rattle.system.specs.Expression.{Expression}
use Rattle.runs.specs.Moves.{Place}
use Rattle.process_tree.specs.Code.{Code}
use Rattle.process_tree.specs.Proc.{waiting, holding, past, Proc, idle, stopped, once, sender, fresh, turn, ended_at_once, ended, untested, skipped, took, unopened, entered, closed, sequence, parallel, drained, Procs, no_procs, proc}
use Rattle.runs.specs.ByPlace.{if_here, if_act, if_child, if_branch}
use Rattle.process_tree.specs.Places.{if_child_or}

-- a loop before turn n, with the body that the turn took out
abbrev pub before_turn : Option Expression → Code → ℕ → Option Proc → Option Proc
before_turn g c zero old = Some (fresh g c)
before_turn g c (suc n) None = None
before_turn g c (suc n) (Some q) = Some (turn g c n q)

-- the receives on an output port before the last
abbrev pub before_drain : ℕ → ℕ → Place → Option Proc
before_drain c zero a = None
before_drain c (suc n) a = if_act n a (Some (drained c n))

abbrev mutual
  -- the process before the move at the place, which took this out; how far the process is says which move it was
  pub retreated : Proc → Place → Option Proc → Option Proc
  retreated idle a old = None
  retreated stopped a old = None
  retreated (once o made) a old = if_here a (Some (once o false))
  retreated (sender s waiting) a old = None
  retreated (sender s holding) a old = if_act 0 a (Some (sender s waiting))
  retreated (sender s past) a old = if_child_or 1 a (λ b. Some (sender s holding)) (Some (sender s waiting))
  retreated (fresh g c) a old = None
  retreated (turn g c n q) a old =
      if_child_or (2 * n) a (λ b. before_turn g c n old)
      (if_child (2 * n + 1) a (λ b. option_map (turn g c n) (retreated q b old)))
  retreated (ended_at_once g c) a old = Some (fresh g c)
  retreated (ended g c n q) a old = Some (turn g c n q)
  retreated (untested d cs) a old = None
  retreated (skipped d cs) a old = Some (untested d cs)
  retreated (took d cs j q) a old =
      if_child_or 0 a (λ b. Some (untested d cs)) (if_child 1 a (λ b. option_map (took d cs j) (retreated q b old)))
  retreated (unopened ds cs) a old = None
  retreated (entered ds cs c v q) a old =
      if_child_or 0 a (λ b. Some (unopened ds cs))
      (if_child 1 a (λ b. option_map (entered ds cs c v) (retreated q b old)))
  retreated (closed ds cs c v q) a old = Some (entered ds cs c v q)
  retreated (sequence ps) a old = option_map sequence (retreated_sequence 0 ps a old)
  retreated (parallel ps) a old = option_map parallel (retreated_parallel 0 ps a old)
  retreated (drained c n) a old = before_drain c n a

  -- the same in the child of a sequence in which the place is
  pub retreated_sequence : ℕ → Procs → Place → Option Proc → Option Procs
  retreated_sequence n no_procs a old = None
  retreated_sequence n (proc p ps) a old =
      if_child_or n a (λ b. option_map (λ q. proc q ps) (retreated p b old))
      (option_map (proc p) (retreated_sequence (n + 1) ps a old))

  -- the same in the branch of a parallel in which the place is
  pub retreated_parallel : ℕ → Procs → Place → Option Proc → Option Procs
  retreated_parallel n no_procs a old = None
  retreated_parallel n (proc p ps) a old =
      if_branch n a (λ b. option_map (λ q. proc q ps) (retreated p b old))
      (option_map (proc p) (retreated_parallel (n + 1) ps a old))
