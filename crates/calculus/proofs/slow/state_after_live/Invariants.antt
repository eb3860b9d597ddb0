use Rattle.std.proofs.Common.{◌≡◌, drop}
use Rattle.runs.specs.internal.StepOf.{run_of}
use Rattle.runs.specs.Live.{events}
use Rattle.calculus.specs.ResidualTree.{state_of}
use Rattle.runs.specs.Steps.{opening}
use Rattle.calculus.proofs.slow.state_after_live.Given as goal

abbrev pub invariant-loop-event : goal.invariant-loop-event
invariant-loop-event l = run_of (state_of l.state) (events (drop l.event-index l.live)) ≡ run_of (opening l.system) (events l.live)
