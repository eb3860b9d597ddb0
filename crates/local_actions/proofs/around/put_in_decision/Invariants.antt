use Rattle.std.proofs.Common.{◌≡◌, drop}
use Rattle.system.specs.Translation.{decision_of}
use Rattle.local_actions.specs.internal.Walk.{put_each_decision}
use Rattle.local_actions.proofs.around.put_in_decision.Given as goal

abbrev pub invariant-loop-one : goal.invariant-loop-one
invariant-loop-one l = put_each_decision (drop l.one-index l.arrived) (decision_of l.made) ≡ put_each_decision l.arrived (decision_of l.decision)
