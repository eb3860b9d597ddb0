use Rattle.std.proofs.Common.{◌≡◌, drop}
use Rattle.system.specs.Translation.{expression_of}
use Rattle.local_actions.specs.internal.Walk.{put_each}
use Rattle.local_actions.proofs.around.put_in.Given as goal

abbrev pub invariant-loop-one : goal.invariant-loop-one
invariant-loop-one l = put_each (drop l.one-index l.arrived) (expression_of l.made) ≡ put_each l.arrived (expression_of l.expression)
