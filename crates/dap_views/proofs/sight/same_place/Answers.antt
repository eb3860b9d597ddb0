use Rattle.runs.specs.internal.EventLaws.{decided, same_place-decides}
use Rattle.dap_views.proofs.sight.same_place.Goals as goal

pub returns : goal.returns
returns c = decided _ _ _ c.equals.ensures (same_place-decides c.args.one.now c.args.other.now)
