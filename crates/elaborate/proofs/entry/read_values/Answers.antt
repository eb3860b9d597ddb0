use Rattle.elaborate.proofs.Numbers.{not_nil}
use Rattle.elaborate.proofs.Readings.{pending_more, pending_stuck}
use Rattle.elaborate.proofs.entry.read_values.Goals as goal

pub returns-in_default : goal.returns-in_default
returns-in_default c =
    pending_stuck c.args.text.now c.loop-rest.values c.loop-rest.rest.now c.loop-rest.invariant
    (not_nil c.loop-rest.rest.now c.is_empty.result c.is_empty.ensures c.loop-rest-test.true) c.in_default.ensures

pub loop-rest-preserved : goal.loop-rest-preserved
loop-rest-preserved c =
    rw c.in_ok-push.ensures.ok
    (pending_more c.args.text.now c.loop-rest.values c.loop-rest.rest.now c.in-Some.value c.in-Some.after.now
    c.loop-rest.invariant c.in-Some.ensures)
