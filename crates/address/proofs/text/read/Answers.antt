-- The entries found so far, and the rest.
use Rattle.address.proofs.public.Finds.{pending-more, pending-stuck, not-nil}
use Rattle.address.proofs.text.read.Goals as goal

pub returns-in_default : goal.returns-in_default
returns-in_default c =
    pending-stuck c.args.text.now c.loop-rest.entries.items c.loop-rest.rest.now c.loop-rest.invariant
    (not-nil c.loop-rest.rest.now c.is_empty.result c.is_empty.ensures c.loop-rest-test.true) c.in_default.ensures

pub loop-rest-preserved : goal.loop-rest-preserved
loop-rest-preserved c =
    rw c.in_ok-add_entry.ensures
    (pending-more c.args.text.now c.loop-rest.entries.items c.loop-rest.rest.now c.in-Some.entry c.in-Some.after.now
    c.loop-rest.invariant c.in-Some.ensures)
