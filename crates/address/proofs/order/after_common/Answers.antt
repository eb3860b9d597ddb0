-- The loop stops at the end of one of the two, or where they differ.
use Rattle.address.proofs.First.{cut-at_first_end, cut-at_second_end, cut-at_differ}
use Rattle.address.proofs.order.after_common.Goals as goal
use Rattle.address.proofs.order.after_common.Goals.{then-loop-count-test+then-count-b+else-eq, then-loop-count-test+else-count-b, else-loop-count-test}

pub returns : goal.returns
returns c =
    elim c.loop-count-test.branch [
      | then-loop-count-test+then-count-b+else-eq w ↦
          cut-at_differ c.args.a.now c.args.b.now c.loop-count.count _ w.eq.result c.loop-count.invariant.2
          w.loop-count-test.true w.if-count-b.true w.eq.ensures w.if-eq.false
      | then-loop-count-test+else-count-b w ↦
          cut-at_second_end c.args.a.now c.args.b.now c.loop-count.count c.loop-count.invariant.2 w.if-count-b.false
      | else-loop-count-test w ↦
          cut-at_first_end c.args.a.now c.args.b.now c.loop-count.count c.loop-count.invariant.2 w.loop-count-test.false
    ]
