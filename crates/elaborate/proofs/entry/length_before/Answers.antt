use Rattle.elaborate.proofs.Cuts.{without_more}
use Rattle.elaborate.proofs.entry.length_before.Goals as goal

pub loop-count-preserved : goal.loop-count-preserved
loop-count-preserved c =
    without_more c.args.byte c.args.text.now c.loop-count.count c.loop-count-test.true c.loop-count.invariant c.if-held-byte.false
