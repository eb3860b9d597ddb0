-- The loop stops at the end of one of the two, or where they differ.
use Rattle.dependence.proofs.ForkLaws.{forked-first_end, forked-second_end, forked-differ, shares-first, shares-second, shares-same}
use Rattle.dependence.proofs.forks.fork.Goals as goal

pub returns-else-eq : goal.returns-else-eq
returns-else-eq c =
    forked-differ c.args.a.now c.args.b.now c.loop-count.count _ c.eq.result c.loop-count.invariant.2 c.loop-count-test.true c.if-count-b.true c.eq.ensures c.if-eq.false

pub returns-else-count-b : goal.returns-else-count-b
returns-else-count-b c =
    forked-second_end c.args.a.now c.args.b.now c.loop-count.count c.loop-count.invariant.0 c.loop-count.invariant.1 c.loop-count.invariant.2 c.if-count-b.false

pub returns-after-loop-count : goal.returns-after-loop-count
returns-after-loop-count c =
    forked-first_end c.args.a.now c.args.b.now c.loop-count.count c.loop-count.invariant.0 c.loop-count.invariant.1 c.loop-count.invariant.2 c.loop-count-test.false

pub loop-count-init : goal.loop-count-init
loop-count-init c = (
  shares-first c.args.shared c.args.a.now c.args.b.now c.requires,
  shares-second c.args.shared c.args.a.now c.args.b.now c.requires,
  shares-same c.args.shared c.args.a.now c.args.b.now c.requires,
)
