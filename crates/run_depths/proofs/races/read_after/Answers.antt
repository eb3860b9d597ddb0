use Rattle.run_depths.proofs.RaceLaws.{is-read, not-read, reads-none}
use Rattle.run_depths.proofs.races.read_after.Goals as goal

pub returns-then-reads : goal.returns-then-reads
returns-then-reads c =
    (c.in-Some.is, is-read c.in-Some.variable c.args.later.now.read c.as_slice.result.now c.reads.result c.as_slice.ensures c.reads.ensures c.if-reads.true)

pub returns-else-reads : goal.returns-else-reads
returns-else-reads c =
    reads-none c.args.earlier.now c.args.later.now c.in-Some.variable c.in-Some.is
    (not-read c.in-Some.variable c.args.later.now.read c.as_slice.result.now c.reads.result c.as_slice.ensures c.reads.ensures c.if-reads.false)
