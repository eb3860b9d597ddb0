use Rattle.runs.proofs.public.ReadTests.{written-read, written-written}
use Rattle.runs.proofs.dependence.writes_for.Goals as goal

pub returns-then-reads : goal.returns-then-reads
returns-then-reads c =
    written-read c.args.writer.now c.args.other.now c.in-Some.variable _ _ c.in-Some.is c.as_slice.ensures c.reads.ensures c.if-reads.true

pub returns-else-reads : goal.returns-else-reads
returns-else-reads c =
    written-written c.args.writer.now c.args.other.now c.in-Some.variable _ _ _ c.in-Some.is c.as_slice.ensures c.reads.ensures c.if-reads.false
    c.writes.ensures
