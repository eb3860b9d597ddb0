use Rattle.std.proofs.Common.{inl}
use Rattle.run_depths.proofs.RaceLaws.{is-read, not-read, writes-none}
use Rattle.run_depths.proofs.races.written_after.Goals as goal

pub returns-then-reads : goal.returns-then-reads
returns-then-reads c = (
  c.in-Some.is,
  inl (is-read c.in-Some.variable c.args.earlier.now.read c.as_slice.result.now c.reads.result c.as_slice.ensures c.reads.ensures c.if-reads.true),
)

pub returns-else-writes : goal.returns-else-writes
returns-else-writes c =
    writes-none c.args.earlier.now c.args.later.now c.in-Some.variable c.in-Some.is
    (not-read c.in-Some.variable c.args.earlier.now.read c.as_slice.result.now c.reads.result c.as_slice.ensures c.reads.ensures c.if-reads.false)
    (λ is. let on = c.writes.ensures.1 is in let off = c.if-writes.false in cc)
