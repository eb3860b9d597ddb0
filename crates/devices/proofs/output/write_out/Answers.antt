use Rattle.std.proofs.Common.{ap, ◌∙◌, Err}
use Rattle.std.proofs.lemmas.Result.{err_from_is_err_and}
use Rattle.devices.proofs.public.KnownLemmas.{write-more, write-failed}
use Rattle.devices.proofs.output.write_out.Goals as goal

pub returns-in_err-count-clause-bytes : goal.returns-in_err-count-clause-bytes
returns-in_err-count-clause-bytes g c =
    let p = err_from_is_err_and c.from_residual.result c.from_residual.ensures.1 in
    write-failed (g.W.CountedWrite.contents c.args.writer.now) (g.W.CountedWrite.contents c.loop-rest.writer) (g.W.CountedWrite.contents c.write_some.new.self)
    c.loop-rest.invariant.0.0 c.loop-rest.rest.now c.args.bytes.now
    (g.W.CountedWrite.unsent c.args.writer.now) (g.W.CountedWrite.unsent c.loop-rest.writer) (g.W.CountedWrite.unsent c.write_some.new.self) (g.W.CountedWrite.wanted c.write_some.new.self)
    c.in_err-count.field-0.0 c.from_residual.result
    c.loop-rest.invariant.0.1 c.loop-rest.invariant.0.2 c.loop-rest.invariant.0.3 c.in_err-count.ensures.bytes c.in_err-count.ensures.unsent (p.1 ∙ ap Err p.2)

pub loop-rest-preserved : goal.loop-rest-preserved
loop-rest-preserved g c = (
  write-more (g.W.CountedWrite.contents c.args.writer.now) (g.W.CountedWrite.contents c.loop-rest.writer) (g.W.CountedWrite.contents c.write_some.new.self)
      c.loop-rest.invariant.0.0 c.loop-rest.rest.now c.split_at.result.1.now c.args.bytes.now c.in_ok-count.count
      (g.W.CountedWrite.unsent c.args.writer.now) (g.W.CountedWrite.unsent c.loop-rest.writer) (g.W.CountedWrite.unsent c.write_some.new.self)
      c.loop-rest.invariant.0.1 c.loop-rest.invariant.0.2 c.loop-rest.invariant.0.3 c.in_ok-count.ensures.bytes.1 c.split_at.ensures.back
      c.in_ok-count.ensures.bytes.0 c.in_ok-count.ensures.unsent,
  c.in_ok-count.ensures.counted ∙ c.loop-rest.invariant.1,
)
