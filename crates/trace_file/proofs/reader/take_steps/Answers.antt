use Rattle.std.proofs.Common.{ap, ◌∙◌, Err, arith}
use Rattle.std.proofs.lemmas.Result.{err_from_is_err_and}
use Rattle.trace_file.proofs.LineLemmas.{not-nil}
use Rattle.trace_file.proofs.LoadLemmas.{fails, line-refused, loading-start, loading-more, number-start, number-more}
use Rattle.trace_file.proofs.reader.take_steps.Goals as goal

pub loop-number-init : goal.loop-number-init
loop-number-init c = (
  loading-start c.args.machine.now.checked c.args.steps.now c.args.machine.now c.requires,
  number-start c.args.machine.now.checked c.args.machine.now c.requires,
)

pub returns-in_err-rest : goal.returns-in_err-rest
returns-in_err-rest c =
    let p = err_from_is_err_and c.from_residual.result c.from_residual.ensures.1 in
    fails c.from_residual.result c.in_err-rest.field-0.0 _ _ (p.1 ∙ ap Err p.2)
    (line-refused c.args.machine.now.checked c.args.steps.now c.loop-number.machine c.loop-number.rest.now c.loop-number.number
    c.in_err-rest.field-0.0 c.loop-number.invariant.0 c.loop-number.invariant.1
    (not-nil c.loop-number.rest.now c.is_empty.result c.is_empty.ensures c.if-is_empty.false) c.in_err-rest.ensures.line)

pub loop-number-preserved : goal.loop-number-preserved
loop-number-preserved c =
    let more =
    loading-more c.args.machine.now.checked c.args.steps.now c.loop-number.machine c.take_line.new.machine
    c.loop-number.rest.now c.in_ok-rest.rest.now c.loop-number.invariant.0 c.in_ok-rest.ensures.line c.in_ok-rest.ensures.system
    c.in_ok-rest.ensures.marked in (
      more,
      number-more c.args.machine.now.checked c.args.steps.now c.loop-number.machine c.take_line.new.machine
          c.loop-number.rest.now c.in_ok-rest.rest.now c.loop-number.number c.loop-number.invariant.0 more c.in_ok-rest.ensures.line
          c.loop-number.invariant.1,
    )

pub unreachable-requires : goal.unreachable-requires
unreachable-requires c = omega (arith, c.loop-number.invariant.0.begins.room, c.loop-number.invariant.1, c.loop-number-test.false)
