use Rattle.std.proofs.Common.{ap, ◌∙◌, ◌++◌, Err}
use Rattle.std.specs.Fmt.{decimal}
use Rattle.std.proofs.lemmas.Result.{err_from_is_err_and}
use Rattle.file_answers.proofs.TellingLemmas.{tells-then, tells-stops}
use Rattle.file_answers.proofs.output.write_around.Goals as goal

pub returns-in_err-write_out : goal.returns-in_err-write_out
returns-in_err-write_out g c =
    let p = err_from_is_err_and c.from_residual.result c.from_residual.ensures.1 in
    tells-stops g.W.Write.contents c.args.out.now c.write_out.new.writer c.args.before.now
    (decimal c.args.number ++ c.args.behind.now) c.in_err-write_out.field-0.0 c.from_residual.result (c.in_err-write_out.ensures.bytes, c.in_err-write_out.ensures.failures)
    (p.1 ∙ ap Err p.2)

pub returns : goal.returns
returns g c =
    tells-then g.W.Write.contents c.args.out.now c.write_out.new.writer c.write_number.new.out c.args.before.now
    (decimal c.args.number ++ c.args.behind.now) c.write_number.result (c.in_ok-write_out.ensures.bytes, c.in_ok-write_out.ensures.failures)
    c.write_number.ensures
