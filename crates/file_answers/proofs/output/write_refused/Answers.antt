use Rattle.std.proofs.Common.{ap, ◌∙◌, ◌++◌, codes, Err, Some}
use Rattle.std.specs.Fmt.{decimal}
use Rattle.std.proofs.lemmas.Result.{err_from_is_err_and}
use Rattle.debug_session.specs.ReplyText.{ending}
use Rattle.file_answers.specs.FaultLine.{refused_text}
use Rattle.file_answers.proofs.TellingLemmas.{tells-then, tells-stops, tells-same, ended-four}
use Rattle.file_answers.proofs.output.write_refused.Goals as goal

pub returns-in_err-write_around : goal.returns-in_err-write_around
returns-in_err-write_around g c =
    let p = err_from_is_err_and c.from_residual.result c.from_residual.ensures.1 in
    rw c.in-Some.is (
    tells-same g.W.Write.contents c.args.out.now c.write_around-2.new.out
    ((codes "balsadbg: refused " ++ (decimal c.args.number ++ codes " ")) ++ (decimal c.in-Some.field ++ ending))
    (refused_text c.args.number (Some c.in-Some.field) ++ ending) c.from_residual.result
    (ended-four (codes "balsadbg: refused ") (decimal c.args.number) (codes " ") (decimal c.in-Some.field) ending)
    (tells-stops g.W.Write.contents c.args.out.now c.write_around-2.new.out
    (codes "balsadbg: refused " ++ (decimal c.args.number ++ codes " ")) (decimal c.in-Some.field ++ ending)
    c.in_err-write_around.field-0.0 c.from_residual.result c.in_err-write_around.ensures (p.1 ∙ ap Err p.2))
    )

pub returns : goal.returns
returns g c =
    rw c.in-Some.is (
    tells-same g.W.Write.contents c.args.out.now c.write_number.new.out
    ((codes "balsadbg: refused " ++ (decimal c.args.number ++ codes " ")) ++ (decimal c.in-Some.field ++ ending))
    (refused_text c.args.number (Some c.in-Some.field) ++ ending) c.write_number.result
    (ended-four (codes "balsadbg: refused ") (decimal c.args.number) (codes " ") (decimal c.in-Some.field) ending)
    (tells-then g.W.Write.contents c.args.out.now c.write_around-2.new.out c.write_number.new.out
    (codes "balsadbg: refused " ++ (decimal c.args.number ++ codes " ")) (decimal c.in-Some.field ++ ending)
    c.write_number.result c.in_ok-write_around.ensures c.write_number.ensures)
    )
