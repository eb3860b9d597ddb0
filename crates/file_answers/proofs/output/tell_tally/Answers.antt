use Rattle.std.proofs.Common.{ap, ◌∙◌, ◌++◌, codes, Err}
use Rattle.std.specs.Fmt.{decimal}
use Rattle.debug_session.specs.ReplyText.{ending}
use Rattle.std.proofs.lemmas.Result.{err_from_is_err_and}
use Rattle.file_answers.proofs.TellingLemmas.{tells-then, tells-stops}
use Rattle.file_answers.proofs.output.tell_tally.Goals as goal

pub returns-in_err-write_around : goal.returns-in_err-write_around
returns-in_err-write_around g c =
    let p = err_from_is_err_and c.from_residual.result c.from_residual.ensures.1 in
    tells-stops g.O.Write.contents c.args.out.now c.write_around.new.out (codes "stepped " ++ (decimal c.args.done.stepped ++ ending))
    (codes "live " ++ (decimal c.args.done.live ++ ending)) c.in_err-write_around.field-0.0 c.from_residual.result c.in_err-write_around.ensures
    (p.1 ∙ ap Err p.2)

pub returns : goal.returns
returns g c =
    tells-then g.O.Write.contents c.args.out.now c.write_around.new.out c.write_around-2.new.out (codes "stepped " ++ (decimal c.args.done.stepped ++ ending))
    (codes "live " ++ (decimal c.args.done.live ++ ending)) c.write_around-2.result c.in_ok-write_around.ensures
    c.write_around-2.ensures
