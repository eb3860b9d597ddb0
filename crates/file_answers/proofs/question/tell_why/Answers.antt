use Rattle.std.proofs.Common.{refl}
use Rattle.file_answers.proofs.TellingLemmas.{tells-same}
use Rattle.file_answers.proofs.question.tell_why.Goals as goal

pub returns-in-Told : goal.returns-in-Told
returns-in-Told g c = rw c.in-Told.is (
    tells-same g.O.Write.contents c.args.out.now c.write_out.new.writer c.as_slice.result.now c.in-Told.lines.items
    c.write_out.result c.as_slice.ensures.value (c.write_out.ensures.bytes, c.write_out.ensures.failures)
    )

pub returns-in-Refused : goal.returns-in-Refused
returns-in-Refused g c = rw c.in-Refused.is (refl, refl, refl)
