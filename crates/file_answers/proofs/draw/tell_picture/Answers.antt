use Rattle.std.proofs.Common.{refl}
use Rattle.file_answers.proofs.TellingLemmas.{tells-same}
use Rattle.file_answers.proofs.draw.tell_picture.Goals as goal

pub returns-in-Text : goal.returns-in-Text
returns-in-Text g c = rw c.in-Text.is (
    tells-same g.O.Write.contents c.args.out.now c.write_out.new.writer c.as_slice.result.now c.in-Text.text.items
    c.write_out.result c.as_slice.ensures.value (c.write_out.ensures.bytes, c.write_out.ensures.failures)
    )

pub returns-in-NoSuchStep : goal.returns-in-NoSuchStep
returns-in-NoSuchStep g c = rw c.in-NoSuchStep.is (refl, refl, refl)
