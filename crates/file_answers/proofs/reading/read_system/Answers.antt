use Rattle.std.proofs.Common.{inl}
use Rattle.file_answers.specs.Kept.{kept_of}
use Rattle.file_answers.proofs.AnsweringLemmas.{texts-accepted}
use Rattle.file_answers.proofs.public.Handing.{refused}
use Rattle.file_answers.proofs.reading.read_system.Goals as goal

pub returns-in_err-read_texts : goal.returns-in_err-read_texts
returns-in_err-read_texts g c =
    refused c.from_residual.result c.in_err-read_texts.field-0.0 _ _ (inl c.in_err-read_texts.ensures)
    c.from_residual.ensures.1

pub returns : goal.returns
returns g c =
    texts-accepted (g.F.Files.holds c.args.from.now.files.now) c.args.file.now c.args.stimulus.now
    (kept_of c.read_texts.new.texts) c.as_slice.result.now c.as_slice-2.result.now c.accept.result c.in_ok-read_texts.ensures c.as_slice.ensures.value
    c.as_slice-2.ensures.value c.accept.ensures.system c.accept.ensures.fault
