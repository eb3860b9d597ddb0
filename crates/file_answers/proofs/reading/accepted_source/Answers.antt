use Rattle.std.proofs.Common.{inl}
use Rattle.file_answers.specs.Kept.{kept_of}
use Rattle.file_answers.proofs.AnsweringLemmas.{source-accepted}
use Rattle.file_answers.proofs.public.Handing.{refused}
use Rattle.file_answers.proofs.reading.accepted_source.Goals as goal

pub returns-in_err-read_source : goal.returns-in_err-read_source
returns-in_err-read_source g c =
    refused c.from_residual.result c.in_err-read_source.field-0.0 _ _ (inl c.in_err-read_source.ensures)
    c.from_residual.ensures.1

pub returns : goal.returns
returns g c =
    source-accepted (g.F.Files.holds c.args.from.now.files.now) c.args.file.now (kept_of c.read_source.new.texts)
    c.as_slice.result.now c.accept_leaving.result c.in_ok-read_source.ensures c.as_slice.ensures.value c.accept_leaving.ensures.system
    c.accept_leaving.ensures.fault
