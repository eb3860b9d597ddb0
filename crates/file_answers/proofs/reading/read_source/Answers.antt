use Rattle.file_answers.proofs.public.Handing.{refused}
use Rattle.file_answers.proofs.reading.read_source.Goals as goal

pub returns-in_err-source : goal.returns-in_err-source
returns-in_err-source g c =
    refused c.from_residual.result c.in_err-source.field-0.0 _ _ c.in_err-source.ensures c.from_residual.ensures.1
