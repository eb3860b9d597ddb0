use Rattle.file_answers.proofs.public.Handing.{refused}
use Rattle.file_answers.proofs.reading.read_trace.Goals as goal

pub returns-in_err-steps : goal.returns-in_err-steps
returns-in_err-steps g c =
    refused c.from_residual.result c.in_err-steps.field-0.0 _ _ c.in_err-steps.ensures c.from_residual.ensures.1
