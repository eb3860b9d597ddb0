use Rattle.std.proofs.Common.{inl, inr}
use Rattle.file_answers.proofs.public.Handing.{refused}
use Rattle.file_answers.proofs.reading.read_texts.Goals as goal

pub returns-in_err-read_source : goal.returns-in_err-read_source
returns-in_err-read_source g c =
    refused c.from_residual.result c.in_err-read_source.field-0.0 _ _ (inl c.in_err-read_source.ensures)
    c.from_residual.ensures.1

pub returns-in_err-values : goal.returns-in_err-values
returns-in_err-values g c =
    refused c.from_residual-in_err-values.result c.in_err-values.field-0.0 _ _ (inr c.in_err-values.ensures)
    c.from_residual-in_err-values.ensures.1

pub returns : goal.returns
returns g c = (c.in_ok-read_source.ensures, c.in_ok-values.ensures)
