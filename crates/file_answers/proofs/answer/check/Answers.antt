use Rattle.std.proofs.Common.{inl, inr, refl}
use Rattle.file_answers.specs.Answering.{accepted_line}
use Rattle.file_answers.proofs.public.Handing.{handed-on}
use Rattle.file_answers.proofs.answer.check.Goals as goal

pub returns-in_err-checked : goal.returns-in_err-checked
returns-in_err-checked g c = inl (
  c.in_err-checked.field-0.0,
  c.in_err-checked.ensures,
  handed-on c.from_residual.result c.in_err-checked.field-0.0 c.from_residual.ensures.1,
  refl,
)

pub returns : goal.returns
returns g c = inr (
  accepted_line,
  (
    c.accepted_source.new.texts.source.items,
    c.in_ok-checked.checked,
    c.in_ok-checked.ensures.0,
    c.in_ok-checked.ensures.1,
    refl,
  ),
  (c.write_out.ensures.bytes, c.write_out.ensures.failures),
)
