use Rattle.std.proofs.Common.{inl, inr, refl, ◌∙◌}
use Rattle.debug_session.specs.declared.fault.Fault.TheVariants.{Memory}
use Rattle.file_answers.proofs.public.Handing.{handed-on}
use Rattle.file_answers.proofs.question.show_page.Goals as goal

pub returns-in_err-text : goal.returns-in_err-text
returns-in_err-text g c = inl (
  Memory,
  refl,
  handed-on c.from_residual.result Memory c.from_residual.ensures.1,
  refl,
)

pub returns : goal.returns
returns g c = inr (
  c.as_bytes.result.now,
  c.as_bytes.ensures.value ∙ c.in_ok-text.ensures,
  (c.write_out.ensures.bytes, c.write_out.ensures.failures),
)
