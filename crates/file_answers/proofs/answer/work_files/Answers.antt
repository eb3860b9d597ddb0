use Rattle.std.proofs.Common.{inl, inr, refl}
use Rattle.debug_session.specs.declared.fault.Fault.TheVariants.{Memory}
use Rattle.file_answers.specs.Working.{work_text}
use Rattle.file_answers.proofs.public.Handing.{handed-on}
use Rattle.file_answers.proofs.answer.work_files.Goals as goal

pub returns-in_err-checked : goal.returns-in_err-checked
returns-in_err-checked g c = inl (
  c.in_err-checked.field-0.0,
  inl c.in_err-checked.ensures,
  handed-on c.from_residual.result c.in_err-checked.field-0.0 c.from_residual.ensures.1,
  refl,
)

pub returns-in_err-done : goal.returns-in_err-done
returns-in_err-done g c = inl (
  Memory,
  inr (c.in_ok-checked.checked, (c.read_system.new.texts.source.items, c.in_ok-checked.ensures), refl),
  handed-on c.from_residual-in_err-done.result Memory c.from_residual-in_err-done.ensures.1,
  refl,
)

pub returns : goal.returns
returns g c = inr (
  work_text c.in_ok-done.done.stepped c.in_ok-done.done.live,
  (
    c.in_ok-checked.checked,
    c.in_ok-done.done.stepped,
    c.in_ok-done.done.live,
    (c.read_system.new.texts.source.items, c.in_ok-checked.ensures),
    c.in_ok-done.ensures,
    refl,
  ),
  c.tell_tally.ensures,
)
