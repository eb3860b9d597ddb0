use Rattle.std.proofs.Common.{ℕ, List, inl, inr, refl, subst}
use Rattle.debug_session.specs.declared.fault.Fault.TheVariants.{Memory}
use Rattle.questions.specs.Asking.{IsOutlineText}
use Rattle.file_answers.proofs.public.Handing.{handed-on}
use Rattle.file_answers.proofs.TellingLemmas.{tells-same}
use Rattle.file_answers.proofs.question.outline_file.Goals as goal

pub returns-in_err-checked : goal.returns-in_err-checked
returns-in_err-checked g c = inl (
  c.in_err-checked.field-0.0,
  c.in_err-checked.ensures,
  handed-on c.from_residual.result c.in_err-checked.field-0.0 c.from_residual.ensures.1,
  refl,
)

pub returns-in_err-text : goal.returns-in_err-text
returns-in_err-text g c = inl (
  Memory,
  inl (inl refl),
  handed-on c.from_residual-in_err-text.result Memory c.from_residual-in_err-text.ensures.1,
  refl,
)

pub returns : goal.returns
returns g c = inr (
  c.in_ok-text.text.items,
  (
    c.accepted_source.new.texts.source.items,
    c.in_ok-checked.checked,
    c.in_ok-checked.ensures.0,
    c.in_ok-checked.ensures.1,
    subst (λ (t : List ℕ). IsOutlineText t c.in_ok-checked.checked c.in_ok-text.text.items) c.as_slice.ensures.value
        c.in_ok-text.ensures,
  ),
  tells-same g.O.Write.contents c.args.out.now c.write_out.new.writer c.as_slice-2.result.now c.in_ok-text.text.items c.write_out.result
      c.as_slice-2.ensures.value (c.write_out.ensures.bytes, c.write_out.ensures.failures),
)
