use Rattle.std.proofs.Common.{ℕ, List, inl, inr, refl, subst}
use Rattle.debug_session.specs.Replaying.{Replays}
use Rattle.file_answers.specs.Kept.{kept_of}
use Rattle.file_answers.proofs.AnsweringLemmas.{run-not-had, run-refused}
use Rattle.file_answers.proofs.public.Handing.{handed-on}
use Rattle.file_answers.proofs.TellingLemmas.{tells-same}
use Rattle.file_answers.proofs.answer.replay_files.Goals as goal

pub returns-in_err-checked : goal.returns-in_err-checked
returns-in_err-checked g c = inl (
  c.in_err-checked.field-0.0,
  run-not-had (g.F.Files.holds c.args.from.now.files.now) c.args.names.now.file.now c.args.names.now.stimulus.now
      c.args.names.now.trace.now (kept_of c.read_run.new.texts) c.in_err-checked.field-0.0
      c.in_err-checked.ensures,
  handed-on c.from_residual.result c.in_err-checked.field-0.0 c.from_residual.ensures.1,
  refl,
)

pub returns-in_err-events : goal.returns-in_err-events
returns-in_err-events g c = inl (
  c.in_err-events.field-0.0,
  run-refused (g.F.Files.holds c.args.from.now.files.now) c.args.names.now.file.now c.args.names.now.stimulus.now
      c.args.names.now.trace.now (kept_of c.read_run.new.texts) c.in_ok-checked.checked
      c.as_slice.result.now
      c.in_err-events.field-0.0 c.in_ok-checked.ensures c.as_slice.ensures.value
      c.in_err-events.ensures,
  handed-on c.from_residual-in_err-events.result c.in_err-events.field-0.0 c.from_residual-in_err-events.ensures.1,
  refl,
)

pub returns : goal.returns
returns g c = inr (
  c.in_ok-events.events.items,
  (
    c.in_ok-checked.checked,
    c.read_run.new.texts.trace.items,
    (c.read_run.new.texts.source.items, c.in_ok-checked.ensures.0),
    c.in_ok-checked.ensures.1,
    subst (λ (t : List ℕ). Replays c.in_ok-checked.checked t c.in_ok-events.events.items) c.as_slice.ensures.value
        c.in_ok-events.ensures,
  ),
  tells-same g.O.Write.contents c.args.out.now c.write_out.new.writer c.as_slice-2.result.now c.in_ok-events.events.items c.write_out.result
      c.as_slice-2.ensures.value (c.write_out.ensures.bytes, c.write_out.ensures.failures),
)
