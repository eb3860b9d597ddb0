use Rattle.std.proofs.Common.{inl, refl}
use Rattle.debug_session.specs.Wrapping.{of_trace}
use Rattle.file_answers.specs.Used.{used}
use Rattle.file_answers.specs.Kept.{kept_of}
use Rattle.file_answers.proofs.AnsweringLemmas.{run-not-had, run-refused, trace-refused, why-answered}
use Rattle.file_answers.proofs.public.Handing.{handed-on}
use Rattle.file_answers.proofs.question.why_files.Goals as goal

pub returns-in_err-checked : goal.returns-in_err-checked
returns-in_err-checked g c = inl (
  c.in_err-checked.field-0.0,
  inl (run-not-had (g.F.Files.holds c.args.from.now.files.now) c.args.names.now.file.now c.args.names.now.stimulus.now
      c.args.names.now.trace.now (kept_of c.read_run.new.texts) c.in_err-checked.field-0.0
      c.in_err-checked.ensures),
  handed-on c.from_residual.result c.in_err-checked.field-0.0 c.from_residual.ensures.1,
  refl,
)

pub returns-in_err-why : goal.returns-in_err-why
returns-in_err-why g c = inl (
  (of_trace c.in_err-why.field-0.0),
  inl (run-refused (g.F.Files.holds c.args.from.now.files.now) c.args.names.now.file.now c.args.names.now.stimulus.now
      c.args.names.now.trace.now (kept_of c.read_run.new.texts) c.in_ok-checked.checked
      c.as_slice.result.now
      (of_trace c.in_err-why.field-0.0) c.in_ok-checked.ensures c.as_slice.ensures.value
      (trace-refused c.in_ok-checked.checked c.as_slice.result.now c.in_err-why.field-0.0
      c.in_err-why.ensures.answered)),
  handed-on c.from_residual-in_err-why.result (of_trace c.in_err-why.field-0.0) c.from_residual-in_err-why.ensures.1,
  refl,
)

pub returns : goal.returns
returns g c =
    why-answered (g.F.Files.holds c.args.from.now.files.now) c.args.names.now.file.now c.args.names.now.stimulus.now
    c.args.names.now.trace.now c.args.asked.now.subject.now c.args.asked.now.all
    (record {
      source = c.read_run.new.texts.source.items;
      values = c.read_run.new.texts.values.items;
      trace = c.read_run.new.texts.trace.items;
      said = c.tell_why.new.said.items;
    })
    c.in_ok-checked.checked c.as_slice.result.now c.in_ok-why.why
    (used g.O.Write.contents c.args.out.now c.tell_why.new.out) c.tell_why.result c.in_ok-checked.ensures
    c.as_slice.ensures.value c.in_ok-why.ensures.answered c.in_ok-why.ensures.text c.tell_why.ensures
