use Rattle.std.proofs.Common.{inl, inr, subst, sym, ℕ}
use Rattle.std.specs.Prelude.{Vec}
use Rattle.std.specs.Global.{Global}
use Rattle.file_answers.specs.Answering.{FilesDescribe}
use Rattle.file_answers.proofs.public.Handing.{refused}
use Rattle.file_answers.proofs.reading.read_run.Goals as goal

pub returns-in_err-checked : goal.returns-in_err-checked
returns-in_err-checked g c =
    refused c.from_residual.result c.in_err-checked.field-0.0 _ _ (inl c.in_err-checked.ensures)
    c.from_residual.ensures.1

pub returns-in_err-read_trace : goal.returns-in_err-read_trace
returns-in_err-read_trace g c =
    refused c.from_residual-in_err-read_trace.result c.in_err-read_trace.field-0.0 _ _
    (inr (
      c.in_ok-checked.checked,
      (c.read_system.new.texts.source.items, c.in_ok-checked.ensures),
      c.in_err-read_trace.ensures,
    ))
    c.from_residual-in_err-read_trace.ensures.1

pub returns : goal.returns
returns g c = (
  subst (λ (source : Vec ℕ Global). FilesDescribe (g.F.Files.holds c.args.from.now.files.now) c.args.names.now.file.now
      c.args.names.now.stimulus.now source.items c.in_ok-checked.checked) (sym c.in_ok-read_trace.ensures.1)
      c.in_ok-checked.ensures,
  c.in_ok-read_trace.ensures.0,
)
