use Rattle.std.proofs.Common.{ℕ, List, string_bytes, subst, sym}
use Rattle.findings.specs.Marking.{ShowsMarks}
use Rattle.findings.proofs.finding.Finding.text.Goals as goal

pub returns-clause-place : goal.returns-clause-place
returns-clause-place c = (
  string_bytes c.in_ok-text.text,
  c.as_str.result.now,
  c.in_ok-text.ensures,
  c.in_ok-push_str.ensures.bytes,
)

pub returns-clause-marks : goal.returns-clause-marks
returns-clause-marks c = (
  string_bytes c.in_ok-text.text,
  c.as_str.result.now,
  c.in_ok-text.ensures,
  subst (λ (t : List ℕ). ShowsMarks c.args.input.bytes.now c.args.keeps_return c.args.self.now t) (sym c.as_str.ensures.value)
      c.in_ok-lines.ensures,
  c.in_ok-push_str.ensures.bytes,
)
