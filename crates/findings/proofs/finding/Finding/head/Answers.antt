use Rattle.findings.proofs.Placing.{placed}
use Rattle.findings.proofs.finding.Finding.head.Goals as goal

pub returns : goal.returns
returns c = (
  c.place_of-place.result.start,
  c.place_of-place.ensures.start,
  placed _ _ _ _ _ _ _ _ c.in_ok-text.ensures c.place_of-place.ensures.line c.place_of-place.ensures.column
      c.as_str.ensures.value,
)
