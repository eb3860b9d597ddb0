use Rattle.std.proofs.Common.{string_bytes, rules, arith}
use Rattle.std.proofs.lemmas.Result.{IfOk-weaker}
use Rattle.diagnosis.proofs.Marked.{told_source}
use Rattle.diagnosis.proofs.explain_source.Goals as goal

pub returns : goal.returns
returns c = IfOk-weaker c.text.result _ _
    (λ told tells. told_source c.args.number c.args.source c.args.offset c.min-offset.result (string_bytes told)
    c.new-finding.result c.find.new.finding c.new-finding.ensures.place.0 c.new-finding.ensures.bare
    c.in_ok-find.ensures (first_of (omega arith, cc, search rules)) tells) c.text.ensures.marks
