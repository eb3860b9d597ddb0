use Rattle.std.proofs.Common.{◌≡◌, ◌≤◌, rules, arith}
use Rattle.std.proofs.lemmas.Result.{IfOk-weaker}
use Rattle.diagnosis.proofs.InLine.{starts_at, told_in_line}
use Rattle.diagnosis.proofs.lines.text_in_line.Goals as goal

pub returns : goal.returns
returns c = IfOk-weaker c.text.result _ _
    (λ told tells. told_in_line c.args.input c.args.start c.args.stop (starts_at c.min-finding.result c.args.finding.now)
    _ tells (first_of (omega arith, cc, search rules)) (first_of (omega arith, cc, search rules)) c.requires.end
    c.requires.inside) c.text.ensures.marks
