use Rattle.std.proofs.Common.{ap}
use Rattle.findings.specs.declared.finding.Finding.{Finding}
use Rattle.diagnosis.proofs.Marked.{always, between}
use Rattle.diagnosis.proofs.sharing.find_variable.Goals as goal

pub returns : goal.returns
returns c =
    always c.advise.result _
    (between c.args.source.now c.args.finding.now c.say.new.self c.mark_clash.new.finding c.advise.new.self
    (ap (λ (z : Finding). z.start) c.say.ensures) (ap (λ (z : Finding). z.beside.items) c.say.ensures)
    (ap (λ (z : Finding). z.beside.items) c.advise.ensures) c.in_ok-mark_clash.ensures)
