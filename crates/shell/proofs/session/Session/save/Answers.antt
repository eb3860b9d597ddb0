use Rattle.std.proofs.Common.{ap, ◌∙◌}
use Rattle.shell.proofs.LeavesLemmas.{saves-trace}
use Rattle.shell.proofs.session.Session.save.Goals as goal

pub returns-in-Ok : goal.returns-in-Ok
returns-in-Ok g c =
    saves-trace (g.H.Host.files c.args.host.now) c.args.self.now.bench c.machine.result.now c.args.rest.now c.in-Some.name.now
    c.in-Ok.trace.items c.as_slice.result.now c.args.over c.write_file.result.outcome
    (c.machine.ensures ∙ ap (λ d. d.machine) c.desk.ensures) c.in-Some.ensures c.in-Ok.ensures.text c.as_slice.ensures.value
    c.write_file.ensures
