use Rattle.shell.proofs.LeavesLemmas.{loaded-trace, not-loaded-trace}
use Rattle.shell.proofs.session.Session.load_trace.Goals as goal

pub returns-in-Ok : goal.returns-in-Ok
returns-in-Ok c =
    loaded-trace c.args.setting.now.texts.source.now c.args.setting.now.texts.stimulus.now c.args.trace.now c.args.self.now.bench
    c.turn_to.new.self.bench c.in-Ok.machine c.turn_to.result.outcome c.turn_to.ensures.outcome c.in-Ok.ensures
    c.turn_to.ensures.turned
