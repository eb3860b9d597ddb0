use Rattle.shell.proofs.LeavesLemmas.{writes-file}
use Rattle.shell.specs.declared.answer.Outcome.{Outcome}
use Rattle.shell.proofs.session.Session.save_script.Goals as goal

pub returns-in-Some-script : goal.returns-in-Some-script
returns-in-Some-script g c =
    writes-file (g.H.Host.files c.args.host.now) c.args.rest.now c.in-Some.name.now c.in-Some-script.bytes.now
    c.args.self.now.notes.script.items c.args.over Outcome.Scripted Outcome.NotScripted c.write_file.result.outcome c.in-Some.ensures
    c.in-Some-script.ensures c.write_file.ensures
