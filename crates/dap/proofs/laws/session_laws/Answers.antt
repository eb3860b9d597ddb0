use Rattle.dap.proofs.Lawful.{session-is-led, session-sees}
use Rattle.dap.proofs.laws.session_laws.Goals as goal

pub returns-clause-led : goal.returns-clause-led
returns-clause-led g c = session-is-led (g.F.Sources.reads c.args.files.now)

pub returns-clause-sees : goal.returns-clause-sees
returns-clause-sees g c = session-sees (g.F.Sources.reads c.args.files.now)
