use Rattle.shell.proofs.LawLemmas.{lines-are}
use Rattle.shell.proofs.laws.session_laws.Goals as goal

pub returns : goal.returns
returns g c = lines-are (g.H.Host.files c.args.host.now) c.desk_laws.ensures
