use Rattle.shell_desk.proofs.DeedLemmas.{each-deed}
use Rattle.shell_desk.proofs.laws.desk_laws.Goals as goal

pub returns : goal.returns
returns c = each-deed
