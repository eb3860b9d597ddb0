use Rattle.idle_branches.proofs.IdleLemmas.{gives-what-is-known}
use Rattle.idle_branches.proofs.laws.gives_what_is_known.Goals as goal

pub returns : goal.returns
returns c = gives-what-is-known
