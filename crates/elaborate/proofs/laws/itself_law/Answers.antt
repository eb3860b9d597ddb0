-- A root without calls.
use Rattle.elaborate.proofs.RootLemmas.{without_calls}
use Rattle.elaborate.proofs.laws.itself_law.Goals as goal

pub returns : goal.returns
returns c = without_calls
