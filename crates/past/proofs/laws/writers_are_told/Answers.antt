use Rattle.past.proofs.Writers.{writers-told}
use Rattle.past.proofs.laws.writers_are_told.Goals as goal

pub returns : goal.returns
returns c = writers-told
