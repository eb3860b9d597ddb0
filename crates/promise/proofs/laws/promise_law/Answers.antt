use Rattle.promise.proofs.Keeping.{promise-is-kept}
use Rattle.promise.proofs.laws.promise_law.Goals as goal

pub returns : goal.returns
returns c = promise-is-kept
