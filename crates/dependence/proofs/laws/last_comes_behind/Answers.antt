use Rattle.dependence.proofs.public.RunOrder.{last-comes-behind}
use Rattle.dependence.proofs.laws.last_comes_behind.Goals as goal

pub returns : goal.returns
returns c = last-comes-behind
