-- Where no two uses clash, the rule on variables is kept.
use Rattle.sharing_check.proofs.NoClash.{clash_free}
use Rattle.sharing_check.proofs.laws.clash_free_keeps_the_rule.Goals as goal

pub returns : goal.returns
returns c = clash_free
