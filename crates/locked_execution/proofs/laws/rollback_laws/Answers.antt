-- Going back.
use Rattle.locked_execution.proofs.public.BackLaws.{none-take-less, roll-takes-no-others, consequences-tell-roll, value-from-before, all-amount-to-back-and-forth}
use Rattle.locked_execution.proofs.laws.rollback_laws.Goals as goal

pub returns : goal.returns
returns c = record {
  least = none-take-less;
  rolls = roll-takes-no-others;
  told = consequences-tell-roll;
  value = value-from-before;
  amounts = all-amount-to-back-and-forth;
}
