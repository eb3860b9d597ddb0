-- A system that was not refused keeps the rule.
use Rattle.std.proofs.Common.{sym, subst}
use Rattle.sharing_rule.specs.Rule.{SharesWell}
use Rattle.sharing_check.proofs.checked.check_sharing.Goals as goal

pub invariant_of-result : goal.invariant_of-result
invariant_of-result c = subst SharesWell (sym c.in_ok-system.ensures.ok) c.in_ok-refuse.ensures.accepted.shares_well
