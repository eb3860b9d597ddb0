use Rattle.calculus.proofs.Lefts.{arms_and_last}
use Rattle.calculus.proofs.translate.+tree_of.Goals as goal

pub with_last-returns-in_ok-push-in-Some : goal.with_last-returns-in_ok-push-in-Some
with_last-returns-in_ok-push-in-Some t c =
    arms_and_last _ _ _ _ _ c.in-Some.is c.in_ok-tree_of-in-Some.ensures c.in_ok-push-in-Some.ensures.ok
