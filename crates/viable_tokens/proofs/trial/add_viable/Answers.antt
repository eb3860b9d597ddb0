use Rattle.std.proofs.lemmas.Bool.{MatchBool-at_false, MatchBool-at_true}
use Rattle.viable_tokens.proofs.Sifted.{viable_on, viable_past}
use Rattle.viable_tokens.proofs.trial.add_viable.Goals as goal

pub returns-then-not-branch-clause-viable : goal.returns-then-not-branch-clause-viable
returns-then-not-branch-clause-viable c =
    viable_past _ _ _ (MatchBool-at_false _ _ c.if-not-branch.true c.in_ok-can_stand.ensures.can)

pub returns-clause-viable : goal.returns-clause-viable
returns-clause-viable c =
    rw c.in_ok-push.ensures.items
    (viable_on _ _ _ (MatchBool-at_true _ _ c.if-not-branch.false c.in_ok-can_stand.ensures.can))
