use Rattle.std.proofs.lemmas.Result.{IfOk-equal}
use Rattle.std.proofs.Common.{◌∙◌}
use Rattle.calculus.proofs.Passing.{rest_fits}
use Rattle.calculus.proofs.Walking.{inside_offers, beside_offers}
use Rattle.calculus.proofs.walk.+add_offers.Goals as goal

pub returns-in-Inside : goal.returns-in-Inside
returns-in-Inside t c =
    IfOk-equal _ _ _ _ c.add_offers.ensures
    (inside_offers _ _ _ _ _ _ _ _ _ c.in-Inside.is c.get.ensures c.in_ok-inner-in-Inside.ensures ∙ c.passing.invariant.1)

pub passing-preserved : goal.passing-preserved
passing-preserved t c = (
  rest_fits _ _ _ _ _ _ c.in-Beside.is c.get-left.ensures c.passing.invariant.0,
  beside_offers _ _ _ _ _ _ _ _ _ _ _ c.in-Beside.is c.get-in-Beside.ensures c.get-left.ensures c.in_ok-inner-in-Beside.ensures
      c.in_ok-add_offers-in-Beside.ensures ∙ c.passing.invariant.1,
)

pub passing-preserved-in_ok-add_offers-in-Beside : goal.passing-preserved-in_ok-add_offers-in-Beside
passing-preserved-in_ok-add_offers-in-Beside t c = (
  rest_fits _ _ _ _ _ _ c.in-Beside.is c.get-left.ensures c.passing.invariant.0,
  beside_offers _ _ _ _ _ _ _ _ _ _ _ c.in-Beside.is c.get-in-Beside.ensures c.get-left.ensures c.in_ok-inner-in-Beside.ensures
      c.in_ok-add_offers-in-Beside.ensures ∙ c.passing.invariant.1,
)
