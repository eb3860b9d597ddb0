use Rattle.std.proofs.Common.{◌≡◌, rules, arith, None, refl}
use Rattle.std.proofs.lemmas.Grind.{common_steps}
use Rattle.runs.specs.internal.Below.{below_branch}
use Rattle.calculus.proofs.Passing.{rest_fits, passes_branch}
use Rattle.calculus.proofs.TreeAnswers.{inside_answers, branch_answers}
use Rattle.calculus.proofs.offers.+after.Goals as goal

pub after-passing-preserved : goal.after-passing-preserved
after-passing-preserved t c =
    let elsewhere : below_branch c.in-Beside.number c.args.place.now ≡ None = first_of (search rules, grind (arith, common_steps)) in (
      rest_fits _ _ _ _ _ _ c.in-Beside.is c.get-left.ensures c.passing.invariant.0,
      passes_branch _ _ _ _ _ _ _ _ _ _ _ c.in-Beside.is c.get-left.ensures c.in_ok-clone-in-Beside.ensures.cases c.in_ok-push-in-Beside.ensures.ok elsewhere c.passing.invariant.1,
    )

pub last_after-returns-in_ok-answer-in-Some : goal.last_after-returns-in_ok-answer-in-Some
last_after-returns-in_ok-answer-in-Some t c =
    inside_answers _ _ _ _ _ _ _ _ _ _ _ c.in-Inside.is c.get.ensures refl c.in-Some.ensures
    c.in_ok-answer-in-Some.ensures c.inside.ensures

pub last_after-returns-in_ok-answer-in-Some-below_branch : goal.last_after-returns-in_ok-answer-in-Some-below_branch
last_after-returns-in_ok-answer-in-Some-below_branch t c =
    branch_answers _ _ _ _ _ _ _ _ _ _ _ c.in-Beside.is c.get-in-Some-below_branch.ensures refl
    c.in-Some-below_branch.ensures c.in_ok-answer-in-Some-below_branch.ensures c.in_branch.ensures
