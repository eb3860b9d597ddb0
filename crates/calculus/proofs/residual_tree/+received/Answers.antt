use Rattle.std.proofs.Common.{◌≡◌, rules, arith, map, sym, ap, ◌∙◌, None}
use Rattle.std.proofs.lemmas.Grind.{common_steps}
use Rattle.std.proofs.lemmas.Result.{IfOk-weaker}
use Rattle.system.specs.Residual.{put_residual, put_arms}
use Rattle.system.specs.Translation.{arms_of}
use Rattle.calculus.specs.ResidualTree.{residual_of_tree}
use Rattle.calculus.proofs.Arms.{put_arms_of}
use Rattle.calculus.proofs.Passing.{next_fits, rest_fits, passes_inside, passes_beside, inside_goes_on, beside_goes_on, ends}
use Rattle.calculus.proofs.residual_tree.+received.Goals as goal

pub with_received-passing-preserved-in-Inside : goal.with_received-passing-preserved-in-Inside
with_received-passing-preserved-in-Inside t c = (
  next_fits _ _ _ _ _ _ c.in-Inside.is c.get-left.ensures c.passing.invariant.0,
  passes_inside _ _ _ _ _ _ _ _ _ _ _ _ c.in-Inside.is c.get-left.ensures c.get.ensures c.in_ok-child-in-Inside.ensures
      c.in_ok-push-in-Inside.ensures.ok c.passing.invariant.1,
)

pub with_received-passing-preserved : goal.with_received-passing-preserved
with_received-passing-preserved t c = (
  rest_fits _ _ _ _ _ _ c.in-Beside.is c.get-left-in-Beside.ensures c.passing.invariant.0,
  passes_beside _ _ _ _ _ _ _ _ _ _ _ _ c.in-Beside.is c.get-left-in-Beside.ensures c.get-in-Beside.ensures c.in_ok-child-in-Beside.ensures
      c.in_ok-push-in-Beside.ensures.ok c.passing.invariant.1,
)

pub with_received-last_with_received-requires : goal.with_received-last_with_received-requires
with_received-last_with_received-requires t c =
    (first_of (search rules, omega arith, grind (arith, common_steps)), ends _ c.in_default.not-Inside c.in_default.not-Beside)

pub last_with_received-unreachable-requires : goal.last_with_received-unreachable-requires
last_with_received-unreachable-requires t c = inside_goes_on _ _ _ _ c.in-Inside.is c.requires

pub last_with_received-unreachable-requires-in-Beside : goal.last_with_received-unreachable-requires-in-Beside
last_with_received-unreachable-requires-in-Beside t c = beside_goes_on _ _ _ _ c.in-Beside.is c.requires

pub all_with_received-returns : goal.all_with_received-returns
all_with_received-returns t c =
    let e : map residual_of_tree c.loop-arm.copies ≡ map (put_residual c.args.channel c.args.value) (map residual_of_tree c.args.arms.now) =
    first_of (search rules, grind (arith, common_steps)) in
    IfOk-weaker c.new.result (λ made. made ≡ c.loop-arm.copies)
    (λ made. arms_of (map residual_of_tree made) None ≡ put_arms c.args.channel c.args.value (arms_of (map residual_of_tree c.args.arms.now) None))
    (λ made h. ap (λ xs. arms_of (map residual_of_tree xs) None) h
    ∙ ap (λ rs. arms_of rs None) e ∙ sym (put_arms_of c.args.channel c.args.value (map residual_of_tree c.args.arms.now)))
    c.new.ensures
