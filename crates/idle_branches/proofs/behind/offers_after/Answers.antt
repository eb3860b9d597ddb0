use Rattle.std.proofs.Common.{List, [], ◌∷◌, ◌++◌, sym, subst}
use Rattle.address.specs.declared.Entry.TheVariants.{Ordered}
use Rattle.local_actions.specs.View.{state_of}
use Rattle.local_actions.specs.declared.action.LocalAction.{LocalAction}
use Rattle.idle_branches.specs.Idle.{HasBehind}
use Rattle.idle_branches.proofs.BehindLemmas.{all-ends, beside-ends, next-ends, none-ends}
use Rattle.idle_branches.proofs.behind.offers_after.Goals as goal

pub returns-then-not-is_empty : goal.returns-then-not-is_empty
returns-then-not-is_empty c = λ tidy formed.
    next-ends (state_of c.args.tree.now c.args.store.now) c.args.parent.now c.args.number c.in_ok-next.next c.is_empty.result
    c.is_empty.ensures c.if-not-is_empty.true (c.in_ok-next.ensures tidy) formed

pub returns-then-branch : goal.returns-then-branch
returns-then-branch c = λ tidy formed.
    let S = state_of c.args.tree.now c.args.store.now in
    subst (λ (found : List LocalAction). HasBehind S (c.args.parent.now ++ Ordered c.args.number ∷ []) found) (sym c.new.ensures)
    (beside-ends S c.args.parent.now c.args.number c.in_ok-is_beside_at_work.field-0 (c.in_ok-is_beside_at_work.ensures tidy)
    c.if-branch.true formed)

pub returns-then-is_empty : goal.returns-then-is_empty
returns-then-is_empty c = λ tidy formed.
    none-ends (state_of c.args.tree.now c.args.store.now) c.args.parent.now c.args.number c.in_ok-all.all c.is_empty-2.result
    c.is_empty-2.ensures c.if-is_empty.true (c.in_ok-all.ensures tidy) formed

pub returns : goal.returns
returns c = λ tidy formed.
    all-ends (state_of c.args.tree.now c.args.store.now) c.args.parent.now c.args.number c.in_ok-all.all c.is_empty-2.result
    c.is_empty-2.ensures c.if-is_empty.false (c.in_ok-all.ensures tidy) formed
