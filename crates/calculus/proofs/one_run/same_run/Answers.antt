use Rattle.std.proofs.Common.{sym, ◌∙◌, true≢false}
use Rattle.calculus.specs.ResidualTree.{state_of}
use Rattle.calculus.proofs.OneRunLaws.{acts-once, both-respect, one-run-depends-alike, one-alike, one-state-of, ran}
use Rattle.calculus.proofs.one_run.same_run.Goals as goal

pub are_alike-requires-clause-first : goal.are_alike-requires-clause-first
are_alike-requires-clause-first c =
    let first = c.in_ok-does_run.ensures.0 c.if-not-branch.false in
    acts-once c.args.system.now c.args.a.now first.0 first.1

pub are_alike-requires-clause-second : goal.are_alike-requires-clause-second
are_alike-requires-clause-second c =
    acts-once c.args.system.now c.args.b.now (state_of c.in-Some.state)
    (ran c.args.system.now c.args.b.now c.in_ok-state.field-0 c.in-Some.state c.in-Some.is c.in_ok-state.ensures.run)

pub returns-then-branch-clause-one : goal.returns-then-branch-clause-one
returns-then-branch-clause-one c =
    one-state-of c.args.system.now c.args.a.now c.args.b.now (state_of c.in-Some.state) c.shares_well.ensures (c.in_ok-does_run.ensures.0 c.if-not-branch.false)
    (ran c.args.system.now c.args.b.now c.in_ok-state.field-0 c.in-Some.state c.in-Some.is c.in_ok-state.ensures.run)
    (c.in_ok-are_alike.ensures.0 c.if-branch.true)

pub returns-then-branch-clause-orders : goal.returns-then-branch-clause-orders
returns-then-branch-clause-orders c =
    let one = returns-then-branch-clause-one c in
    both-respect c.args.system.now c.args.a.now c.args.b.now c.shares_well.ensures one.0

pub returns-then-branch-clause-dependents : goal.returns-then-branch-clause-dependents
returns-then-branch-clause-dependents c = λ e f.
    let one = returns-then-branch-clause-one c in
    one-run-depends-alike c.args.system.now c.args.a.now c.args.b.now e f c.shares_well.ensures one.0

pub returns-else-branch-clause-one : goal.returns-else-branch-clause-one
returns-else-branch-clause-one c = λ one.
    let alike = one-alike c.args.system.now c.args.a.now c.args.b.now c.shares_well.ensures one in
    true≢false (sym (c.in_ok-are_alike.ensures.1 alike) ∙ c.if-branch.false)
