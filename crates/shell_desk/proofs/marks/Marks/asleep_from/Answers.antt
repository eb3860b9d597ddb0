use Rattle.std.proofs.Common.{◌+◌, ◌<◌, ◌≤◌, List, ℕ, length, subst, arith}
use Rattle.shell_desk.specs.internal.Sleeping.{AllSleep, IsAsleep}
use Rattle.shell_desk.proofs.marks.Marks.asleep_from.Goals as goal

pub returns-then-self-from-clause-asleep : goal.returns-then-self-from-clause-asleep
returns-then-self-from-clause-asleep c i low high =
    let from : c.self.inside.end ≤ i = omega (arith, low, c.if-self-from.true) in
    let within : i < length c.self.inside.bytes.items =
    omega (arith, low, high, c.saturating_sub.ensures, c.len.ensures) in
    subst (λ (xs : List ℕ). IsAsleep xs i) c.self.view_is (c.self.invariant i from within)

pub invariant_of-self : goal.invariant_of-self
invariant_of-self c i low high =
    let within : i < c.args.branch + c.asleep_at-count.result =
    omega (arith, high, c.if-saturating_add-len.true, c.saturating_add.ensures, c.len-2.ensures) in
    subst (λ (xs : List ℕ). IsAsleep xs i) c.as_slice.ensures.value (c.asleep_at-count.ensures i low within)

pub returns-then-saturating_add-len-clause-asleep :
    goal.returns-then-saturating_add-len-clause-asleep
returns-then-saturating_add-len-clause-asleep c =
    subst (λ (xs : List ℕ). AllSleep xs c.args.branch (c.args.branch + c.asleep_at-count.result)) c.as_slice.ensures.value
    c.asleep_at-count.ensures

pub returns-else-saturating_add-len-clause-asleep :
    goal.returns-else-saturating_add-len-clause-asleep
returns-else-saturating_add-len-clause-asleep c =
    subst (λ (xs : List ℕ). AllSleep xs c.args.branch (c.args.branch + c.asleep_at-count.result)) c.self.view_is
    (subst (λ (xs : List ℕ). AllSleep xs c.args.branch (c.args.branch + c.asleep_at-count.result)) c.as_slice.ensures.value
    c.asleep_at-count.ensures)
