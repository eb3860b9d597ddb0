-- A difference that wraps at 64 bits, cut to the wider width, wraps at that width.
use Rattle.std.proofs.Common.{◌≡◌, ◌+◌, ◌-◌, ◌%◌, ◌^◌, ◌≤◌, max, ap, ◌∙◌, sym, arith, subst}
use Rattle.value.specs.Word.{IsWord}
use Rattle.value.proofs.Numbers.{below_max_left, below_max_right, and-ones, difference_cut}
use Rattle.value.proofs.Words.{bits-difference_of, bits-difference_of_within, bits-difference_of_wrapped}
use Rattle.value.proofs.sub.Goals as goal

pub returns-clause-value : goal.returns-clause-value
returns-clause-value c =
    let w = max c.a.inside.width c.b.inside.width in
    let ones_is : c.ones.result + 1 ≡ 2 ^ w = rw (← c.max-width.ensures) c.ones.ensures in
    let within : w ≤ 64 = omega arith in
    let cut = and-ones ((c.a.inside.bits + (18446744073709551616 - c.b.inside.bits)) % 18446744073709551616) c.ones.result w ones_is in
    let wraps = difference_cut c.a.inside.bits c.b.inside.bits w
    (below_max_left c.a.inside.bits c.a.inside.width c.b.inside.width c.a.invariant.1)
    (below_max_right c.b.inside.bits c.a.inside.width c.b.inside.width c.b.invariant.1) within in
    rw (← c.a.view_is, ← c.b.view_is, c.max-width.ensures)
    (ap (λ k. record { bits = k; width = w })
    (cut ∙ wraps ∙ sym (bits-difference_of _ _ c.a.invariant c.b.invariant)))

pub returns-clause-exact : goal.returns-clause-exact
returns-clause-exact c = λ within.
    ap (λ v. v.bits) (returns-clause-value c)
    ∙ bits-difference_of_within c.args.a c.args.b (subst IsWord c.a.view_is c.a.invariant) (subst IsWord c.b.view_is c.b.invariant) within

pub returns-clause-wrapped : goal.returns-clause-wrapped
returns-clause-wrapped c = λ below.
    ap (λ v. v.bits + c.args.b.bits) (returns-clause-value c)
    ∙ bits-difference_of_wrapped c.args.a c.args.b (subst IsWord c.a.view_is c.a.invariant) (subst IsWord c.b.view_is c.b.invariant) below
