-- The true sum fits one bit more than the wider operand, so to take it modulo that power changes nothing.
use Rattle.std.proofs.Common.{◌≡◌, ◌+◌, max, ap, sym, arith}
use Rattle.std.proofs.Math.Nat.{mod-eq_of_lt}
use Rattle.value.proofs.Numbers.{sum_fits}
use Rattle.value.proofs.add.Goals as goal

pub invariant_of-result : goal.invariant_of-result
invariant_of-result c =
    let left : c.a.inside.width ≡ c.args.a.width = ap (λ v. v.width) c.a.view_is in
    let right : c.b.inside.width ≡ c.args.b.width = ap (λ v. v.width) c.b.view_is in
    ((omega arith, omega arith), rw c.max.ensures (sum_fits _ _ _ _ c.a.invariant.1 c.b.invariant.1))

pub returns-clause-value : goal.returns-clause-value
returns-clause-value c =
    rw (← c.a.view_is, ← c.b.view_is, c.max.ensures)
    (ap (λ k. record { bits = k; width = max c.a.inside.width c.b.inside.width + 1 })
    (sym (mod-eq_of_lt (sum_fits _ _ _ _ c.a.invariant.1 c.b.invariant.1))))
