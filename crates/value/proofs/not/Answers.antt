-- The ones of the width, less the number, flip each of its bits.
use Rattle.std.proofs.Common.{◌≡◌, ◌-◌, ◌^◌, arith, ap, ◌∙◌}
use Rattle.std.specs.Int.{bit_at}
use Rattle.value.proofs.Numbers.{bit_at-flipped}
use Rattle.value.proofs.not.Goals as goal

pub returns-clause-flipped : goal.returns-clause-flipped
returns-clause-flipped c =
    let mask : c.ones.result ≡ 2 ^ c.a.inside.width - 1 = omega arith in
    rw (← c.a.view_is)
    (λ i within.
    ap (λ k. bit_at (k - c.a.inside.bits) i) mask
    ∙ bit_at-flipped c.a.inside.width c.a.inside.bits i c.a.invariant.1 within)
