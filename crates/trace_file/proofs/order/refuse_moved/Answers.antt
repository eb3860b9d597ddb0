use Rattle.std.proofs.Common.{ℕ, List, ◌+◌, refl, sym, subst}
use Rattle.trace_file.specs.Canonical.{StandAt}
use Rattle.trace_file.proofs.OrderLemmas.{all-home, one-moved}
use Rattle.trace_file.proofs.order.refuse_moved.Goals as goal

pub returns-in-Some : goal.returns-in-Some
returns-in-Some c =
    let order = c.in_ok-order.ensures in
    one-moved c.args.live.now.live c.as_slice.result.now c.in-Some.index (c.in-Some.index + 2)
    (order.0, order.1, subst (λ (p : List ℕ). StandAt c.args.live.now.live p order.0) (sym c.as_slice.ensures.value) order.2)
    c.requires.runs c.requires.lines c.in-Some.ensures refl

pub returns : goal.returns
returns c =
    let order = c.in_ok-order.ensures in
    all-home c.args.live.now.live c.as_slice.result.now
    (order.0, order.1, subst (λ (p : List ℕ). StandAt c.args.live.now.live p order.0) (sym c.as_slice.ensures.value) order.2)
    c.in-None.ensures
