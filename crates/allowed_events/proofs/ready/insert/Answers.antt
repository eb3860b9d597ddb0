use Rattle.std.proofs.Common.{List, sym, subst, arith}
use Rattle.runs.specs.InOrder.{InOrder}
use Rattle.runs.specs.Ready.{Sooner}
use Rattle.runs.specs.declared.event.Event.{Event}
use Rattle.allowed_events.proofs.Placed.{there-already, put-new}
use Rattle.allowed_events.proofs.ready.insert.Goals as goal

pub returns-then-is_there : goal.returns-then-is_there
returns-then-is_there c = λ order.
    there-already c.args.event c.args.sorted.now.items _ _ _ c.is_there.result c.as_slice.ensures.value c.as_slice-2.ensures.value
    (c.sooner_count-index.ensures.counted (subst (λ (k : List Event). InOrder Sooner k) (sym c.as_slice.ensures.value) order)) c.is_there.ensures.there c.if-is_there.true

pub insert-requires : goal.insert-requires
insert-requires c =
    let within = c.sooner_count-index.ensures.within in
    let len = c.as_slice.ensures.len in
    omega (arith, within, len)

pub returns : goal.returns
returns c = λ order.
    put-new c.args.event c.args.sorted.now.items _ _ _ _ c.is_there.result c.as_slice.ensures.value c.as_slice-2.ensures.value
    (c.sooner_count-index.ensures.counted (subst (λ (k : List Event). InOrder Sooner k) (sym c.as_slice.ensures.value) order)) c.is_there.ensures.elsewhere c.if-is_there.false c.in_ok-insert.ensures.items
