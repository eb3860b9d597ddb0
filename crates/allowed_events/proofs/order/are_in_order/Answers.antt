use Rattle.std.proofs.Common.{◌≡◌, ℕ, zero, suc, ◌-◌, ◌<◌, ◌≤◌, List, length, drop, Some, sym, ◌∙◌, subst, arith}
use Rattle.std.specs.Prelude.{slice_get}
use Rattle.runs.specs.InOrder.{InOrder}
use Rattle.runs.specs.Ready.{Sooner}
use Rattle.runs.specs.declared.event.Event.{Event}
use Rattle.allowed_events.proofs.Entries.{item-at}
use Rattle.allowed_events.proofs.Sooner.{few-in-order, order-more}
use Rattle.allowed_events.proofs.order.are_in_order.Goals as goal

pub loop-index-init : goal.loop-index-init
loop-index-init c =
    let es : List Event = c.args.events.now in
    let few : length es ≤ suc (length es - 1) = omega arith in
    record { within = omega arith; behind = few-in-order es (length es - 1) few }

pub loop-index-preserved : goal.loop-index-preserved
loop-index-preserved c =
    let es : List Event = c.args.events.now in
    let before : ℕ = c.loop-index.index - 1 - 1 in
    let e : Event = c.index-events-index.result in
    let f : Event = c.index-events-index-in-loop-index.result in
    let within : c.loop-index.index ≤ length es = c.loop-index.invariant.within in
    let some = c.loop-index-test.true in
    let next : c.loop-index.index - 1 ≡ suc before = omega arith in
    let first : before < length es = omega arith in
    let second : c.loop-index.index - 1 < length es = omega arith in
    record {
      within = omega arith;
      behind = order-more es e f before (item-at es before e first c.index-events-index.is)
          (subst (λ (k : ℕ). slice_get es k ≡ Some f) next (item-at es (c.loop-index.index - 1) f second c.index-events-index-in-loop-index.is))
          (sym c.is_sooner.ensures ∙ c.if-not-is_sooner.false)
          (subst (λ (k : ℕ). InOrder Sooner (drop k es)) next c.loop-index.invariant.behind);
    }

pub returns : goal.returns
returns c = λ _.
    let few = c.loop-index-test.false in
    let none : c.loop-index.index - 1 ≡ zero = omega arith in
    subst (λ (k : ℕ). InOrder Sooner (drop k c.args.events.now)) none c.loop-index.invariant.behind
