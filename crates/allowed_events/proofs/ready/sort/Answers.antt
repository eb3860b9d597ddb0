-- The events, one after another put in order.
use Rattle.syntax.specs.Lists.{In}
use Rattle.runs.specs.declared.event.Event.{Event}
use Rattle.allowed_events.proofs.Sooner.{sorting-start, sorting-step, sorting-stop, left-none}
use Rattle.allowed_events.proofs.ready.sort.Goals as goal

pub loop-event-init : goal.loop-event-init
loop-event-init c = λ S w allowed. sorting-start c.args.events _ _ _ c.into_vec-left.ensures c.reverse.ensures.permutation c.new-sorted.ensures.items

pub loop-event-preserved : goal.loop-event-preserved
loop-event-preserved c = λ S w allowed.
    let so_far = c.loop-event.invariant S w allowed in
    sorting-step S (λ (e : Event). In e c.args.events) c.loop-event.left.items c.pop.new.self.items c.loop-event.sorted.items c.insert.new.sorted.items c.in-Some.event w allowed
    so_far c.in-Some.ensures.items (c.in_ok-insert.ensures so_far.in_order)

pub returns : goal.returns
returns c = λ S w allowed.
    sorting-stop c.args.events c.loop-event.left.items c.loop-event.sorted.items _ (c.loop-event.invariant S w allowed)
    (left-none c.loop-event.left.items _ c.loop-event.left.ok.0 c.in_default.ensures.cases.0) c.from_vec.ensures
