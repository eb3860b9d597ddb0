use Rattle.std.proofs.Common.{◌∙◌, refl, ℕ, length, sym, subst, take}
use Rattle.std.proofs.lemmas.List.{length_push}
use Rattle.runs.specs.Live.{events}
use Rattle.dependence.proofs.public.Turns.{turn, ended}
use Rattle.picture_data.specs.Shown.{EachStandsIn}
use Rattle.picture_data.proofs.EachStands.{all-stand, next-live-stands}
use Rattle.picture_data.proofs.actions.live_actions.Goals as goal

pub loop-event-preserved : goal.loop-event-preserved
loop-event-preserved c =
    let all = c.into_iter-event-iterator.ensures.into_iter_gives ∙ c.iter-event-items.ensures.events ∙ c.live_events-live.ensures.live in
    let at = turn _ _ _ _ c.loop-event.yielded _ _ all refl c.loop-event.yielded_by c.in-Some.ensures.steps in
    subst (λ (n : ℕ). EachStandsIn c.args.machine.now c.args.table.now (events (take n c.args.machine.now.live)) c.push.new.self.items)
    (sym (length_push c.loop-event.yielded _))
    (next-live-stands c.args.machine.now c.args.table.now c.args.machine.now.live (length c.loop-event.yielded) _ c.loop-event.actions.items
    c.push.new.self.items c.in_ok-actions_of.field-0 at c.loop-event.invariant c.in_ok-actions_of.ensures c.in_ok-push.ensures.items)

pub returns : goal.returns
returns c =
    let all = c.into_iter-event-iterator.ensures.into_iter_gives ∙ c.iter-event-items.ensures.events ∙ c.live_events-live.ensures.live in
    all-stand c.args.machine.now c.args.table.now c.args.machine.now.live (length c.loop-event.yielded) c.loop-event.actions.items
    (ended _ _ _ c.loop-event.yielded all c.loop-event.yielded_by c.in-None.ensures.steps.0) c.loop-event.invariant
