use Rattle.std.proofs.Common.{ℕ, ◌+◌, ◌∙◌, List, length, ap, arith, refl, subst, sym}
use Rattle.std.proofs.lemmas.List.{length_push}
use Rattle.runs.specs.Live.{Live}
use Rattle.dependence.proofs.public.Turns.{turn, turn-within, ended}
use Rattle.run_depths.specs.internal.PlacesHeld.{SinceTo}
use Rattle.run_depths.proofs.SinceLaws.{holds-none, since-all, since-next, since-none}
use Rattle.run_depths.proofs.since.all_since.Goals as goal

pub loop-index-init : goal.loop-index-init
loop-index-init c = record {
  counted = refl;
  table = holds-none c.args.live.now.live c.new-table.result c.new-table.ensures;
  since = subst (λ (xs : List (ℕ × ℕ)). SinceTo c.args.live.now.live c.args.depths.now 0 xs) (sym c.in_ok-since.ensures.items)
      (since-none c.args.live.now.live c.args.depths.now);
}

pub event_since-requires-clause-stands : goal.event_since-requires-clause-stands
event_since-requires-clause-stands c =
    turn _ _ _ _ c.loop-index.yielded _ _ c.iter-ticket-items.ensures.events c.loop-index.invariant.counted c.loop-index.yielded_by c.in-Some.ensures.steps

pub overflow_step-index : goal.overflow_step-index
overflow_step-index c =
    let within =
    turn-within _ _ _ _ c.loop-index.yielded _ _ c.iter-ticket-items.ensures.events c.loop-index.invariant.counted c.loop-index.yielded_by
    c.in-Some.ensures.steps in
    let same = ap (λ (l : Live). length l) c.iter-ticket-items.ensures.events in
    let fits = c.iter-ticket-items.ensures.fits in
    omega arith

pub loop-index-preserved : goal.loop-index-preserved
loop-index-preserved c =
    let at =
    turn _ _ _ _ c.loop-index.yielded _ _ c.iter-ticket-items.ensures.events c.loop-index.invariant.counted c.loop-index.yielded_by c.in-Some.ensures.steps in
    record {
      counted = ap (λ n. n + 1) c.loop-index.invariant.counted ∙ sym (length_push c.loop-index.yielded _);
      table = c.in_ok-event_since.ensures.table;
      since = since-next c.args.live.now.live c.args.depths.now c.loop-index.index _ _ c.loop-index.since.items c.push.new.self.items
          c.in_ok-event_since.field-0 at c.loop-index.invariant.since c.in_ok-event_since.ensures.since c.in_ok-push.ensures.items;
    }

pub returns : goal.returns
returns c =
    since-all c.args.live.now.live c.args.depths.now c.loop-index.index c.loop-index.since.items
    (c.loop-index.invariant.counted
    ∙ ended _ _ _ c.loop-index.yielded c.iter-ticket-items.ensures.events c.loop-index.yielded_by c.in-None.ensures.steps.0)
    c.loop-index.invariant.since
