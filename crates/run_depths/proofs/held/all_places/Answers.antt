use Rattle.std.proofs.Common.{ℕ, ◌+◌, ◌∙◌, List, length, ap, arith, refl, subst, sym}
use Rattle.std.proofs.lemmas.List.{length_push}
use Rattle.runs.specs.Live.{Live}
use Rattle.dependence.proofs.public.Turns.{turn, turn-within, ended}
use Rattle.run_depths.specs.internal.Held.{AllHeld}
use Rattle.run_depths.specs.declared.held.HeldPlace.{HeldPlace}
use Rattle.run_depths.proofs.HeldLaws.{held-more, held-none}
use Rattle.run_depths.proofs.held.all_places.Goals as goal

pub loop-index-init : goal.loop-index-init
loop-index-init c = record {
  counted = refl;
  held = subst (λ (ps : List HeldPlace). AllHeld c.args.live.now.live c.args.depths.now 0 ps) (sym c.in_ok-places.ensures.items)
      (held-none c.args.live.now.live c.args.depths.now);
}

pub depth_after-requires-clause-inside : goal.depth_after-requires-clause-inside
depth_after-requires-clause-inside c =
    let within =
    turn-within _ _ _ _ c.loop-index.yielded _ _ c.iter-event-items.ensures.events c.loop-index.invariant.counted c.loop-index.yielded_by
    c.in-Some.ensures.steps in
    let size = c.requires.depths.size in
    omega arith

pub overflow_step-index : goal.overflow_step-index
overflow_step-index c =
    let within =
    turn-within _ _ _ _ c.loop-index.yielded _ _ c.iter-event-items.ensures.events c.loop-index.invariant.counted c.loop-index.yielded_by
    c.in-Some.ensures.steps in
    let same = ap (λ (l : Live). length l) c.iter-event-items.ensures.events in
    let fits = c.iter-event-items.ensures.fits in
    omega arith

pub loop-index-preserved : goal.loop-index-preserved
loop-index-preserved c =
    let at =
    turn _ _ _ _ c.loop-index.yielded _ _ c.iter-event-items.ensures.events c.loop-index.invariant.counted c.loop-index.yielded_by c.in-Some.ensures.steps in
    record {
      counted = ap (λ n. n + 1) c.loop-index.invariant.counted ∙ sym (length_push c.loop-index.yielded _);
      held = held-more c.args.live.now.live c.args.depths.now c.loop-index.index _ c.depth_after.result _ c.loop-index.places.items
          c.add_places.new.places.items at c.depth_after.ensures.depth c.loop-index.invariant.held c.in_ok-add_places.ensures;
    }

pub returns : goal.returns
returns c =
    subst (λ (n : ℕ). AllHeld c.args.live.now.live c.args.depths.now n c.loop-index.places.items)
    (c.loop-index.invariant.counted
    ∙ ended _ _ _ c.loop-index.yielded c.iter-event-items.ensures.events c.loop-index.yielded_by c.in-None.ensures.steps.0)
    c.loop-index.invariant.held
