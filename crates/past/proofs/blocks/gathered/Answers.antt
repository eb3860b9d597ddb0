use Rattle.std.proofs.Common.{◌≡◌, ◌↔◌, ℕ, List, true, subst}
use Rattle.dependence.proofs.public.ListPlaces.{in-read, take-all}
use Rattle.past.specs.internal.Blocks.{AnyHas}
use Rattle.past.specs.internal.Lanes.{has}
use Rattle.past.proofs.BlockLaws.{any-none, any-next}
use Rattle.past.proofs.blocks.gathered.Goals as goal

pub loop-place-init : goal.loop-place-init
loop-place-init c = record {
  reached = λ k. any-none (λ m. m.reached) c.args.marks.now c.args.first k c.none-reached.result (c.none-reached.ensures k);
  behind = λ k. any-none (λ m. m.behind) c.args.marks.now c.args.first k c.none-behind.result (c.none-behind.ensures k);
}

pub mark_at-mark-requires : goal.mark_at-mark-requires
mark_at-mark-requires c = c.requires _ (in-read c.args.places.now c.loop-place.place-index c.loop-place-test.true)

pub loop-place-preserved : goal.loop-place-preserved
loop-place-preserved c = record {
  reached = any-next (λ m. m.reached) c.args.marks.now c.args.first c.args.places.now c.loop-place.place-index c.loop-place.reached c.mark_at-mark.result.reached
      c.both-reached.result c.loop-place-test.true c.both-reached.ensures c.mark_at-mark.ensures.reached c.loop-place.invariant.reached;
  behind = any-next (λ m. m.behind) c.args.marks.now c.args.first c.args.places.now c.loop-place.place-index c.loop-place.behind c.mark_at-mark.result.behind
      c.both-behind.result c.loop-place-test.true c.both-behind.ensures c.mark_at-mark.ensures.behind c.loop-place.invariant.behind;
}

pub returns-clause-reached : goal.returns-clause-reached
returns-clause-reached c =
    subst (λ (ps : List ℕ). (k : ℕ) → (has c.loop-place.reached k ≡ true) ↔ AnyHas (λ m. m.reached) c.args.marks.now c.args.first ps k)
    (take-all c.args.places.now c.loop-place.place-index c.loop-place-test.false) c.loop-place.invariant.reached

pub returns-clause-behind : goal.returns-clause-behind
returns-clause-behind c =
    subst (λ (ps : List ℕ). (k : ℕ) → (has c.loop-place.behind k ≡ true) ↔ AnyHas (λ m. m.behind) c.args.marks.now c.args.first ps k)
    (take-all c.args.places.now c.loop-place.place-index c.loop-place-test.false) c.loop-place.invariant.behind
