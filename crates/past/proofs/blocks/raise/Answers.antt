use Rattle.std.proofs.Common.{◌≡◌, ◌<◌, ℕ, get_or, length, rules, length-set, subst, List, Some, arith}
use Rattle.std.specs.Prelude.{slice_get}
use Rattle.syntax.specs.Lists.{In}
use Rattle.dependence.proofs.public.ListPlaces.{in-read, take-all}
use Rattle.past.proofs.BlockLaws.{raised-next, raised-other}
use Rattle.past.proofs.blocks.raise.Goals as goal

pub offset_bounds-lasts-place : goal.offset_bounds-lasts-place
offset_bounds-lasts-place c =
    let inside : get_or c.args.places.now c.loop-place.place-index 0 < length c.args.lasts.now =
    c.requires _ (in-read c.args.places.now c.loop-place.place-index c.loop-place-test.true) in
    let size = c.loop-place.invariant.size in
    let within : get_or c.args.places.now c.loop-place.place-index 0 < length c.loop-place.lasts = omega arith in
    search rules

pub bounds-lasts-place : goal.bounds-lasts-place
bounds-lasts-place c =
    let inside : get_or c.args.places.now c.loop-place.place-index 0 < length c.args.lasts.now =
    c.requires _ (in-read c.args.places.now c.loop-place.place-index c.loop-place-test.true) in
    let size = c.loop-place.invariant.size in
    omega arith

pub loop-place-preserved : goal.loop-place-preserved
loop-place-preserved c =
    let at : ℕ = get_or c.args.places.now c.loop-place.place-index 0 in
    let inside : at < length c.args.lasts.now = c.requires at (in-read c.args.places.now c.loop-place.place-index c.loop-place-test.true) in
    let size = c.loop-place.invariant.size in
    let within : at < length c.loop-place.lasts = omega arith in
    record {
      size = omega (arith, length-set {A = ℕ});
      raised = raised-next c.args.lasts.now c.loop-place.lasts c.args.places.now c.args.bound c.loop-place.place-index c.loop-place-test.true within
          c.loop-place.invariant.raised;
      other = raised-other c.args.lasts.now c.loop-place.lasts c.args.bound at within c.loop-place.invariant.other;
    }

pub returns-clause-raised : goal.returns-clause-raised
returns-clause-raised c =
    subst (λ (k : List ℕ). (p : ℕ) → In p k → slice_get c.loop-place.lasts p ≡ Some c.args.bound)
    (take-all c.args.places.now c.loop-place.place-index c.loop-place-test.false) c.loop-place.invariant.raised
