use Rattle.std.proofs.Common.{◌≡◌, ◌∙◌, ◌-◌, ℕ, List, Option, Some, sym, ap, length, subst}
use Rattle.std.specs.Prelude.{slice_get}
use Rattle.std.specs.List.{remove}
use Rattle.slots.specs.Places.{Places, filled, rank, Counted}
use Rattle.slots.proofs.public.PlaceLaws.{some-is}
use Rattle.dependence.specs.declared.kept.Kept.{Kept}
use Rattle.dependence.specs.internal.Listed.{Listed, events_kept, links_kept}
use Rattle.dependence.proofs.ListedLaws.{stands-at, links-stand, map-removed, count-less}
use Rattle.dependence.proofs.Edges.{take-whole}
use Rattle.dependence.proofs.live_list.LiveList.take.Goals as goal

pub invariant_of-self : goal.invariant_of-self
invariant_of-self c =
    let on = c.place_of-place.ensures in
    record {
      rising = c.settle.ensures.rising;
      counted = c.settle.ensures.counted;
      count = count-less c.self.inside.slots.entries c.self.inside.count c.place_of-place.result c.args.ticket on.0 _ on.1 c.self.invariant.count
          (c.settle.ensures.filled ∙ c.take_at-kept.ensures.filled);
      last = c.settle.ensures.last;
    }

pub returns : goal.returns
returns c =
    let es : Places Kept = c.self.inside.slots.entries in
    let place = c.place_of-place.result in
    let k : Kept = c.take_at-kept.result in
    let on = c.place_of-place.ensures in
    let item = c.take_at-kept.ensures.item in
    let at : slice_get es place ≡ Some (c.args.ticket, Some k) =
    on.1 ∙ ap (λ (q : Option Kept). Some (c.args.ticket, q)) (ap (λ (z : ℕ × Option Kept). z.1) (some-is (c.args.ticket, Some on.0) (item.0, Some k) (sym on.1 ∙ item.1))) in
    let index : ℕ = rank es place in
    let gone = c.settle.ensures.filled ∙ c.take_at-kept.ensures.filled in (
      index,
      record {
        stands = sym (ap (λ (s : Listed). slice_get s.live index) c.self.view_is) ∙ stands-at es c.args.ticket place k at;
        linked = sym (ap (λ (s : Listed). slice_get s.links index) c.self.view_is) ∙ links-stand es c.args.ticket place k at;
        live = ap events_kept gone ∙ map-removed (λ (x : ℕ × Kept). (x.0, x.1.event)) (filled es) index ∙ ap (λ (s : Listed). remove s.live index) c.self.view_is;
        links = ap links_kept gone ∙ map-removed (λ (x : ℕ × Kept). x.1.links) (filled es) index ∙ ap (λ (s : Listed). remove s.links index) c.self.view_is;
      },
    )

pub settle-requires-clause-counted : goal.settle-requires-clause-counted
settle-requires-clause-counted c =
    let counts : List ℕ = c.take_at-kept.new.counts in
    let size = c.take_at-kept.auto.counts ∙ ap length c.as_mut_slice.ensures.value in
    let whole = take-whole counts c.self.inside.counts.items c.self.inside.counts.len size (sym c.as_mut_slice.ensures.len ∙ ap length c.as_mut_slice.ensures.value) in
    subst (λ (cs : List ℕ). Counted c.take_at-kept.new.slots.entries cs) (sym whole) c.take_at-kept.ensures.counted
