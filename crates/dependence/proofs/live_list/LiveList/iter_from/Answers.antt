use Rattle.std.proofs.Common.{◌∙◌, ◌≡◌, ℕ, drop, ap, subst}
use Rattle.slots.specs.Places.{Places, filled, rank}
use Rattle.dependence.specs.declared.kept.Kept.{Kept}
use Rattle.dependence.specs.internal.Listed.{Listed, events_kept}
use Rattle.dependence.specs.internal.Tables.{StandsAt}
use Rattle.dependence.proofs.ListedLaws.{stands-at, live-from-place}
use Rattle.dependence.proofs.live_list.LiveList.iter_from.Goals as goal

pub returns-clause-events : goal.returns-clause-events
returns-clause-events c =
    let es : Places Kept = c.self.inside.slots.entries in
    let place = c.place_of-place.result in
    let at = c.place_of-place.ensures in
    subst (λ (s : Listed). (i : ℕ) × StandsAt s.live c.args.ticket i × (c.of.result ≡ drop i s.live)) c.self.view_is (
      rank es place,
      (at.0.event, stands-at es c.args.ticket place at.0 at.1),
      c.of.ensures.events ∙ ap (λ (ps : Places Kept). events_kept (filled ps)) (c.split_at.ensures.back ∙ ap (drop place) c.as_slice.ensures.entries) ∙ live-from-place es place,
    )
