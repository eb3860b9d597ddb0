use Rattle.std.proofs.Common.{◌≡◌, ◌∙◌, ℕ, Option, Some, sym, ap, subst}
use Rattle.std.specs.Prelude.{slice_get}
use Rattle.slots.specs.Places.{filled}
use Rattle.dependence.specs.declared.kept.Kept.{Kept}
use Rattle.dependence.specs.internal.Listed.{Listed, events_kept, links_kept}
use Rattle.dependence.proofs.ListedLaws.{stands-at, links-stand}
use Rattle.dependence.proofs.live_list.LiveList.kept_at.Goals as goal

pub returns-clause-event : goal.returns-clause-event
returns-clause-event c =
    let w = c.in-Some-default-Some in
    let place = c.place_at-place.result in
    let at = sym w.ensures.entry ∙ ap (λ (o : Option Kept). Some (w.ticket.now, o)) w.field-0-1-is in
    subst (λ (s : Listed). slice_get s.live c.args.index ≡ Some (w.ticket.now, w.kept.event)) c.self.view_is
    (ap (slice_get (events_kept (filled c.self.inside.slots.entries))) (sym c.place_at-place.ensures.before) ∙ stands-at c.self.inside.slots.entries w.ticket.now place w.kept at)

pub returns-clause-links : goal.returns-clause-links
returns-clause-links c =
    let w = c.in-Some-default-Some in
    let place = c.place_at-place.result in
    let at = sym w.ensures.entry ∙ ap (λ (o : Option Kept). Some (w.ticket.now, o)) w.field-0-1-is in
    subst (λ (s : Listed). slice_get s.links c.args.index ≡ Some w.kept.links) c.self.view_is
    (ap (slice_get (links_kept (filled c.self.inside.slots.entries))) (sym c.place_at-place.ensures.before) ∙ links-stand c.self.inside.slots.entries w.ticket.now place w.kept at)
