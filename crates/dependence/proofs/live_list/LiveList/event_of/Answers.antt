use Rattle.std.proofs.Common.{◌∙◌, sym, subst}
use Rattle.slots.specs.Places.{filled, rank}
use Rattle.runs.specs.Live.{LiveAt}
use Rattle.runs.specs.declared.event.Event.{Event}
use Rattle.dependence.specs.internal.Listed.{Listed, events_kept}
use Rattle.dependence.proofs.public.ListPlaces.{in-at}
use Rattle.dependence.proofs.ListedLaws.{stands-at}
use Rattle.dependence.proofs.live_list.LiveList.event_of.Goals as goal

pub returns : goal.returns
returns c =
    let at = c.kept_of-kept.ensures in
    subst (λ (s : Listed). LiveAt s.live c.args.ticket c.get.result.now) c.self.view_is
    (subst (λ (e : Event). LiveAt (events_kept (filled c.self.inside.slots.entries)) c.args.ticket e) (sym c.get.ensures)
    (in-at (events_kept (filled c.self.inside.slots.entries)) (rank c.self.inside.slots.entries at.0) _ (stands-at c.self.inside.slots.entries c.args.ticket at.0 c.kept_of-kept.result.now at.1)))
