-- Who waits, with places and ring.
use Rattle.std.proofs.Common.{◌≡◌, ◌∙◌, ℕ, List, ap, subst}
use Rattle.runs.specs.Live.{Live}
use Rattle.runs.specs.declared.event.Event.{Event}
use Rattle.local_actions.specs.declared.action.LocalAction.{LocalAction}
use Rattle.machine.specs.AtMachine.{AtMachine}
use Rattle.waiting.specs.Told.{TellsWaits}
use Rattle.waiting.specs.declared.waiting.Waiting.{Waiting}
use Rattle.picture_lanes.specs.declared.lane.Lane.{Lane}
use Rattle.picture_lanes.specs.declared.walk.ChannelUse.{ChannelUse}
use Rattle.picture_data.specs.Lines.{line_of}
use Rattle.picture_data.specs.Shown.{ShowsWaits, seen_of}
use Rattle.picture_data.specs.Spots.{Deep, ready_spots, ring_of}
use Rattle.picture_data.specs.Wanted.{Seen}
use Rattle.picture_data.specs.declared.end.End.{End}
use Rattle.picture_data.specs.declared.places.Place.{Place as Shown}
use Rattle.picture_data.specs.internal.SpotsSoFar.{AddsSpots, SpotsOf}
use Rattle.picture_data.proofs.SpotLaws.{all-found, all-since, all-spots, ring-shown}

pub shows-waits : (m : AtMachine) (lanes : List Lane) (uses : List ChannelUse) (depths : List ℕ) (w : Waiting) (end : End) (old : List Shown) (found : List ℕ) →
    TellsWaits m w →
    SpotsOf (seen_of m lanes uses w end.ready) (record { live = m.live; depths = depths }) w.partners.items w.actions old found →
    AddsSpots (record { live = m.live; depths = depths }) old end.places.items (ready_spots (seen_of m lanes uses w end.ready) end.ready) →
    end.ring.items ≡ ring_of found w.ring.items → ShowsWaits m lanes uses depths end
shows-waits m lanes uses depths w end old found told spots adds ring =
    let seen = seen_of m lanes uses w end.ready in
    let deep : Deep = record { live = m.live; depths = depths } in
    record {
      waiting = w;
      told = told;
      places = all-spots seen deep w.partners.items w.actions old end.places.items found (ready_spots seen end.ready) spots adds;
      since = all-since seen deep w.partners.items w.actions old end.places.items found (ready_spots seen end.ready) spots adds;
      ring = (
        told.0,
        told.1,
        ring-shown m told.0 end.places.items found w.actions w.ring.items end.ring.items
            (all-found seen deep w.partners.items w.actions old end.places.items found (ready_spots seen end.ready) spots adds) told.2.ring ring,
      );
      ring_told = ring ∙ ap (λ (ks : List ℕ). ring_of ks w.ring.items) spots.found_is;
    }

-- the same where actions, events and live events are known as these
pub shows-waits-by : (m : AtMachine) (lanes : List Lane) (uses : List ChannelUse) (depths : List ℕ) (w : Waiting) (end : End) (old : List Shown)
    (found : List ℕ) (actions : List LocalAction) (ready : List Event) (live : Live) → actions ≡ w.actions → ready ≡ end.ready → live ≡ m.live →
    TellsWaits m w →
    SpotsOf (record { line = line_of m; around = record { lanes = lanes; uses = uses; actions = actions; ready = ready } }) (record { live = live; depths = depths })
    w.partners.items w.actions old found →
    AddsSpots (record { live = live; depths = depths }) old end.places.items
    (ready_spots (record { line = line_of m; around = record { lanes = lanes; uses = uses; actions = actions; ready = ready } }) end.ready) →
    end.ring.items ≡ ring_of found w.ring.items → ShowsWaits m lanes uses depths end
shows-waits-by m lanes uses depths w end old found actions ready live waits events runs told spots adds ring =
    let seen : List LocalAction → List Event → Seen =
    λ xs es. record { line = line_of m; around = record { lanes = lanes; uses = uses; actions = xs; ready = es } } in
    let deep : Live → Deep = λ l. record { live = l; depths = depths } in
    shows-waits m lanes uses depths w end old found told
    (subst (λ (l : Live). SpotsOf (seen w.actions end.ready) (deep l) w.partners.items w.actions old found) runs
    (subst (λ (es : List Event). SpotsOf (seen w.actions es) (deep live) w.partners.items w.actions old found) events
    (subst (λ (xs : List LocalAction). SpotsOf (seen xs ready) (deep live) w.partners.items w.actions old found) waits spots)))
    (subst (λ (l : Live). AddsSpots (deep l) old end.places.items (ready_spots (seen w.actions end.ready) end.ready)) runs
    (subst (λ (es : List Event). AddsSpots (deep live) old end.places.items (ready_spots (seen w.actions es) end.ready)) events
    (subst (λ (xs : List LocalAction). AddsSpots (deep live) old end.places.items (ready_spots (seen xs ready) end.ready)) waits adds)))
    ring
