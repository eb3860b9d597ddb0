use Rattle.std.proofs.Common.{◌∙◌, ℕ, List, ap, sym, subst}
use Rattle.runs.specs.Live.{Live}
use Rattle.runs.specs.declared.event.Event.{Event}
use Rattle.run_depths.specs.Depths.{AreDepths}
use Rattle.picture_data.specs.Lines.{line_of}
use Rattle.picture_data.specs.Shown.{EachStandsIn}
use Rattle.picture_data.specs.Spots.{Deep, ready_spots, ring_of}
use Rattle.picture_data.specs.Wanted.{Seen}
use Rattle.picture_data.specs.internal.SpotsSoFar.{AddsSpots}
use Rattle.picture_data.proofs.WaitLaws.{shows-waits-by}
use Rattle.picture_data.proofs.end.end_of.Goals as goal

pub held_places-requires-clause-depths : goal.held_places-requires-clause-depths
held_places-requires-clause-depths c =
    subst (λ (l : Live). AreDepths l c.args.depths.now) (sym c.live_events-live.ensures.live) c.requires.0

pub held_places-requires-clause-small : goal.held_places-requires-clause-small
held_places-requires-clause-small c = c.requires.1

pub returns : goal.returns
returns c =
    let told = c.in_ok-waiting.ensures in
    let deep : Deep = record { live = c.live_events-live.result.now.live; depths = c.args.depths.now } in
    let seen : Seen = record {
      line = line_of c.args.machine.now;
      around = record {
        lanes = c.args.table.now;
        uses = c.args.uses.now;
        actions = c.as_slice-actions.result.now;
        ready = c.as_slice-events.result.now;
      };
    } in
    record {
      ready = c.in_ok-ready.ensures;
      actions = subst (λ (es : List Event). EachStandsIn c.args.machine.now c.args.table.now es c.in_ok-ready_actions.ready_actions.items)
          c.as_slice-events.ensures c.in_ok-ready_actions.ensures;
      progress = (told.0, told.1, told.2.progress);
      lacks_input = (told.0, told.1, c.lacks_input.ensures.meant told.0 told.2);
      waits = shows-waits-by c.args.machine.now c.args.table.now c.args.uses.now c.args.depths.now c.in_ok-waiting.waiting _
          c.in_ok-shown.shown.places.items c.in_ok-shown.shown.place_of_action.items c.as_slice-actions.result.now c.as_slice-events.result.now
          c.live_events-live.result.now.live c.as_slice-actions.ensures c.as_slice-events.ensures c.live_events-live.ensures.live c.in_ok-waiting.ensures
          c.in_ok-shown.ensures
          (subst (λ (es : List Event). AddsSpots deep c.in_ok-shown.shown.places.items c.add_ready_places.new.places.items (ready_spots seen es))
          c.as_slice-events.ensures c.in_ok-add_ready_places.ensures)
          (c.in_ok-ring.ensures
          ∙ ap (λ (found : List ℕ). ring_of found c.as_slice-ring_sides.result.now) c.as_slice-place_of_action.ensures.value
          ∙ ap (λ (actions : List ℕ). ring_of c.in_ok-shown.shown.place_of_action.items actions) c.as_slice-ring_sides.ensures.value);
    }
