use Rattle.std.proofs.Common.{◌≡◌, drop}
use Rattle.picture_data.specs.Spots.{is_met}
use Rattle.picture_data.proofs.places.is_met.Given as goal

abbrev pub invariant-loop-event : goal.invariant-loop-event
invariant-loop-event l = is_met l.place l.events ≡ is_met l.place (drop l.event-index l.events)
