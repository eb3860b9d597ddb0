use Rattle.std.proofs.Common.{◌≡◌, map, take}
use Rattle.std.specs.List.{flat_map}
use Rattle.picture_data.specs.Spots.{channel_at, want_of}
use Rattle.picture_data.proofs.places.channels_at.Given as goal

abbrev pub invariant-loop-event : goal.invariant-loop-event
invariant-loop-event l = map want_of l.wanted.items ≡ flat_map (channel_at l.place) (take l.event-index l.events)
