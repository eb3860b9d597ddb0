use Rattle.std.proofs.Common.{take}
use Rattle.picture_data.specs.internal.SpotsSoFar.{SpotsOf, deep_in, seen_in}
use Rattle.picture_data.proofs.places.waiting_places.Given as goal

abbrev pub invariant-loop-index : goal.invariant-loop-index
invariant-loop-index l =
    SpotsOf (seen_in l.machine l.now) (deep_in l.now) l.waiting.partners.items (take l.index l.waiting.actions) l.places.items l.place_of_action.items
