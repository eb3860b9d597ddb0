use Rattle.picture_data.specs.internal.SpotsSoFar.{AddsSoFar, deep_in, seen_in}
use Rattle.picture_data.proofs.places.add_ready_places.Given as goal

abbrev pub invariant-loop-index : goal.invariant-loop-index
invariant-loop-index l =
    AddsSoFar (seen_in l.machine l.now) (deep_in l.now) l.now.ready.now l.index l.initial.places.items l.places.items
