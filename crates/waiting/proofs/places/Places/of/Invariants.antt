use Rattle.std.proofs.Common.{◌≡◌, ◌||◌, drop}
use Rattle.runs.specs.Moves.{Place}
use Rattle.waiting.specs.internal.Among.{has_any}
use Rattle.waiting.specs.internal.Held.{is_there}
use Rattle.waiting.proofs.places.Places.of.Given as goal

-- with those that are left, they are all
abbrev pub invariant-loop-event : goal.invariant-loop-event
invariant-loop-event l = (a : Place) → (is_there l.places a || has_any a (drop l.event-index l.events)) ≡ has_any a l.events
