use Rattle.std.proofs.Common.{◌≡◌, length}
use Rattle.slots.specs.Places.{filled}
use Rattle.dependence.specs.internal.Listed.{events_kept}
use Rattle.dependence.proofs.live_events.LiveEventsIterator.next.Given as goal

abbrev pub invariant-loop-ticket : goal.invariant-loop-ticket
invariant-loop-ticket l = events_kept (filled l.self-inside.places) ≡ l.fn.self

abbrev pub decreases-loop-ticket : goal.decreases-loop-ticket
decreases-loop-ticket l = length l.self-inside.places
