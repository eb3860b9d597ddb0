use Rattle.std.proofs.Common.{◌≡◌, ◌++◌, drop, map}
use Rattle.runs.specs.internal.AllowedEvents.{events_with}
use Rattle.calculus.specs.internal.Walk.{located_of}
use Rattle.calculus.proofs.allowed.add_meetings.Given as goal

abbrev pub invariant-loop-other : goal.invariant-loop-other
invariant-loop-other l =
    l.events ++ events_with l.values (located_of l.one) (map located_of (drop l.other-index l.others))
    ≡ l.initial.events ++ events_with l.values (located_of l.one) (map located_of l.others)
