use Rattle.std.proofs.Common.{◌≡◌, ◌++◌, drop, map}
use Rattle.runs.specs.internal.AllowedEvents.{events_alone}
use Rattle.calculus.specs.internal.Walk.{located_of}
use Rattle.calculus.proofs.allowed.add_alone.Given as goal

abbrev pub invariant-loop-offer : goal.invariant-loop-offer
invariant-loop-offer l =
    l.events ++ events_alone l.values (map located_of (drop l.offer-index l.offers))
    ≡ l.initial.events ++ events_alone l.values (map located_of l.offers)
