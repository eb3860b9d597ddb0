use Rattle.std.proofs.Common.{◌≡◌, ◌++◌, drop, map}
use Rattle.runs.specs.internal.AllowedEvents.{events_together, events_among}
use Rattle.calculus.specs.internal.Walk.{located_of}
use Rattle.calculus.proofs.allowed.events_among.Given as goal

abbrev pub invariant-loop-offer : goal.invariant-loop-offer
invariant-loop-offer l =
    l.events ++ events_together l.values (map located_of (drop l.offer-index l.offers)) (map located_of l.offers)
    ≡ events_among l.values (map located_of l.offers)
