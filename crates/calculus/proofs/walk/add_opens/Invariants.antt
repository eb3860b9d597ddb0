use Rattle.std.proofs.Common.{◌≡◌, ◌++◌, drop, map}
use Rattle.runs.specs.internal.AllowedEvents.{opens_from}
use Rattle.calculus.specs.internal.Walk.{located_of, below}
use Rattle.calculus.proofs.walk.add_opens.Given as goal

abbrev pub invariant-loop-arm : goal.invariant-loop-arm
invariant-loop-arm l =
    map located_of l.found ++ below l.place (opens_from l.arm (drop l.arm l.channels))
    ≡ map located_of l.initial.found ++ below l.place (opens_from 0 l.channels)
