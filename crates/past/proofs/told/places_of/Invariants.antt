use Rattle.std.proofs.Common.{take}
use Rattle.past.specs.internal.Near.{ArePlaces}
use Rattle.past.proofs.told.places_of.Given as goal

abbrev pub invariant-loop-ticket : goal.invariant-loop-ticket
invariant-loop-ticket l = ArePlaces l.tickets (take l.ticket-index l.some) l.places.items
