use Rattle.std.proofs.Common.{◌≡◌, take}
use Rattle.past.specs.internal.Near.{tickets_at}
use Rattle.past.proofs.told.tickets_at.Given as goal

abbrev pub invariant-loop-place : goal.invariant-loop-place
invariant-loop-place l = l.made ≡ tickets_at l.tickets (take l.place-index l.places)
