use Rattle.std.proofs.Common.{ℕ, take}
use Rattle.syntax.specs.Lists.{In}
use Rattle.dependence.specs.internal.Found.{AccessesFound}
use Rattle.dependence.proofs.accesses.NewEvent.add_accesses.Given as goal

abbrev pub invariant-loop-ticket : goal.invariant-loop-ticket
invariant-loop-ticket l = AccessesFound l.self.list.now.live l.self.event.now (λ (t : ℕ). In t (take l.ticket-index l.tickets)) l.fn.found.items l.found.items
