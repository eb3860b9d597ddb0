use Rattle.std.proofs.Common.{◌⊎◌, ◌↔◌, ℕ, take}
use Rattle.syntax.specs.Lists.{In}
use Rattle.dependence.specs.internal.Marking.{MarkedAt}
use Rattle.past.proofs.sweep.mark_all.Given as goal

abbrev pub invariant-loop-ticket : goal.invariant-loop-ticket
invariant-loop-ticket l = (u : ℕ) → MarkedAt l.live.live l.marks u ↔ (MarkedAt l.live.live l.fn.marks u ⊎ In u (take l.ticket-index l.tickets))
