use Rattle.std.proofs.Common.{ℕ, take}
use Rattle.std.specs.Prelude.{◌⊎◌, ◌↔◌}
use Rattle.syntax.specs.Lists.{In}
use Rattle.dependence.specs.internal.Marking.{MarkedAt, EndsAt}
use Rattle.dependence.proofs.marks.mark_all.Given as goal

abbrev pub invariant-loop-ticket : goal.invariant-loop-ticket
invariant-loop-ticket l = record {
  marked : (u : ℕ) → MarkedAt l.list.live l.marks u ↔ (MarkedAt l.list.live l.fn.marks u ⊎ In u (take l.ticket-index l.tickets));
  ended : EndsAt l.marks l.reached;
}
