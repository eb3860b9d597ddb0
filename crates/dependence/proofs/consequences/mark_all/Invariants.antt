use Rattle.std.proofs.Common.{ℕ, take, drop}
use Rattle.std.specs.Prelude.{◌⊎◌, ◌↔◌}
use Rattle.syntax.specs.Lists.{In}
use Rattle.runs.specs.declared.event.Event.{Event}
use Rattle.dependence.specs.internal.Listed.{seats}
use Rattle.dependence.specs.internal.Marking.{MarkedAt, EndsAt}
use Rattle.dependence.proofs.consequences.mark_all.Given as goal

abbrev pub invariant-loop-ticket : goal.invariant-loop-ticket
invariant-loop-ticket l = record {
  marked : (e : Event) (u : ℕ) → MarkedAt (drop l.base (seats e l.slots.entries)) l.marks u
      ↔ (MarkedAt (drop l.base (seats e l.slots.entries)) l.fn.marks u ⊎ In u (take l.ticket-index l.tickets));
  ended : EndsAt l.marks l.reached;
}
