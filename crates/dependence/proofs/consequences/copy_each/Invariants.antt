use Rattle.std.proofs.Common.{◌≡◌, ◌++◌, drop}
use Rattle.runs.specs.declared.event.Event.{Event}
use Rattle.dependence.specs.Shown.{tickets_marked}
use Rattle.dependence.specs.internal.Listed.{seats}
use Rattle.dependence.proofs.consequences.copy_each.Given as goal

abbrev pub invariant-loop-index : goal.invariant-loop-index
invariant-loop-index l = (e : Event) →
    l.tickets.items ++ tickets_marked (drop l.index (drop l.base (seats e l.slots.entries))) (drop l.index l.marks) ≡ tickets_marked (drop l.base (seats e l.slots.entries)) l.marks
