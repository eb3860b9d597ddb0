-- What is sorted so far, and what is left, are the events.
use Rattle.std.proofs.Common.{length}
use Rattle.syntax.specs.Lists.{In}
use Rattle.runs.specs.Steps.{State, Allowed}
use Rattle.runs.specs.WellFormed.{WellFormed}
use Rattle.runs.specs.declared.event.Event.{Event}
use Rattle.allowed_events.proofs.Sooner.{Sorting}
use Rattle.allowed_events.proofs.ready.sort.Given as goal

abbrev pub invariant-loop-event : goal.invariant-loop-event
invariant-loop-event l =
    (S : State) → WellFormed S.residual → ((e : Event) → In e l.fn.events → Allowed S e) → Sorting (λ e. In e l.fn.events) l.left.items l.sorted.items

abbrev pub decreases-loop-event : goal.decreases-loop-event
decreases-loop-event l = length l.left.items
