-- What was made, and what the actions that are left make, is all.
use Rattle.std.proofs.Common.{drop}
use Rattle.runs.specs.Steps.{State}
use Rattle.local_actions.specs.Actions.{OffersExactly}
use Rattle.allowed_events.proofs.ActedActions.{SoFar}
use Rattle.allowed_events.proofs.among.made_among.Given as goal

abbrev pub invariant-loop-one : goal.invariant-loop-one
invariant-loop-one l = (S : State) → OffersExactly S l.actions → SoFar S l.events (drop l.one-index l.actions) l.actions
