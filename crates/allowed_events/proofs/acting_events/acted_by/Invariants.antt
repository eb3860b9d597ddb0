-- What was made, and what the actions that are left make, is all.
use Rattle.std.proofs.Common.{drop}
use Rattle.process_tree.specs.Code.{Code}
use Rattle.process_tree.specs.Tidy.{Tidy}
use Rattle.process_tree.specs.View.{tree_view}
use Rattle.local_actions.specs.View.{state_of}
use Rattle.channel_uses.specs.StemsFrom.{StemsFrom}
use Rattle.channel_uses.specs.Table.{IsTableOf}
use Rattle.allowed_events.proofs.ActedActions.{SoFar}
use Rattle.allowed_events.proofs.acting_events.acted_by.Given as goal

abbrev pub invariant-loop-one : goal.invariant-loop-one
invariant-loop-one l =
    (code : Code) → IsTableOf code l.uses → StemsFrom (tree_view l.tree) code → Tidy (tree_view l.tree) → SoFar (state_of l.tree l.store) l.events (drop l.one-index l.acting) l.acting
