use Rattle.std.proofs.Common.{length}
use Rattle.runs.specs.WellFormed.{WellFormed}
use Rattle.process_tree.specs.Tidy.{Tidy}
use Rattle.process_tree.specs.View.{tree_view}
use Rattle.local_actions.specs.View.{state_of}
use Rattle.idle_branches.proofs.BehindLemmas.{ComesBehind}
use Rattle.idle_branches.proofs.behind.offers_behind.Given as goal

-- what comes behind the whole place comes behind what is left of it
abbrev pub invariant-entries : goal.invariant-entries
invariant-entries l =
    Tidy (tree_view l.tree) → WellFormed (state_of l.tree l.store).residual → ComesBehind (state_of l.tree l.store) l.place l.rest

abbrev pub decreases-entries : goal.decreases-entries
decreases-entries l = length l.rest
