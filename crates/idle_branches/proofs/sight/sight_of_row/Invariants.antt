use Rattle.std.proofs.Common.{◌≡◌, ◌-◌, length, map}
use Rattle.system.specs.Expression.{Store}
use Rattle.process_tree.specs.Proc.{all_started}
use Rattle.process_tree.specs.Remaining.{Received}
use Rattle.process_tree.specs.Translation.{row_of}
use Rattle.process_tree.specs.View.{code_view}
use Rattle.local_actions.specs.internal.Listed.{listed_sequence}
use Rattle.idle_branches.proofs.sight.sight_of_row.Given as goal

-- what was passed has nothing to do
abbrev pub invariant-children : goal.invariant-children
invariant-children l =
    let ps = all_started (row_of (map code_view l.codes)) in
    (s : Store) (env : Received) → listed_sequence s env l.number 0 ps ≡ listed_sequence s env l.from 0 ps

abbrev pub decreases-children : goal.decreases-children
decreases-children l = length l.codes - l.number
