-- The state that a tree in memory stands for, with the values of the variables.
use Rattle.std.specs.Prelude.{[]}
use Rattle.system.specs.Expression.{Store}
use Rattle.runs.specs.Steps.{State}
use Rattle.process_tree.specs.Remaining.{remaining}
use Rattle.process_tree.specs.View.{tree_view}
use Rattle.process_tree.specs.declared.tree.Tree.{Tree}

-- what is left of the tree, over the values
abbrev pub state_of : Tree → Store → State
state_of tree store = record { residual = remaining [] (tree_view tree); store = store }
