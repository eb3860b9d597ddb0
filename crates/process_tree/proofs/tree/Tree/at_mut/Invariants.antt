-- The part at the place is that of the process reached, at the rest of the place.
use Rattle.std.proofs.Common.{◌≡◌, drop}
use Rattle.process_tree.specs.View.{proc_view, tree_view}
use Rattle.process_tree.proofs.Lent.{Reached}
use Rattle.process_tree.proofs.tree.Tree.at_mut.Given as goal

abbrev pub invariant-loop-entry : goal.invariant-loop-entry
invariant-loop-entry l = Reached l.fn.place (tree_view l.fn.self) (drop l.entry-index l.entry-items) (proc_view l.target) × (l.entry-items ≡ l.fn.place)
