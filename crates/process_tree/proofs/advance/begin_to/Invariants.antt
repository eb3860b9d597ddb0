-- The children that began are seen as they were.
use Rattle.std.proofs.Common.{◌≡◌, ◌-◌, ◌+◌, length, map}
use Rattle.process_tree.specs.View.{row_view, proc_view, begun_of}
use Rattle.process_tree.proofs.advance.begin_to.Given as goal

abbrev pub invariant-children : goal.invariant-children
invariant-children l = begun_of (map proc_view l.begun.items) (row_view l.row) ≡ begun_of (map proc_view l.fn.begun.items) (row_view l.row)

abbrev pub decreases-children : goal.decreases-children
decreases-children l = l.number + 1 - length l.begun.items
