-- None of the children that were looked at has made a move.
use Rattle.std.proofs.Common.{◌≡◌, ◌≤◌, length, drop, map}
use Rattle.process_tree.specs.Tidy.{any_moved}
use Rattle.process_tree.specs.View.{proc_view, procs_of}
use Rattle.local_actions.proofs.public.Begun.{Still, begun-row}
use Rattle.local_actions.proofs.moved.+has_moved.Given as goal

abbrev pub invariant-any_moved-loop-child : goal.invariant-any_moved-loop-child
invariant-any_moved-loop-child l = any_moved (procs_of (map proc_view (drop l.child-index l.procs))) ≡ any_moved (procs_of (map proc_view l.procs))

abbrev pub invariant-last_moved-children : goal.invariant-last_moved-children
invariant-last_moved-children l = (l.number ≤ length l.begun) × (l.number ≤ length l.row.codes) × Still l.number (begun-row l.begun l.row)

abbrev pub decreases-last_moved-children : goal.decreases-last_moved-children
decreases-last_moved-children l = l.number
