use Rattle.std.proofs.Common.{◌-◌, Bool, length, drop, map}
use Rattle.process_tree.specs.View.{proc_view, procs_of}
use Rattle.local_actions.specs.internal.Over.{AllOver}
use Rattle.local_actions.proofs.public.Begun.{begun-row}
use Rattle.local_actions.proofs.public.Endings.{CameTo}
use Rattle.local_actions.proofs.over.+over.Given as goal

abbrev pub invariant-all_over-loop-child : goal.invariant-all_over-loop-child
invariant-all_over-loop-child l = (b : Bool) → AllOver b (procs_of (map proc_view (drop l.child-index l.procs))) → AllOver b (procs_of (map proc_view l.procs))

abbrev pub invariant-sequence_over-children : goal.invariant-sequence_over-children
invariant-sequence_over-children l = CameTo l.number (begun-row l.begun l.row)

abbrev pub decreases-sequence_over-children : goal.decreases-sequence_over-children
decreases-sequence_over-children l = length l.row.codes - l.number
