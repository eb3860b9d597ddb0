-- From the last child down to this one all is found.
use Rattle.std.proofs.Common.{◌≡◌, ◌≤◌, length, map}
use Rattle.process_tree.specs.View.{begun_of, proc_view, row_view}
use Rattle.rings.specs.internal.Ends.{line_sum, line_tail, sum_of}
use Rattle.rings.proofs.Rows.{procs-abreast, procs-in-turn, procs-tail}
use Rattle.rings.proofs.look.+look.Given as goal

abbrev pub invariant-look_sequence-children : goal.invariant-look_sequence-children
invariant-look_sequence-children l =
    (l.number ≤ length l.row.codes)
    × (line_sum l.line ≡ procs-in-turn l.wanted (begun_of (map proc_view l.begun) (row_view l.row)) l.number)
    × (line_tail l.line ≡ procs-tail l.wanted (begun_of (map proc_view l.begun) (row_view l.row)) l.number)

abbrev pub decreases-look_sequence-children : goal.decreases-look_sequence-children
decreases-look_sequence-children l = l.number

abbrev pub invariant-look_parallel-children : goal.invariant-look_parallel-children
invariant-look_parallel-children l = (l.number ≤ length l.procs) × (sum_of l.found ≡ procs-abreast l.wanted l.procs l.number)

abbrev pub decreases-look_parallel-children : goal.decreases-look_parallel-children
decreases-look_parallel-children l = l.number
