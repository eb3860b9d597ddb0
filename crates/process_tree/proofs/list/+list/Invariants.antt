-- What is still to be listed is listed as it is, and what was passed has listed nothing; of branches all is to be listed.
use Rattle.std.proofs.Common.{◌≡◌, ◌-◌, ◌&&◌, length, drop, map}
use Rattle.process_tree.specs.View.{proc_view, procs_of, begun_of, row_view}
use Rattle.process_tree.specs.internal.Listed.{listed_sequence, listed_parallel, added}
use Rattle.process_tree.proofs.list.+list.Given as goal

abbrev pub invariant-list_parallel-loop-number : goal.invariant-list_parallel-loop-number
invariant-list_parallel-loop-number l =
    let rest = listed_parallel l.number (procs_of (map proc_view (drop l.number l.procs))) in
    let all = listed_parallel 0 (procs_of (map proc_view l.procs)) in
    (added rest.offers l.finder ≡ added all.offers l.initial.finder) × ((l.over && rest.over) ≡ all.over)

abbrev pub invariant-list_sequence-children : goal.invariant-list_sequence-children
invariant-list_sequence-children l =
    let children = begun_of (map proc_view l.begun) (row_view l.row) in
    (l.finder ≡ l.initial.finder) × (listed_sequence l.number 0 children ≡ listed_sequence 0 0 children)

abbrev pub decreases-list_sequence-children : goal.decreases-list_sequence-children
decreases-list_sequence-children l = length l.begun - l.number
