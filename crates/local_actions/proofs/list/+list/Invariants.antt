-- What is still to be listed is listed as it is, and what was passed has listed nothing; of branches all is to be listed.
use Rattle.std.proofs.Common.{◌≡◌, ◌-◌, ◌&&◌, length, drop, map}
use Rattle.process_tree.specs.Tidy.{last_moved}
use Rattle.process_tree.specs.View.{proc_view, procs_of, begun_of, row_view}
use Rattle.local_actions.specs.internal.Listed.{listed_sequence, listed_parallel}
use Rattle.local_actions.specs.Walk.{added}
use Rattle.local_actions.proofs.list.+list.Given as goal

abbrev pub invariant-list_parallel-loop-number : goal.invariant-list_parallel-loop-number
invariant-list_parallel-loop-number l =
    let rest = listed_parallel l.values l.initial.cursor.received l.number (procs_of (map proc_view (drop l.number l.procs))) in
    let all = listed_parallel l.values l.initial.cursor.received 0 (procs_of (map proc_view l.procs)) in
    (l.cursor.received ≡ l.initial.cursor.received) × (added rest.actions l.cursor ≡ added all.actions l.initial.cursor) × ((l.over && rest.over) ≡ all.over)

abbrev pub invariant-list_sequence-children : goal.invariant-list_sequence-children
invariant-list_sequence-children l =
    let children = begun_of (map proc_view l.begun) (row_view l.row) in
    (l.cursor ≡ l.initial.cursor)
    × (listed_sequence l.values l.initial.cursor.received l.number 0 children ≡ listed_sequence l.values l.initial.cursor.received (last_moved children) 0 children)

abbrev pub decreases-list_sequence-children : goal.decreases-list_sequence-children
decreases-list_sequence-children l = length l.begun - l.number
