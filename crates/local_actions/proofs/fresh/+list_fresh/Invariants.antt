-- What is still to be listed is listed as it is, and what was passed has listed nothing; of branches all is to be listed.
use Rattle.std.proofs.Common.{◌≡◌, ◌-◌, ◌&&◌, length, drop, map}
use Rattle.process_tree.specs.Proc.{all_started}
use Rattle.process_tree.specs.Translation.{row_of}
use Rattle.process_tree.specs.View.{code_view}
use Rattle.local_actions.specs.internal.Listed.{listed_sequence, listed_parallel}
use Rattle.local_actions.specs.Walk.{added}
use Rattle.local_actions.proofs.fresh.+list_fresh.Given as goal

abbrev pub invariant-list_fresh_all-loop-number : goal.invariant-list_fresh_all-loop-number
invariant-list_fresh_all-loop-number l =
    let rest = listed_parallel l.values l.initial.cursor.received l.number (all_started (row_of (map code_view (drop l.number l.codes)))) in
    let all = listed_parallel l.values l.initial.cursor.received 0 (all_started (row_of (map code_view l.codes))) in
    (l.cursor.received ≡ l.initial.cursor.received) × (added rest.actions l.cursor ≡ added all.actions l.initial.cursor) × ((l.over && rest.over) ≡ all.over)

abbrev pub invariant-list_fresh_from-children : goal.invariant-list_fresh_from-children
invariant-list_fresh_from-children l =
    let children = all_started (row_of (map code_view l.codes)) in
    (l.cursor ≡ l.initial.cursor)
    × (listed_sequence l.values l.initial.cursor.received l.number 0 children ≡ listed_sequence l.values l.initial.cursor.received l.from 0 children)

abbrev pub decreases-list_fresh_from-children : goal.decreases-list_fresh_from-children
decreases-list_fresh_from-children l = length l.codes - l.number
