use Rattle.std.proofs.Common.{◌≡◌, ◌≤◌, ◌-◌, length, map}
use Rattle.process_tree.specs.Proc.{all_started}
use Rattle.process_tree.specs.Translation.{row_of}
use Rattle.process_tree.specs.View.{code_view}
use Rattle.local_actions.specs.internal.Listed.{listed_sequence}
use Rattle.local_actions.specs.Walk.{added}
use Rattle.channel_uses.specs.internal.Located.{LocatedRow}
use Rattle.channel_uses.proofs.Finding.{on_from}
use Rattle.channel_uses.proofs.fresh.+fresh_on.Given as goal

abbrev pub invariant-fresh_side_by_side_on-branches : goal.invariant-fresh_side_by_side_on-branches
invariant-fresh_side_by_side_on-branches l =
    let ps = all_started (row_of (map code_view l.codes)) in
    LocatedRow l.table l.part (row_of (map code_view l.codes)) →
    (l.cursor.received ≡ l.initial.cursor.received)
    × (added (on_from l.channel l.values l.initial.cursor.received l.number 0 ps) l.cursor ≡ added (on_from l.channel l.values l.initial.cursor.received 0 0 ps) l.initial.cursor)

abbrev pub decreases-fresh_side_by_side_on-branches : goal.decreases-fresh_side_by_side_on-branches
decreases-fresh_side_by_side_on-branches l = length l.codes - l.number

abbrev pub invariant-fresh_in_turn_on-children : goal.invariant-fresh_in_turn_on-children
invariant-fresh_in_turn_on-children l =
    let ps = all_started (row_of (map code_view l.codes)) in
    (l.cursor ≡ l.initial.cursor)
    × (l.from ≤ l.number)
    × (listed_sequence l.values l.initial.cursor.received l.number 0 ps ≡ listed_sequence l.values l.initial.cursor.received l.from 0 ps)

abbrev pub decreases-fresh_in_turn_on-children : goal.decreases-fresh_in_turn_on-children
decreases-fresh_in_turn_on-children l = length l.codes - l.number
