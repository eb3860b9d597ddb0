use Rattle.std.proofs.Common.{◌≡◌, ◌-◌, length, map}
use Rattle.process_tree.specs.Tidy.{last_moved}
use Rattle.process_tree.specs.View.{proc_view, procs_of}
use Rattle.local_actions.specs.internal.Listed.{listed_sequence}
use Rattle.local_actions.specs.Walk.{added}
use Rattle.local_actions.proofs.public.Begun.{begun-row}
use Rattle.channel_uses.specs.internal.Located.{LocatedProcs}
use Rattle.channel_uses.proofs.Finding.{on_from}
use Rattle.channel_uses.proofs.at_work.+list_on.Given as goal

abbrev pub invariant-parallel_on-branches : goal.invariant-parallel_on-branches
invariant-parallel_on-branches l =
    let ps = procs_of (map proc_view l.procs) in
    LocatedProcs l.table l.part ps →
    (l.cursor.received ≡ l.initial.cursor.received)
    × (added (on_from l.channel l.values l.initial.cursor.received l.number 0 ps) l.cursor ≡ added (on_from l.channel l.values l.initial.cursor.received 0 0 ps) l.initial.cursor)

abbrev pub decreases-parallel_on-branches : goal.decreases-parallel_on-branches
decreases-parallel_on-branches l = length l.procs - l.number

abbrev pub invariant-sequence_on-children : goal.invariant-sequence_on-children
invariant-sequence_on-children l =
    let children = begun-row l.begun l.row in
    LocatedProcs l.table l.part children →
    (l.cursor ≡ l.initial.cursor)
    × (listed_sequence l.values l.initial.cursor.received l.number 0 children ≡ listed_sequence l.values l.initial.cursor.received (last_moved children) 0 children)

abbrev pub decreases-sequence_on-children : goal.decreases-sequence_on-children
decreases-sequence_on-children l = length l.begun - l.number
