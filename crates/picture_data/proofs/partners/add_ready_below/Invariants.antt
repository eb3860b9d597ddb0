use Rattle.std.proofs.Common.{◌≡◌, drop}
use Rattle.picture_data.specs.Wanted.{with_ready_below}
use Rattle.picture_data.proofs.partners.add_ready_below.Given as goal

abbrev pub invariant-loop-event : goal.invariant-loop-event
invariant-loop-event l =
    with_ready_below l.now.table.now l.place (drop l.event-index l.now.ready.now) l.lanes.items
    ≡ with_ready_below l.now.table.now l.place l.now.ready.now l.initial.lanes.items
