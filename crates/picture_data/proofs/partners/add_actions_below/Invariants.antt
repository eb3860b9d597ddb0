use Rattle.std.proofs.Common.{◌≡◌, drop}
use Rattle.picture_data.specs.Wanted.{with_actions_below}
use Rattle.picture_data.proofs.partners.add_actions_below.Given as goal

abbrev pub invariant-loop-action : goal.invariant-loop-action
invariant-loop-action l =
    with_actions_below l.now.table.now l.place (drop l.action-index l.now.actions.now) l.lanes.items
    ≡ with_actions_below l.now.table.now l.place l.now.actions.now l.initial.lanes.items
