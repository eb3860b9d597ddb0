use Rattle.std.proofs.Common.{◌≡◌, drop}
use Rattle.json_text.specs.Values.{with_values}
use Rattle.picture_text.specs.DataText.{ready_rows}
use Rattle.picture_text.proofs.end.add_ready.Given as goal

-- with those that are left, all are there
abbrev pub invariant-loop-index : goal.invariant-loop-index
invariant-loop-index l =
    with_values l.json (ready_rows l.system l.end.ready_actions.items l.index (drop l.index l.event-items))
    ≡ with_values l.initial.json (ready_rows l.system l.end.ready_actions.items 0 l.event-items)
