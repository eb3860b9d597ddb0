use Rattle.std.proofs.Common.{◌≡◌, ◌+◌, length}
use Rattle.json_text.specs.Values.{with_values}
use Rattle.picture_text.specs.DataText.{event_rows}
use Rattle.picture_text.proofs.steps.add_events.Given as goal

-- with those that are left, all are there
abbrev pub invariant-loop-index : goal.invariant-loop-index
invariant-loop-index l = record {
  counted : l.index + length l.event-iterator ≡ length l.live.live;
  rows : with_values l.json (event_rows l.system l.steps l.index l.event-iterator)
      ≡ with_values l.initial.json (event_rows l.system l.steps 0 l.live.live);
}
