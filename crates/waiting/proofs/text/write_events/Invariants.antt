use Rattle.std.proofs.Common.{◌≡◌, ◌++◌, take}
use Rattle.std.specs.List.{flat_map}
use Rattle.waiting.specs.WaitingText.{ready_line}
use Rattle.waiting.proofs.text.write_events.Given as goal

-- the lines of the events passed are written
abbrev pub invariant-loop-event : goal.invariant-loop-event
invariant-loop-event l =
    l.out.items ≡ l.initial.out.items ++ flat_map (ready_line l.checked) (take l.event-index l.events)
