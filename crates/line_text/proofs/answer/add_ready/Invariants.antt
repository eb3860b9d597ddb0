use Rattle.std.proofs.Common.{◌≡◌, ◌++◌, take}
use Rattle.std.specs.List.{flat_map}
use Rattle.line_text.specs.AnswerText.{ready_line}
use Rattle.line_text.proofs.answer.add_ready.Given as goal

-- the lines of the events passed are written
abbrev pub invariant-loop-event : goal.invariant-loop-event
invariant-loop-event l =
    l.out.items ≡ l.initial.out.items ++ flat_map (ready_line l.system) (take l.event-index l.events)
