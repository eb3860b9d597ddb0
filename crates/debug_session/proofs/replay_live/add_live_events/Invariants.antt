use Rattle.std.proofs.Common.{◌≡◌, ◌++◌}
use Rattle.std.specs.List.{flat_map}
use Rattle.line_text.specs.AnswerText.{live_line}
use Rattle.debug_session.proofs.replay_live.add_live_events.Given as goal

-- with the lines of the events that are left all lines are written
abbrev pub invariant-loop-ticket : goal.invariant-loop-ticket
invariant-loop-ticket l =
    l.out.items ++ flat_map (live_line l.checked) l.ticket-iterator
    ≡ l.initial.out.items ++ flat_map (live_line l.checked) l.live.live
