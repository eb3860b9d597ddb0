use Rattle.std.proofs.Common.{◌≡◌, ◌++◌, length}
use Rattle.past.specs.PastText.{past_lines, zeros}
use Rattle.past.proofs.text.write_events.Given as goal

-- with the events that are left, the lines are those of all
abbrev pub invariant-events : goal.invariant-events
invariant-events l =
    l.out.items ++ past_lines l.checked l.live.live l.rest l.values.items
    ≡ l.initial.out.items ++ past_lines l.checked l.live.live l.told (zeros l.checked)

abbrev pub decreases-events : goal.decreases-events
decreases-events l = length l.rest
