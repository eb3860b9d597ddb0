use Rattle.std.proofs.Common.{◌≡◌, None, drop}
use Rattle.local_actions.specs.Walk.{action_at}
use Rattle.allowed_events.specs.internal.Least.{least_of}
use Rattle.allowed_events.specs.internal.Meeting.{met_with}
use Rattle.allowed_events.proofs.least.least_met.Given as goal

abbrev pub invariant-loop-other : goal.invariant-loop-other
invariant-loop-other l = least_of l.least (met_with (action_at l.place l.action) (drop l.other-index l.others)) ≡ least_of None (met_with (action_at l.place l.action) l.others)
