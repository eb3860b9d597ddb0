use Rattle.std.proofs.Common.{length, take}
use Rattle.runs.specs.Live.{events}
use Rattle.picture_data.specs.Shown.{EachStandsIn}
use Rattle.picture_data.proofs.actions.live_actions.Given as goal

-- the events passed stand there
abbrev pub invariant-loop-event : goal.invariant-loop-event
invariant-loop-event l = EachStandsIn l.machine l.table (events (take (length l.yielded) l.machine.live)) l.actions.items
