use Rattle.std.proofs.Common.{take}
use Rattle.picture_data.specs.Shown.{EachStandsIn}
use Rattle.picture_data.proofs.actions.all_actions.Given as goal

-- the events passed stand there
abbrev pub invariant-loop-event : goal.invariant-loop-event
invariant-loop-event l = EachStandsIn l.machine l.table (take l.event-index l.events) l.actions.items
