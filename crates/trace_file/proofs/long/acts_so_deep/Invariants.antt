use Rattle.std.proofs.Common.{take}
use Rattle.syntax.specs.Lists.{Every}
use Rattle.trace_file.proofs.LongLemmas.{IsShallow}
use Rattle.trace_file.proofs.long.acts_so_deep.Given as goal

-- the events passed act at places of fewer entries
abbrev pub invariant-loop-event : goal.invariant-loop-event
invariant-loop-event l = Every (IsShallow l.depth) (take l.event-index l.events)
