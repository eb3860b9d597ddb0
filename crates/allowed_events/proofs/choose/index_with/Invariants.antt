use Rattle.std.proofs.Common.{take}
use Rattle.allowed_events.specs.internal.Choosing.{HasNone}
use Rattle.allowed_events.proofs.choose.index_with.Given as goal

abbrev pub invariant-loop-i : goal.invariant-loop-i
invariant-loop-i l = HasNone l.choice (take l.i l.events)
