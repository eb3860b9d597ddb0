use Rattle.std.proofs.Common.{take, heap_items}
use Rattle.trace_file.specs.internal.Waiting.{IsQueue}
use Rattle.trace_file.proofs.queue.first_free.Given as goal

-- those of the events passed that wait for none
abbrev pub invariant-loop-index : goal.invariant-loop-index
invariant-loop-index l = IsQueue l.live.live (take l.index l.live.live) l.left (heap_items l.free)
