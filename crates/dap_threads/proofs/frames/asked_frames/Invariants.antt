-- Those before are listed.
use Rattle.dap_threads.specs.Stack.{ListsIds, asked_ids}
use Rattle.dap_threads.proofs.frames.asked_frames.Given as goal

abbrev pub invariant-loop-index : goal.invariant-loop-index
invariant-loop-index l = ListsIds l.list (asked_ids l.first l.levels l.branch l.index)
