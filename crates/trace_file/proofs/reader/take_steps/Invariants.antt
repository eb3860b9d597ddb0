use Rattle.std.proofs.Common.{◌≡◌, ◌+◌, length}
use Rattle.runs.specs.Live.{events}
use Rattle.trace_file.specs.internal.OneStep.{Loading}
use Rattle.trace_file.proofs.reader.take_steps.Given as goal

-- the machine has the events of the lines passed, and the next line has the number
abbrev pub invariant-loop-number : goal.invariant-loop-number
invariant-loop-number l =
    Loading l.initial.machine.checked l.steps l.machine l.rest × (l.number ≡ 2 + length (events l.machine.live))
