use Rattle.std.proofs.Common.{◌≡◌, ◌-◌, length}
use Rattle.picture_lanes.specs.Calls.{behind_calls}
use Rattle.picture_lanes.proofs.calls.behind_calls.Given as goal

abbrev pub invariant-loop-passed : goal.invariant-loop-passed
invariant-loop-passed l =
    behind_calls (length l.procedures - l.passed) l.procedures (record { written = l.written; block = l.block; instances = l.instances })
    ≡ behind_calls (length l.procedures) l.procedures
    (record { written = l.initial.written; block = l.initial.block; instances = l.initial.instances })
