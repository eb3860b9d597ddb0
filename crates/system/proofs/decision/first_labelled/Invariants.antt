use Rattle.std.proofs.Common.{◌≡◌, drop}
use Rattle.system.specs.Expression.{first_of_tests, labels_hold}
use Rattle.system.proofs.decision.first_labelled.Given as goal

-- the arm is the one that the labels that are left give
abbrev pub invariant-loop-arm : goal.invariant-loop-arm
invariant-loop-arm l =
    first_of_tests l.arm (labels_hold l.bits (drop l.arm l.labels)) l.otherwise
    ≡ first_of_tests 0 (labels_hold l.bits l.labels) l.otherwise
