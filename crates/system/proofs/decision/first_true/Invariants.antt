use Rattle.std.proofs.Common.{◌≡◌, drop, map}
use Rattle.system.specs.Expression.{first_of_tests, guards_hold}
use Rattle.system.specs.Translation.{expression_of}
use Rattle.system.proofs.decision.first_true.Given as goal

-- the arm is the one that the guards that are left give
abbrev pub invariant-loop-arm : goal.invariant-loop-arm
invariant-loop-arm l =
    first_of_tests l.arm (guards_hold l.variables (map expression_of (drop l.arm l.guards))) l.otherwise
    ≡ first_of_tests 0 (guards_hold l.variables (map expression_of l.guards)) l.otherwise
