use Rattle.std.proofs.Common.{◌≡◌, drop, map}
use Rattle.system.specs.Expression.{ascending, variables_of_all}
use Rattle.system.specs.internal.Variables.{inserted_all}
use Rattle.system.specs.Translation.{expression_of}
use Rattle.system.proofs.decision.variables_of_all.Given as goal

-- with the variables of the guards that are left, those found are all
abbrev pub invariant-loop-guard : goal.invariant-loop-guard
invariant-loop-guard l =
    inserted_all (variables_of_all (map expression_of (drop l.guard-index l.guards))) l.found
    ≡ ascending (variables_of_all (map expression_of l.guards))
