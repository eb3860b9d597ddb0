use Rattle.std.proofs.Common.{◌≡◌, ◌++◌, drop, map}
use Rattle.system.specs.Expression.{word}
use Rattle.store.proofs.zeros.Given as goal

abbrev pub invariant-loop-variable : goal.invariant-loop-variable
invariant-loop-variable l =
    l.values.items ++ map (λ v. word 0 v.width) (drop l.variable-index l.variables) ≡ map (λ v. word 0 v.width) l.variables
