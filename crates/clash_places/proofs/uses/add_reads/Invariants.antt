use Rattle.std.proofs.Common.{◌≡◌, ◌++◌, drop, map, false}
use Rattle.system.specs.declared.expression.Use.{Use}
use Rattle.sharing_check.specs.Uses.{here}
use Rattle.clash_places.proofs.uses.add_reads.Given as goal

-- with those that are left, they are all
abbrev pub invariant-loop-variable : goal.invariant-loop-variable
invariant-loop-variable l =
    l.uses.items ++ map (λ (x : Use). here x false) (drop l.variable-index l.variable-items)
    ≡ l.initial.uses.items ++ map (λ (x : Use). here x false) l.variable-items
