use Rattle.std.proofs.Common.{◌≡◌, drop}
use Rattle.system.specs.Named as named
use Rattle.system.proofs.variable_table.number_from.Given as goal

-- no variable before has the name
abbrev pub invariant-loop-position : goal.invariant-loop-position
invariant-loop-position l =
    named.variable_from l.position (drop l.position l.variables) l.name ≡ named.variable_from l.first (drop l.first l.variables) l.name
