use Rattle.std.proofs.Common.{◌≡◌, ◌++◌, drop, take}
use Rattle.system.specs.Expression.{inserted}
use Rattle.system.proofs.variables.place_for.Given as goal

-- the number is inserted after the variables that are passed
abbrev pub invariant-loop-position : goal.invariant-loop-position
invariant-loop-position l =
    take l.position l.numbers ++ inserted l.number (drop l.position l.numbers) ≡ inserted l.number l.numbers
