use Rattle.std.proofs.Common.{ℕ, ◌<◌, take}
use Rattle.syntax.specs.Lists.{In}
use Rattle.dependence.specs.LastEvents as last
use Rattle.calculus.proofs.uses.none_from.Given as goal

abbrev pub invariant-loop-variable : goal.invariant-loop-variable
invariant-loop-variable l = (x t : ℕ) → In x (take l.variable-index l.variables) → last.Uses l.table x t → t < l.count → t < l.place
