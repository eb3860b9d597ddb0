use Rattle.std.proofs.Common.{◌≡◌, ◌↔◌, ◌⊎◌, ℕ, take}
use Rattle.syntax.specs.Lists.{In}
use Rattle.dependence.specs.LastEvents as last
use Rattle.calculus.proofs.uses.put_all.Given as goal

abbrev pub invariant-loop-variable : goal.invariant-loop-variable
invariant-loop-variable l = (x t : ℕ) → last.Uses l.table x t ↔ (last.Uses l.initial.table x t ⊎ (In x (take l.variable-index l.variables) × (t ≡ l.place)))
