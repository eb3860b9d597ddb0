use Rattle.std.proofs.Common.{◌≡◌, drop}
use Rattle.system.specs.Expression.{is_in}
use Rattle.system.proofs.decision.has_label.Given as goal

-- the number is one of the labels that are left exactly where it is one of all
abbrev pub invariant-loop-label : goal.invariant-loop-label
invariant-loop-label l = is_in l.bits (drop l.label-index l.labels) ≡ is_in l.bits l.labels
