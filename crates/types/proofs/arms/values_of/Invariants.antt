use Rattle.std.proofs.Common.{◌≡◌, ◌++◌, drop, map}
use Rattle.types.proofs.arms.values_of.Given as goal

-- the values so far are those of the labels that are passed
abbrev pub invariant-loop-label : goal.invariant-loop-label
invariant-loop-label l = l.values ++ map (λ x. x.value.bits) (drop l.label-index l.labels) ≡ map (λ x. x.value.bits) l.labels
