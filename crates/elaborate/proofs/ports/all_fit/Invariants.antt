use Rattle.std.proofs.Common.{◌≡◌, drop}
use Rattle.elaborate.specs.Fit.{all_fit}
use Rattle.elaborate.proofs.ports.all_fit.Given as goal

abbrev pub invariant-loop-value : goal.invariant-loop-value
invariant-loop-value l = all_fit (drop l.value-index l.values) l.width ≡ all_fit l.values l.width
