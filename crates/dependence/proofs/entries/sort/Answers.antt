use Rattle.std.proofs.Common.{arith}
use Rattle.std.proofs.lemmas.List.Sorted.{IsPermutation-sym, length_permutation, IsNonDecreasingBy-from_sort}
use Rattle.dependence.proofs.Sweeps.{permuted}
use Rattle.dependence.proofs.entries.sort.Goals as goal

pub returns : goal.returns
returns c = record {
  same = λ t. (permuted _ _ (c.sort_unstable.ensures.permutation) t, permuted _ _ (IsPermutation-sym _ _ c.sort_unstable.ensures.permutation) t);
  length = omega (arith, length_permutation _ _ c.sort_unstable.ensures.permutation);
  ascending = IsNonDecreasingBy-from_sort (λ x. x) _ c.sort_unstable.ensures.sorted;
}
