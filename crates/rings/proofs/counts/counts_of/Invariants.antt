use Rattle.std.proofs.Common.{◌≡◌, ℕ, length, slice_index}
use Rattle.rings.specs.internal.Tally.{edge, tally}
use Rattle.rings.proofs.counts.counts_of.Given as goal

abbrev pub invariant-loop-number : goal.invariant-loop-number
invariant-loop-number l =
    (length l.counts.items ≡ l.count) × ((i : ℕ) → slice_index l.counts.items i ≡ tally (λ (j : ℕ). edge l.edges j i) l.number)
