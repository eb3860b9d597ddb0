use Rattle.std.proofs.Common.{◌≡◌, ℕ, ◌+◌, ◌-◌, length, true}
use Rattle.rings.specs.internal.Ends.{wants}
use Rattle.rings.proofs.wanted.mark.Given as goal

abbrev pub invariant-growing : goal.invariant-growing
invariant-growing l = (i : ℕ) → wants l.initial.wanted.items i ≡ true → wants l.wanted.items i ≡ true

abbrev pub decreases-growing : goal.decreases-growing
decreases-growing l = l.number + 1 - length l.wanted.items
