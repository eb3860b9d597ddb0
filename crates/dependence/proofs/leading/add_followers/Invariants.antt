use Rattle.std.proofs.Common.{ℕ, ◌≤◌, ◌⊎◌, ◌↔◌, length, drop}
use Rattle.syntax.specs.Lists.{In}
use Rattle.dependence.proofs.leading.add_followers.Given as goal

abbrev pub invariant-loop-index : goal.invariant-loop-index
invariant-loop-index l = record {
  range : l.index ≤ length l.followers;
  told : (u : ℕ) → In u l.pending.items ↔ (In u l.fn.pending.items ⊎ (In u (drop l.index l.followers) × (u ≤ l.last)));
}

abbrev pub decreases-loop-index : goal.decreases-loop-index
decreases-loop-index l = l.index
