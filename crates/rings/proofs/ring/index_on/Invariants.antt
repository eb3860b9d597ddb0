use Rattle.std.proofs.Common.{◌≡◌, ℕ, true, drop}
use Rattle.syntax.specs.Lists.{In}
use Rattle.rings.specs.internal.Search.{same_at}
use Rattle.rings.proofs.ring.index_on.Given as goal

-- what stands at the place of the action is among those that are left
abbrev pub invariant-loop-index : goal.invariant-loop-index
invariant-loop-index l = (j : ℕ) → In j l.way → same_at l.actions j l.action ≡ true → In j (drop l.index l.way)
