use Rattle.std.proofs.Common.{◌<◌, ℕ}
use Rattle.syntax.specs.Lists.{In}
use Rattle.rings.proofs.deadlock.all_numbers.Given as goal

abbrev pub invariant-loop-number : goal.invariant-loop-number
invariant-loop-number l = (i : ℕ) → i < l.number → In i l.numbers.items
