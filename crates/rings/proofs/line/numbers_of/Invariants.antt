use Rattle.std.proofs.Common.{◌≡◌, ◌||◌, drop}
use Rattle.rings.specs.declared.sought.Sought.{Sought}
use Rattle.rings.specs.internal.Ends.{has, is_in}
use Rattle.rings.proofs.line.numbers_of.Given as goal

-- with those that are left, it has all
abbrev pub invariant-loop-end : goal.invariant-loop-end
invariant-loop-end l = (s : Sought) → (is_in l.numbers s || has s (drop l.end-index l.ends)) ≡ has s l.ends
