use Rattle.std.proofs.Common.{◌≡◌, ◌++◌, drop}
use Rattle.rings.specs.internal.Ends.{later_but, is_in}
use Rattle.rings.proofs.line.add_later.Given as goal

-- with those that are left, they are all
abbrev pub invariant-loop-sought : goal.invariant-loop-sought
invariant-loop-sought l =
    l.ends.items ++ later_but (is_in l.passed) l.entry (drop l.sought-index l.soughts)
    ≡ l.initial.ends.items ++ later_but (is_in l.passed) l.entry l.soughts
