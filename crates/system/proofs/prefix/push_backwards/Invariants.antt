use Rattle.std.proofs.Common.{◌≡◌, ◌++◌, length, reverse}
use Rattle.system.proofs.prefix.push_backwards.Given as goal

-- what is left stands before what is written
abbrev pub invariant-loop-left : goal.invariant-loop-left
invariant-loop-left l = l.left ++ reverse l.out.items ≡ l.bytes ++ reverse l.initial.out.items

abbrev pub decreases-loop-left : goal.decreases-loop-left
decreases-loop-left l = length l.left
