use Rattle.std.proofs.Common.{◌≡◌, ◌++◌, reverse}
use Rattle.system.proofs.prefix.Prefix.write_backwards.Given as goal

-- what is left stands before what is written
abbrev pub invariant-loop-prefix : goal.invariant-loop-prefix
invariant-loop-prefix l = l.prefix ++ reverse l.out.items ≡ l.self ++ reverse l.initial.out.items
