use Rattle.std.proofs.Common.{◌≡◌, nat_eq}
use Rattle.std.specs.Cmp.Lexicographic.{pointwise}
use Rattle.system.proofs.prefix.Prefix.is.Given as goal

-- what is left is equal where the whole text is
abbrev pub invariant-loop-prefix : goal.invariant-loop-prefix
invariant-loop-prefix l = pointwise nat_eq l.prefix l.left ≡ pointwise nat_eq l.self l.text
