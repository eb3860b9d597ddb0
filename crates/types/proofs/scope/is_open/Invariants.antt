use Rattle.std.proofs.Common.{◌≡◌, drop}
use Rattle.types.specs.Names.{is_among}
use Rattle.types.proofs.scope.is_open.Given as goal

-- the channel is one of those that are left exactly where it is one of all
abbrev pub invariant-loop-open : goal.invariant-loop-open
invariant-loop-open l = is_among (drop l.open-index l.opened) l.binding ≡ is_among l.opened l.binding
