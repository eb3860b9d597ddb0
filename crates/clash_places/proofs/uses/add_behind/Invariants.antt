use Rattle.std.proofs.Common.{◌≡◌, ◌++◌, drop}
use Rattle.sharing_check.specs.Uses.{behind}
use Rattle.clash_places.proofs.uses.add_behind.Given as goal

-- with those that are left, they are all
abbrev pub invariant-loop-other : goal.invariant-loop-other
invariant-loop-other l = l.uses.items ++ behind l.entry (drop l.other-index l.others) ≡ l.initial.uses.items ++ behind l.entry l.others
