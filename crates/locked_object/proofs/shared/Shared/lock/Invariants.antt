use Rattle.std.proofs.Common.{◌≡◌}
use Rattle.locked_object.proofs.shared.Shared.lock.Given as goal

-- the mark is one of this lock
abbrev pub invariant-loop : goal.invariant-loop
invariant-loop g l = l.mark.perch ≡ l.self.lock.name
