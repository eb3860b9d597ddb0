use Rattle.std.proofs.Common.{◌≡◌, ◌++◌, drop}
use Rattle.system.proofs.decision.copy_all.Given as goal

-- the copies are the guards that are passed
abbrev pub invariant-loop-guard : goal.invariant-loop-guard
invariant-loop-guard l = l.copies ++ drop l.guard-index l.guards ≡ l.guards
