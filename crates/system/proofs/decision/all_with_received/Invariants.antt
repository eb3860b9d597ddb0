use Rattle.std.proofs.Common.{◌≡◌, ◌++◌, drop, map}
use Rattle.system.specs.Expression.{put_all}
use Rattle.system.specs.Translation.{expression_of}
use Rattle.system.proofs.decision.all_with_received.Given as goal

-- the copies are the guards that are passed, with the value put
abbrev pub invariant-loop-guard : goal.invariant-loop-guard
invariant-loop-guard l =
    map expression_of l.copies ++ put_all l.channel l.value (map expression_of (drop l.guard-index l.guards))
    ≡ put_all l.channel l.value (map expression_of l.guards)
