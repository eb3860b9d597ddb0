use Rattle.std.proofs.Common.{◌≡◌, ◌+◌, length}
use Rattle.picture_waves.proofs.changes.changes_of.Given as goal

-- those passed and those left are all
abbrev pub invariant-loop-index : goal.invariant-loop-index
invariant-loop-index l = l.index + length l.event-iterator ≡ length l.live.live
