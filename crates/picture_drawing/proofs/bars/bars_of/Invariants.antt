use Rattle.std.proofs.Common.{◌≡◌, ◌+◌, length}
use Rattle.picture_drawing.proofs.bars.bars_of.Given as goal

-- those passed and those left are all
abbrev pub invariant-loop-index : goal.invariant-loop-index
invariant-loop-index l = l.index + length l.event-iterator ≡ length l.figure.scene.live.now.live
