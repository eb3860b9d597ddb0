use Rattle.std.proofs.Common.{length}
use Rattle.marked_lines.proofs.marks.+marks_within.Given as goal

abbrev pub decreases-marks_within : goal.decreases-marks_within
decreases-marks_within l = length l.marks.now
