use Rattle.std.proofs.Common.{length}
use Rattle.marked_lines.proofs.marks.+add_signs_behind.Given as goal

abbrev pub decreases-add_signs_behind : goal.decreases-add_signs_behind
decreases-add_signs_behind l = length l.marks.now
