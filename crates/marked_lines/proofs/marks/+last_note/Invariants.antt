use Rattle.std.proofs.Common.{length}
use Rattle.marked_lines.proofs.marks.+last_note.Given as goal

abbrev pub decreases-last_note : goal.decreases-last_note
decreases-last_note l = length l.marks.now
