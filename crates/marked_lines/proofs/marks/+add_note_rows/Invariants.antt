use Rattle.std.proofs.Common.{length}
use Rattle.marked_lines.proofs.marks.+add_note_rows.Given as goal

abbrev pub decreases-add_note_rows : goal.decreases-add_note_rows
decreases-add_note_rows l = length l.marks.now
