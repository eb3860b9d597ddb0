-- The marks before those that are left have their rows.
use Rattle.std.proofs.Common.{◌-◌, length, string_bytes}
use Rattle.marked_lines.proofs.Rowed.{Shown}
use Rattle.marked_lines.proofs.marks.add_rows.Given as goal

abbrev pub invariant-shown : goal.invariant-shown
invariant-shown l = Shown l.text l.keeps_return l.columns l.marks l.shown (string_bytes l.initial.out) (string_bytes l.out)

abbrev pub decreases-shown : goal.decreases-shown
decreases-shown l = length l.marks - l.shown
