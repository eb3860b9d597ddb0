-- The characters that are left take as many columns as all.
use Rattle.std.proofs.Common.{◌≡◌, length, sum_by}
use Rattle.marked_lines.specs.Marks.{columns}
use Rattle.marked_lines.proofs.part.takes_columns.Given as goal

abbrev pub invariant-chars : goal.invariant-chars
invariant-chars l = sum_by columns l.chars ≡ sum_by columns l.initial.chars

abbrev pub decreases-chars : goal.decreases-chars
decreases-chars l = length l.chars
