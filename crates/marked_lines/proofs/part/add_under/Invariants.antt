-- With what stands under the characters that are left, it is all.
use Rattle.std.proofs.Common.{◌≡◌, ◌++◌, length, string_bytes}
use Rattle.marked_lines.specs.Marks.{blanks_under}
use Rattle.marked_lines.proofs.part.add_under.Given as goal

abbrev pub invariant-chars : goal.invariant-chars
invariant-chars l = string_bytes l.out ++ blanks_under l.chars ≡ string_bytes l.initial.out ++ blanks_under l.initial.chars

abbrev pub decreases-chars : goal.decreases-chars
decreases-chars l = length l.chars
