-- With what stands under the characters that are left, it is all.
use Rattle.std.proofs.Common.{◌≡◌, ◌++◌, length, string_bytes}
use Rattle.marked_lines.specs.Marks.{signs_under}
use Rattle.marked_lines.proofs.part.add_signs_under.Given as goal

abbrev pub invariant-chars : goal.invariant-chars
invariant-chars l =
    string_bytes l.out ++ signs_under l.sign l.chars ≡ string_bytes l.initial.out ++ signs_under l.sign l.initial.chars

abbrev pub decreases-chars : goal.decreases-chars
decreases-chars l = length l.chars
