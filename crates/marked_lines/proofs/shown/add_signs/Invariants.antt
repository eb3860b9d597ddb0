use Rattle.std.proofs.Common.{◌≡◌, ◌++◌, string_bytes}
use Rattle.marked_lines.specs.Marks.{signs}
use Rattle.marked_lines.proofs.shown.add_signs.Given as goal

abbrev pub invariant-loop-count : goal.invariant-loop-count
invariant-loop-count l = string_bytes l.out ≡ string_bytes l.initial.out ++ signs l.count l.sign
