use Rattle.std.proofs.Common.{◌≡◌, ◌++◌, replicate, string_bytes}
use Rattle.marked_lines.specs.Marks.{blank}
use Rattle.marked_lines.proofs.shown.add_blanks.Given as goal

abbrev pub invariant-loop-count : goal.invariant-loop-count
invariant-loop-count l = string_bytes l.out ≡ string_bytes l.initial.out ++ replicate l.count blank
