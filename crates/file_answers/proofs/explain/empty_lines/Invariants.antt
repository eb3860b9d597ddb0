use Rattle.std.proofs.Common.{◌≡◌}
use Rattle.file_answers.specs.Explained.{empty_lines}
use Rattle.file_answers.proofs.explain.empty_lines.Given as goal

abbrev pub invariant-loop-line : goal.invariant-loop-line
invariant-loop-line l = l.lines.items ≡ empty_lines l._line
