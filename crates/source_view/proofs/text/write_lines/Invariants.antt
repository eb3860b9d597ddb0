use Rattle.std.proofs.Common.{◌≡◌, suc, ◌+◌, ◌≤◌, ◌++◌, length}
use Rattle.syntax.specs.Texts.{lines}
use Rattle.source_view.specs.View.{lines_text}
use Rattle.source_view.specs.internal.Marking.{marks_at}
use Rattle.source_view.proofs.text.write_lines.Given as goal

abbrev pub invariant-loop-index : goal.invariant-loop-index
invariant-loop-index l =
    (length (lines l.rest) + l.index ≤ length l.marks)
    × (l.out.items ++ lines_text (marks_at l.marks) (suc l.index) (lines l.rest)
    ≡ lines_text (marks_at l.marks) 1 (lines l.source))
