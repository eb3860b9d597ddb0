-- With those of the offsets that are left, the lines are those of all.
use Rattle.std.proofs.Common.{◌≡◌, ◌++◌, ℕ, List, drop}
use Rattle.described.specs.Lines.{lines_at}
use Rattle.described.specs.internal.Starts.{line_starts}
use Rattle.described.proofs.lines.lines_of.Given as goal

abbrev pub invariant-loop-offset : goal.invariant-loop-offset
invariant-loop-offset l =
    (source : List ℕ) → l.starts ≡ line_starts source →
    l.lines.items ++ lines_at source (drop l.offset-index l.offsets) ≡ lines_at source l.offsets
