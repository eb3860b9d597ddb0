use Rattle.std.proofs.Common.{◌≡◌, ◌+◌, drop}
use Rattle.waiting.specs.OtherLines.{count_below}
use Rattle.waiting.proofs.other_lines.count_below.Given as goal

-- all that were passed are less
abbrev pub invariant-loop-index : goal.invariant-loop-index
invariant-loop-index l = l.index + count_below l.line (drop l.index l.lines) ≡ count_below l.line l.lines
