-- With those that are left, the starts are those of all.
use Rattle.std.proofs.Common.{◌≡◌, ◌++◌, drop}
use Rattle.described.specs.internal.Starts.{starts_behind, line_starts}
use Rattle.described.proofs.lines.line_starts.Given as goal

abbrev pub invariant-loop-index : goal.invariant-loop-index
invariant-loop-index l = l.starts ++ starts_behind l.index (drop l.index l.source) ≡ line_starts l.source
