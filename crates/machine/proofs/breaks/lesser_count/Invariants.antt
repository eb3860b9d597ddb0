use Rattle.std.proofs.Common.{◌≡◌, ◌+◌, drop}
use Rattle.machine.specs.internal.Sorting.{lesser_count}
use Rattle.machine.proofs.breaks.lesser_count.Given as goal

abbrev pub invariant-loop-i : goal.invariant-loop-i
invariant-loop-i l = l.i + lesser_count l.line (drop l.i l.lines) ≡ lesser_count l.line l.lines
