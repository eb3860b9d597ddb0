use Rattle.std.proofs.Common.{◌≡◌, ◌++◌, take}
use Rattle.std.specs.List.{flat_map}
use Rattle.waiting.specs.WaitingText.{or_line}
use Rattle.waiting.proofs.text.write_more.Given as goal

-- the lines passed are written
abbrev pub invariant-loop-line : goal.invariant-loop-line
invariant-loop-line l = l.out.items ≡ l.initial.out.items ++ flat_map or_line (take l.line-index l.more)
