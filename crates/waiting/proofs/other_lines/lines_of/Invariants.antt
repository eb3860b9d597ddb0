use Rattle.std.proofs.Common.{◌≡◌, take}
use Rattle.std.specs.List.{flat_map}
use Rattle.waiting.specs.OtherLines.{line_of}
use Rattle.waiting.proofs.other_lines.lines_of.Given as goal

-- those of the ends passed
abbrev pub invariant-loop-held : goal.invariant-loop-held
invariant-loop-held l = l.lines.items ≡ flat_map (line_of l.action l.side) (take l.held-index l.ends)
