use Rattle.std.proofs.Common.{◌≡◌, [], drop}
use Rattle.waiting.specs.OtherLines.{put_all}
use Rattle.waiting.proofs.other_lines.put_all.Given as goal

-- with the lines that are left they are those of all
abbrev pub invariant-loop-line : goal.invariant-loop-line
invariant-loop-line l = put_all l.own (drop l.line-index l.found) l.lines.items ≡ put_all l.initial.own l.found []
