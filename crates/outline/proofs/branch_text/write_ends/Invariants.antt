use Rattle.std.proofs.Common.{◌≡◌, ◌++◌, take}
use Rattle.std.specs.List.{flat_map}
use Rattle.outline.specs.OutlineText.{end_line}
use Rattle.outline.proofs.branch_text.write_ends.Given as goal

-- what was passed is written
abbrev pub invariant-loop-end : goal.invariant-loop-end
invariant-loop-end l =
    l.out.items ≡ l.initial.out.items ++ flat_map (end_line l.channels) (take l.end-index l.ends)
