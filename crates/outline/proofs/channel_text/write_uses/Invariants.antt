use Rattle.std.proofs.Common.{◌≡◌, ◌++◌, take}
use Rattle.std.specs.List.{flat_map}
use Rattle.outline.specs.OutlineText.{use_line}
use Rattle.outline.proofs.channel_text.write_uses.Given as goal

-- what was passed is written
abbrev pub invariant-loop-end : goal.invariant-loop-end
invariant-loop-end l =
    l.out.items ≡ l.initial.out.items ++ flat_map (use_line l.channel l.branch) (take l.end-index l.ends)
