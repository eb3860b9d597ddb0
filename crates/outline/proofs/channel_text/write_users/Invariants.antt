use Rattle.std.proofs.Common.{◌≡◌, ◌++◌, take}
use Rattle.std.specs.List.{flat_map}
use Rattle.outline.specs.OutlineText.{uses_lines}
use Rattle.outline.proofs.channel_text.write_users.Given as goal

-- what was passed is written
abbrev pub invariant-loop-branch : goal.invariant-loop-branch
invariant-loop-branch l =
    l.out.items ≡ l.initial.out.items ++ flat_map (uses_lines l.channel) (take l.branch-index l.branches)
