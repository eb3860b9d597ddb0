use Rattle.std.proofs.Common.{◌≡◌, ◌++◌, take}
use Rattle.std.specs.List.{flat_map}
use Rattle.outline.specs.OutlineText.{channel_lines}
use Rattle.outline.proofs.channel_text.write_each.Given as goal

-- what was passed is written
abbrev pub invariant-loop-channel : goal.invariant-loop-channel
invariant-loop-channel l =
    l.out.items ≡ l.initial.out.items ++ flat_map (channel_lines l.branches l.lines) (take l.channel-index l.channels)
