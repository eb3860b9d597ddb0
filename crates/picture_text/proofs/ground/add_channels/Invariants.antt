use Rattle.std.proofs.Common.{◌≡◌, drop, map}
use Rattle.json_text.specs.Values.{with_values}
use Rattle.picture_text.specs.DataText.{channel_text}
use Rattle.picture_text.proofs.ground.add_channels.Given as goal

-- with those that are left, all are there
abbrev pub invariant-loop-channel : goal.invariant-loop-channel
invariant-loop-channel l =
    with_values l.json (map channel_text (drop l.channel-index l.channel-items)) ≡ with_values l.initial.json (map channel_text l.channel-items)
