use Rattle.std.proofs.Common.{◌≡◌, drop, is_ok}
use Rattle.std.specs.List.{list_all}
use Rattle.types.specs.Arms.{new_channels}
use Rattle.types.proofs.call.differ_from.Given as goal

-- all differ exactly where those that are left do from one another and from those seen
abbrev pub invariant-loop-channel : goal.invariant-loop-channel
invariant-loop-channel l =
    list_all is_ok (new_channels l.seen.keys (drop l.channel-index l.channels)) ≡ list_all is_ok (new_channels l.fn.seen.keys l.channels)
