use Rattle.std.proofs.Common.{◌≡◌, [], drop}
use Rattle.picture_lanes.specs.Ground.{with_feeds}
use Rattle.picture_lanes.proofs.ground.feeds_of.Given as goal

abbrev pub invariant-loop-index : goal.invariant-loop-index
invariant-loop-index l =
    with_feeds l.table l.index (drop l.index l.environment) l.feeds ≡ with_feeds l.table 0 l.environment []
