use Rattle.std.proofs.Common.{◌≡◌, drop, map}
use Rattle.json_text.specs.Values.{with_values}
use Rattle.picture_text.specs.DataText.{feed_text}
use Rattle.picture_text.proofs.ground.add_feeds.Given as goal

-- with those that are left, all are there
abbrev pub invariant-loop-feed : goal.invariant-loop-feed
invariant-loop-feed l =
    with_values l.json (map feed_text (drop l.feed-index l.feeds)) ≡ with_values l.initial.json (map feed_text l.feeds)
