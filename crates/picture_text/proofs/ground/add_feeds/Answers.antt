use Rattle.std.proofs.Common.{codes, map, refl}
use Rattle.std.proofs.lemmas.Result.{on_ok_weaker}
use Rattle.picture_text.specs.DataText.{feed_text}
use Rattle.picture_text.proofs.Rows.{all-rows, listed-member}
use Rattle.picture_text.proofs.ground.add_feeds.Goals as goal

pub returns : goal.returns
returns c =
    on_ok_weaker c.close_list.result
    (λ is. listed-member c.args.json.now c.name.new.self c.open_list.new.self c.loop-feed.json c.close_list.new.self (codes "feeds")
    (map feed_text c.args.feeds.now) c.in_ok-name.ensures c.in_ok-open_list.ensures
    (all-rows feed_text c.args.feeds.now c.args.feeds.now c.loop-feed.feed-index c.loop-feed.json c.open_list.new.self refl c.loop-feed-test.false
    c.loop-feed.invariant) is)
    c.close_list.ensures
