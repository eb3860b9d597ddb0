use Rattle.dependence.proofs.public.ListPlaces.{in-at}
use Rattle.plain_words.proofs.needed.follower_at.Goals as goal

pub follows_one-requires : goal.follows_one-requires
follows_one-requires c = (c.in-Some.field-0-1.now, in-at c.args.live.now.live c.args.index _ c.in-Some.ensures)
