use Rattle.std.proofs.Common.{◌∙◌}
use Rattle.waiting.proofs.HeldPlaces.{put-at}
use Rattle.waiting.proofs.places.Places.put.Goals as goal

pub returns : goal.returns
returns c =
    put-at c.args.self.now _ c.in_ok-key.key 0 c.args.place.now (c.in_ok-key.ensures.items ∙ c.entries.ensures) c.in_ok-insert.ensures.updates
