use Rattle.picture_lanes.proofs.Placed.{added}
use Rattle.picture_lanes.proofs.path_places.PathPlaces.add.Goals as goal

pub returns : goal.returns
returns c =
    added (λ k. k.items) c.in_ok-key.key c.args.place c.self.inside.index.entries c.insert.new.self.entries
    c.args.self.now c.args.path.now c.self.view_is c.in_ok-key.ensures.items c.requires c.in_ok-insert.ensures.entries
