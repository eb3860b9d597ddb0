use Rattle.std.proofs.Common.{◌∙◌, ap}
use Rattle.picture_lanes.specs.internal.Placing.{Places, place_of}
use Rattle.picture_lanes.proofs.Placed.{place_of-shown}
use Rattle.picture_lanes.proofs.path_places.PathPlaces.find.Goals as goal

pub returns : goal.returns
returns c =
    c.copied.ensures
    ∙ (c.get.ensures.value
    ∙ (place_of-shown (λ k. k.items) c.args.path.now c.self.inside.index.entries ∙ ap (λ (es : Places). place_of es c.args.path.now) c.self.view_is))
