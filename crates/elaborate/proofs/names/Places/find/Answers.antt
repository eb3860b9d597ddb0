use Rattle.std.proofs.Common.{◌∙◌, ap}
use Rattle.elaborate.specs.internal.NamePositions.{position_at}
use Rattle.elaborate.proofs.PlaceLemmas.{place_at-shown}
use Rattle.elaborate.proofs.names.Places.find.Goals as goal

pub returns : goal.returns
returns c =
    c.copied.ensures
    ∙ (c.get.ensures.value
    ∙ (place_at-shown (λ k. k.items) c.args.name.now c.self.inside.index.entries ∙ ap (λ es. position_at es c.args.name.now) c.self.view_is))
