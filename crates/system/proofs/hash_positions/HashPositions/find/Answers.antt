use Rattle.std.proofs.Common.{◌∙◌, ap}
use Rattle.system.specs.internal.Hashing.{position_of_hash}
use Rattle.system.proofs.HashLemmas.{position_of_hash-lookup}
use Rattle.system.proofs.hash_positions.HashPositions.find.Goals as goal

pub returns : goal.returns
returns c =
    c.copied.ensures
    ∙ (c.get.ensures.value
    ∙ (position_of_hash-lookup c.args.hash c.self.inside.index.entries ∙ ap (λ es. position_of_hash es c.args.hash) c.self.view_is))
