use Rattle.std.proofs.Common.{◌∷◌, ap}
use Rattle.elaborate.specs.declared.stimulus.Given.TheVariants.{Values}
use Rattle.elaborate.proofs.form.is_feed.Goals as goal

pub returns-clause-some : goal.returns-clause-some
returns-clause-some c =
    λ yes. let numbers = c.are_values.ensures.some yes in (Values numbers.0, (numbers.1.1, ap (λ t. 32 ∷ 61 ∷ t) numbers.1.0))
