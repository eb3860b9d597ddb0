-- What fits is accepted.
use Rattle.types.proofs.FittingIsAccepted.{labels_that_fit, values_that_fit}
use Rattle.types.proofs.laws.what_fits_is_accepted.Goals as goal

pub returns : goal.returns
returns c = record { labels = labels_that_fit; values = values_that_fit }
