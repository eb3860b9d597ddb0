-- What commands demand of widths is met.
use Rattle.types.proofs.Fitting.{demands_met}
use Rattle.types.proofs.laws.widths_fit.Goals as goal

pub returns : goal.returns
returns c = demands_met
