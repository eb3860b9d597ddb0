use Rattle.past.proofs.Reading.{told-as-read}
use Rattle.past.proofs.laws.values_are_told_as_read.Goals as goal

pub returns : goal.returns
returns c = told-as-read
