use Rattle.outline.proofs.Numbering.{branches-by-number}
use Rattle.outline.proofs.laws.branches_by_number.Goals as goal

pub returns : goal.returns
returns c = branches-by-number
