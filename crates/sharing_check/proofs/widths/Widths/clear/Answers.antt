use Rattle.std.proofs.Common.{ap, ◌∙◌}
use Rattle.sharing_check.specs.internal.Counting.{listed}
use Rattle.sharing_check.proofs.CountTables.{listed_none}
use Rattle.sharing_check.proofs.widths.Widths.clear.Goals as goal

pub returns : goal.returns
returns c = ap listed c.clear.ensures.empty ∙ listed_none
