-- What is made one part behind the other, within the limits, is the system.
use Rattle.std.proofs.Common.{◌∙◌}
use Rattle.elaborate.proofs.Expanded.{walked_is}
use Rattle.elaborate.proofs.pass.made_system.Goals as goal

pub returns : goal.returns
returns c = c.in_ok-system.ensures ∙ walked_is c.args.procedures.now c.args.entries.now c.requires
