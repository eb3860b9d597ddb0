use Rattle.std.proofs.Common.{codes}
use Rattle.command_words.specs.Words as spec
use Rattle.command_words.proofs.commands.explaining.Goals as goal

pub returns : goal.returns
returns c app was = c.with_argument.ensures app (spec.flag (codes "explain")) was c.flag.ensures
