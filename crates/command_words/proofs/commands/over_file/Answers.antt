use Rattle.std.proofs.Common.{codes}
use Rattle.command_words.specs.Words as spec
use Rattle.command_words.proofs.commands.over_file.Goals as goal

pub returns : goal.returns
returns c app is = c.with_argument.ensures app (spec.word (codes "FILE")) is c.word.ensures
