use Rattle.std.proofs.Common.{codes}
use Rattle.command_words.specs.Words as spec
use Rattle.command_words.proofs.commands.over_ports.Goals as goal

pub returns : goal.returns
returns c app is =
    c.with_argument.ensures (spec.over_file app) (spec.word (codes "STIMULUS"))
    (c.over_file-described.ensures app is) c.word.ensures
