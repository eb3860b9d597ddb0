use Rattle.std.proofs.Common.{codes}
use Rattle.command_words.specs.Words as spec
use Rattle.command_words.proofs.commands.over_trace.Goals as goal

pub returns : goal.returns
returns c app is =
    c.with_argument.ensures (spec.over_ports app) (spec.word (codes "TRACE")) (c.over_ports-stepped.ensures app is)
    c.word.ensures
