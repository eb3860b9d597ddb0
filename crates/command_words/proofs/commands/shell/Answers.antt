use Rattle.std.proofs.Common.{codes}
use Rattle.clap.specs.Words.{new_app}
use Rattle.command_words.specs.Words as spec
use Rattle.command_words.proofs.commands.shell.Goals as goal

pub returns : goal.returns
returns c =
    c.with_argument.ensures (spec.over_ports (new_app (codes "shell"))) (spec.optional (codes "TRACE"))
    (c.over_ports.ensures (new_app (codes "shell")) c.begun-command.ensures) c.optional.ensures
