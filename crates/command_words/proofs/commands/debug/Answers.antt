use Rattle.std.proofs.Common.{codes}
use Rattle.clap.specs.Words.{new_app}
use Rattle.command_words.specs.Words as spec
use Rattle.command_words.proofs.commands.debug.Goals as goal

pub returns : goal.returns
returns c =
    c.explaining.ensures (spec.over_ports (new_app (codes "debug")))
    (c.over_ports.ensures (new_app (codes "debug")) c.begun-command.ensures)
