use Rattle.std.proofs.Common.{codes}
use Rattle.clap.specs.Words.{new_app}
use Rattle.command_words.specs.Words as spec
use Rattle.command_words.proofs.commands.waiting.Goals as goal

pub returns : goal.returns
returns c =
    c.explaining.ensures (spec.over_trace (new_app (codes "waiting")))
    (c.over_trace.ensures (new_app (codes "waiting")) c.begun-command.ensures)
