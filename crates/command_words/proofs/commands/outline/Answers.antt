use Rattle.std.proofs.Common.{codes}
use Rattle.clap.specs.Words.{new_app}
use Rattle.command_words.specs.Words as spec
use Rattle.command_words.proofs.commands.outline.Goals as goal

pub returns : goal.returns
returns c =
    c.explaining.ensures (spec.over_file (new_app (codes "outline")))
    (c.over_file.ensures (new_app (codes "outline")) c.begun-command.ensures)
