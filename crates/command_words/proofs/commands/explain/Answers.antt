use Rattle.std.proofs.Common.{codes}
use Rattle.clap.specs.Words.{new_app}
use Rattle.command_words.specs.Words as spec
use Rattle.command_words.proofs.commands.explain.Goals as goal

pub returns : goal.returns
returns c =
    c.with_argument.ensures (new_app (codes "explain")) spec.refusal_number c.begun-command.ensures c.number.ensures
