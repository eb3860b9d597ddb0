use Rattle.command_words.proofs.WordLemmas.{with_one}
use Rattle.command_words.proofs.commands.with_argument.Goals as goal

pub returns-in-Ok : goal.returns-in-Ok
returns-in-Ok c app rule was is =
    with_one c.args.command c.arg.result c.in-Ok.command c.args.argument app rule c.in-Ok.is c.arg.ensures was is
