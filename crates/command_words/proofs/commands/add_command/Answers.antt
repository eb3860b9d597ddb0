use Rattle.command_words.proofs.WordLemmas.{with_another}
use Rattle.command_words.proofs.commands.add_command.Goals as goal

pub returns-in-Ok : goal.returns-in-Ok
returns-in-Ok c over under was is =
    with_another c.args.command c.subcommand.result c.args.program c.in-Ok.command over under c.in-Ok.is
    c.subcommand.ensures was is
