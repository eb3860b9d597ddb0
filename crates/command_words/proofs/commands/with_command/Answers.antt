use Rattle.std.proofs.Common.{subst}
use Rattle.std.specs.Prelude.{IfOk}
use Rattle.command_words.specs.internal.Building.{IsCommand}
use Rattle.command_words.proofs.commands.with_command.Goals as goal

pub returns-in-Ok : goal.returns-in-Ok
returns-in-Ok c over under was is =
    c.add_command.ensures over under (subst (λ r. IfOk r (IsCommand over)) c.in-Ok.is was) is
