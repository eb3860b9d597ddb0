use Rattle.std.proofs.Common.{[], ◌∷◌}
use Rattle.command_words.specs.Words as spec
use Rattle.command_words.proofs.commands.running.Goals as goal

pub returns : goal.returns
returns c =
    let one = c.with_command-program.ensures spec.bare spec.check c.bare.ensures c.check.ensures in
    let two = c.with_command-program-2.ensures (spec.with_subcommands spec.bare (spec.check ∷ [])) spec.debug one c.debug.ensures in
    let three = c.with_command-program-3.ensures (spec.with_subcommands spec.bare (spec.check ∷ spec.debug ∷ [])) spec.replay two c.replay.ensures in
    let four = c.with_command-program-4.ensures (spec.with_subcommands spec.bare (spec.check ∷ spec.debug ∷ spec.replay ∷ [])) spec.work three c.work.ensures in
    c.with_command.ensures (spec.with_subcommands spec.bare (spec.check ∷ spec.debug ∷ spec.replay ∷ spec.work ∷ [])) spec.shell four c.shell.ensures
