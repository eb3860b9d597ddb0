use Rattle.std.proofs.Common.{[], ◌∷◌}
use Rattle.command_words.specs.Words as spec
use Rattle.command_words.proofs.commands.asking.Goals as goal

pub returns : goal.returns
returns c =
    let one = c.with_command-program.ensures spec.running spec.explain c.running.ensures c.explain.ensures in
    let two = c.with_command-program-2.ensures (spec.with_subcommands spec.running (spec.explain ∷ [])) spec.outline one c.outline.ensures in
    let three = c.with_command-program-3.ensures (spec.with_subcommands spec.running (spec.explain ∷ spec.outline ∷ [])) spec.waiting two c.waiting.ensures in
    let four = c.with_command-program-4.ensures (spec.with_subcommands spec.running (spec.explain ∷ spec.outline ∷ spec.waiting ∷ [])) spec.why three c.why.ensures in
    c.with_command.ensures (spec.with_subcommands spec.running (spec.explain ∷ spec.outline ∷ spec.waiting ∷ spec.why ∷ [])) spec.picture four c.picture.ensures
