use Rattle.std.proofs.Common.{codes}
use Rattle.clap.specs.Words.{with_rule}
use Rattle.command_words.specs.Words as spec
use Rattle.command_words.proofs.commands.picture.Goals as goal

pub returns : goal.returns
returns c =
    let marked = c.with_argument-marked.ensures spec.drawn spec.event_number c.drawn.ensures c.event.ensures in
    c.with_argument.ensures (with_rule spec.drawn spec.event_number) (spec.flag (codes "quiet")) marked c.flag.ensures
