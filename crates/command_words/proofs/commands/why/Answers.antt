use Rattle.std.proofs.Common.{codes}
use Rattle.clap.specs.Words.{new_app, with_rule}
use Rattle.command_words.specs.Words as spec
use Rattle.command_words.proofs.commands.why.Goals as goal

pub returns : goal.returns
returns c =
    let asking = c.with_argument-asking.ensures (spec.over_trace (new_app (codes "why"))) (spec.word (codes "X"))
    (c.over_trace.ensures (new_app (codes "why")) c.begun-command.ensures) c.word.ensures in
    let all = c.with_argument.ensures (with_rule (spec.over_trace (new_app (codes "why"))) (spec.word (codes "X")))
    (spec.flag (codes "all")) asking c.flag.ensures in
    c.explaining.ensures
    (with_rule (with_rule (spec.over_trace (new_app (codes "why"))) (spec.word (codes "X"))) (spec.flag (codes "all"))) all
