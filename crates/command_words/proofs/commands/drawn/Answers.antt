use Rattle.std.proofs.Common.{codes}
use Rattle.clap.specs.Words.{App, new_app, with_rule}
use Rattle.command_words.specs.Words as spec
use Rattle.command_words.proofs.commands.drawn.Goals as goal

pub returns : goal.returns
returns c =
    let traced : App = spec.over_trace (new_app (codes "picture")) in
    let sheet = c.with_argument-as_sheet.ensures traced (spec.flag (codes "svg"))
    (c.over_trace.ensures (new_app (codes "picture")) c.begun-command.ensures) c.flag.ensures in
    let waves = c.with_argument-as_waves.ensures (with_rule traced (spec.flag (codes "svg"))) (spec.flag (codes "vcd")) sheet
    c.flag-2.ensures in
    c.with_argument.ensures (with_rule (with_rule traced (spec.flag (codes "svg"))) (spec.flag (codes "vcd")))
    (spec.flag (codes "json")) waves c.flag-3.ensures
