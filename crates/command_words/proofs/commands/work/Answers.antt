use Rattle.std.proofs.Common.{codes, pos}
use Rattle.clap.specs.Words.{new_app, with_rule}
use Rattle.clap.specs.declared.builder.value_parser.ValueParser.TheVariants.{Signed, Unsigned}
use Rattle.command_words.specs.Words as spec
use Rattle.command_words.proofs.commands.work.Goals as goal

pub returns : goal.returns
returns c =
    let hired = c.with_argument-hired.ensures (spec.over_ports (new_app (codes "work")))
    (spec.number (codes "workers") (Signed (pos 1) (pos 16)))
    (c.over_ports.ensures (new_app (codes "work")) c.begun-command.ensures) c.workers.ensures in
    c.explaining.ensures
    (with_rule (with_rule (spec.over_ports (new_app (codes "work")))
    (spec.number (codes "workers") (Signed (pos 1) (pos 16)))) (spec.number (codes "turns") (Unsigned 0 1000000)))
    (c.with_argument.ensures (with_rule (spec.over_ports (new_app (codes "work")))
    (spec.number (codes "workers") (Signed (pos 1) (pos 16)))) (spec.number (codes "turns") (Unsigned 0 1000000)) hired
    c.turns.ensures)
