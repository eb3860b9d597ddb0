use Rattle.std.proofs.Common.{rules, ◌≡◌}
use Rattle.parser.specs.Offsets.{offset_at}
use Rattle.parser.proofs.Halted.{halted_answer}
use Rattle.parser.proofs.answer.Goals as goal

pub returns-in-Err : goal.returns-in-Err
returns-in-Err c =
    let there : c.offset_at-offset.result ≡ offset_at c.args.tokens.now c.whole.new.cursor.rest.now = search rules in
    let whole = halted_answer c.args.tokens.now c.whole.new.cursor.rest.now _ c.in-Err.halt c.offset_at-offset.result c.in-Err.ensures there in
    search rules
