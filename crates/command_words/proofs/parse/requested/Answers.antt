use Rattle.std.proofs.Common.{map}
use Rattle.command_words.proofs.WordLemmas.{nothing_asked}
use Rattle.command_words.proofs.parse.requested.Goals as goal

pub returns-in-Err : goal.returns-in-Err
returns-in-Err g c =
    nothing_asked (map g.S.AsStr.text c.args.words.now) c.in-Err.error c.why_unasked.result c.in-Err.ensures
    c.why_unasked.ensures
