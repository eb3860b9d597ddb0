use Rattle.std.proofs.Common.{sym}
use Rattle.parser.proofs.LastLemmas.{end_of_last}
use Rattle.parser.proofs.end_of.Goals as goal

pub returns-in-Some : goal.returns-in-Some
returns-in-Some c = sym (end_of_last c.args.tokens.now c.in-Some.last.now c.in-Some.ensures.value)
