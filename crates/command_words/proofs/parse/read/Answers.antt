use Rattle.std.proofs.Common.{map}
use Rattle.command_words.proofs.WordLemmas.{memory_refused}
use Rattle.command_words.proofs.parse.read.Goals as goal

pub returns-in_err-program : goal.returns-in_err-program
returns-in_err-program g c =
    memory_refused c.from_residual.result (map g.S.AsStr.text c.args.words.now) _ c.from_residual.ensures.1
