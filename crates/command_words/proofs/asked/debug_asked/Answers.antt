use Rattle.std.proofs.Common.{refl}
use Rattle.command_words.specs.internal.Building.{rows_in}
use Rattle.command_words.proofs.WordLemmas.{no_debug}
use Rattle.command_words.proofs.asked.debug_asked.Goals as goal

pub returns : goal.returns
returns c = (refl, c.in_ok-file.ensures, c.flag_asked-explain.ensures)

pub returns-in_err-file : goal.returns-in_err-file
returns-in_err-file c = rw c.from_residual.ensures (no_debug (rows_in c.args.words.now) c.in_err-file.ensures)
