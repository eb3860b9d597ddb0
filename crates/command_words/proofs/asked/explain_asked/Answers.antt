use Rattle.std.proofs.Common.{refl}
use Rattle.command_words.specs.internal.Building.{rows_in}
use Rattle.command_words.proofs.WordLemmas.{no_explain}
use Rattle.command_words.proofs.asked.explain_asked.Goals as goal

pub returns : goal.returns
returns c = (refl, c.in_ok-page.ensures)

pub returns-in_err-page : goal.returns-in_err-page
returns-in_err-page c = rw c.from_residual.ensures (no_explain (rows_in c.args.words.now) c.in_err-page.ensures)
