use Rattle.std.proofs.Common.{rules}
use Rattle.command_words.specs.internal.Building.{rows_in}
use Rattle.command_words.proofs.WordLemmas.{drawing_told}
use Rattle.command_words.proofs.asked.drawing_asked.Goals as goal

pub returns-in_err-event : goal.returns-in_err-event
returns-in_err-event c = rw c.from_residual.ensures (λ drawing asked. c.in_err-event.ensures asked.0 asked.1)

pub returns : goal.returns
returns c =
    drawing_told (rows_in c.args.words.now) c.in_ok-event.event c.drawing_of.result c.in_ok-event.ensures (search rules)
