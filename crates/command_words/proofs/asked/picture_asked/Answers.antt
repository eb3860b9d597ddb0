use Rattle.std.proofs.Common.{inl, inr, refl}
use Rattle.command_words.specs.internal.Building.{rows_in}
use Rattle.command_words.proofs.WordLemmas.{no_picture}
use Rattle.command_words.proofs.asked.picture_asked.Goals as goal

pub returns : goal.returns
returns c = (refl, c.in_ok-file.ensures, c.in_ok-drawing.ensures)

pub returns-in_err-file : goal.returns-in_err-file
returns-in_err-file c = rw c.from_residual.ensures (no_picture (rows_in c.args.words.now) (inl c.in_err-file.ensures))

pub returns-in_err-drawing : goal.returns-in_err-drawing
returns-in_err-drawing c = rw c.from_residual-in_err-drawing.ensures (no_picture (rows_in c.args.words.now)
    (inr c.in_err-drawing.ensures))
