use Rattle.std.proofs.Common.{inl, inr, refl}
use Rattle.command_words.specs.internal.Building.{rows_in, TellsCrew}
use Rattle.command_words.proofs.WordLemmas.{no_work}
use Rattle.command_words.proofs.asked.work_asked.Goals as goal

pub returns : goal.returns
returns c =
    let tells : TellsCrew (rows_in c.args.words.now) c.in_ok-crew.crew = c.in_ok-crew.ensures in
    (refl, c.in_ok-file.ensures, tells.0, tells.1, c.flag_asked-explain.ensures)

pub returns-in_err-file : goal.returns-in_err-file
returns-in_err-file c = rw c.from_residual.ensures (no_work (rows_in c.args.words.now) (inl c.in_err-file.ensures))

pub returns-in_err-crew : goal.returns-in_err-crew
returns-in_err-crew c = rw c.from_residual-in_err-crew.ensures (no_work (rows_in c.args.words.now) (inr c.in_err-crew.ensures))
