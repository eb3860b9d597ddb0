use Rattle.std.proofs.Common.{codes, inl, inr, refl}
use Rattle.clap.specs.Words.{found_of}
use Rattle.command_words.specs.internal.Building.{rows_in}
use Rattle.command_words.proofs.WordLemmas.{no_text, no_why, text_of_row}
use Rattle.command_words.proofs.asked.why_asked.Goals as goal

pub returns : goal.returns
returns c = (
  refl,
  c.in_ok-file.ensures,
  text_of_row (found_of c.args.words.now) (codes "X") c.get_str.result c.in_ok-subject.subject c.get_str.ensures
      c.in_ok-subject.was,
  c.flag_asked-all.ensures,
)

pub returns-in_err-file : goal.returns-in_err-file
returns-in_err-file c = rw c.from_residual.ensures (no_why (rows_in c.args.words.now) (inl c.in_err-file.ensures))

pub returns-in_err-subject : goal.returns-in_err-subject
returns-in_err-subject c = rw c.from_residual-in_err-subject.ensures (no_why (rows_in c.args.words.now)
    (inr (no_text (found_of c.args.words.now) (codes "X") c.get_str.result c.get_str.ensures c.in_err-subject.was)))
