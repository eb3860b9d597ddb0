use Rattle.std.proofs.Common.{codes, refl}
use Rattle.clap.specs.Words.{found_of}
use Rattle.command_words.specs.internal.Building.{rows_in}
use Rattle.command_words.proofs.WordLemmas.{no_check, no_text, text_of_row}
use Rattle.command_words.proofs.asked.check_asked.Goals as goal

pub returns : goal.returns
returns c = (
  refl,
  text_of_row (found_of c.args.words.now) (codes "FILE") c.get_str.result c.in_ok-file.file c.get_str.ensures
      c.in_ok-file.was,
  c.flag_asked-explain.ensures,
)

pub returns-in_err-file : goal.returns-in_err-file
returns-in_err-file c = rw c.from_residual.ensures (no_check (rows_in c.args.words.now)
    (no_text (found_of c.args.words.now) (codes "FILE") c.get_str.result c.get_str.ensures c.in_err-file.was))
