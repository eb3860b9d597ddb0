use Rattle.std.proofs.Common.{codes}
use Rattle.clap.specs.Words.{found_of}
use Rattle.command_words.proofs.WordLemmas.{text_of_row, no_text}
use Rattle.command_words.proofs.asked.files_asked.Goals as goal

pub returns : goal.returns
returns c = (
  text_of_row (found_of c.args.words.now) (codes "FILE") c.get_str.result c.in_ok-file.file c.get_str.ensures
      c.in_ok-file.was,
  text_of_row (found_of c.args.words.now) (codes "STIMULUS") c.get_str-2.result c.in_ok-stimulus.stimulus
      c.get_str-2.ensures c.in_ok-stimulus.was,
)

pub returns-in_err-file : goal.returns-in_err-file
returns-in_err-file c = rw c.from_residual.ensures (λ file stimulus named.
    no_text (found_of c.args.words.now) (codes "FILE") c.get_str.result c.get_str.ensures c.in_err-file.was file named.0)

pub returns-in_err-stimulus : goal.returns-in_err-stimulus
returns-in_err-stimulus c = rw c.from_residual-in_err-stimulus.ensures (λ file stimulus named.
    no_text (found_of c.args.words.now) (codes "STIMULUS") c.get_str-2.result c.get_str-2.ensures c.in_err-stimulus.was
    stimulus named.1)
