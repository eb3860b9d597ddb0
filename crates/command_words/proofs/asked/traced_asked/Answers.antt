use Rattle.std.proofs.Common.{codes}
use Rattle.clap.specs.Words.{found_of}
use Rattle.command_words.proofs.WordLemmas.{text_of_row, no_text}
use Rattle.command_words.proofs.asked.traced_asked.Goals as goal

pub returns : goal.returns
returns c = (
  c.in_ok-file.ensures,
  text_of_row (found_of c.args.words.now) (codes "TRACE") c.get_str.result c.in_ok-trace.trace c.get_str.ensures
      c.in_ok-trace.was,
)

pub returns-in_err-file : goal.returns-in_err-file
returns-in_err-file c = rw c.from_residual.ensures (λ file stimulus trace named.
    c.in_err-file.ensures file stimulus named.0)

pub returns-in_err-trace : goal.returns-in_err-trace
returns-in_err-trace c = rw c.from_residual-in_err-trace.ensures (λ file stimulus trace named.
    no_text (found_of c.args.words.now) (codes "TRACE") c.get_str.result c.get_str.ensures c.in_err-trace.was trace named.1)
