use Rattle.std.proofs.Common.{◌∙◌, ap, sym, option_map}
use Rattle.std.specs.Borrow.{Bor}
use Rattle.clap.specs.Words.{Text, found_of}
use Rattle.clap.proofs.WalkLemmas.{first_value-rows}
use Rattle.command_words.specs.Words.{is_on}
use Rattle.command_words.proofs.WordLemmas.{text_of_row}
use Rattle.command_words.proofs.asked.is_among.Goals as goal

pub returns-in-Some : goal.returns-in-Some
returns-in-Some c = c.eq.ensures ∙ sym (ap is_on (text_of_row (found_of c.args.words.now) c.args.name.now
    c.get_str.result c.in-Some.text c.get_str.ensures c.in-Some.is))

pub returns-in-None : goal.returns-in-None
returns-in-None c = sym (ap is_on (sym (first_value-rows (found_of c.args.words.now) c.args.name.now)
    ∙ (sym c.get_str.ensures ∙ ap (option_map (λ (x : Bor Text). x.now)) c.in-None.is)))
