use Rattle.std.proofs.Common.{◌≡◌, ◌∙◌, List, ℕ, Option, Some, None, ap, codes, option_map, refl, rules, subst, sym}
use Rattle.std.specs.Borrow.{Bor}
use Rattle.clap.specs.Words.{Text, first_of, found_of}
use Rattle.clap.proofs.WalkLemmas.{first_value-rows}
use Rattle.decimal.specs.Reading.{IsNoNumber, Reads}
use Rattle.command_words.specs.Words.{TellsStep}
use Rattle.command_words.specs.internal.Building.{rows_in}
use Rattle.command_words.proofs.WordLemmas.{no_step_told, step_told, text_of_row}
use Rattle.command_words.proofs.asked.event_asked.Goals as goal

pub returns-in-Some-read_number : goal.returns-in-Some-read_number
returns-in-Some-read_number c =
    step_told (first_of (codes "event") (rows_in c.args.words.now)) c.in-Some.text.now c.in-Some-read_number.ticket
    (text_of_row (found_of c.args.words.now) (codes "event") c.get_str.result c.in-Some.text c.get_str.ensures c.in-Some.is)
    (subst (λ (t : List ℕ). Reads t c.in-Some-read_number.ticket) c.as_bytes.ensures.value c.in-Some-read_number.ensures)

pub returns-in-None-read_number : goal.returns-in-None-read_number
returns-in-None-read_number c =
    no_step_told (first_of (codes "event") (rows_in c.args.words.now)) c.in-Some.text.now
    (text_of_row (found_of c.args.words.now) (codes "event") c.get_str.result c.in-Some.text c.get_str.ensures c.in-Some.is)
    (subst (λ (t : List ℕ). IsNoNumber t) c.as_bytes.ensures.value c.in-None-read_number.ensures)

pub returns-in-None : goal.returns-in-None
returns-in-None c =
    let row : first_of (codes "event") (rows_in c.args.words.now) ≡ None =
    sym (first_value-rows (found_of c.args.words.now) (codes "event"))
    ∙ (sym c.get_str.ensures ∙ ap (option_map (λ (x : Bor Text). x.now)) c.in-None.is) in
    subst (λ (o : Option Text). TellsStep o None) (sym row) refl
