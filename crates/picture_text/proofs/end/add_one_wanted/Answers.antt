use Rattle.std.proofs.Common.{◌∙◌, ℕ, List, [], ◌∷◌, ap}
use Rattle.std.specs.Fmt.{decimal}
use Rattle.std.proofs.lemmas.Result.{on_ok_weaker}
use Rattle.json_text.specs.Values.{Growing, with_value}
use Rattle.picture_text.specs.DataText.{flag, numbers_text}
use Rattle.picture_text.proofs.Rows.{listed}
use Rattle.picture_text.proofs.end.add_one_wanted.Goals as goal

pub returns : goal.returns
returns c =
    on_ok_weaker c.close_list.result
    (λ is. listed c.args.json.now c.open_list.new.self c.number-2.new.self c.close_list.new.self
    (decimal c.args.wanted.now.channel ∷ numbers_text c.args.wanted.now.lanes.items ∷ decimal (flag c.args.wanted.now.can_come) ∷ [])
    c.in_ok-open_list.ensures
    (c.in_ok-number-2.ensures
    ∙ (ap (λ (n : ℕ). with_value c.add_indexes.new.json (decimal n)) c.flag.ensures
    ∙ ap (λ (g : Growing). with_value g (decimal (flag c.args.wanted.now.can_come)))
    (c.in_ok-add_indexes.ensures
    ∙ (ap (λ (l : List ℕ). with_value c.number.new.self (numbers_text l)) c.as_slice.ensures.value
    ∙ ap (λ (g : Growing). with_value g (numbers_text c.args.wanted.now.lanes.items))
    (c.in_ok-number.ensures ∙ ap (λ (n : ℕ). with_value c.open_list.new.self (decimal n)) c.from.ensures)))))
    is)
    c.close_list.ensures
