use Rattle.std.proofs.Common.{◌∙◌, ℕ, List, [], ◌∷◌, Option, ap}
use Rattle.std.specs.Prelude.{slice_get}
use Rattle.std.proofs.lemmas.Result.{on_ok_weaker}
use Rattle.line_text.specs.EventText.{event_text}
use Rattle.json_text.specs.Values.{optional_text, string_text, with_value, with_values}
use Rattle.picture_data.specs.declared.actions.Actions.{Actions}
use Rattle.picture_text.specs.DataText.{ahead_text, numbers_text, action_texts, since_texts}
use Rattle.picture_text.proofs.Rows.{event-row}
use Rattle.picture_text.proofs.steps.add_row.Goals as goal

pub returns : goal.returns
returns c =
    on_ok_weaker c.close_list.result
    (λ is. event-row c.args.json.now c.open_list.new.self c.add_event.new.json c.add_actions.new.json c.items.new.self c.add_reads.new.json
    c.add_ahead.new.json c.add_since.new.json c.close_list.new.self (string_text (event_text c.args.system.now c.args.event.now))
    (numbers_text c.args.event.now.read) (ahead_text (slice_get c.args.steps.now.ahead c.args.index))
    (action_texts (slice_get c.args.steps.now.actions.items c.args.index))
    (optional_text (slice_get c.args.steps.now.depths.items c.args.index) ∷ optional_text c.args.event.now.written ∷ [])
    (since_texts c.args.event.now.second (slice_get c.args.steps.now.since.items c.args.index))
    c.in_ok-open_list.ensures c.in_ok-add_event.ensures
    (c.in_ok-add_actions.ensures ∙ ap (λ (o : Option Actions). with_values c.add_event.new.json (action_texts o)) c.actions_at.ensures)
    (c.in_ok-items.ensures
    ∙ (ap (λ (d : Option ℕ). with_values c.add_actions.new.json (optional_text d ∷ optional_text c.number.result ∷ [])) c.depth_at.ensures
    ∙ ap (λ (w : Option ℕ).
    with_values c.add_actions.new.json (optional_text (slice_get c.args.steps.now.depths.items c.args.index) ∷ optional_text w ∷ []))
    c.number.ensures))
    c.in_ok-add_reads.ensures
    (c.in_ok-add_ahead.ensures ∙ ap (λ (o : Option (List ℕ)). with_value c.add_reads.new.json (ahead_text o)) c.ahead_at.ensures)
    (c.in_ok-add_since.ensures
    ∙ ap (λ (o : Option (ℕ × ℕ)). with_values c.add_ahead.new.json (since_texts c.args.event.now.second o)) c.since_at.ensures)
    is)
    c.close_list.ensures
