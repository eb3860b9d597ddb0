use Rattle.std.proofs.Common.{◌∙◌, Option, ap}
use Rattle.std.specs.Prelude.{slice_get}
use Rattle.std.proofs.lemmas.Result.{on_ok_weaker}
use Rattle.line_text.specs.EventText.{event_text}
use Rattle.json_text.specs.Values.{string_text, with_values}
use Rattle.picture_data.specs.declared.actions.Actions.{Actions}
use Rattle.picture_text.specs.DataText.{action_texts, step_text}
use Rattle.picture_text.proofs.Rows.{ready-row}
use Rattle.picture_text.proofs.end.add_ready_row.Goals as goal

pub returns : goal.returns
returns c =
    on_ok_weaker c.close_list.result
    (λ is. ready-row c.args.json.now c.open_list.new.self c.add_event.new.json c.add_actions.new.json c.add_line.new.json c.close_list.new.self
    (string_text (event_text c.args.system.now c.args.event.now)) (string_text (step_text c.args.event.now))
    (action_texts (slice_get c.args.end.now.ready_actions.items c.args.index)) c.in_ok-open_list.ensures c.in_ok-add_event.ensures
    (c.in_ok-add_actions.ensures ∙ ap (λ (o : Option Actions). with_values c.add_event.new.json (action_texts o)) c.actions_at.ensures)
    c.in_ok-add_line.ensures is)
    c.close_list.ensures
