use Rattle.std.proofs.Common.{codes}
use Rattle.std.proofs.lemmas.Result.{on_ok_weaker}
use Rattle.picture_text.specs.DataText.{event_rows}
use Rattle.picture_text.proofs.Rows.{all-event-rows, listed-member}
use Rattle.picture_text.proofs.steps.add_events.Goals as goal

pub returns : goal.returns
returns c =
    on_ok_weaker c.close_list.result
    (λ is. listed-member c.args.json.now c.name.new.self c.open_list.new.self c.loop-index.json c.close_list.new.self (codes "events")
    (event_rows c.args.system.now c.args.steps.now 0 c.args.live.now.live) c.in_ok-name.ensures c.in_ok-open_list.ensures
    (all-event-rows c.args.system.now c.args.steps.now c.args.live.now.live _ _ c.loop-index.json c.open_list.new.self c.in-None.ensures.steps.0
    c.loop-index.invariant.rows) is)
    c.close_list.ensures
