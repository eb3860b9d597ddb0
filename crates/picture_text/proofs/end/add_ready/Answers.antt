use Rattle.std.proofs.Common.{codes}
use Rattle.std.proofs.lemmas.Result.{on_ok_weaker}
use Rattle.picture_text.specs.DataText.{ready_rows}
use Rattle.picture_text.proofs.Rows.{all-ready-rows, listed-member}
use Rattle.picture_text.proofs.end.add_ready.Goals as goal

pub returns : goal.returns
returns c =
    on_ok_weaker c.close_list.result
    (λ is. listed-member c.args.json.now c.name.new.self c.open_list.new.self c.loop-index.json c.close_list.new.self (codes "ready")
    (ready_rows c.args.system.now c.args.end.now.ready_actions.items 0 c.args.end.now.ready) c.in_ok-name.ensures
    c.in_ok-open_list.ensures
    (all-ready-rows c.args.system.now c.args.end.now.ready_actions.items c.args.end.now.ready c.as_slice-event-items.result.now
    c.loop-index.index c.loop-index.json c.open_list.new.self c.as_slice-event-items.ensures c.loop-index-test.false
    c.loop-index.invariant) is)
    c.close_list.ensures
