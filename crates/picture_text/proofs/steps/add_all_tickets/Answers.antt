use Rattle.std.proofs.Common.{ℕ, map}
use Rattle.std.proofs.lemmas.Result.{on_ok_weaker}
use Rattle.std.specs.Fmt.{decimal}
use Rattle.runs.specs.declared.event.Event.{Event}
use Rattle.picture_text.proofs.Rows.{none-left, listed}
use Rattle.picture_text.proofs.steps.add_all_tickets.Goals as goal

pub returns : goal.returns
returns c =
    on_ok_weaker c.close_list.result
    (λ is. listed c.args.json.now c.open_list.new.self c.loop-ticket.json c.close_list.new.self
    (map (λ (x : ℕ × Event). decimal x.0) c.args.live.now.live) c.in_ok-open_list.ensures
    (none-left (λ (x : ℕ × Event). decimal x.0) c.args.live.now.live c.loop-ticket.ticket-iterator c.loop-ticket.json c.open_list.new.self
    c.in-None.ensures.steps.0 c.loop-ticket.invariant) is)
    c.close_list.ensures
