use Rattle.std.proofs.Common.{◌∙◌, ap}
use Rattle.machine.specs.AtMachine.{AtMachine}
use Rattle.dap_moves.proofs.GoingOut.{newest_there}
use Rattle.dap_moves.proofs.taken_back.newest_at.Goals as goal

pub returns-in-Some : goal.returns-in-Some
returns-in-Some c =
    newest_there c.args.desk.now c.args.branch c.args.below c.in_ok-index.index c.in-Some.ticket c.in-Some.event.now c.system-system.result.now
    c.live_events-live.result.now.live (c.system-system.ensures ∙ c.checked.ensures ∙ ap (λ (m : AtMachine). m.checked) c.machine-2.ensures)
    (c.live_events-live.ensures.live ∙ ap (λ (m : AtMachine). m.live) c.machine.ensures) c.requires c.in_ok-index.ensures c.in-Some.ensures
