use Rattle.std.proofs.Common.{◌≡◌, ◌∙◌, length, sym, ap}
use Rattle.std.specs.Prelude.{slice_get}
use Rattle.runs.specs.Live.{Live}
use Rattle.machine.specs.AtMachine.{AtMachine}
use Rattle.dap_moves.proofs.GoingOut.{none_there}
use Rattle.dap_moves.proofs.taken_back.last_ticket.Goals as goal

pub returns-in-Some : goal.returns-in-Some
returns-in-Some c =
    let last = c.in_ok-last.last in
    let same : c.live_events-live.result.now.live ≡ c.args.desk.now.machine.live =
    c.live_events-live.ensures.live ∙ ap (λ (m : AtMachine). m.live) c.machine.ensures in (
      last,
      c.in-Some.field-0-1.now,
      ap (λ (l : Live). slice_get l last) (sym same) ∙ c.in-Some.ensures,
      c.in_ok-last.ensures ∙ c.len.ensures ∙ ap (λ (l : Live). length l) same,
    )

pub returns-in-None : goal.returns-in-None
returns-in-None c =
    absurd (none_there c.live_events-live.result.now.live c.in_ok-last.last (c.in_ok-last.ensures ∙ c.len.ensures) c.in-None.ensures)
