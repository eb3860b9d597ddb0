use Rattle.std.proofs.Common.{[], inl, inr, refl, subst}
use Rattle.machine.specs.AtMachine.{AtMachine}
use Rattle.dap_requests.specs.Sets.{ArePlaced, is_again}
use Rattle.dap.proofs.Keeping.{same_changes}
use Rattle.dap.proofs.restart.replace.Goals as goal

pub begin_again-requires-clause-placed : goal.begin_again-requires-clause-placed
begin_again-requires-clause-placed c =
    subst
    (λ (m : AtMachine). ArePlaced (is_again c.args.launched.now.program c.args.anew.program) m.checked.main c.args.anew.program.lines []
    c.args.launched.now.program.asked.items c.in-Some.placing.asked.items c.in-Some.placing.stops.items)
    c.machine.ensures c.in-Some.ensures.0

pub begin_again-requires-clause-shown : goal.begin_again-requires-clause-shown
begin_again-requires-clause-shown c =
    same_changes c.args.anew.program.counting.lines c.in-Some.placing.shown.items c.in-Some.placing.asked.items c.in-Some.ensures.1

pub returns-in-Some : goal.returns-in-Some
returns-in-Some c = inl c.begin_again.ensures

pub returns-in-None : goal.returns-in-None
returns-in-None c = inr (refl, refl)
