use Rattle.std.proofs.Common.{refl, ap, ◌∙◌}
use Rattle.machine.specs.AtMachine.{AtMachine}
use Rattle.dap_moves.proofs.Nearest.{next_of_nearest, nothing_goes}
use Rattle.dap_moves.proofs.run.step_among.Goals as goal

pub returns-in-Some-clause-takes : goal.returns-in-Some-clause-takes
returns-in-Some-clause-takes c =
    c.step_or_stop.ensures.takes c.args.turn
    (next_of_nearest c.args.desk.now c.system-system.result.now c.args.plan.now.only c.args.turn c.args.count c.in-Some.branch
    c.args.events.now c.as_slice.result.now c.in-Some.event.now
    (c.system-system.ensures ∙ c.checked.ensures ∙ ap (λ (m : AtMachine). m.checked) c.machine.ensures) c.as_slice.ensures c.requires.count
    c.requires.ready c.in-Some.ensures)

pub returns-in-None-clause-takes : goal.returns-in-None-clause-takes
returns-in-None-clause-takes c = (
  refl,
  nothing_goes c.args.desk.now c.system-system.result.now c.args.plan.now.only c.args.events.now c.as_slice.result.now
      (c.system-system.ensures ∙ c.checked.ensures ∙ ap (λ (m : AtMachine). m.checked) c.machine.ensures) c.as_slice.ensures c.requires.ready
      c.in-None.ensures,
  refl,
)
