use Rattle.std.proofs.Common.{ap, ◌∙◌}
use Rattle.machine.specs.AtMachine.{AtMachine}
use Rattle.dap_moves.proofs.Nearest.{next_of_nearest, nothing_goes}
use Rattle.dap_moves.proofs.run.most_among.Goals as goal

pub returns-in-Some : goal.returns-in-Some
returns-in-Some c = (
  c.in-Some.field-0-1.now,
  next_of_nearest c.args.desk.now c.system-system.result.now c.args.plan.now.only c.args.turn c.args.count c.in-Some.branch
      c.args.events.now c.as_slice.result.now c.in-Some.field-0-1.now
      (c.system-system.ensures ∙ c.checked.ensures ∙ ap (λ (m : AtMachine). m.checked) c.machine.ensures) c.as_slice.ensures c.requires.count
      c.requires.ready c.in-Some.ensures,
)

pub returns-in-None : goal.returns-in-None
returns-in-None c =
    nothing_goes c.args.desk.now c.system-system.result.now c.args.plan.now.only c.args.events.now c.as_slice.result.now
    (c.system-system.ensures ∙ c.checked.ensures ∙ ap (λ (m : AtMachine). m.checked) c.machine.ensures) c.as_slice.ensures c.requires.ready
    c.in-None.ensures
