use Rattle.std.proofs.Common.{ap, ◌∙◌}
use Rattle.machine.specs.AtMachine.{AtMachine}
use Rattle.locked_execution.specs.AtDesk.{new_desk}
use Rattle.debug_session.proofs.whole.begin.Goals as goal

pub returns-clause-script_state : goal.returns-clause-script_state
returns-clause-script_state c = (
  c.in_ok-checked.checked,
  c.in_ok-checked.ensures.system,
  c.new-script_state.ensures
      ∙ ap (λ (h : AtMachine). record { desk = new_desk h; session = 0; source = c.args.source.now }) c.in_ok-machine.ensures,
)
