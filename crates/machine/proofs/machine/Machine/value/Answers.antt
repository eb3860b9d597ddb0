use Rattle.std.proofs.Common.{inl, subst}
use Rattle.runs.specs.Does.{Answers}
use Rattle.runs.specs.Commands.{Command}
use Rattle.machine.specs.AtMachine.{AtMachine, object}
use Rattle.machine.specs.Results.{value_reply}
use Rattle.machine.proofs.machine.Machine.value.Goals as goal

pub returns : goal.returns
returns c =
    subst (λ (h : AtMachine). Answers (object h) (Command.Value c.args.variable) (value_reply c.tell_value.result) (object h)) c.self.view_is
    (inl (c.tell_value.ensures c.self.inside.system c.self.invariant.0))
