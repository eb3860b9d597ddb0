use Rattle.std.proofs.Common.{◌≡◌, subst}
use Rattle.runs.specs.Does.{Answers}
use Rattle.runs.specs.Commands.{Command}
use Rattle.machine.specs.AtMachine.{AtMachine, object}
use Rattle.machine.specs.Results.{step_reply}
use Rattle.machine.specs.internal.Histories.{execution}
use Rattle.machine.specs.Marks.{marks_behind}
use Rattle.machine.proofs.public.MarkLaws.{step-marks}
use Rattle.machine.proofs.machine.Machine.step.Goals as goal

pub returns-clause-answers : goal.returns-clause-answers
returns-clause-answers c =
    let o' = execution c.self.inside.system c.step.new.self in
    subst (λ (h : AtMachine). Answers (object h) (Command.Step c.args.choice.now) (step_reply c.step.result) o') c.self.view_is c.step.ensures.answers

pub invariant_of-self : goal.invariant_of-self
invariant_of-self c = (c.step.ensures.holds, c.self.invariant.1)

pub returns-clause-marked : goal.returns-clause-marked
returns-clause-marked c =
    subst (λ (h : AtMachine). c.step.new.self.live.marked ≡ marks_behind (step_reply c.step.result) h.marked) c.self.view_is
    (step-marks c.step.result c.self.inside.history.live.marked c.step.new.self.live.marked c.step.ensures.marked)
