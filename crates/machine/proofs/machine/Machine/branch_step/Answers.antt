use Rattle.std.proofs.Common.{List, ℕ, subst, ap, ◌∙◌}
use Rattle.machine.specs.AtMachine.{AtMachine, at_machine}
use Rattle.machine.specs.Branching.{AnswersBranch}
use Rattle.machine.proofs.machine.Machine.branch_step.Goals as goal

pub returns-clause-answers : goal.returns-clause-answers
returns-clause-answers c =
    let h' = at_machine c.self.inside.system c.branch_step.new.self in
    subst (λ (h : AtMachine). AnswersBranch h c.args.branch c.args.breaks.now c.branch_step.result h') c.self.view_is
    (subst (λ (l : List ℕ). AnswersBranch (at_machine c.self.inside.system c.self.inside.history) c.args.branch l c.branch_step.result h') c.lines.ensures
    c.branch_step.ensures.answers)

pub invariant_of-self : goal.invariant_of-self
invariant_of-self c = (c.branch_step.ensures.holds, c.self.invariant.1)

pub returns-clause-marked : goal.returns-clause-marked
returns-clause-marked c = c.branch_step.ensures.marked ∙ ap (λ (h : AtMachine). h.marked) c.self.view_is
