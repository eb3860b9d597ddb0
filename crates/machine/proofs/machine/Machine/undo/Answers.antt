use Rattle.std.proofs.Common.{◌≡◌, inl, subst}
use Rattle.runs.specs.Does.{Answers}
use Rattle.runs.specs.Commands.{Command}
use Rattle.machine.specs.AtMachine.{AtMachine, object}
use Rattle.machine.specs.Results.{undo_reply}
use Rattle.machine.specs.internal.Histories.{execution}
use Rattle.machine.proofs.NeverMemory.{undo-wants-none}
use Rattle.machine.specs.Marks.{marks_behind}
use Rattle.machine.proofs.machine.Machine.undo.Goals as goal

pub undo-requires : goal.undo-requires
undo-requires c = (c.self.inside.system, c.self.invariant.0)

pub returns-clause-answers : goal.returns-clause-answers
returns-clause-answers c =
    subst (λ (h : AtMachine). Answers (object h) (Command.Undo c.args.ticket) (undo_reply c.args.ticket c.undo.result) (execution c.self.inside.system c.undo.new.self))
    c.self.view_is (inl (c.undo.ensures.answers c.self.inside.system))

pub returns-clause-never_memory : goal.returns-clause-never_memory
returns-clause-never_memory c =
    undo-wants-none (execution c.self.inside.system c.self.inside.history) (execution c.self.inside.system c.undo.new.self) c.args.ticket c.undo.result
    (inl (c.undo.ensures.answers c.self.inside.system))

pub invariant_of-self : goal.invariant_of-self
invariant_of-self c = (c.undo.ensures.holds c.self.inside.system c.self.invariant.0, c.self.invariant.1)

pub returns-clause-marked : goal.returns-clause-marked
returns-clause-marked c =
    subst (λ (h : AtMachine). c.undo.new.self.live.marked ≡ marks_behind (undo_reply c.args.ticket c.undo.result) h.marked) c.self.view_is c.undo.ensures.marked
