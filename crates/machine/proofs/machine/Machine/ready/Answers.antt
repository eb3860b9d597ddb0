use Rattle.std.proofs.Common.{refl, subst}
use Rattle.std.specs.Prelude.{IfOk}
use Rattle.std.proofs.lemmas.Result.{IfOk-weaker}
use Rattle.runs.specs.Does.{Does, Answers}
use Rattle.runs.specs.Steps.{State}
use Rattle.runs.specs.Object.{Reaches}
use Rattle.runs.specs.Ready.{ReadyList}
use Rattle.runs.specs.Commands.{Command, Reply}
use Rattle.runs.specs.declared.command.Refusal.TheVariants.{Memory}
use Rattle.event_inverse.specs.Grown.{state_of_tree}
use Rattle.machine.specs.AtMachine.{AtMachine, object}
use Rattle.machine.specs.Results.{ready_reply}
use Rattle.machine.specs.internal.Histories.{execution, tree_of}
use Rattle.machine.proofs.Stepped.{told-of, ok-told}
use Rattle.machine.proofs.machine.Machine.ready.Goals as goal

pub returns-clause-answers : goal.returns-clause-answers
returns-clause-answers c =
    let o = execution c.self.inside.system c.self.inside.history in
    let T = state_of_tree (tree_of c.self.inside.history) in
    let lists =
    IfOk-weaker c.ready.result (λ events. Reaches o T × ReadyList T events.items) (λ events. Does o Command.Ready (Reply.Ready events.items) o)
    (λ events both. ((T, both.0, both.1), refl)) (c.ready.ensures c.self.inside.system c.self.invariant.0) in
    subst (λ (h : AtMachine). Answers (object h) Command.Ready (ready_reply c.or_no_memory.result) (object h)) c.self.view_is
    (told-of o Command.Ready ready_reply c.ready.result c.or_no_memory.result refl lists tt c.or_no_memory.ensures)

pub returns-clause-events : goal.returns-clause-events
returns-clause-events c =
    let o = execution c.self.inside.system c.self.inside.history in
    let T = state_of_tree (tree_of c.self.inside.history) in
    let told =
    ok-told (λ events. Reaches o T × ReadyList T events.items) Memory c.ready.result c.or_no_memory.result
    (c.ready.ensures c.self.inside.system c.self.invariant.0) c.or_no_memory.ensures in
    subst (λ (h : AtMachine). IfOk c.or_no_memory.result (λ events. (S : State) × Reaches (object h) S × ReadyList S events.items)) c.self.view_is
    (IfOk-weaker c.or_no_memory.result (λ events. Reaches o T × ReadyList T events.items) (λ events. (S : State) × Reaches o S × ReadyList S events.items)
    (λ events both. (T, both.0, both.1)) told)
