use Rattle.std.proofs.Common.{subst}
use Rattle.std.specs.Prelude.{IfOk}
use Rattle.std.proofs.lemmas.Result.{IfOk-weaker}
use Rattle.runs.specs.InOrder.{InOrder}
use Rattle.runs.specs.Steps.{State}
use Rattle.runs.specs.Object.{Reaches}
use Rattle.runs.specs.declared.command.Refusal.TheVariants.{Memory}
use Rattle.event_inverse.specs.Grown.{state_of_tree}
use Rattle.local_actions.specs.Actions.{OffersExactly, Precedes}
use Rattle.machine.specs.AtMachine.{AtMachine, object}
use Rattle.machine.specs.internal.Histories.{execution, tree_of}
use Rattle.machine.proofs.Stepped.{ok-told}
use Rattle.machine.proofs.machine.Machine.actions.Goals as goal

pub returns-clause-offered : goal.returns-clause-offered
returns-clause-offered c =
    let o = execution c.self.inside.system c.self.inside.history in
    let T = state_of_tree (tree_of c.self.inside.history) in
    let told =
    ok-told (λ actions. Reaches o T × OffersExactly T actions) Memory c.actions.result c.or_no_memory.result
    (c.actions.ensures.offered c.self.inside.system c.self.invariant.0) c.or_no_memory.ensures in
    subst (λ (h : AtMachine). IfOk c.or_no_memory.result (λ actions. (S : State) × Reaches (object h) S × OffersExactly S actions)) c.self.view_is
    (IfOk-weaker c.or_no_memory.result (λ actions. Reaches o T × OffersExactly T actions) (λ actions. (S : State) × Reaches o S × OffersExactly S actions)
    (λ actions both. (T, both.0, both.1)) told)

pub returns-clause-in_order : goal.returns-clause-in_order
returns-clause-in_order c =
    ok-told (λ actions. InOrder Precedes actions) Memory c.actions.result c.or_no_memory.result
    (c.actions.ensures.in_order c.self.inside.system c.self.invariant.0) c.or_no_memory.ensures
