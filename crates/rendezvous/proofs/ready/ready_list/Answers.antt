-- What the slow replay lists, in order.
use Rattle.std.proofs.Common.{[], sym, subst}
use Rattle.std.proofs.lemmas.Result.{IfOk-weaker}
use Rattle.runs.specs.Steps.{State}
use Rattle.runs.specs.WellFormed.{WellFormed}
use Rattle.process_tree.specs.View.{tree_view}
use Rattle.process_tree.proofs.public.Formed.{left-formed}
use Rattle.local_actions.specs.View.{state_of}
use Rattle.rendezvous.proofs.Listed.{Exactly, sorted-ready}
use Rattle.rendezvous.proofs.ready.ready_list.Goals as goal

pub returns : goal.returns
returns c =
    let S = state_of c.args.tree.now c.args.store.now in
    let w = left-formed (tree_view c.args.tree.now) [] in
    let same = c.in_ok-state.ensures in
    let listed = c.in_ok-events.ensures.listed (subst (λ (T : State). WellFormed T.residual) (sym same) w) in
    let all : Exactly S c.in_ok-events.events = subst (λ (T : State). Exactly T c.in_ok-events.events) same listed in
    IfOk-weaker c.in_order.result _ _ (λ sorted s. sorted-ready S c.in_ok-events.events sorted all s)
    (c.in_order.ensures S w (λ e i. (all e).0 i))
