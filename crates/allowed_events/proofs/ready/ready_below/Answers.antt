-- The events in which the actions below the place act, in order.
use Rattle.std.proofs.Common.{[]}
use Rattle.std.proofs.lemmas.Result.{IfOk-weaker}
use Rattle.process_tree.specs.View.{tree_view}
use Rattle.process_tree.proofs.public.Formed.{left-formed}
use Rattle.local_actions.specs.Actions.{Under}
use Rattle.local_actions.specs.View.{state_of}
use Rattle.local_actions.specs.declared.action.LocalAction.{LocalAction}
use Rattle.allowed_events.proofs.ActedActions.{acted-allowed, below-ready}
use Rattle.allowed_events.proofs.ready.ready_below.Goals as goal

pub returns : goal.returns
returns c = λ code table stems tidy.
    let S = state_of c.args.tree.now c.args.store.now in
    let p = c.args.place.now in
    let w = left-formed (tree_view c.args.tree.now) [] in
    let exactly = c.in_ok-acting.ensures tidy in
    let made = c.in_ok-made.ensures code table stems tidy in
    IfOk-weaker c.in_order.result _ _
    (λ sorted s. below-ready S p c.in_ok-acting.acting c.as_slice.result.now c.in_ok-made.made sorted w exactly c.as_slice.ensures made s)
    (c.in_order.ensures S w
    (acted-allowed S (λ (x : LocalAction). Under p x.place) c.in_ok-acting.acting c.as_slice.result.now c.in_ok-made.made w exactly c.as_slice.ensures made))
