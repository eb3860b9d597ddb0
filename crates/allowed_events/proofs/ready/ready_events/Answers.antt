-- The events that the offered actions make among themselves.
use Rattle.std.proofs.Common.{List, sym, subst}
use Rattle.local_actions.specs.Actions.{OffersExactly}
use Rattle.local_actions.specs.View.{state_of}
use Rattle.local_actions.specs.declared.action.LocalAction.{LocalAction}
use Rattle.allowed_events.proofs.ready.ready_events.Goals as goal

pub returns : goal.returns
returns c = λ tidy.
    let S = state_of c.args.tree.now c.args.store.now in
    c.events_among.ensures S (subst (λ (actions : List LocalAction). OffersExactly S actions) (sym c.as_slice.ensures) (c.in_ok-actions.ensures.exactly tidy))
