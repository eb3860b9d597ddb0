-- The events that are allowed in a state and act below a place.
use Rattle.std.specs.Prelude.{◌↔◌, List}
use Rattle.syntax.specs.Lists.{In}
use Rattle.runs.specs.Moves.{Place}
use Rattle.runs.specs.Events.{acting}
use Rattle.runs.specs.Steps.{State, Allowed}
use Rattle.runs.specs.InOrder.{InOrder}
use Rattle.runs.specs.Ready.{Sooner}
use Rattle.runs.specs.declared.event.Event.{Event}
use Rattle.local_actions.specs.Actions.{Under}

-- exactly the events that are allowed in S and act below the place, in order
pub record ReadyBelow (S : State) (p : Place) (es : List Event) : Type 0 where
  pub exactly : (e : Event) → In e es ↔ (Allowed S e × Under p (acting e))
  pub in_order : InOrder Sooner es
