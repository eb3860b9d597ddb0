-- The events in which actions act that a state offers.
-- No reader has to believe it: the clauses of `ready_below` and `event_with` say what is listed and what is chosen
-- among them.
use Rattle.std.specs.Prelude.{◌≡◌, ◌⊎◌, ◌↔◌, List, Some}
use Rattle.syntax.specs.Lists.{In}
use Rattle.runs.specs.Choices.{choice_of}
use Rattle.runs.specs.InOrder.{InOrder}
use Rattle.runs.specs.Ready.{Sooner}
use Rattle.runs.specs.Steps.{State, Allowed}
use Rattle.runs.specs.declared.event.Choice.{Choice}
use Rattle.runs.specs.declared.event.Event.{Event}
use Rattle.local_actions.specs.Actions.{Offered}
use Rattle.local_actions.specs.declared.action.LocalAction.{LocalAction}
use Rattle.allowed_events.specs.internal.Meeting.{solo, met}

-- the action makes the event alone, or with one that the state offers as its partner
abbrev pub ActedBy : State → LocalAction → Event → Type 0
ActedBy S x e =
    (solo x.place x.action ≡ Some e)
    ⊎ ((y : LocalAction) × Offered S y × (met x.place x.action y.place y.action ≡ Some e))

-- one of the actions does
abbrev pub ActedByOne : State → List LocalAction → Event → Type 0
ActedByOne S xs e = (x : LocalAction) × In x xs × ActedBy S x e

-- the events are allowed, all of those with the choice are there, and they are in order
pub record ReadyWith (S : State) (c : Choice) (es : List Event) : Type 0 where
  pub sound : (e : Event) → In e es → Allowed S e
  pub complete : (e : Event) → Allowed S e → choice_of e ≡ c → In e es
  pub in_order : InOrder Sooner es

-- the same events, in order
pub record SortedOf (listed sorted : List Event) : Type 0 where
  pub same : (e : Event) → In e sorted ↔ In e listed
  pub in_order : InOrder Sooner sorted
