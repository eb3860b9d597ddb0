-- The events that are allowed in a state, in their order, and the one that a choice means.
use Rattle.std.specs.Prelude.{◌≡◌, ◌⊎◌, ◌↔◌, ◌<◌, List, [], Option, Some}
use Rattle.std.specs.declared.cmp.Ordering.TheVariants.{Less}
use Rattle.syntax.specs.Lists.{In}
use Rattle.address.specs.Order.{order_of}
use Rattle.runs.specs.Moves.{Place}
use Rattle.runs.specs.Events.{acting}
use Rattle.runs.specs.Steps.{State, Allowed}
use Rattle.runs.specs.Choices.{choice_of}
use Rattle.runs.specs.InOrder.{InOrder}
use Rattle.runs.specs.declared.event.Event.{Event}
use Rattle.runs.specs.declared.event.Choice.{Choice}
use Rattle.runs.specs.declared.event.Kind.{Kind}
use Rattle.runs.specs.declared.event.Kind.TheVariants.{Meet, Open, Close, Sync}

-- the address of the side that does not act, the root's where one side alone takes part
abbrev pub other_at : Kind → Place → Option Place → Place
other_at Meet a b = a
other_at Open a b = a
other_at Close a b = a
other_at Sync a (Some b) = b
other_at _ a b = []

-- the address of the side of an event that does not act
abbrev pub other : Event → Place
other e = other_at e.kind e.first e.second

-- e comes before f: by acting address, then by arm, then by the other side's address
abbrev pub Sooner : Event → Event → Type 0
Sooner e f =
    (order_of (acting e) (acting f) ≡ Less)
    ⊎ ((acting e ≡ acting f)
    × (((choice_of e).arm < (choice_of f).arm)
    ⊎ (((choice_of e).arm ≡ (choice_of f).arm) × (order_of (other e) (other f) ≡ Less))))

-- exactly the events that are allowed in S, in order
pub record ReadyList (S : State) (es : List Event) : Type 0 where
  pub exactly : (e : Event) → In e es ↔ Allowed S e
  pub in_order : InOrder Sooner es

-- an event with this choice is allowed in S
abbrev pub ChoiceAllowed : State → Choice → Type 0
ChoiceAllowed S c = (e : Event) × Allowed S e × (choice_of e ≡ c)

-- e is the event that the choice means in S: it is allowed, and no allowed event with this choice
-- has a lesser other address
pub record Chosen (S : State) (c : Choice) (e : Event) : Type 0 where
  pub allowed : Allowed S e
  pub choice : choice_of e ≡ c
  pub least : (f : Event) → Allowed S f → choice_of f ≡ c → order_of (other f) (other e) ≡ Less → ⊥
