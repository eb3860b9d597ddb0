-- Of events those whose other address is the least.
-- No reader has to believe it: `proofs/LeastChosen.antt` ties it to `Chosen` of `runs`.
use Rattle.std.specs.Prelude.{◌≡◌, ◌↔◌, List, [], ◌∷◌, Bool, true, cond, Option, Some, None}
use Rattle.std.specs.Ordering.{is_lt}
use Rattle.address.specs.Order.{order_of}
use Rattle.syntax.specs.Lists.{In}
use Rattle.runs.specs.Ready.{other}
use Rattle.runs.specs.Steps.{State}
use Rattle.runs.specs.declared.event.Event.{Event}
use Rattle.local_actions.specs.declared.action.LocalAction.{LocalAction}
use Rattle.allowed_events.specs.internal.Acting.{ActedBy}

-- whether the other address of the event is less than that of the least so far, or it is the first
abbrev pub is_less : Event → Option Event → Bool
is_less e None = true
is_less e (Some f) = is_lt (order_of (other e) (other f))

-- the least so far, and then each that is less
abbrev pub least_of : Option Event → List Event → Option Event
least_of o [] = o
least_of o (e ∷ es) = least_of (cond (is_less e o) (Some e) o) es

-- the least of the events that the action makes
pub record LeastActed (S : State) (x : LocalAction) (least : Option Event) : Type 0 where
  pub events : List Event
  pub exactly : (e : Event) → In e events ↔ ActedBy S x e
  pub taken : least ≡ least_of None events
