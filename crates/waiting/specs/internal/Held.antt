-- The places that events have, as the code keeps them.
-- No reader has to believe it: the contract of `who_waits` ties it to `Waits`.
use Rattle.std.specs.Prelude.{◌≡◌, ◌≢◌, List, Bool, true, is_some, Vec}
use Rattle.std.specs.Global.{Global}
use Rattle.std.specs.Map.{lookup}
use Rattle.std.specs.Ordering.{is_eq}
use Rattle.address.specs.declared.Entry.{Entry}
use Rattle.address.specs.Order.{order_of}
use Rattle.runs.specs.declared.event.Event.{Event}
use Rattle.waiting.specs.internal.Among.{has_any}
use Rattle.waiting.specs.declared.places.Places.{Places}

-- whether the place a is one of them
abbrev pub is_there : Places → List Entry → Bool
is_there places a = is_some (lookup (λ (k : Vec Entry Global). is_eq (order_of a k.items)) places.map.entries)

-- the place a is there, and each other place that was
pub record PutAt (old : Places) (a : List Entry) (new : Places) : Type 0 where
  pub here : is_there new a ≡ true
  pub others : (b : List Entry) → b ≢ a → is_there new b ≡ is_there old b

-- exactly the places of these events are there
abbrev pub Has : Places → List Event → Type 0
Has places events = (a : List Entry) → is_there places a ≡ has_any a events
