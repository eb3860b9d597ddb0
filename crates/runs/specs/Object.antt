-- One execution as a mathematical object: its live events and its next ticket. It has no tree and no store; the
-- state is read from the run of the live events.
use Rattle.std.specs.Prelude.{ℕ, suc, ◌^◌, [], ◌∷◌, ◌++◌}
use Rattle.runs.specs.Steps.{State, Run}
use Rattle.runs.specs.Live.{Live, events}
use Rattle.runs.specs.declared.event.Event.{Event}

-- one execution, which began in a state
pub record Object : Type 0 where
  -- the state in which it began
  pub opening : State
  pub live : Live
  -- the ticket of the next step
  pub next : ℕ

-- T is the state of o
abbrev pub Reaches : Object → State → Type 0
Reaches o T = Run o.opening (events o.live) T

-- the most events that may be live at one time
abbrev pub most_live : ℕ
most_live = 65536

-- the greatest ticket
abbrev pub last_ticket : ℕ
last_ticket = 2 ^ 63

-- o with the event e added under the next ticket
abbrev pub with_event : Object → Event → Object
with_event o e = record { opening = o.opening; live = o.live ++ (o.next, e) ∷ []; next = suc o.next }

-- o with these live events; the next ticket is the same
abbrev pub with_live : Object → Live → Object
with_live o l = record { opening = o.opening; live = l; next = o.next }

-- the object before its first command
abbrev pub new_object : State → Object
new_object S = record { opening = S; live = []; next = 1 }
