-- The allowed events, as the slow replay lists them, of the state of a tree.
use Rattle.std.proofs.Common.{List}
use Rattle.std.specs.Prelude.{◌↔◌}
use Rattle.syntax.specs.Lists.{In}
use Rattle.runs.specs.Ready.{ReadyList}
use Rattle.runs.specs.Steps.{State, Allowed}
use Rattle.runs.specs.declared.event.Choice.{Choice}
use Rattle.runs.specs.declared.event.Event.{Event}
use Rattle.allowed_events.specs.internal.Acting.{ReadyWith, SortedOf}

-- exactly the allowed events of an equal state
abbrev pub Exactly : State → List Event → Type 0
Exactly S es = (e : Event) → In e es ↔ Allowed S e

-- in order they are the list
pub sorted-ready : (S : State) (listed sorted : List Event) → Exactly S listed → SortedOf listed sorted → ReadyList S sorted
sorted-ready S listed sorted all s = record {
  exactly = λ e. (λ i. (all e).0 ((s.same e).0 i), λ a. (s.same e).1 ((all e).1 a));
  in_order = s.in_order;
}

-- among them are all with a choice
pub ready-with : (S : State) (c : Choice) (es : List Event) → ReadyList S es → ReadyWith S c es
ready-with S c es r = record {
  sound = λ e i. (r.exactly e).0 i;
  complete = λ e a is. (r.exactly e).1 a;
  in_order = r.in_order;
}
