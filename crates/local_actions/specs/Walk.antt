-- Where a walk through a tree is, and what it has found: what a `Cursor` stands for.
use Rattle.std.specs.Prelude.{List, [], ◌∷◌, ◌++◌}
use Rattle.address.specs.declared.Entry.{Entry}
use Rattle.runs.specs.Moves.{Place}
use Rattle.process_tree.specs.Remaining.{Received}
use Rattle.local_actions.specs.declared.around.Arrived.{Arrived}
use Rattle.local_actions.specs.declared.action.ActionKind.{ActionKind}
use Rattle.local_actions.specs.declared.action.LocalAction.{LocalAction}

-- the place, what was received in the arms around it, the innermost first, and the actions found
pub record Walk : Type 0 where
  pub place : Place
  pub received : Received
  pub actions : List LocalAction

-- an action at a place
abbrev pub action_at : Place → ActionKind → LocalAction
action_at a x = record { place = a; action = x }

-- actions, each at a place below this one
abbrev pub below : Place → List LocalAction → List LocalAction
below p [] = []
below p (r ∷ rs) = action_at (p ++ r.place) r.action ∷ below p rs

-- more actions, at places below that of the walk
abbrev pub added : List LocalAction → Walk → Walk
added rs w = record { place = w.place; received = w.received; actions = w.actions ++ below w.place rs }

-- one entry further down
abbrev pub down : Entry → Walk → Walk
down x w = record { place = w.place ++ x ∷ []; received = w.received; actions = w.actions }

-- without the last
abbrev pub without_last : {X : Type 0} → List X → List X
without_last [] = []
without_last (x ∷ []) = []
without_last (x ∷ y ∷ ys) = x ∷ without_last (y ∷ ys)

-- one entry up
abbrev pub up : Walk → Walk
up w = record { place = without_last w.place; received = w.received; actions = w.actions }

-- the received values as they came, the outermost first, in front of those of further out
abbrev pub received_onto : Received → List Arrived → Received
received_onto env [] = env
received_onto env (a ∷ rest) = received_onto ((a.channel, a.value) ∷ env) rest

-- in an arm that received this
abbrev pub within_arm : Received → Walk → Walk
within_arm env w = record { place = w.place; received = env; actions = w.actions }

-- without the innermost
abbrev pub outside : Received → Received
outside [] = []
outside (x ∷ env) = env
