-- What is seen of a state.
use Rattle.std.specs.Prelude.{ℕ, List, [], ◌∷◌, Option, IfSome, unwrap_or}
use Rattle.system_places.specs.SystemBranches.{branch_at}
use Rattle.runs.specs.Events.{acting}
use Rattle.runs.specs.Object.{Reaches}
use Rattle.runs.specs.Ready.{ReadyList}
use Rattle.runs.specs.Steps.{State}
use Rattle.runs.specs.declared.event.Event.{Event}
use Rattle.machine.specs.AtMachine.{AtMachine, object}
use Rattle.local_actions.specs.Actions.{OffersExactly}
use Rattle.dap_views.specs.declared.sight.Sight.{Sight}

-- the actions are exactly those that the state of the machine offers, and the steps exactly those that are ready in it
abbrev pub SeesState : AtMachine → Sight → Type 0
SeesState m sight = (S : State) × Reaches (object m) S × OffersExactly S sight.actions × ReadyList S sight.ready

-- so it is of what is known, if something is
abbrev pub Sees : AtMachine → Option Sight → Type 0
Sees m sight = IfSome sight (SeesState m)

-- the branch in which an event acts
abbrev pub acting_branch : AtMachine → Event → ℕ
acting_branch m e = unwrap_or (branch_at m.checked (acting e)) 0

-- the branch in which the first of these steps acts; the first one where there is none
abbrev pub first_branch : AtMachine → List Event → ℕ
first_branch m [] = 0
first_branch m (e ∷ es) = acting_branch m e
