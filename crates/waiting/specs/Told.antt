-- What is told of who waits.
use Rattle.std.specs.Prelude.{◌≡◌}
use Rattle.runs.specs.Object.{Reaches}
use Rattle.runs.specs.Ready.{ReadyList}
use Rattle.runs.specs.Steps.{State}
use Rattle.machine.specs.AtMachine.{AtMachine, object}
use Rattle.local_actions.specs.declared.action.LocalAction.{LocalAction}
use Rattle.rings.specs.FirstRing.{IsFirstRing}
use Rattle.waiting.specs.Input.{helped_in}
use Rattle.waiting.specs.Progress.{StandsLike}
use Rattle.waiting.specs.Rings.{NamesDeadlocked, NamesRing, TellsPartners}
use Rattle.waiting.specs.Waits.{ListsWaiting}
use Rattle.waiting.specs.declared.waiting.Waiting.{Waiting}

-- this is told of a state of a machine
pub record IsTold (m : AtMachine) (S : State) (w : Waiting) : Type 0 where
  pub progress : StandsLike S w.progress
  -- exactly the events that may be taken, in the order of `ready`
  pub ready : ReadyList S w.ready
  pub actions : ListsWaiting S w.actions
  pub partners : TellsPartners S w.actions w.partners.items
  pub deadlocked : NamesDeadlocked m S w.actions w.deadlocked.items
  pub ring : NamesRing m S w.actions w.ring.items
  -- of several rings the one that a search from the first action on comes to first
  pub first : IsFirstRing w.actions w.partners.items w.deadlocked.items w.ring.items

-- it is told of the state of a machine
abbrev pub TellsWaits : AtMachine → Waiting → Type 0
TellsWaits m w = (S : State) × Reaches (object m) S × IsTold m S w

-- of one state one ring is told, or none, whatever the machines, if another hand helps the same actions
abbrev pub OneRing : Type 0
OneRing =
    (m n : AtMachine) (S : State) (v w : Waiting) → ((x : LocalAction) → helped_in m S x ≡ helped_in n S x) →
    IsTold m S v → IsTold n S w → v.ring.items ≡ w.ring.items
