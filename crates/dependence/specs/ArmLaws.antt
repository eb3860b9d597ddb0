-- What the arms that were taken are, in a run.
use Rattle.std.specs.Prelude.{◌≡◌, List, None}
use Rattle.syntax.specs.Lists.{In}
use Rattle.system.specs.declared.system.System.{System}
use Rattle.runs.specs.Events.{acting}
use Rattle.runs.specs.Moves.{Place}
use Rattle.runs.specs.Steps.{opening, Run, State}
use Rattle.runs.specs.declared.event.Event.{Event}
use Rattle.dependence.specs.EventPlaces.{at_choice, taken_by}

-- the arm that a choice took is that of each event of the run that acts there, so there is one such arm
abbrev pub TakenByTheEvent : Type 0
TakenByTheEvent =
    (system : System) (h : List Event) (T : State) (e : Event) (p : Place) →
    Run (opening system) h T → In e h → acting e ≡ at_choice p → taken_by h p ≡ e.arm

-- a choice at which no event acts took none
abbrev pub NoneTaken : Type 0
NoneTaken = (h : List Event) (p : Place) → ((e : Event) → In e h → acting e ≡ at_choice p → ⊥) → taken_by h p ≡ None
