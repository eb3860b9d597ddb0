-- On which lines the events of a run act.
use Rattle.std.specs.Prelude.{◌≡◌, ℕ, List, ◌∷◌, true, Some}
use Rattle.syntax.specs.Lists.{In}
use Rattle.address.specs.declared.Entry.TheVariants.{Branch}
use Rattle.system.specs.declared.system.System.{System}
use Rattle.system_places.specs.LinesBegun.{begins}
use Rattle.runs.specs.Events.{acting}
use Rattle.runs.specs.Moves.{Place}
use Rattle.runs.specs.Steps.{State, Run, Allowed, opening}
use Rattle.runs.specs.declared.event.Event.{Event}
use Rattle.dependence.specs.EventPlaces.{line_after}

-- after the events h the acting place of e is that of a command: it has a line, and on that a command begins
abbrev pub HasLine : List Event → System → Event → Type 0
HasLine h system e = (line : ℕ) × (line_after h system (acting e) ≡ Some line) × (begins line system.main ≡ true)

-- so has each event of a run that does not act in the environment: its place begins with /0, where the body stands
abbrev pub EventsHaveLines : Type 0
EventsHaveLines =
    (system : System) (h : List Event) (T : State) (e : Event) (b : Place) → Run (opening system) h T → In e h →
    acting e ≡ Branch 0 ∷ b → HasLine h system e

-- and each that may be taken next
abbrev pub AllowedHaveLines : Type 0
AllowedHaveLines =
    (system : System) (h : List Event) (T : State) (e : Event) (b : Place) → Run (opening system) h T → Allowed T e →
    acting e ≡ Branch 0 ∷ b → HasLine h system e
