-- Whether there is a picture of the events for which a trace stands.
use Rattle.std.proofs.Common.{◌≡◌, ℕ, List, Option, subst}
use Rattle.system.specs.declared.system.System.{System}
use Rattle.runs.specs.Live.{Live}
use Rattle.runs.specs.declared.event.Event.{Event}
use Rattle.machine.specs.AtMachine.{AtMachine}
use Rattle.trace_file.specs.Loading.{ticketed}
use Rattle.trace_file.specs.TraceText.{StandsFor}
use Rattle.picture_drawing.specs.Asked.{IsMissing, IsThere}
use Rattle.picture.specs.Pictures.{Files, IsPictureBehind, asked_event}
use Rattle.picture.specs.declared.Drawing.{Drawing}
use Rattle.picture.specs.declared.Pictured.{Pictured}

-- there is one of these live events where the step that is asked for is one of them
abbrev pub IsShown : Live → Option ℕ → Pictured → Type 0
IsShown l event (Pictured.Text text) = IsThere l event
IsShown l event (Pictured.NoSuchStep words) = IsMissing l event

abbrev pub IsPictured : System → List ℕ → Drawing → Pictured → Type 0
IsPictured system trace drawing pictured =
    (h : List Event) × StandsFor system trace h × IsShown (ticketed 1 h) (asked_event drawing) pictured

pub shown : (system : System) (trace : List ℕ) (f : Files) (drawing : Drawing) (pictured : Pictured) →
    IsPictureBehind system trace f drawing pictured → IsPictured system trace drawing pictured
shown system trace f drawing (Pictured.Text text) h =
    let loaded = h.1 in
    (loaded.0, loaded.1, subst (λ (m : AtMachine). IsThere m.live (asked_event drawing)) loaded.2 h.2.0)
shown system trace f drawing (Pictured.NoSuchStep words) h =
    let loaded = h.1 in
    (loaded.0, loaded.1, subst (λ (m : AtMachine). IsMissing m.live (asked_event drawing)) loaded.2 h.2.0)
