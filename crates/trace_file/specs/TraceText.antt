-- The text of a trace.
use Rattle.std.specs.Prelude.{ℕ, ◌≡◌, ◌≢◌, ◌<◌, ◌≤◌, ◌^◌, List, [], ◌∷◌, ◌++◌, length, codes}
use Rattle.std.specs.List.{flat_map}
use Rattle.std.specs.Fmt.{decimal}
use Rattle.syntax.specs.Lists.{Every}
use Rattle.address.specs.Text.{text_of}
use Rattle.address.specs.Reading.{NumbersFit}
use Rattle.system.specs.declared.system.System.{System}
use Rattle.runs.specs.Choices.{choice_of}
use Rattle.runs.specs.Object.{most_live}
use Rattle.runs.specs.Steps.{State, Run, opening}
use Rattle.runs.specs.declared.event.Choice.{Choice}
use Rattle.runs.specs.declared.event.Event.{Event}
use Rattle.trace_file.specs.Canonical.{IsCanonicalOrder}
use Rattle.trace_file.specs.declared.version.Version.{Version}
use Rattle.trace_file.specs.declared.version.Version.TheVariants.{First, Second}

-- the first line of a trace of this version, without its end
abbrev pub header_of : Version → List ℕ
header_of First = codes "balsadbg trace 1"
header_of Second = codes "balsadbg trace 2"

-- the line of a choice, with its end: its place and its arm
abbrev pub choice_line : Choice → List ℕ
choice_line c = codes "step " ++ (text_of c.place ++ 32 ∷ (decimal c.arm ++ 10 ∷ []))

-- the line of the choice that takes an event
abbrev pub event_line : Event → List ℕ
event_line e = choice_line (choice_of e)

-- the text of this version for the choices of some events
abbrev pub trace_text : Version → List Event → List ℕ
trace_text v h = header_of v ++ 10 ∷ flat_map event_line h

-- the text is the trace of the events h: that of their choices in canonical order
abbrev pub IsTrace : List Event → List ℕ → Type 0
IsTrace h text = (g : List Event) × IsCanonicalOrder h g × (text ≡ trace_text Second g)

-- a line can have the choice: its place is not the root, and all numbers have 32 bits
abbrev pub IsWritable : Choice → Type 0
IsWritable c = (c.place ≢ []) × NumbersFit c.place × (c.arm < 2 ^ 32)

-- the text has the header of this version, and these bytes behind it
abbrev pub HasSteps : Version → List ℕ → List ℕ → Type 0
HasSteps v text steps = text ≡ header_of v ++ 10 ∷ steps

-- the bytes behind a header are the lines of the events h and then `rest`; the lines can be written, the events run
-- from the opening of the system, and are no more than may be live at one time
pub record Begins (system : System) (steps : List ℕ) (h : List Event) (rest : List ℕ) : Type 0 where
  pub written : steps ≡ flat_map event_line h ++ rest
  pub lines : Every (λ e. IsWritable (choice_of e)) h
  pub runs : (T : State) × Run (opening system) h T
  pub room : length h ≤ most_live

-- the events stand as a text of this version has to have them: in version 2 they are their own canonical order
abbrev pub KeepsOrder : Version → List Event → Type 0
KeepsOrder First h = Unit {0}
KeepsOrder Second h = IsCanonicalOrder h h

-- the text stands for the events h
abbrev pub StandsFor : System → List ℕ → List Event → Type 0
StandsFor system text h =
    (v : Version) × (steps : List ℕ) × HasSteps v text steps × Begins system steps h [] × KeepsOrder v h
