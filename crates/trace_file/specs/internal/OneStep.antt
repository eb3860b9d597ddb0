-- One line of a trace on a machine.
-- No reader has to believe it: `proofs/LoadLemmas.antt` ties it to `IsLoaded` and `IsRefused` of `Loading.antt`.
use Rattle.std.specs.Prelude.{ℕ, suc, ◌≡◌, ◌≢◌, ◌⊎◌, ◌<◌, List, [], length, get_or, Result, Ok, Err}
use Rattle.address.specs.Reading.{IsTextOf, HasNoText}
use Rattle.address.specs.declared.Entry.{Entry}
use Rattle.system.specs.declared.system.System.{System}
use Rattle.runs.specs.Does.{Steps}
use Rattle.runs.specs.Live.{events}
use Rattle.runs.specs.Commands.{Reply}
use Rattle.runs.specs.declared.command.Refusal.{Refusal}
use Rattle.runs.specs.declared.event.Choice.{Choice}
use Rattle.runs.specs.declared.event.Event.{Event}
use Rattle.machine.specs.AtMachine.{AtMachine, object}
use Rattle.trace_file.specs.declared.fault.Fault.{Fault}
use Rattle.trace_file.specs.declared.version.Version.{Version}
use Rattle.trace_file.specs.TraceText.{header_of, Begins}
use Rattle.trace_file.specs.Loading.{ticketed, IsFirstLine, IsStep, IsNoStep, DiffersAt}
use Rattle.trace_file.specs.declared.version.Version.TheVariants.{Second}
use Rattle.trace_file.specs.internal.Fields.{IsArm, IsNoArm}
use Rattle.trace_file.specs.Canonical.{IsCanonicalOrder}

-- the machine has the events of the lines so far, and `rest` is to be read
pub record Loading (system : System) (steps : List ℕ) (m : AtMachine) (rest : List ℕ) : Type 0 where
  pub checked : m.checked ≡ system
  pub begins : Begins system steps (events m.live) rest
  pub tickets : m.live ≡ ticketed 1 (events m.live)
  pub next : m.next ≡ suc (length (events m.live))
  pub unmarked : m.marked ≡ []

-- the step of this choice was taken
abbrev pub Taken : AtMachine → Choice → AtMachine → Type 0
Taken m c m' = (t : ℕ) × (e : Event) × Steps (object m) c (Reply.Stepped t e) (object m')

-- it was refused, and not for want of memory
abbrev pub NotTaken : AtMachine → Choice → AtMachine → Type 0
NotTaken m c m' = (why : Refusal) × Steps (object m) c (Reply.Refused why) (object m')

-- the step of the first line was taken, and `after` is behind the line
abbrev pub LineTaken : AtMachine → List ℕ → List ℕ → AtMachine → Type 0
LineTaken m rest after m' = (c : Choice) × IsStep c rest after × Taken m c m'

-- why the first line, of this number, was not taken
abbrev pub LineStops : AtMachine → List ℕ → ℕ → Fault → Type 0
LineStops m rest number Fault.Memory = Unit {0}
LineStops m rest number (Fault.BadLine n) = (n ≡ number) × IsNoStep rest
LineStops m rest number (Fault.NotAStep n) =
    (n ≡ number) × ((c : Choice) × (after : List ℕ) × (m' : AtMachine) × IsStep c rest after × NotTaken m c m')
LineStops m rest number _ = ⊥

-- why the line of this number with this place and this arm is refused, where no event acts at the place
abbrev pub RefusesLong : List ℕ → List ℕ → ℕ → Fault → Type 0
RefusesLong place arm number (Fault.BadLine n) = (n ≡ number) × (IsNoArm arm ⊎ HasNoText place)
RefusesLong place arm number (Fault.NotAStep n) =
    (n ≡ number) × ((k : ℕ) × IsArm k arm) × ((a : List Entry) × IsTextOf a place)
RefusesLong place arm number _ = ⊥

-- why a step was not taken that the line of this number asks for
abbrev pub StepStops : AtMachine → Choice → ℕ → Fault → Type 0
StepStops m c number Fault.Memory = Unit {0}
StepStops m c number (Fault.NotAStep n) = (n ≡ number) × ((m' : AtMachine) × NotTaken m c m')
StepStops m c number _ = ⊥

-- why a text is refused at its first line
abbrev pub HeaderStops : List ℕ → Fault → Type 0
HeaderStops text Fault.BadHeader = (line : List ℕ) × IsFirstLine text line × ((v : Version) → line ≢ header_of v)
HeaderStops text (Fault.BadLine n) = (n ≡ 1) × ((v : Version) × (text ≡ header_of v))
HeaderStops text _ = ⊥

-- why events do not stand as a text of this version has to have them
abbrev pub OrderStops : Version → List Event → Fault → Type 0
OrderStops v h Fault.Memory = Unit {0}
OrderStops v h (Fault.NotCanonical n) = (v ≡ Second) × ((g : List Event) × IsCanonicalOrder h g × DiffersAt h g n)
OrderStops v h _ = ⊥

-- each of these indexes stands at itself
abbrev pub AllAtHome : List ℕ → Type 0
AllAtHome indexes = (i : ℕ) → i < length indexes → get_or indexes i 0 ≡ i

-- the first that does not stand at itself is at k
pub record FirstMoved (indexes : List ℕ) (k : ℕ) : Type 0 where
  pub within : k < length indexes
  pub moved : get_or indexes k 0 ≢ k
  pub before : (i : ℕ) → i < k → get_or indexes i 0 ≡ i

-- what becomes of the line of this number whose step is answered so
abbrev pub outcome_of : ℕ → Result (ℕ × Event) Refusal → Result (Unit {0}) Fault
outcome_of number (Ok entry) = Ok tt
outcome_of number (Err Refusal.Memory) = Err Fault.Memory
outcome_of number (Err _) = Err (Fault.NotAStep number)
