-- What is saved loads again.
use Rattle.std.specs.Prelude.{ℕ, ◌≡◌, ◌↔◌, List}
use Rattle.syntax.specs.Lists.{Every}
use Rattle.system.specs.declared.system.System.{System}
use Rattle.sharing_rule.specs.Rule.{SharesWell}
use Rattle.runs.specs.Choices.{choice_of}
use Rattle.runs.specs.Dependence.{Respecting}
use Rattle.runs.specs.Live.{events}
use Rattle.runs.specs.Object.{Reaches}
use Rattle.runs.specs.Sound.{Sound}
use Rattle.runs.specs.Steps.{State, Run, opening}
use Rattle.runs.specs.declared.event.Event.{Event}
use Rattle.machine.specs.AtMachine.{AtMachine, object}
use Rattle.trace_file.specs.Canonical.{IsCanonicalOrder}
use Rattle.trace_file.specs.TraceText.{IsTrace, IsWritable, StandsFor}
use Rattle.trace_file.specs.Loading.{IsLoaded, IsRefused}
use Rattle.trace_file.specs.declared.fault.Fault.{Fault}
use Rattle.trace_file.specs.declared.fault.Fault.TheVariants.{Memory}

-- a text stands for one list of events
abbrev pub OneList : Type 0
OneList =
    (system : System) (text : List ℕ) (g h : List Event) → SharesWell system → StandsFor system text g →
    StandsFor system text h → g ≡ h

-- a text that stands for events is refused for want of memory alone
abbrev pub NotRefused : Type 0
NotRefused = (system : System) (text : List ℕ) (h : List Event) (fault : Fault) →
    SharesWell system → StandsFor system text h → IsRefused system text fault → fault ≡ Memory

-- a text is refused for one reason, but for want of memory
abbrev pub OneFault : Type 0
OneFault =
    (system : System) (text : List ℕ) (one other : Fault) → SharesWell system → IsRefused system text one →
    IsRefused system text other →
    (one ≡ Memory → ⊥) → (other ≡ Memory → ⊥) → one ≡ other

-- the traces of two lists that are respecting orders of each other, of which one runs, have equal bytes
abbrev pub EqualBytes : Type 0
EqualBytes = (system : System) (h k : List Event) (T : State) (one other : List ℕ) → Run (opening system) h T →
    Respecting h k → Respecting k h → IsTrace h one → IsTrace k other → one ≡ other

-- the trace of a machine, whose lines can be written, stands for its events in canonical order
abbrev pub TraceStands : Type 0
TraceStands =
    (m : AtMachine) (text : List ℕ) → Sound (object m) → Every (λ e. IsWritable (choice_of e)) (events m.live) →
    IsTrace (events m.live) text → (g : List Event) × IsCanonicalOrder (events m.live) g × StandsFor m.checked text g

-- what is loaded from the trace of a machine has the same events in canonical order, and the same state
abbrev pub LoadsTheSame : Type 0
LoadsTheSame =
    (m m' : AtMachine) (text : List ℕ) → SharesWell m.checked → Sound (object m) →
    Every (λ e. IsWritable (choice_of e)) (events m.live) →
    IsTrace (events m.live) text → IsLoaded m.checked text m' →
    IsCanonicalOrder (events m.live) (events m'.live) × ((T : State) → Reaches (object m') T ↔ Reaches (object m) T)
