-- What a question about a run is answered.
use Rattle.std.specs.Prelude.{◌≡◌, ◌≢◌, ◌⊎◌, ℕ, List, Bool, Option, Some, None}
use Rattle.decimal.specs.Reading.{Reads, IsNoNumber}
use Rattle.system.specs.Named.{variable_from}
use Rattle.system.specs.declared.system.System.{System}
use Rattle.runs.specs.Live.{Live, IsLive, LastWriter, NoneAt, NoWriter}
use Rattle.runs.specs.declared.command.Refusal.{Refusal}
use Rattle.runs.specs.declared.event.Event.{Event}
use Rattle.machine.specs.AtMachine.{AtMachine}
use Rattle.trace_file.specs.Loading.{IsLoaded, ticketed}
use Rattle.trace_file.specs.TraceText.{StandsFor}
use Rattle.past.specs.Past.{ListsPast}
use Rattle.described.specs.Description.{Describes}
use Rattle.described.specs.Told.{TellsNothing}
use Rattle.described.specs.declared.Described.{Described}
use Rattle.outline.specs.OutlineText.{outline_text}
use Rattle.outline.specs.Outlined.{Outlines}
use Rattle.outline.specs.declared.outline.Outline.{Outline}
use Rattle.waiting.specs.Told.{TellsWaits}
use Rattle.waiting.specs.WaitingText.{waiting_text}
use Rattle.waiting.specs.declared.waiting.Waiting.{Waiting}
use Rattle.types.specs.declared.tree.Procedure.{Procedure}
use Rattle.typed_source.specs.Source.{IsRefused, IsTyped}
use Rattle.typed_source.specs.declared.fault.Fault as typing
use Rattle.typed_source.specs.declared.fault.Fault.TheVariants as not_typed
use Rattle.questions.specs.declared.reason.Reason.{Reason}
use Rattle.questions.specs.declared.why.Why.{Why}

-- the variable of this name; the first, if there are more
abbrev pub variable_of : System → List ℕ → Option ℕ
variable_of system name = variable_from 0 system.variables name

-- a question about this subject is one about the live event of ticket t: the last that wrote the variable of this name,
-- or, where there is no such variable, the one with this ticket
abbrev pub IsAbout : System → Live → List ℕ → ℕ → Type 0
IsAbout system live subject t =
    ((x : ℕ) × (variable_of system subject ≡ Some x) × LastWriter live x t)
    ⊎ ((variable_of system subject ≡ None) × Reads subject t × IsLive live t)

-- why it is one about none
abbrev pub IsAboutNone : System → Live → List ℕ → Refusal → Type 0
-- no live event wrote the variable, or the subject is neither a variable nor a number
IsAboutNone system live subject Refusal.NeverWritten =
    ((x : ℕ) × (variable_of system subject ≡ Some x) × NoWriter live x)
    ⊎ ((variable_of system subject ≡ None) × IsNoNumber subject)
-- no live event has the ticket
IsAboutNone system live subject Refusal.NoSuchEvent =
    (t : ℕ) × (variable_of system subject ≡ None) × Reads subject t × NoneAt live t
IsAboutNone system live subject why = ⊥

-- what is answered to the question why
abbrev pub AnswersWhy : System → Live → List ℕ → Why → Type 0
AnswersWhy system live subject (Why.Told lines) = (t : ℕ) × IsAbout system live subject t
AnswersWhy system live subject (Why.Refused why words) = IsAboutNone system live subject why

-- this is why the subject of a question is as it is, where the steps that carried a value are asked for, or all
abbrev pub Explains : System → Live → List ℕ → Bool → Reason → Type 0
Explains system live subject all (Reason.Value x past) =
    (variable_of system subject ≡ Some x) × ((t : ℕ) × LastWriter live x t × ListsPast all live t past)
Explains system live subject all (Reason.Step t past) =
    (variable_of system subject ≡ None) × Reads subject t × ListsPast all live t past
Explains system live subject all Reason.Unwritten = (x : ℕ) × (variable_of system subject ≡ Some x) × NoWriter live x
Explains system live subject all Reason.Missing =
    (t : ℕ) × (variable_of system subject ≡ None) × Reads subject t × NoneAt live t
Explains system live subject all Reason.Unknown = (variable_of system subject ≡ None) × IsNoNumber subject

-- it is told, or is the reason of a refusal
abbrev pub Tells : Reason → Why → Type 0
Tells (Reason.Value x past) (Why.Told lines) = Unit {0}
Tells (Reason.Step t past) (Why.Told lines) = Unit {0}
Tells Reason.Unwritten (Why.Refused why words) = why ≡ Refusal.NeverWritten
Tells Reason.Missing (Why.Refused why words) = why ≡ Refusal.NoSuchEvent
Tells Reason.Unknown (Why.Refused why words) = why ≡ Refusal.NeverWritten
Tells reason answer = ⊥

-- the trace stands for events
abbrev pub IsTraced : System → List ℕ → Type 0
IsTraced system trace = (h : List Event) × StandsFor system trace h

-- the text that tells who waits behind the trace
abbrev pub IsWaitingText : System → List ℕ → List ℕ → Type 0
IsWaitingText system trace text =
    (m : AtMachine) × (w : Waiting) × IsLoaded system trace m × TellsWaits m w × (text ≡ waiting_text m w)

-- this is told of a system beside what it has itself: what the source tells, of its procedures; or the source is no
-- description without a fault, and nothing is told
abbrev pub TellsOfSource : List ℕ → System → Described → Type 0
TellsOfSource source system d =
    ((procedures : List Procedure) × IsTyped source procedures × Describes source procedures system d)
    ⊎ ((fault : typing.Fault) × IsRefused source fault × (fault ≢ not_typed.Memory) × TellsNothing d)

-- the text of the outline of the system, with what the source tells beside it
abbrev pub IsOutlineText : List ℕ → System → List ℕ → Type 0
IsOutlineText source system text =
    (o : Outline) × (d : Described) × Outlines system o × TellsOfSource source system d × (text ≡ outline_text o d)

-- it stands for events, and behind them this is answered
abbrev pub IsAnswered : System → List ℕ → List ℕ → Why → Type 0
IsAnswered system trace subject answer =
    (h : List Event) × StandsFor system trace h × AnswersWhy system (ticketed 1 h) subject answer

-- the lines of an answer, and the reason of a refusal
abbrev pub lines_of : Why → Option (List ℕ)
lines_of (Why.Told lines) = Some lines.items
lines_of (Why.Refused why words) = None

abbrev pub reason_of : Why → Option Refusal
reason_of (Why.Told lines) = None
reason_of (Why.Refused why words) = Some why
