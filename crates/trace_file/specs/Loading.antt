-- What a text is loaded to, and why it is refused.
use Rattle.std.specs.Prelude.{ℕ, suc, ◌+◌, ◌≡◌, ◌≢◌, ◌⊎◌, List, [], ◌∷◌, ◌++◌, length, Option, Result, Ok, Err, MatchResult}
use Rattle.std.specs.List.{All}
use Rattle.std.specs.Io.KnownBytes.{Appends, Consumes, IsAtEnd}
use Rattle.system.specs.declared.system.System.{System}
use Rattle.runs.specs.Live.{Live}
use Rattle.runs.specs.Object.{most_live}
use Rattle.runs.specs.Ready.{ChoiceAllowed}
use Rattle.runs.specs.Steps.{State, Run, opening}
use Rattle.runs.specs.declared.event.Choice.{Choice}
use Rattle.runs.specs.declared.event.Event.{Event}
use Rattle.machine.specs.AtMachine.{AtMachine}
use Rattle.devices.specs.Counting.{one_more, IsBeginning}
use Rattle.trace_file.specs.declared.fault.Fault.{Fault}
use Rattle.trace_file.specs.TraceText.{header_of, choice_line, event_line, IsWritable, IsTrace, HasSteps, Begins, StandsFor}
use Rattle.trace_file.specs.declared.version.Version.{Version}
use Rattle.trace_file.specs.declared.version.Version.TheVariants.{Second}
use Rattle.trace_file.specs.Canonical.{IsCanonicalOrder}

-- the events under the tickets from t on
abbrev pub ticketed : ℕ → List Event → Live
ticketed t [] = []
ticketed t (e ∷ h) = (t, e) ∷ ticketed (suc t) h

-- the machine has the events that the text stands for, in their order, under the tickets from 1 on; none is marked
abbrev pub IsLoaded : System → List ℕ → AtMachine → Type 0
IsLoaded system text m =
    (h : List Event) × StandsFor system text h
    × (m ≡ record { checked = system; live = ticketed 1 h; next = suc (length h); marked = [] })

-- a byte that does not end a line
abbrev pub IsNoEnd : ℕ → Type 0
IsNoEnd byte = byte ≢ 10

-- `line` is the first line of the text, with its end or without one at the end of all
abbrev pub IsFirstLine : List ℕ → List ℕ → Type 0
IsFirstLine text line = All IsNoEnd line × ((text ≡ line) ⊎ ((rest : List ℕ) × (text ≡ line ++ 10 ∷ rest)))

-- the text begins with the line of this choice, and `after` is behind it
abbrev pub IsStep : Choice → List ℕ → List ℕ → Type 0
IsStep c text after = (text ≡ choice_line c ++ after) × IsWritable c

-- the text does not begin with the line of a choice: it has another form, a number past its type, or no end
abbrev pub IsNoStep : List ℕ → Type 0
IsNoStep text = (c : Choice) (after : List ℕ) → IsStep c text after → ⊥

-- behind the events h no event with this choice is allowed, or no more may be live
abbrev pub CannotStep : System → List Event → Choice → Type 0
CannotStep system h c = ((T : State) × Run (opening system) h T × (ChoiceAllowed T c → ⊥)) ⊎ (length h ≡ most_live)

-- the line of number n is the first in which the text of the events h differs from that of the events g; the first line
-- is the header
abbrev pub DiffersAt : List Event → List Event → ℕ → Type 0
DiffersAt h g n =
    (p : List Event) × (e : Event) × (f : Event) × (k : List Event) × (l : List Event)
    × (h ≡ p ++ e ∷ k) × (g ≡ p ++ f ∷ l) × (event_line e ≢ event_line f) × (n ≡ 2 + length p)

-- the text behind a header is refused for this reason. The lines before the one that is named stand for events; line 1
-- is the header
abbrev pub StepsStop : System → List ℕ → Fault → Type 0
-- a line is not that of a choice
StepsStop system steps (Fault.BadLine n) =
    (h : List Event) × (rest : List ℕ) × Begins system steps h rest × (n ≡ 2 + length h) × (rest ≢ []) × IsNoStep rest
-- the step of a line cannot be taken
StepsStop system steps (Fault.NotAStep n) =
    (h : List Event) × (rest : List ℕ) × Begins system steps h rest × (n ≡ 2 + length h)
    × ((c : Choice) × (after : List ℕ) × IsStep c rest after × CannotStep system h c)
-- there was no memory for it
StepsStop system steps Fault.Memory = Unit {0}
StepsStop system steps _ = ⊥

-- the text is refused for this reason
abbrev pub IsRefused : System → List ℕ → Fault → Type 0
-- the first line is no header, or is missing
IsRefused system text Fault.BadHeader = (line : List ℕ) × IsFirstLine text line × ((v : Version) → line ≢ header_of v)
-- the header lacks its end, or a line behind it is not that of a choice
IsRefused system text (Fault.BadLine n) =
    ((n ≡ 1) × ((v : Version) × (text ≡ header_of v)))
    ⊎ ((v : Version) × (steps : List ℕ) × HasSteps v text steps × StepsStop system steps (Fault.BadLine n))
-- the step of a line cannot be taken
IsRefused system text (Fault.NotAStep n) =
    (v : Version) × (steps : List ℕ) × HasSteps v text steps × StepsStop system steps (Fault.NotAStep n)
-- all steps of a text of version 2 can be taken, and its lines differ from those of their canonical order, first in
-- this one
IsRefused system text (Fault.NotCanonical n) =
    (steps : List ℕ) × (h : List Event) × HasSteps Second text steps × Begins system steps h []
    × ((g : List Event) × IsCanonicalOrder h g × DiffersAt h g n)
-- there was no memory for it
IsRefused system text Fault.Memory = Unit {0}
-- a text is not refused for what devices do
IsRefused system text Fault.ReadFailed = ⊥
IsRefused system text Fault.WriteFailed = ⊥

-- why no machine was loaded: the reader failed, or there was no memory, or it gave this text to its end, which is
-- refused
abbrev pub LoadStops : System → Option (List ℕ) → Option (List ℕ) → Fault → Type 0
LoadStops system read left Fault.Memory = Unit {0}
LoadStops system read left Fault.ReadFailed = Unit {0}
LoadStops system read left fault =
    (text : List ℕ) × Consumes read left text × IsAtEnd left × IsRefused system text fault

-- what a load took from its reader and made of it
abbrev pub Loads : System → Option (List ℕ) → Option (List ℕ) → Result AtMachine Fault → Type 0
Loads system read left result =
    MatchResult result
    (λ m. (text : List ℕ) × Consumes read left text × IsAtEnd left × IsLoaded system text m)
    (λ fault. LoadStops system read left fault)

-- what of the trace of the events h was written where there was no memory for it, or the writer failed: nothing, or a
-- beginning
abbrev pub SaveStops : List Event → List ℕ → Fault → Type 0
SaveStops h given Fault.Memory = given ≡ []
SaveStops h given Fault.WriteFailed = (text : List ℕ) × IsTrace h text × IsBeginning text given
SaveStops h given _ = ⊥

-- the trace of the events h was written, or it was not
abbrev pub Saves : List Event → Option (List ℕ) → Option (List ℕ) → Result (Unit {0}) Fault → Type 0
Saves h wrote held result =
    (given : List ℕ) × Appends wrote held given
    × MatchResult result (λ _. IsTrace h given) (λ fault. SaveStops h given fault)

-- the failures of the reader behind this fault: one more at 41, and else as many as before
abbrev pub fault_reads : Fault → ℕ → ℕ
fault_reads Fault.ReadFailed n = one_more n
fault_reads _ n = n

-- the failures of the writer behind this fault: one more at 42, and else as many as before
abbrev pub fault_writes : Fault → ℕ → ℕ
fault_writes Fault.WriteFailed n = one_more n
fault_writes _ n = n

-- the failures of the reader behind what ended so
abbrev pub after_reading : {A : Type 0} → Result A Fault → ℕ → ℕ
after_reading (Ok done) n = n
after_reading (Err fault) n = fault_reads fault n

-- the failures of the writer behind what ended so
abbrev pub after_writing : {A : Type 0} → Result A Fault → ℕ → ℕ
after_writing (Ok done) n = n
after_writing (Err fault) n = fault_writes fault n
