-- What the files of a request give: an answer, or a reason why there is none.
use Rattle.std.specs.Prelude.{◌≡◌, ◌⊎◌, ◌++◌, [], ℕ, Bool, List, Option, Some, None, Vec, codes}
use Rattle.std.specs.Global.{Global}
use Rattle.system.specs.declared.system.System.{System}
use Rattle.runs.specs.declared.command.Refusal.{Refusal}
use Rattle.runs.specs.declared.event.Event.{Event}
use Rattle.trace_file.specs.Loading.{ticketed}
use Rattle.trace_file.specs.TraceText.{StandsFor}
use Rattle.questions.specs.Asking.{IsAboutNone, IsOutlineText, IsWaitingText}
use Rattle.questions.specs.WhyText.{IsWhyText}
use Rattle.questions.specs.declared.why.Why.{Why}
use Rattle.locked_execution.specs.Working.{Worked}
use Rattle.refusal_pages.specs.PageText.{page_text}
use Rattle.refusal_pages.specs.declared.page.Page.{Page}
use Rattle.debug_session.specs.Accepting.{AcceptedAs, IsRefused}
use Rattle.debug_session.specs.Replaying.{Replays, RefusesTrace}
use Rattle.debug_session.specs.ReplyText.{ending}
use Rattle.debug_session.specs.declared.fault.Fault.{Fault}
use Rattle.debug_session.specs.declared.fault.Fault.TheVariants.{Memory, ReadFailed, Refused}
use Rattle.file_answers.specs.Kept.{Kept}
use Rattle.file_answers.specs.Working.{work_text}

-- what files hold: whether a name may hold these bytes, or nothing that can be read
abbrev pub Holding : Type 1
Holding = List ℕ → Option (List ℕ) → Type 0

-- a file was not had: there was no memory for it, or its name holds nothing that can be read
abbrev pub NotHad : (Option (List ℕ) → Type 0) → Fault → Type 0
NotHad holds fault = (fault ≡ Memory) ⊎ ((fault ≡ ReadFailed) × holds None)

-- the texts of a description and of its stimulus were had
abbrev pub TextsHad : Holding → List ℕ → List ℕ → List ℕ → List ℕ → Type 0
TextsHad holds file stimulus source values = holds file (Some source) × holds stimulus (Some values)

-- one of them was not
abbrev pub TextsNotHad : Holding → List ℕ → List ℕ → Fault → Type 0
TextsNotHad holds file stimulus fault = NotHad (holds file) fault ⊎ NotHad (holds stimulus) fault

-- the first of them holds this source, and they describe this system
abbrev pub FilesDescribe : Holding → List ℕ → List ℕ → List ℕ → System → Type 0
FilesDescribe holds file stimulus source system =
    (values : List ℕ) × TextsHad holds file stimulus source values × AcceptedAs source values system

-- they describe this system
abbrev pub FilesGive : Holding → List ℕ → List ℕ → System → Type 0
FilesGive holds file stimulus system = (source : List ℕ) × FilesDescribe holds file stimulus source system

-- they describe none: they were not had, or the texts that are kept of them are refused
abbrev pub FilesRefuse : Holding → List ℕ → List ℕ → Kept → Fault → Type 0
FilesRefuse holds file stimulus kept fault =
    TextsNotHad holds file stimulus fault
    ⊎ (TextsHad holds file stimulus kept.source kept.values × IsRefused kept.source kept.values fault)

-- the answer to an accepted description
abbrev pub accepted_line : List ℕ
accepted_line = codes "accepted" ++ ending

-- `check` on the file of this name gives this answer: the description is accepted
abbrev pub CheckGives : Holding → List ℕ → List ℕ → Type 0
CheckGives holds file answer =
    (source : List ℕ) × (system : System) × holds file (Some source) × AcceptedAs source [] system
    × (answer ≡ accepted_line)

-- it gives none: the file was not had, or the description that is kept of it is refused
abbrev pub CheckRefuses : Holding → List ℕ → Kept → Fault → Type 0
CheckRefuses holds file kept fault =
    NotHad (holds file) fault ⊎ (holds file (Some kept.source) × IsRefused kept.source [] fault)

-- `replay` on the files of these names gives this answer: the events for which the trace stands
abbrev pub ReplayGives : Holding → List ℕ → List ℕ → List ℕ → List ℕ → Type 0
ReplayGives holds file stimulus trace answer =
    (system : System) × (text : List ℕ) × FilesGive holds file stimulus system × holds trace (Some text)
    × Replays system text answer

-- it gives none: the files describe no system, or else the trace was not had, or else what is kept of it is refused
abbrev pub ReplayRefuses : Holding → List ℕ → List ℕ → List ℕ → Kept → Fault → Type 0
ReplayRefuses holds file stimulus trace kept fault =
    FilesRefuse holds file stimulus kept fault
    ⊎ ((system : System) × FilesGive holds file stimulus system × (NotHad (holds trace) fault
    ⊎ (holds trace (Some kept.trace) × RefusesTrace system kept.trace fault)))

-- `work` on the files of these names gives this answer: so many workers took so many turns each
abbrev pub WorkGives : Holding → List ℕ → List ℕ → ℕ → ℕ → List ℕ → Type 0
WorkGives holds file stimulus workers turns answer =
    (system : System) × (stepped : ℕ) × (live : ℕ) × FilesGive holds file stimulus system
    × Worked system workers turns stepped live × (answer ≡ work_text stepped live)

-- it gives none: the files describe no system, or else there is no memory for the workers
abbrev pub WorkRefuses : Holding → List ℕ → List ℕ → Kept → Fault → Type 0
WorkRefuses holds file stimulus kept fault =
    FilesRefuse holds file stimulus kept fault
    ⊎ ((system : System) × FilesGive holds file stimulus system × (fault ≡ Memory))

-- `explain` gives this answer: the text of the page
abbrev pub PageGives : Page → List ℕ → Type 0
PageGives page answer = answer ≡ page_text page

-- it gives none: there is no memory for it
abbrev pub PageRefuses : Fault → Type 0
PageRefuses fault = fault ≡ Memory

-- `outline` on the file of this name gives this answer: the text of the outline, where `check` accepts the description
abbrev pub OutlineGives : Holding → List ℕ → List ℕ → Type 0
OutlineGives holds file answer =
    (source : List ℕ) × (system : System) × holds file (Some source) × AcceptedAs source [] system
    × IsOutlineText source system answer

-- `waiting` on the files of these names gives this answer: the text that tells who waits, where `replay` gives one
abbrev pub WaitingGives : Holding → List ℕ → List ℕ → List ℕ → List ℕ → Type 0
WaitingGives holds file stimulus trace answer =
    (system : System) × (text : List ℕ) × FilesGive holds file stimulus system × holds trace (Some text)
    × IsWaitingText system text answer

-- `why` does: the lines that tell why the subject is as it is behind the trace, by the steps that carried a value, or
-- by all
abbrev pub WhyGives : Holding → List ℕ → List ℕ → List ℕ → List ℕ → Bool → List ℕ → Type 0
WhyGives holds file stimulus trace subject all answer =
    (system : System) × (text : List ℕ) × (lines : Vec ℕ Global) × FilesGive holds file stimulus system
    × holds trace (Some text) × IsWhyText system text subject all (Why.Told lines) × (answer ≡ lines.items)

-- the words that are kept tell why the subject is that of no step
abbrev pub SaysWhyNone : System → List ℕ → List ℕ → Bool → Kept → Refusal → Type 0
SaysWhyNone system text subject all kept reason =
    (words : Vec ℕ Global) × IsWhyText system text subject all (Why.Refused reason words) × (kept.said ≡ words.items)

-- it gives none: `replay` does not, or else the subject is not that of a step, for this reason, of which the words that
-- are kept tell
abbrev pub WhyRefuses : Holding → List ℕ → List ℕ → List ℕ → List ℕ → Bool → Kept → Fault → Type 0
WhyRefuses holds file stimulus trace subject all kept fault =
    ReplayRefuses holds file stimulus trace kept fault
    ⊎ ((system : System) × (text : List ℕ) × (h : List Event) × (reason : Refusal)
    × FilesGive holds file stimulus system × holds trace (Some text) × StandsFor system text h
    × IsAboutNone system (ticketed 1 h) subject reason × SaysWhyNone system text subject all kept reason
    × (fault ≡ Refused reason))
