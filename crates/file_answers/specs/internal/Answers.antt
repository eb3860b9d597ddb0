-- What a run has on its way to the answer to a request.
use Rattle.std.specs.Prelude.{◌≡◌, ◌⊎◌, ℕ, List, [], Some, Err}
use Rattle.system.specs.declared.system.System.{System}
use Rattle.runs.specs.declared.command.Refusal.TheVariants.{NoSuchEvent}
use Rattle.debug_session.specs.Accepting.{AcceptedAs}
use Rattle.debug_session.specs.declared.fault.Fault.{Fault}
use Rattle.debug_session.specs.declared.fault.Fault.TheVariants.{Refused}
use Rattle.questions.specs.declared.why.Why.{Why}
use Rattle.picture.specs.declared.Pictured.{Pictured}
use Rattle.file_answers.specs.Answering.{Holding, FilesDescribe, FilesGive, FilesRefuse, NotHad}
use Rattle.file_answers.specs.Kept.{Kept}
use Rattle.file_answers.specs.Used.{Outcome, Used, IsUntouched, Tells}

-- the file of this name holds a source that describes this system without a stimulus
abbrev pub SourceGives : Holding → List ℕ → List ℕ → System → Type 0
SourceGives holds file source system = holds file (Some source) × AcceptedAs source [] system

-- the files describe this system by this source, and the trace has this text
abbrev pub RunHad : Holding → List ℕ → List ℕ → List ℕ → List ℕ → System → List ℕ → Type 0
RunHad holds file stimulus trace source system text =
    FilesDescribe holds file stimulus source system × holds trace (Some text)

-- they describe none, or else the trace was not had
abbrev pub RunNotHad : Holding → List ℕ → List ℕ → List ℕ → Kept → Fault → Type 0
RunNotHad holds file stimulus trace kept fault =
    FilesRefuse holds file stimulus kept fault
    ⊎ ((system : System) × FilesGive holds file stimulus system × NotHad (holds trace) fault)

-- the answer to the question why is told, or ends the run, and its words are kept
abbrev pub TellsWhy : {O : Type 0} → Why → Used O → List ℕ → Outcome → Type 0
TellsWhy (Why.Told lines) out said done = Tells lines.items out done
TellsWhy (Why.Refused reason words) out said done =
    (done ≡ Err (Refused reason)) × IsUntouched out × (said ≡ words.items)

-- a picture is told, or ends the run where it cannot be drawn, and the words that say so are kept
abbrev pub TellsPicture : {O : Type 0} → Pictured → Used O → List ℕ → Outcome → Type 0
TellsPicture (Pictured.Text text) out said done = Tells text.items out done
TellsPicture (Pictured.NoSuchStep words) out said done =
    (done ≡ Err (Refused NoSuchEvent)) × IsUntouched out × (said ≡ words.items)
