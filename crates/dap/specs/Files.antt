-- What is read of files.
use Rattle.std.specs.Prelude.{ℕ, ◌≡◌, ◌⊎◌, List, [], ◌∷◌, ◌++◌, Option, None, Some, Vec}
use Rattle.dap_messages.specs.declared.answer.Answer.{Answer}
use Rattle.dap_messages.specs.declared.told.Told.{Told}
use Rattle.dap_requests.specs.Said.{AreOutputs, Tells, TellsOutputs}
use Rattle.dap.specs.Asking.{Asks, beside}

-- the text that was read, if one was
abbrev pub text_of : {A : Type 0} → Option (Vec ℕ A) → Option (List ℕ)
text_of None = None
text_of (Some text) = Some text.items

-- of the name of a file, and what was read of it: its bytes, or none where it is missing or cannot be read
abbrev pub Reads : Type 1
Reads = List ℕ → Option (List ℕ) → Type 0

-- what was read of the stimulus: of the file that is named, which is there; else of the one beside the source, if it is
abbrev pub FindsStimulus : Reads → List ℕ → Option (List ℕ) → Option (List ℕ) → Type 0
FindsStimulus reads program (Some name) found = (text : List ℕ) × reads name (Some text) × (found ≡ Some text)
FindsStimulus reads program None found = reads (beside program) found

-- texts tell that no stimulus was found; else nothing is told
abbrev pub TellsFound : Option (List ℕ) → Answer → Answer → Type 0
TellsFound None a b = TellsOutputs a b
TellsFound (Some text) a b = b ≡ a

-- so it is of these events
abbrev pub AreToldOf : Option (List ℕ) → List Told → Type 0
AreToldOf None told = AreOutputs told
AreToldOf (Some text) told = told ≡ []

-- behind them `initialized` is told, and nothing else
abbrev pub TellsLaunched : Option (List ℕ) → Answer → Answer → Type 0
TellsLaunched found a b = (told : List Told) × AreToldOf found told × Tells a (told ++ Told.Initialized ∷ []) b

-- the trace: what was read of the file that is named, where one is
abbrev pub IsTrace : Reads → Option (List ℕ) → Option (List ℕ) → Type 0
IsTrace reads (Some name) trace = (text : List ℕ) × reads name (Some text) × (trace ≡ Some text)
IsTrace reads None trace = trace ≡ None

-- the texts that were read for a launch, and of the stimulus what was found
pub record AreRead (reads : Reads) (l : Asks) (source : List ℕ) (found trace : Option (List ℕ)) : Type 0 where
  pub of_source : reads l.program (Some source)
  pub of_stimulus : FindsStimulus reads l.program l.stimulus found
  pub of_trace : IsTrace reads l.trace trace

-- the file of this name has to be there
abbrev pub IsNamed : Asks → List ℕ → Type 0
IsNamed asked name = (name ≡ asked.program) ⊎ (asked.stimulus ≡ Some name) ⊎ (asked.trace ≡ Some name)

-- it is missing or cannot be read, which has this number
abbrev pub IsMissing : Reads → List ℕ → ℕ → Type 0
IsMissing reads name number = (number ≡ 41) × reads name None

-- so it is of one that has to be there
abbrev pub IsUnread : Reads → Asks → ℕ → Type 0
IsUnread reads asked number = (name : List ℕ) × IsNamed asked name × IsMissing reads name number
