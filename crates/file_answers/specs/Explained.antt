-- The words that stand behind the line of a refusal.
use Rattle.std.specs.Prelude.{◌≡◌, ◌⊎◌, ℕ, zero, suc, ◌-◌, List, [], ◌++◌, Some, None, Ok, Err, MatchOption}
use Rattle.std.specs.Prelude.{codes, true}
use Rattle.diagnosis.specs.Told.{TellsFault}
use Rattle.diagnosis.specs.declared.told.Inputs.{Inputs}
use Rattle.debug_session.specs.FaultNumbers.{fault_number, fault_field}
use Rattle.debug_session.specs.declared.fault.Fault.{Fault}
use Rattle.debug_session.specs.declared.fault.Fault.TheVariants.{BadCommand, Refused}
use Rattle.command_words.specs.Words.{explains}
use Rattle.command_words.specs.declared.request.Request.{Request}
use Rattle.file_answers.specs.Kept.{Kept}
use Rattle.file_answers.specs.Used.{Outcome}

-- the names of the description, of the stimulus and of the trace of a request; a name that it has not is empty
abbrev pub file_of : Request → List ℕ
file_of (Request.Check file explain) = file.now
file_of (Request.Debug file stimulus explain) = file.now
file_of (Request.Replay file stimulus trace explain) = file.now
file_of (Request.Work file stimulus crew explain) = file.now
file_of (Request.Shell file stimulus trace) = file.now
file_of (Request.Explain page) = []
file_of Request.Dap = []
file_of (Request.Outline file) = file.now
file_of (Request.Waiting file stimulus trace) = file.now
file_of (Request.Why file stimulus trace subject all) = file.now
file_of (Request.Picture file stimulus trace drawing) = file.now

abbrev pub stimulus_of : Request → List ℕ
stimulus_of (Request.Check file explain) = []
stimulus_of (Request.Debug file stimulus explain) = stimulus.now
stimulus_of (Request.Replay file stimulus trace explain) = stimulus.now
stimulus_of (Request.Work file stimulus crew explain) = stimulus.now
stimulus_of (Request.Shell file stimulus trace) = stimulus.now
stimulus_of (Request.Explain page) = []
stimulus_of Request.Dap = []
stimulus_of (Request.Outline file) = []
stimulus_of (Request.Waiting file stimulus trace) = stimulus.now
stimulus_of (Request.Why file stimulus trace subject all) = stimulus.now
stimulus_of (Request.Picture file stimulus trace drawing) = stimulus.now

abbrev pub trace_of : Request → List ℕ
trace_of (Request.Check file explain) = []
trace_of (Request.Debug file stimulus explain) = []
trace_of (Request.Replay file stimulus trace explain) = trace.now
trace_of (Request.Work file stimulus crew explain) = []
trace_of (Request.Shell file stimulus None) = []
trace_of (Request.Shell file stimulus (Some trace)) = trace.now
trace_of (Request.Explain page) = []
trace_of Request.Dap = []
trace_of (Request.Outline file) = []
trace_of (Request.Waiting file stimulus trace) = trace.now
trace_of (Request.Why file stimulus trace subject all) = trace.now
trace_of (Request.Picture file stimulus trace drawing) = trace.now

-- so many empty lines
abbrev pub empty_lines : ℕ → List ℕ
empty_lines zero = []
empty_lines (suc n) = empty_lines n ++ codes "\n"

-- a script of which this is the last line, where that says nothing: the lines before it are shown empty
abbrev pub script_of : Fault → List ℕ → List ℕ
script_of (BadCommand number) line = empty_lines (number - 1) ++ line
script_of other line = []

-- the inputs are the texts that are kept, by the names of their files, and the script
pub record AreInputs (request : Request) (kept : Kept) (fault : Fault) (inputs : Inputs) : Type 0 where
  pub source : (inputs.source.name.now ≡ file_of request) × (inputs.source.bytes.now ≡ kept.source)
  pub stimulus : MatchOption inputs.stimulus ⊥ (λ input. (input.name.now ≡ stimulus_of request)
      × (input.bytes.now ≡ kept.values))
  pub trace : MatchOption inputs.trace ⊥ (λ input. (input.name.now ≡ trace_of request)
      × (input.bytes.now ≡ kept.trace))
  pub script : MatchOption inputs.script ⊥ (λ input. (input.name.now ≡ codes "standard input")
      × (input.bytes.now ≡ script_of fault kept.said))

-- the words tell of the fault in these inputs
abbrev pub TellsIn : Request → Kept → Fault → List ℕ → Type 0
TellsIn request kept fault words =
    (inputs : Inputs) × AreInputs request kept fault inputs
    × TellsFault (fault_number fault) (fault_field fault) inputs words

-- the words explain a fault: those that are kept of a question or a picture, or what is told of it in the inputs
abbrev pub Explains : Request → Kept → Fault → List ℕ → Type 0
Explains request kept (Refused why) words = words ≡ kept.said
Explains request kept fault words = TellsIn request kept fault words

-- the words stand behind the line of a refusal: none; or, where words are asked for, those that explain it
abbrev pub IsBehind : Request → Kept → Outcome → List ℕ → Type 0
IsBehind request kept (Ok done) words = words ≡ []
IsBehind request kept (Err fault) words =
    (words ≡ []) ⊎ ((explains request ≡ true) × Explains request kept fault words)
