-- What a shell on files does.
use Rattle.std.specs.Prelude.{◌≡◌, ◌⊎◌, ℕ, Bool, List, Option, Some, None, Err, ⊤}
use Rattle.debug_session.specs.Accepting.{IsRefused}
use Rattle.debug_session.specs.declared.fault.Fault.{Fault}
use Rattle.shell_files.specs.Files.{Files}
use Rattle.shell.specs.Taken.{SessionEnds}
use Rattle.file_answers.specs.Answering.{Holding, NotHad, TextsHad, TextsNotHad}
use Rattle.file_answers.specs.Used.{Outcome, ReaderBlamed, Used, IsUntouched, WriterBlamed, bytes_before, bytes_behind}

-- what is kept of a trace is had where one is named
abbrev pub TraceHad : Holding → Option (List ℕ) → List ℕ → Type 0
TraceHad holds None steps = Unit {0}
TraceHad holds (Some trace) steps = holds trace (Some steps)

-- a trace is named, and was not had
abbrev pub TraceNotHad : Holding → Option (List ℕ) → Fault → Type 0
TraceNotHad holds None fault = ⊥
TraceNotHad holds (Some trace) fault = NotHad (holds trace) fault

-- what is kept of it is its text, where one is named
abbrev pub text_of : Option (List ℕ) → List ℕ → Option (List ℕ)
text_of None steps = None
text_of (Some trace) steps = Some steps

-- all texts with which a shell begins were had
abbrev pub StartHad : Holding → List ℕ → List ℕ → Option (List ℕ) → List ℕ → List ℕ → List ℕ → Type 0
StartHad holds file stimulus trace source values steps =
    TextsHad holds file stimulus source values × TraceHad holds trace steps

-- they were not: the description goes before the trace
abbrev pub StartRefused : Holding → List ℕ → List ℕ → Option (List ℕ) → Fault → Type 0
StartRefused holds file stimulus trace fault =
    TextsNotHad holds file stimulus fault
    ⊎ ((source : List ℕ) × (values : List ℕ) × TextsHad holds file stimulus source values
    × (IsRefused source values fault ⊎ TraceNotHad holds trace fault))

-- what a file has had that a session saved or loaded: no contract says what the system's files hold
abbrev pub any_files : Files
any_files = record { holds = λ name bytes. ⊤; free = λ name. ⊤ }

-- the shell begins on the texts, at a terminal or not, and ends as it ends, with 41 or 42 only where a device failed; or
-- they were not had, and nothing is read or written
abbrev pub ShellsFiles : {I O : Type 0} → Holding → List ℕ → List ℕ → Option (List ℕ) → Used I → Used O → Outcome
    → Type 0
ShellsFiles holds file stimulus trace reader out done =
    ((fault : Fault) × StartRefused holds file stimulus trace fault × (done ≡ Err fault)
    × IsUntouched reader × IsUntouched out)
    ⊎ ((source : List ℕ) × (values : List ℕ) × (steps : List ℕ)
    × StartHad holds file stimulus trace source values steps
    × ((at_terminal : Bool)
    × SessionEnds any_files at_terminal source values (text_of trace steps) (IsUntouched reader × IsUntouched out)
    (bytes_before reader) (bytes_behind reader) (bytes_before out) (bytes_behind out) done)
    × ReaderBlamed reader done × WriterBlamed out done)
