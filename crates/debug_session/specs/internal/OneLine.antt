-- Why a line is not answered, and how a session ends that may still hold answers.
-- No reader has to believe it: `proofs/SessionLemmas.antt` ties it to `Ends` of `Transcript.antt`.
use Rattle.std.specs.Prelude.{ℕ, ◌≡◌, ◌≢◌, ◌⊎◌, ◌++◌, List, [], Option, Result, IfSome, MatchResult}
use Rattle.std.specs.Io.KnownBytes.{Appends, Consumes, IsAtEnd}
pub use Rattle.devices.specs.Taking.{TakesLine}
use Rattle.system.specs.declared.system.System.{System}
use Rattle.debug_session.specs.declared.fault.Fault.{Fault}
use Rattle.debug_session.specs.AtLine.{AtLine}
use Rattle.debug_session.specs.Lines.{AsksNothing, LineMayWantMemory}
use Rattle.debug_session.specs.Script.{IsLine, AreLines}
use Rattle.debug_session.specs.Transcript.{Answered, Completed, StoppedByFault}

-- the reader gave a part of a line and stopped
abbrev pub ReadingStops : Option (List ℕ) → Option (List ℕ) → List ℕ → Fault → Type 0
ReadingStops old new line fault =
    IsLine line × Consumes old new line × ((fault ≡ Fault.Memory) ⊎ (fault ≡ Fault.ReadFailed))

-- why the line of this number was not answered
abbrev pub LineStops : System → List ℕ → ℕ → Fault → Type 0
LineStops system line number Fault.Memory = LineMayWantMemory system line
LineStops system line number (Fault.BadCommand n) = (n ≡ number) × (line ≢ []) × AsksNothing system line
LineStops system line number fault = ⊥

-- neither reading nor writing failed
abbrev pub IsNoDevice : Fault → Type 0
IsNoDevice fault = (fault ≢ Fault.ReadFailed) × (fault ≢ Fault.WriteFailed)

-- reading or writing failed
abbrev pub IsDevice : Fault → Type 0
IsDevice Fault.ReadFailed = Unit {0}
IsDevice Fault.WriteFailed = Unit {0}
IsDevice fault = ⊥

-- a session ended since a device failed
abbrev pub EndsByDevice : Result (Unit {0}) Fault → Type 0
EndsByDevice r = MatchResult r (λ _. ⊥) IsDevice

-- it did not end for that
abbrev pub EndsByNoDevice : Result (Unit {0}) Fault → Type 0
EndsByNoDevice r = MatchResult r (λ _. Unit {0}) IsNoDevice

-- how a session ended that may still hold answers: those are of complete lines, and no more was taken; where writing
-- failed what is pending is void
abbrev pub StopsHolding : System → AtLine → Type 0 → List ℕ → List ℕ → List ℕ → Fault → Type 0
StopsHolding system a at_end taken given pending Fault.Memory =
    ((pending ≡ []) × StoppedByFault system a at_end taken given Fault.Memory)
    ⊎ ((lines : List (List ℕ)) × Answered system a lines (given ++ pending) × AreLines taken lines [])
StopsHolding system a at_end taken given pending Fault.WriteFailed =
    StoppedByFault system a at_end taken given Fault.WriteFailed
StopsHolding system a at_end taken given pending fault =
    (pending ≡ []) × StoppedByFault system a at_end taken given fault

-- what such a session took from its reader, gave to its writer and holds
abbrev pub EndsHolding : System → AtLine → Option (List ℕ) → Option (List ℕ) → Option (List ℕ) → Option (List ℕ)
    → List ℕ → Result (Unit {0}) Fault → Type 0
EndsHolding system a read left wrote contents pending result =
    (taken : List ℕ) × (given : List ℕ) × Consumes read left taken × Appends wrote contents given
    × MatchResult result
    (λ _. IfSome read (λ _. IsAtEnd left) × Completed system a taken (given ++ pending))
    (λ fault. StopsHolding system a (IfSome read (λ _. IsAtEnd left)) taken given pending fault)
