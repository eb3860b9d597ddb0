-- What the failures of reader and writer leave behind.
use Rattle.std.specs.Prelude.{ℕ, ◌≡◌, ◌≤◌, ◌+◌, ◌++◌, List, length, Option, Result, Ok, Err}
use Rattle.std.specs.Io.KnownBytes.{Appends}
use Rattle.devices.specs.Counting.{one_more, IsBeginning}
use Rattle.debug_session.specs.declared.fault.Fault.{Fault}

-- the failures of the reader behind this fault: one more at 41, and else as many as before
abbrev pub fault_reads : Fault → ℕ → ℕ
fault_reads Fault.ReadFailed n = one_more n
fault_reads _ n = n

-- the failures of the writer behind this fault: one more at 42, and else as many as before
abbrev pub fault_writes : Fault → ℕ → ℕ
fault_writes Fault.WriteFailed n = one_more n
fault_writes _ n = n

-- the failures of the reader behind what ended so
abbrev pub after_reading : {A : Type 0} → Result A Fault → ℕ → ℕ
after_reading (Ok done) n = n
after_reading (Err fault) n = fault_reads fault n

-- the failures of the writer behind what ended so
abbrev pub after_writing : {A : Type 0} → Result A Fault → ℕ → ℕ
after_writing (Ok done) n = n
after_writing (Err fault) n = fault_writes fault n

-- a writer took a beginning of the bytes and failed
abbrev pub WritingStops : List ℕ → List ℕ → Fault → Type 0
WritingStops bytes given fault = (fault ≡ Fault.WriteFailed) × IsBeginning bytes given

-- of the bytes these were given, and all the rest was wanted, which are so many
abbrev pub StopsShort : List ℕ → List ℕ → ℕ → Type 0
StopsShort bytes given wanted = (missing : List ℕ) × (bytes ≡ given ++ missing) × (length missing ≡ wanted)

-- a writer took a beginning of the bytes and failed when it was asked to take all the rest; no more is unsent than was
-- before and what it took
abbrev pub WritesShort : {W : Type 0} → (W → Option (List ℕ)) → (W → ℕ) → (W → ℕ) → W → W → List ℕ → Type 0
WritesShort written unsent wanted writer writer' bytes =
    (given : List ℕ) × Appends (written writer) (written writer') given × StopsShort bytes given (wanted writer')
    × (unsent writer' ≤ unsent writer + length given)
