-- What a run does to the devices on which it reads and writes.
use Rattle.std.specs.Prelude.{◌≡◌, ◌⊎◌, ℕ, Err, List, Option, Result, MatchResult}
use Rattle.std.specs.Io.KnownBytes.{Appends}
use Rattle.devices.specs.Counting.{device, failures}
use Rattle.devices.specs.declared.counted.Counted.{Counted}
use Rattle.debug_session.specs.Counting.{after_reading, after_writing, WritingStops}
use Rattle.debug_session.specs.declared.fault.Fault.{Fault}

-- how the work for a request ended
abbrev pub Outcome : Type 0
Outcome = Result (Unit {0}) Fault

-- a device before and behind its use
pub record Used (D : Type 0) : Type 0 where
  -- the bytes that are left to read, or those that were written
  pub bytes : D → Option (List ℕ)
  pub before : Counted D
  pub behind : Counted D

-- a device that shows these bytes, used so
abbrev pub used : {D : Type 0} → (D → Option (List ℕ)) → Counted D → Counted D → Used D
used bytes before behind = record { bytes = bytes; before = before; behind = behind }

-- its bytes before and behind
abbrev pub bytes_before : {D : Type 0} → Used D → Option (List ℕ)
bytes_before use-of = use-of.bytes (device use-of.before)

abbrev pub bytes_behind : {D : Type 0} → Used D → Option (List ℕ)
bytes_behind use-of = use-of.bytes (device use-of.behind)

-- it is as it was
abbrev pub IsUntouched : {D : Type 0} → Used D → Type 0
IsUntouched use-of = use-of.behind ≡ use-of.before

-- a reader counted a failure where what ended so has it: at 41 alone
abbrev pub ReaderBlamed : {D : Type 0} → Used D → Outcome → Type 0
ReaderBlamed use-of ended = failures use-of.behind ≡ after_reading ended (failures use-of.before)

-- a writer did: at 42 alone
abbrev pub WriterBlamed : {D : Type 0} → Used D → Outcome → Type 0
WriterBlamed use-of ended = failures use-of.behind ≡ after_writing ended (failures use-of.before)

-- the text was written so: it is out, or writing stopped with a beginning of it out
abbrev pub Told : List ℕ → Option (List ℕ) → Option (List ℕ) → Outcome → Type 0
Told text wrote contents ended =
    (given : List ℕ) × Appends wrote contents given
    × MatchResult ended (λ _. given ≡ text) (λ fault. WritingStops text given fault)

-- the text was written so on this device, which counted a failure only where that stopped it
abbrev pub Tells : {D : Type 0} → List ℕ → Used D → Outcome → Type 0
Tells text use-of ended = Told text (bytes_before use-of) (bytes_behind use-of) ended × WriterBlamed use-of ended

-- there is no answer and nothing is written, or there is one and it is out, or a beginning of it
abbrev pub Answers : {O : Type 0} → (List ℕ → Type 0) → (Fault → Type 0) → Used O → Outcome → Type 0
Answers gives refuses out done =
    ((fault : Fault) × refuses fault × (done ≡ Err fault) × IsUntouched out)
    ⊎ ((answer : List ℕ) × gives answer × Tells answer out done)
