-- What becomes of a line, and what is owed while answers are held back.
-- No reader has to believe it: `proofs/SessionLemmas.antt` ties it to `Ends` of `Transcript.antt`, and
-- `proofs/HoldingLemmas.antt` to `EndsWriting` of `Holding.antt`.
use Rattle.std.specs.Prelude.{ℕ, ◌≡◌, ◌≢◌, ◌≤◌, ◌⊎◌, List, [], ◌∷◌, ◌++◌, Bool, true, length, Option, Result, Err}
use Rattle.std.specs.Io.KnownBytes.{Appends}
use Rattle.syntax.specs.Texts.{line_end}
use Rattle.system.specs.declared.system.System.{System}
use Rattle.debug_session.specs.AtLine.{AtLine}
use Rattle.debug_session.specs.Counting.{WritesShort}
use Rattle.debug_session.specs.Holding.{most_held, EndsWriting}
use Rattle.debug_session.specs.Transcript.{LineAnswered}
use Rattle.debug_session.specs.declared.fault.Fault.{Fault}
use Rattle.debug_session.specs.internal.OneLine.{TakesLine, ReadingStops, LineStops, EndsByNoDevice}

-- the writer took all of the bytes and sent them on
abbrev pub WritesAll : {W : Type 0} → (W → Option (List ℕ)) → (W → ℕ) → W → W → List ℕ → Type 0
WritesAll written unsent writer writer' bytes =
    Appends (written writer) (written writer') bytes × (unsent writer' ≤ unsent writer)

-- what was pending could not be written, and nothing was taken from the reader
abbrev pub BreaksUntaken : {R W : Type 0} → (W → Option (List ℕ)) → (W → ℕ) → (W → ℕ) → R → R → W → W → List ℕ →
    Fault → Type 0
BreaksUntaken written unsent wanted reader reader' writer writer' pending fault =
    (fault ≡ Fault.WriteFailed) × (reader' ≡ reader) × WritesShort written unsent wanted writer writer' pending

-- what was pending is out, and the answer behind it could not be written
abbrev pub BreaksAnswering : {W : Type 0} → (W → Option (List ℕ)) → (W → ℕ) → (W → ℕ) → W → W → List ℕ → List ℕ →
    Fault → Type 0
BreaksAnswering {W} written unsent wanted writer writer' pending answer fault =
    (fault ≡ Fault.WriteFailed)
    × ((mid : W) × WritesAll written unsent writer mid pending × WritesShort written unsent wanted mid writer' answer)

-- the line stood whole in the buffer, and was taken out of it; the reader asked for nothing
abbrev pub WasAtHand : {R A : Type 0} → (R → List ℕ) → (R → A) → R → R → List ℕ → Type 0
WasAtHand buffered asked reader reader' line =
    (buffered reader ≡ line ++ line_end ∷ buffered reader') × (asked reader' ≡ asked reader)

-- the answer is pending behind what was, and nothing was written
abbrev pub IsHeld : {W : Type 0} → W → W → List ℕ → List ℕ → List ℕ → Type 0
IsHeld writer writer' pending pending' answer =
    (writer' ≡ writer) × (pending' ≡ pending ++ answer) × (length pending' ≤ most_held)

-- what was pending is out, and the answer is pending, or out too
abbrev pub IsHeldAnew : {W : Type 0} → (W → Option (List ℕ)) → (W → ℕ) → W → W → List ℕ → List ℕ → List ℕ → Type 0
IsHeldAnew written unsent writer writer' pending pending' answer =
    (WritesAll written unsent writer writer' pending × (pending' ≡ answer) × (length answer ≤ most_held))
    ⊎ (WritesAll written unsent writer writer' (pending ++ answer) × (pending' ≡ []))

-- a line was taken and answered, and the answer is held: a line that was at hand behind what is pending
pub record LineDone {R A W : Type 0} (remaining : R → Option (List ℕ)) (buffered : R → List ℕ) (asked : R → A)
    (written : W → Option (List ℕ)) (unsent : W → ℕ) (system : System) (a a' : AtLine) (reader reader' : R)
    (writer writer' : W) (pending pending' line : List ℕ) (complete : Bool) : Type 0 where
  pub answer : List ℕ
  pub answered : LineAnswered system a line answer a'
  pub takes : TakesLine (remaining reader) (remaining reader') line complete
  pub held : ((complete ≡ true) × WasAtHand buffered asked reader reader' line
      × IsHeld writer writer' pending pending' answer)
      ⊎ IsHeldAnew written unsent writer writer' pending pending' answer

-- no line was had behind all that was pending, since reading stopped, or one of this number that is not answered
abbrev pub LineLacks : System → Option (List ℕ) → Option (List ℕ) → List ℕ → ℕ → Fault → Type 0
LineLacks system old new line number fault =
    ReadingStops old new line fault ⊎ ((complete : Bool) × TakesLine old new line complete
    × LineStops system line number fault)

-- why the session ends at the line of this number: what was pending could not be written, and no line was taken; or
-- there was no memory to look at a line, and all is as it was; or the line lacks an answer, and what was pending is
-- out; or its answer could not be written
abbrev pub LineFails : {R W : Type 0} → (R → Option (List ℕ)) → (W → Option (List ℕ)) → (W → ℕ) → (W → ℕ) → System →
    AtLine → R → R → W → W → List ℕ → List ℕ → List ℕ → ℕ → Fault → Type 0
LineFails remaining written unsent wanted system a reader reader' writer writer' pending pending' line number fault =
    BreaksUntaken written unsent wanted reader reader' writer writer' pending fault
    ⊎ (((fault ≡ Fault.Memory) × (reader' ≡ reader) × (writer' ≡ writer) × (pending' ≡ pending))
    ⊎ (((pending' ≡ []) × WritesAll written unsent writer writer' pending
    × LineLacks system (remaining reader) (remaining reader') line number fault)
    ⊎ ((complete : Bool) × (answer : List ℕ) × (a' : AtLine)
    × TakesLine (remaining reader) (remaining reader') line complete × LineAnswered system a line answer a'
    × BreaksAnswering written unsent wanted writer writer' pending answer fault)))

module _ {R A W : Type 0} (buffered : R → List ℕ) (asked : R → A) (written : W → Option (List ℕ))
    (unsent wanted : W → ℕ) where
  -- where what is pending cannot be written, the session ends as it may
  abbrev pub Owes : System → AtLine → R → Option (List ℕ) → Option (List ℕ) → W → W → List ℕ → Type 0
  Owes system a now read left writer writer' pending =
      (after : W) → WritesShort written unsent wanted writer' after pending → (pending ≡ [] → ⊥)
      → EndsWriting buffered asked written unsent wanted system a now read left writer after

  -- a session that ended with answers pending: as it may where writing failed, and else nothing that was written is
  -- unsent; where no device failed it owes what is pending
  abbrev pub EndsOwing : System → AtLine → R → Option (List ℕ) → Option (List ℕ) → W → W → List ℕ
      → Result (Unit {0}) Fault → Type 0
  EndsOwing system a now read left writer writer' pending result =
      (result ≡ Err Fault.WriteFailed
      → EndsWriting buffered asked written unsent wanted system a now read left writer writer')
      × (EndsByNoDevice result → Owes system a now read left writer writer' pending)
      × (result ≢ Err Fault.WriteFailed → unsent writer' ≤ unsent writer)
