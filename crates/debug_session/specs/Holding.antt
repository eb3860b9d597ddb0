-- Which answers may be held back, and what is out where writing failed. A reader of lines is seen as the bytes in its
-- buffer and what it asks for more; a writer as what was written, how many of the last bytes of that may be unsent, and
-- how many it was asked to take when it last failed.
use Rattle.std.specs.Prelude.{ℕ, ◌≡◌, ◌⊎◌, ◌≤◌, ◌+◌, List, [], ◌∷◌, ◌++◌, length, Option, IfSome, Result, Err}
use Rattle.std.specs.List.{flat_map}
use Rattle.std.specs.Io.KnownBytes.{Appends, Consumes, IsAtEnd}
use Rattle.syntax.specs.Lists.{Every}
use Rattle.system.specs.declared.system.System.{System}
use Rattle.debug_session.specs.Accepting.{AcceptedAs}
use Rattle.debug_session.specs.AtLine.{AtLine, first_line}
use Rattle.debug_session.specs.Counting.{StopsShort}
use Rattle.debug_session.specs.declared.fault.Fault.{Fault}
use Rattle.debug_session.specs.Script.{IsLine, with_end}
use Rattle.debug_session.specs.Transcript.{Transcript}

-- so many bytes of answers are held back at most
abbrev pub most_held : ℕ
most_held = 8192

-- a reader gave these lines, the last of them without its end only at the end of all
pub record TookLines (read left : Option (List ℕ)) (lines : List (List ℕ)) : Type 0 where
  pub text : List ℕ
  pub taken : Consumes read left text
  pub each : Every IsLine lines
  pub joined : (text ≡ flat_map with_end lines)
      ⊎ ((init : List (List ℕ)) × (last : List ℕ) × (lines ≡ init ++ last ∷ [])
      × (text ≡ flat_map with_end init ++ last) × IfSome read (λ _. IsAtEnd left))

-- these bytes are due behind the lines: the answers to all of them, which are no more than may be held or belong to one
-- line
abbrev pub AreDue : System → AtLine → List (List ℕ) → List ℕ → Type 0
AreDue system a lines due =
    (a' : AtLine) × Transcript system a lines due a'
    × ((length due ≤ most_held) ⊎ ((line : List ℕ) × (lines ≡ line ∷ [])))

module _ {R A : Type 0} (buffered : R → List ℕ) (asked : R → A) where
  -- the reader gave these lines, each with its end, out of its buffer, and asked for nothing
  abbrev pub GaveAtHand : R → R → List (List ℕ) → Type 0
  GaveAtHand before now lines = (buffered before ≡ flat_map with_end lines ++ buffered now) × (asked now ≡ asked before)

  -- the reader gave all of these lines but the first out of its buffer, and asked for nothing since it gave the first
  abbrev pub RestWasAtHand : R → List (List ℕ) → Type 0
  RestWasAtHand now [] = Unit {0}
  RestWasAtHand now (line ∷ lines) = (before : R) × GaveAtHand before now lines

module _ {R A W : Type 0} (buffered : R → List ℕ) (asked : R → A) (written : W → Option (List ℕ))
    (unsent wanted : W → ℕ) where
  -- writing failed, with this output: the answers to the lines before are out and sent on, and a beginning of what is
  -- due behind the last lines, the rest of which was at hand behind the first of them. The writer failed when it was
  -- asked to take all that is missing: behind that no line was taken that has an answer
  pub record BreaksOff (system : System) (a : AtLine) (now : R) (writer writer' : W) (lines : List (List ℕ))
      (output : List ℕ) : Type 0 where
    pub before : List (List ℕ)
    pub since : List (List ℕ)
    pub all : lines ≡ before ++ since
    pub out : List ℕ
    pub mid : AtLine
    pub answered : Transcript system a before out mid
    pub at_hand : RestWasAtHand buffered asked now since
    pub due : List ℕ
    pub are_due : AreDue system mid since due
    pub given : List ℕ
    pub short : StopsShort due given (wanted writer')
    pub put : output ≡ out ++ given
    pub sent : unsent writer' ≤ unsent writer + length given

  -- so a session ends, between these two states of its writer and these bytes of its reader, where writing failed
  pub record EndsWriting (system : System) (a : AtLine) (now : R) (read left : Option (List ℕ))
      (writer writer' : W) : Type 0 where
    pub lines : List (List ℕ)
    pub took : TookLines read left lines
    pub output : List ℕ
    pub writes : Appends (written writer) (written writer') output
    pub breaks : BreaksOff system a now writer writer' lines output

  -- the same of what was made of source and stimulus
  abbrev pub HoldsBack : List ℕ → List ℕ → R → Option (List ℕ) → Option (List ℕ) → W → W → Result (Unit {0}) Fault
      → Type 0
  HoldsBack source stimulus now read left writer writer' result =
      result ≡ Err Fault.WriteFailed
      → (system : System) × AcceptedAs source stimulus system
      × EndsWriting system (first_line system source) now read left writer writer'
