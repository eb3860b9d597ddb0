-- How a run ends.
use Rattle.std.specs.Prelude.{ℕ, ◌≡◌, ◌++◌, ◌⊎◌, List, [], ◌∷◌, true, false}
use Rattle.dap_messages.specs.Notes.{IsDone, IsRefusal, told_by}
use Rattle.dap_messages.specs.declared.answer.Answer.{Answer}
use Rattle.dap_messages.specs.declared.answer.Effect.{Effect}
use Rattle.dap_messages.specs.declared.answer.Outcome.{Outcome}
use Rattle.dap_messages.specs.declared.told.Stop.{Stop}
use Rattle.dap_messages.specs.declared.told.Told.{Told}
use Rattle.dap_requests.specs.Said.{AreOutputs, SaysStop}

-- texts, and behind them one `stopped`
abbrev pub EndsInStop : Stop → List Told → Type 0
EndsInStop stop told = (outputs : List Told) × AreOutputs outputs × (told ≡ outputs ++ Told.Stopped stop ∷ [])

-- it is a refusal and tells nothing, or it is done, and a `stopped` comes whatever memory there is; where there is
-- memory for the whole answer, that is the last that it tells, with the reason and the thread of a branch, and no other
-- is told
abbrev pub StopsOnce : Answer → Type 0
StopsOnce a =
    (IsRefusal a.outcome × (told_by a.notes.items ≡ []))
    ⊎ (IsDone a.outcome × ((stop : Stop) × (branch : ℕ) × (a.effect ≡ Effect.Due (Told.Stopped stop))
    × (a.lacks ≡ false → EndsInStop stop (told_by a.notes.items) × SaysStop stop branch a)))

-- this event comes whatever memory there is; where there is memory for the whole answer, it is the last that it tells
pub record EndsWith (a : Answer) (told : Told) : Type 0 where
  pub effect : a.effect ≡ Effect.Due told
  pub last : a.lacks ≡ false → (before : List Told) × (told_by a.notes.items ≡ before ++ told ∷ [])

-- a program has begun: it ends with a `stopped`, or with the end of a run that nobody debugs
abbrev pub BeginsOnce : Answer → Type 0
BeginsOnce a = ((stop : Stop) × EndsWith a (Told.Stopped stop)) ⊎ EndsWith a Told.Terminated

-- a refusal for the reason of this number
abbrev pub RefusedAs : ℕ → Outcome → Type 0
RefusedAs number (Outcome.Done body) = ⊥
RefusedAs number (Outcome.Refused other words) = other ≡ number

-- there was no memory, or it is refused, by the number of a reason that there is
abbrev pub NotDone : (ℕ → Type 0) → Answer → Type 0
NotDone why b = (b.lacks ≡ true) ⊎ ((number : ℕ) × RefusedAs number b.outcome × why number)
