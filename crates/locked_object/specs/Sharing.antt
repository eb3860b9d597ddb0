-- What a contract says of the passes of one shared object.
use Rattle.std.specs.Prelude.{◌≡◌, ◌≤◌, ◌^◌, ℕ, List, [], ◌∷◌, ◌++◌, length, Some, slice_get}
use Rattle.atomic_table.specs.Seated.{TableId}
use Rattle.recorded_calls.specs.History.{Replays, IsLegal, entry_of}
use Rattle.recorded_calls.specs.declared.entry.Entry.{Entry}
use Rattle.locked_object.specs.Passes.{IsPassOf, number, seen_history, own}
use Rattle.locked_object.specs.declared.pass.Pass.{Pass}
use Rattle.locked_object.specs.declared.object.NotRecorded.{NotRecorded}

module _ {D C R : Type 0} where
  -- so many passes, numbered from 0, which have seen nothing
  pub record NewPasses (table : TableId) (opening : D) (count : ℕ) (passes : List (Pass D C R)) : Type 0 where
    pub many : length passes ≡ count
    pub each : (i : ℕ) (p : Pass D C R) → slice_get passes i ≡ Some p →
        IsPassOf table opening p × (number p ≡ i) × (seen_history p ≡ []) × (own p ≡ [])

  -- the call was recorded: the pass has seen a longer history, which ends with the call, and has made one call more
  pub record Recorded (before : Pass D C R) (c : C) (reply : R) (after : Pass D C R) : Type 0 where
    pub between : List (Entry C R)
    pub saw : seen_history after ≡ (seen_history before ++ between) ++ entry_of (number before) c reply ∷ []
    pub made : own after ≡ own before ++ entry_of (number before) c reply ∷ []

  -- why the call was not recorded, of the history: the object after it refuses the call, or it has no room for one call
  -- more
  abbrev pub Unrecorded : (D → ℕ → C → R → D → Type 0) → (D → ℕ → C → R → Type 0) → D → ℕ → C → List (Entry C R) →
      NotRecorded R → Type 0
  Unrecorded performs refuses opening n c log (NotRecorded.Refused reply) =
      (d : D) × Replays performs opening log d × refuses d n c reply
  Unrecorded performs refuses opening n c log NotRecorded.Full = IsLegal performs opening log × (2 ^ 63 ≤ length log)

  -- the pass of a call that is not recorded has seen and made what it had
  abbrev pub SawNothing : Pass D C R → Pass D C R → Type 0
  SawNothing before after = (seen_history after ≡ seen_history before) × (own after ≡ own before)
