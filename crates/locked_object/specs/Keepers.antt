-- What a contract says of a keeper.
use Rattle.std.specs.Prelude.{◌≡◌, ◌≤◌, ◌^◌, ℕ, List, length}
use Rattle.atomic_table.specs.Seated.{TableId}
use Rattle.recorded_calls.specs.History.{Replays}
use Rattle.recorded_calls.specs.Seats.{IsRecorderOf, noted_history, pass_count}
use Rattle.recorded_calls.specs.declared.entry.Entry.{Entry}
use Rattle.locked_object.specs.declared.keeper.Keeper.{Keeper}
use Rattle.locked_object.specs.declared.object.NotRecorded.{NotRecorded}

module _ {D C R : Type 0} where
  -- the recorded history
  abbrev pub history : Keeper D C R → List (Entry C R)
  history k = noted_history k.recorder

  -- how many passes there are
  abbrev pub passes_made : Keeper D C R → ℕ
  passes_made k = pass_count k.recorder

  -- the keeper at the word of this table: its object is what the opening is after the recorded history, which
  -- has calls of the passes alone that were made
  pub record IsKeeperOf (performs : D → ℕ → C → R → D → Type 0) (table : TableId) (opening : D)
      (k : Keeper D C R) : Type 0 where
    pub notes : IsRecorderOf table opening k.recorder
    pub replays : Replays performs opening (history k) k.object
    pub counted : k.calls ≡ length (history k)

  -- the same, of so many passes
  abbrev pub IsKeeperFor : (D → ℕ → C → R → D → Type 0) → TableId → D → ℕ → Keeper D C R → Type 0
  IsKeeperFor performs table opening count k = IsKeeperOf performs table opening k × (passes_made k ≡ count)

  -- why a call was not recorded: the object refuses it, or there is no room for one more
  abbrev pub NotRecordedBy : (D → ℕ → C → R → Type 0) → Keeper D C R → ℕ → C → NotRecorded R → Type 0
  NotRecordedBy refuses k n c (NotRecorded.Refused reply) = refuses k.object n c reply
  NotRecordedBy refuses k n c NotRecorded.Full = 2 ^ 63 ≤ length (history k)
