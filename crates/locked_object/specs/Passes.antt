-- What a contract says of a pass.
use Rattle.std.specs.Prelude.{ℕ, List}
use Rattle.atomic_table.specs.Seated.{TableId}
use Rattle.recorded_calls.specs.Seats as seats
use Rattle.recorded_calls.specs.declared.entry.Entry.{Entry}
use Rattle.locked_object.specs.declared.pass.Pass.{Pass}

module _ {D C R : Type 0} where
  -- the number of the pass
  abbrev pub number : Pass D C R → ℕ
  number p = p.number

  -- the history that it has seen
  abbrev pub seen_history : Pass D C R → List (Entry C R)
  seen_history p = seats.seen_history p.seat

  -- the calls that it has made
  abbrev pub own : Pass D C R → List (Entry C R)
  own p = seats.own p.seat

  -- a beginning of the history that it was told of and has not looked at: the whole history, where its last call was
  -- not recorded
  abbrev pub told_history : Pass D C R → List (Entry C R)
  told_history p = seats.told_history p.seat

  -- a pass between its calls, at the word of this table, with this opening
  abbrev pub IsPassOf : TableId → D → Pass D C R → Type 0
  IsPassOf table opening p = seats.IsPassOf table opening p.seat
