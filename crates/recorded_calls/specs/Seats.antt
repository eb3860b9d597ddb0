-- What a contract says of a pass and of the keeper's seat.
use Rattle.std.specs.Prelude.{◌≡◌, ℕ, List, []}
use Rattle.atomic_table.specs.Seated.{TableId}
use Rattle.recorded_calls.specs.History.{calls_by, NoCallsFrom}
use Rattle.recorded_calls.specs.Steps.{keeper_at, pass_at}
use Rattle.recorded_calls.specs.declared.entry.Entry.{Entry}
use Rattle.recorded_calls.specs.declared.view.View.{View}
use Rattle.recorded_calls.specs.declared.view.View.TheVariants.{Keeper, Speaker}
use Rattle.recorded_calls.specs.declared.board.Pass.{Pass}
use Rattle.recorded_calls.specs.declared.board.Recorder.{Recorder}

module _ {O C R : Type 0} where
  abbrev pub seen_in : View O C R → List (Entry C R)
  seen_in (Speaker p) = p.seen
  seen_in v = []

  abbrev pub own_in : View O C R → List (Entry C R)
  own_in (Speaker p) = p.own
  own_in v = []

  abbrev pub told_in : View O C R → List (Entry C R)
  told_in (Speaker p) = p.told
  told_in v = []

  abbrev pub number_in : View O C R → ℕ
  number_in (Speaker p) = p.number
  number_in v = 0

  abbrev pub noted_in : View O C R → List (Entry C R)
  noted_in (Keeper k) = k.noted
  noted_in v = []

  abbrev pub made_in : View O C R → ℕ
  made_in (Keeper k) = k.made
  made_in v = 0

  -- the history that the pass has seen
  abbrev pub seen_history : Pass O C R → List (Entry C R)
  seen_history p = seen_in p.seat.me.0

  -- the calls that the pass has made
  abbrev pub own : Pass O C R → List (Entry C R)
  own p = own_in p.seat.me.0

  -- a beginning of the history that it was told of and has not looked at: the whole history, where its last call was
  -- not recorded
  abbrev pub told_history : Pass O C R → List (Entry C R)
  told_history p = told_in p.seat.me.0

  abbrev pub number : Pass O C R → ℕ
  number p = number_in p.seat.me.0

  -- the history that the keeper's seat notes
  abbrev pub noted_history : Recorder O C R → List (Entry C R)
  noted_history s = noted_in s.seat.me.0

  -- how many passes it has made
  abbrev pub pass_count : Recorder O C R → ℕ
  pass_count s = made_in s.seat.me.0

  -- a pass of this table between its calls: it has announced nothing, and what it has seen has of its number just its
  -- own calls
  pub record IsPassOf (table : TableId) (opening : O) (p : Pass O C R) : Type 0 where
    pub of_table : p.seat.table_id ≡ table
    pub rests : p.seat.me ≡ (pass_at opening (number p) (seen_history p) (own p) (told_history p), [])
    pub own_calls : calls_by (number p) (seen_history p) ≡ own p

  -- the keeper's seat of this table between calls: it has heard no claim, and what it notes has calls of the passes
  -- alone that it has made
  pub record IsRecorderOf (table : TableId) (opening : O) (s : Recorder O C R) : Type 0 where
    pub of_table : s.seat.table_id ≡ table
    pub rests : s.seat.me ≡ (keeper_at opening (pass_count s) (noted_history s), [])
    pub no_others : NoCallsFrom (pass_count s) (noted_history s)
