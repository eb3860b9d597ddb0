use Rattle.std.proofs.Common.{◌≡◌, []}
use Rattle.std.specs.Vec.{vec_capacity}
use Rattle.recorded_calls.specs.Seats.{IsRecorderOf, noted_history, pass_count}
use Rattle.locked_object.specs.Sharing.{NewPasses}
use Rattle.locked_object.proofs.shared.new_passes.Given as goal

-- so many passes are made
abbrev pub invariant-loop-number : goal.invariant-loop-number
invariant-loop-number g l = record {
  recorder : IsRecorderOf l.board.table.shared.table_id l.board.table.shared.key l.recorder;
  notes : noted_history l.recorder ≡ [];
  count : pass_count l.recorder ≡ l.number;
  passes : NewPasses l.board.table.shared.table_id l.board.table.shared.key l.number l.passes.items;
  room : vec_capacity l.passes ≡ l.count;
}
