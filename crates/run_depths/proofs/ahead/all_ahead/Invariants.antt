use Rattle.std.proofs.Common.{◌≡◌, length}
use Rattle.run_depths.proofs.public.Deepening.{RowsTo}
use Rattle.run_depths.proofs.ahead.all_ahead.Given as goal

abbrev pub invariant-loop-index : goal.invariant-loop-index
invariant-loop-index l = record {
  counted : l.index ≡ length l.yielded;
  rows : RowsTo l.live.live l.rows l.index;
}
