use Rattle.std.proofs.Common.{◌≡◌, ◌++◌, length}
use Rattle.std.specs.Vec.Iter.{into_iter_items, into_iter_len}
use Rattle.locked_object.specs.Keepers.{IsKeeperOf, history, passes_made}
use Rattle.locked_execution.specs.Sharing.{Keeps}
use Rattle.locked_execution.specs.Working.{HasAllOf}
use Rattle.locked_execution.proofs.crew.show_all.Given as goal

-- the history has all calls of the passes so far
abbrev pub invariant-loop-pass : goal.invariant-loop-pass
invariant-loop-pass l = record {
  rest : l.yielded ++ into_iter_items l.pass-iterator ≡ l.fn.passes.items;
  left : into_iter_len l.pass-iterator ≡ length (into_iter_items l.pass-iterator);
  keeper : IsKeeperOf Keeps l.board.table.shared.table_id l.board.table.shared.key l.keeper;
  count : passes_made l.keeper ≡ passes_made l.fn.keeper;
  all : HasAllOf (history l.keeper) l.yielded;
}
