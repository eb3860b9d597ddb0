use Rattle.std.proofs.Common.{refl}
use Rattle.recorded_calls.proofs.board.Board.record.Goals as goal

pub record_named-requires-clause-named : goal.record_named-requires-clause-named
record_named-requires-clause-named g c = (_, refl, refl)
