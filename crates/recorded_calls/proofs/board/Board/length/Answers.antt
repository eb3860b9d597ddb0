use Rattle.std.proofs.Common.{arith}
use Rattle.recorded_calls.specs.Seats.{seen_history, own, told_history, number}
use Rattle.recorded_calls.proofs.Calling.{looks_at}
use Rattle.recorded_calls.proofs.board.Board.length.Goals as goal

pub load-requires : goal.load-requires
load-requires g c =
    let p = c.args.pass.now in
    (c.requires.of_table, omega (arith, c.args.self.now.one_word), looks_at _ _ _ _ _ c.args.self.now.table.shared.key (number p) (seen_history p) (own p) (told_history p) c.requires.rests)
