use Rattle.std.proofs.Common.{ap, arith}
use Rattle.recorded_calls.specs.Seats.{noted_history, pass_count}
use Rattle.recorded_calls.proofs.Calling.{makes_at}
use Rattle.recorded_calls.proofs.board.Board.new_pass.Goals as goal

pub split_seat-requires : goal.split_seat-requires
split_seat-requires g c = (c.requires.of_table, omega (arith, c.args.self.now.one_word), makes_at _ _ _ _ c.args.self.now.table.shared.key (pass_count c.args.recorder.now) (noted_history c.args.recorder.now) (ap (λ m. m.0) c.requires.rests))
