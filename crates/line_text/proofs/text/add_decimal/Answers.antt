use Rattle.std.proofs.Common.{arith}
use Rattle.line_text.proofs.DigitLemmas.{at-most-20}
use Rattle.line_text.proofs.text.add_decimal.Goals as goal

pub put_decimal-requires : goal.put_decimal-requires
put_decimal-requires c = omega (arith, c.in_ok-make_room.ensures.room, at-most-20 c.args.number (omega arith))
