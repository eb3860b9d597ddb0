use Rattle.std.proofs.Common.{arith}
use Rattle.line_text.proofs.DigitLemmas.{length-one}
use Rattle.line_text.proofs.digits.put_decimal.Goals as goal

pub put_digit-requires-clause-room : goal.put_digit-requires-clause-room
put_digit-requires-clause-room c = omega (arith, c.requires, length-one c.args.number c.if-number-lt10.true)
