use Rattle.std.proofs.Common.{arith}
use Rattle.line_text.proofs.DigitLemmas.{two-more, length-more, with-last}
use Rattle.line_text.proofs.digits.put_digits.Goals as goal

pub put_four-requires-then-number-lt1000000-clause-room : goal.put_four-requires-then-number-lt1000000-clause-room
put_four-requires-then-number-lt1000000-clause-room c =
    omega (arith, c.requires, length-more c.args.number (omega arith) (omega arith))

pub put_pair-requires-clause-room : goal.put_pair-requires-clause-room
put_pair-requires-clause-room c =
    omega (arith, c.requires, c.put_four-then-number-lt1000000.ensures.len, c.put_four-then-number-lt1000000.ensures.capacity, length-more c.args.number (omega arith) (omega arith))

pub returns-then-number-lt1000000 : goal.returns-then-number-lt1000000
returns-then-number-lt1000000 c =
    with-last _ _ _ _ _ _ c.put_pair.ensures.items c.put_four-then-number-lt1000000.ensures.items
    (two-more c.args.number (omega arith) (omega arith))
