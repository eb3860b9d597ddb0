use Rattle.std.proofs.Common.{arith}
use Rattle.line_text.proofs.DigitLemmas.{two-more, length-more, with-last}
use Rattle.line_text.proofs.digits.put_four.Goals as goal

pub put_few-requires-2-clause-room : goal.put_few-requires-2-clause-room
put_few-requires-2-clause-room c =
    omega (arith, c.requires.room, length-more c.args.number c.if-number-lt100.false (omega arith))

pub put_pair-requires-clause-room : goal.put_pair-requires-clause-room
put_pair-requires-clause-room c =
    omega (arith, c.requires.room, c.put_few-2.ensures.len, c.put_few-2.ensures.capacity, length-more c.args.number c.if-number-lt100.false (omega arith))

pub returns-clause-items : goal.returns-clause-items
returns-clause-items c =
    with-last _ _ _ _ _ _ c.put_pair.ensures.items c.put_few-2.ensures.items
    (two-more c.args.number c.if-number-lt100.false (omega arith))

pub returns-clause-len : goal.returns-clause-len
returns-clause-len c =
    omega (arith, c.put_pair.ensures.len, c.put_few-2.ensures.len, length-more c.args.number c.if-number-lt100.false (omega arith))
