use Rattle.std.proofs.Common.{arith}
use Rattle.line_text.proofs.DigitLemmas.{two-more, length-more, with-last}
use Rattle.line_text.proofs.digits.+put_many.Goals as goal

pub put_many-requires : goal.put_many-requires
put_many-requires t c =
    omega (arith, c.requires, length-more c.args.number c.if-number-lt100.false (omega arith))

pub put_pair-requires-clause-room : goal.put_pair-requires-clause-room
put_pair-requires-clause-room t c =
    omega (arith, c.requires, c.put_many.ensures.len, c.put_many.ensures.capacity, length-more c.args.number c.if-number-lt100.false (omega arith))

pub returns-clause-items : goal.returns-clause-items
returns-clause-items t c =
    with-last _ _ _ _ _ _ c.put_pair.ensures.items c.put_many.ensures.items
    (two-more c.args.number c.if-number-lt100.false (omega arith))

pub returns-clause-len : goal.returns-clause-len
returns-clause-len t c =
    omega (arith, c.put_pair.ensures.len, c.put_many.ensures.len, length-more c.args.number c.if-number-lt100.false (omega arith))
