use Rattle.std.proofs.Common.{◌∙◌, ap, sym, ◌++◌, arith}
use Rattle.line_text.proofs.DigitLemmas.{two-digits, length-one, length-two}
use Rattle.line_text.proofs.digits.put_few.Goals as goal

pub put_digit-requires-clause-room : goal.put_digit-requires-clause-room
put_digit-requires-clause-room c = omega (arith, c.requires.room, length-one c.args.number c.if-number-lt10.true)

pub put_pair-requires-clause-room : goal.put_pair-requires-clause-room
put_pair-requires-clause-room c =
    omega (arith, c.requires.room, length-two c.args.number c.if-number-lt10.false c.requires.few)

pub returns-else-number-lt10-clause-items : goal.returns-else-number-lt10-clause-items
returns-else-number-lt10-clause-items c =
    c.put_pair.ensures.items
    ∙ ap (λ d. c.args.out.now.items ++ d) (sym (two-digits c.args.number c.if-number-lt10.false c.requires.few))

pub returns-else-number-lt10-clause-len : goal.returns-else-number-lt10-clause-len
returns-else-number-lt10-clause-len c =
    omega (arith, c.put_pair.ensures.len, length-two c.args.number c.if-number-lt10.false c.requires.few)

pub returns-then-number-lt10-clause-len : goal.returns-then-number-lt10-clause-len
returns-then-number-lt10-clause-len c =
    omega (arith, c.put_digit.ensures.len, length-one c.args.number c.if-number-lt10.true)
