-- A byte that passes the test is one more digit.
use Rattle.std.proofs.Common.{get_or, sym, ◌∙◌}
use Rattle.std.proofs.lemmas.Int.Digits.{digits_more}
use Rattle.address.proofs.public.Numbers.{digit-passes}
use Rattle.address.proofs.text.count_digits.Goals as goal

pub loop-i-preserved : goal.loop-i-preserved
loop-i-preserved c =
    digits_more 10 c.args.text.now c.loop-i.i c.loop-i-test.true c.loop-i.invariant
    (digit-passes (get_or c.args.text.now c.loop-i.i 0) (sym c.is_ascii_digit.ensures.value ∙ c.if-not-is_ascii_digit.false))
