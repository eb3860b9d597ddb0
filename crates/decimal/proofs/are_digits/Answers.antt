use Rattle.std.proofs.Common.{get_or, sym, ◌∙◌}
use Rattle.std.proofs.lemmas.Bool.{false≢true}
use Rattle.std.proofs.lemmas.Int.Digits.{digits_more}
use Rattle.std.proofs.lemmas.Str.Parse.{digit_at}
use Rattle.decimal.proofs.public.DigitLemmas.{digit-passes, digit-fails}
use Rattle.decimal.proofs.are_digits.Goals as goal

pub returns-then-not-is_ascii_digit : goal.returns-then-not-is_ascii_digit
returns-then-not-is_ascii_digit c = (
  λ e. absurd (false≢true e),
  λ all. absurd
      (digit-fails (get_or c.args.text.now c.loop-byte.byte-index 0)
      (sym c.is_ascii_digit.ensures.value ∙ c.if-not-is_ascii_digit.true)
      (digit_at c.args.text.now c.loop-byte.byte-index all c.loop-byte-test.true)),
)

pub loop-byte-preserved : goal.loop-byte-preserved
loop-byte-preserved c =
    digits_more 10 c.args.text.now c.loop-byte.byte-index c.loop-byte-test.true c.loop-byte.invariant
    (digit-passes (get_or c.args.text.now c.loop-byte.byte-index 0) (sym c.is_ascii_digit.ensures.value ∙ c.if-not-is_ascii_digit.false))
