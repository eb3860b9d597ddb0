use Rattle.std.proofs.Common.{sym, ◌∙◌, eqb-true}
use Rattle.std.proofs.lemmas.Bool.{false≢true}
use Rattle.decimal.proofs.public.DigitLemmas.{no-number-digits, no-number-empty, no-number-zero}
use Rattle.decimal.proofs.read_number.Goals as goal

pub returns-then-not-are_digits : goal.returns-then-not-are_digits
returns-then-not-are_digits c =
    no-number-digits c.args.text.now (λ all. false≢true (sym c.if-not-are_digits.true ∙ c.are_digits.ensures.1 all))

pub returns-then-is_empty : goal.returns-then-is_empty
returns-then-is_empty c = no-number-empty c.args.text.now (eqb-true _ _ (sym c.is_empty.ensures ∙ c.if-is_empty.true))

pub returns-then-text-gt1 : goal.returns-then-text-gt1
returns-then-text-gt1 c = no-number-zero c.args.text.now c.if-text-eq48.true c.if-text-gt1.true
