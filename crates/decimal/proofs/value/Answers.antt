use Rattle.std.proofs.Common.{◌≡◌, ◌+◌, ◌-◌, ◌*◌, ◌^◌, ◌≤◌, get_or, ap, ◌∙◌, arith, rules, subst, None}
use Rattle.std.proofs.lemmas.Str.Parse.{digit_at}
use Rattle.std.proofs.lemmas.List.{take_all}
use Rattle.std.specs.Str.Parse.{digits_value}
use Rattle.decimal.proofs.public.DigitLemmas.{no-number-large, number-of-digits, digit-more}
use Rattle.decimal.proofs.value.Goals as goal

pub overflow_sub-digit : goal.overflow_sub-digit
overflow_sub-digit c = (digit_at c.args.digits.now c.loop-digit.digit-index c.requires.all c.loop-digit-test.true).0

pub returns-in_err-checked_mul : goal.returns-in_err-checked_mul
returns-in_err-checked_mul c =
    let none : c.from_residual.result ≡ None = search rules in
    let large : 2 ^ 64 ≤ c.loop-digit.number * 10 + (get_or c.args.digits.now c.loop-digit.digit-index 0 - 48) = grind arith in
    rw none
    (no-number-large c.args.digits.now _
    (subst (λ n. 18446744073709551616 ≤ n)
    (digit-more c.args.digits.now c.loop-digit.digit-index c.loop-digit.number c.requires.all c.loop-digit-test.true c.loop-digit.invariant.1)
    large))

pub returns-in_err-number : goal.returns-in_err-number
returns-in_err-number c =
    let none : c.from_residual-in_err-number.result ≡ None = search rules in
    let large : 2 ^ 64 ≤ c.loop-digit.number * 10 + (get_or c.args.digits.now c.loop-digit.digit-index 0 - 48) = grind arith in
    rw none
    (no-number-large c.args.digits.now _
    (subst (λ n. 18446744073709551616 ≤ n)
    (digit-more c.args.digits.now c.loop-digit.digit-index c.loop-digit.number c.requires.all c.loop-digit-test.true c.loop-digit.invariant.1)
    large))

pub returns : goal.returns
returns c =
    number-of-digits c.args.digits.now c.loop-digit.number c.requires.all c.requires.some c.requires.lead
    (c.loop-digit.invariant.1 ∙ ap (digits_value 10) (take_all c.loop-digit.digit-index c.args.digits.now c.loop-digit-test.false))
    c.loop-digit.invariant.0

pub loop-digit-preserved : goal.loop-digit-preserved
loop-digit-preserved c =
    let next : c.in_ok-number.number ≡ c.loop-digit.number * 10 + (get_or c.args.digits.now c.loop-digit.digit-index 0 - 48) = grind arith in (
      grind arith,
      next
          ∙ digit-more c.args.digits.now c.loop-digit.digit-index c.loop-digit.number c.requires.all c.loop-digit-test.true c.loop-digit.invariant.1,
    )
