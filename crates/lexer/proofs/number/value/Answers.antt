use Rattle.std.proofs.Common.{◌≡◌, ◌+◌, ◌-◌, ◌*◌, ◌^◌, ◌≤◌, get_or, sym, ◌∙◌, arith, rules, None}
use Rattle.std.proofs.lemmas.List.{at_drop_all}
use Rattle.lexer.specs.Tokens.{value_from}
use Rattle.lexer.proofs.ValueLemmas.{too_large}
use Rattle.lexer.proofs.number.value.Goals as goal

pub returns-in_err-checked_mul : goal.returns-in_err-checked_mul
returns-in_err-checked_mul c =
    let large : 2 ^ 64 ≤ 10 * c.loop-digit.value + (get_or c.args.digits.now c.loop-digit.digit-index 0 - 48) = grind arith in
    let none : c.from_residual.result ≡ None = search rules in
    rw none (too_large c.loop-digit.value c.args.digits.now c.loop-digit.digit-index c.loop-digit-test.true c.loop-digit.invariant.0 large)

pub returns-in_err-value : goal.returns-in_err-value
returns-in_err-value c =
    let large : 2 ^ 64 ≤ 10 * c.loop-digit.value + (get_or c.args.digits.now c.loop-digit.digit-index 0 - 48) = grind arith in
    let none : c.from_residual-in_err-value.result ≡ None = search rules in
    rw none (too_large c.loop-digit.value c.args.digits.now c.loop-digit.digit-index c.loop-digit-test.true c.loop-digit.invariant.0 large)

pub returns : goal.returns
returns c =
    let done : c.loop-digit.value ≡ value_from 0 c.args.digits.now = sym (at_drop_all (value_from c.loop-digit.value) c.args.digits.now c.loop-digit.digit-index c.loop-digit-test.false) ∙ c.loop-digit.invariant.0 in
    (rw (← done) c.loop-digit.invariant.1, done)
