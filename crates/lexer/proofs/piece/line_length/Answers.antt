use Rattle.std.proofs.Common.{◌≡◌, Bool, true, false, not, length, refl, sym, arith}
use Rattle.std.proofs.lemmas.Bool.{false≢true}
use Rattle.std.proofs.lemmas.List.Sums.{prefix_len_is}
use Rattle.lexer.specs.Spelling.{may_hold}
use Rattle.lexer.specs.declared.class.Class.TheVariants.{LineComment}
use Rattle.lexer.proofs.piece.line_length.Goals as goal

passes_not : (is : Bool) → ¬ (is ≡ true) → not is ≡ true
passes_not true e = absurd (e refl)
passes_not false e = refl

passes : (is : Bool) → is ≡ true → not is ≡ false
passes true e = refl
passes false e = absurd (false≢true e)

pub returns-in-Some : goal.returns-in-Some
returns-in-Some c =
    let found = c.in-Some.ensures in
    let rest = c.args.rest.now in record {
      value = sym (prefix_len_is (may_hold LineComment) rest c.in-Some.end 0 (omega (arith, found.0.high)) (λ k below. passes_not _ (found.0.before k (omega arith) below)) (λ _. passes _ found.1));
      within = omega (arith, found.0.high);
    }

pub returns-in-None : goal.returns-in-None
returns-in-None c =
    let rest = c.args.rest.now in record {
      value = sym (prefix_len_is (may_hold LineComment) rest (length rest) 0 (omega arith) (λ k below. passes_not _ (c.in-None.ensures k (omega arith) below)) (λ more. absurd (omega (arith, more))));
      within = omega arith;
    }
