use Rattle.std.proofs.Common.{[], ◌∷◌, refl, rules, arith}
use Rattle.lexer.specs.Table.{symbol}
use Rattle.lexer.proofs.BucketLemmas.{no_symbol}
use Rattle.lexer.proofs.table.one_byte_symbol.Goals as goal

pub returns-in-58 : goal.returns-in-58
unfolding symbol
returns-in-58 c = rw c.in-58.is refl

pub returns-in-60 : goal.returns-in-60
unfolding symbol
returns-in-60 c = rw c.in-60.is refl

pub returns-in-45 : goal.returns-in-45
unfolding symbol
returns-in-45 c = rw c.in-45.is refl

pub returns-in-124 : goal.returns-in-124
unfolding symbol
returns-in-124 c = rw c.in-124.is refl

pub returns-in-59 : goal.returns-in-59
unfolding symbol
returns-in-59 c = rw c.in-59.is refl

pub returns-in-44 : goal.returns-in-44
unfolding symbol
returns-in-44 c = rw c.in-44.is refl

pub returns-in-40 : goal.returns-in-40
unfolding symbol
returns-in-40 c = rw c.in-40.is refl

pub returns-in-41 : goal.returns-in-41
unfolding symbol
returns-in-41 c = rw c.in-41.is refl

pub returns-in-91 : goal.returns-in-91
unfolding symbol
returns-in-91 c = rw c.in-91.is refl

pub returns-in-93 : goal.returns-in-93
unfolding symbol
returns-in-93 c = rw c.in-93.is refl

pub returns-in-43 : goal.returns-in-43
unfolding symbol
returns-in-43 c = rw c.in-43.is refl

pub returns-in-61 : goal.returns-in-61
unfolding symbol
returns-in-61 c = rw c.in-61.is refl

pub returns-in-62 : goal.returns-in-62
unfolding symbol
returns-in-62 c = rw c.in-62.is refl

pub returns-in_default : goal.returns-in_default
returns-in_default c = no_symbol 2 (58 ∷ 60 ∷ 45 ∷ 124 ∷ 59 ∷ 44 ∷ 40 ∷ 41 ∷ 91 ∷ 93 ∷ 43 ∷ 61 ∷ 62 ∷ []) (c.args.only ∷ []) refl refl (λ e. first_of (search rules, omega (arith, e)), (λ e. first_of (search rules, omega (arith, e)), (λ e. first_of (search rules, omega (arith, e)), (λ e. first_of (search rules, omega (arith, e)), (λ e. first_of (search rules, omega (arith, e)), (λ e. first_of (search rules, omega (arith, e)), (λ e. first_of (search rules, omega (arith, e)), (λ e. first_of (search rules, omega (arith, e)), (λ e. first_of (search rules, omega (arith, e)), (λ e. first_of (search rules, omega (arith, e)), (λ e. first_of (search rules, omega (arith, e)), (λ e. first_of (search rules, omega (arith, e)), (λ e. first_of (search rules, omega (arith, e)), tt)))))))))))))
