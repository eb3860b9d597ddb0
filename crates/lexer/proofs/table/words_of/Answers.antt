use Rattle.std.proofs.Common.{[], ◌∷◌, refl, rules, arith}
use Rattle.lexer.specs.Table.{reserved_word, reserved_words}
use Rattle.lexer.proofs.BucketLemmas.{not_in}
use Rattle.lexer.proofs.table.words_of.Goals as goal

pub returns-in-97 : goal.returns-in-97
unfolding reserved_word
returns-in-97 c rest = rw c.in-97.is refl

pub returns-in-98 : goal.returns-in-98
unfolding reserved_word
returns-in-98 c rest = rw c.in-98.is refl

pub returns-in-99 : goal.returns-in-99
unfolding reserved_word
returns-in-99 c rest = rw c.in-99.is refl

pub returns-in-101 : goal.returns-in-101
unfolding reserved_word
returns-in-101 c rest = rw c.in-101.is refl

pub returns-in-104 : goal.returns-in-104
unfolding reserved_word
returns-in-104 c rest = rw c.in-104.is refl

pub returns-in-105 : goal.returns-in-105
unfolding reserved_word
returns-in-105 c rest = rw c.in-105.is refl

pub returns-in-108 : goal.returns-in-108
unfolding reserved_word
returns-in-108 c rest = rw c.in-108.is refl

pub returns-in-110 : goal.returns-in-110
unfolding reserved_word
returns-in-110 c rest = rw c.in-110.is refl

pub returns-in-111 : goal.returns-in-111
unfolding reserved_word
returns-in-111 c rest = rw c.in-111.is refl

pub returns-in-112 : goal.returns-in-112
unfolding reserved_word
returns-in-112 c rest = rw c.in-112.is refl

pub returns-in-115 : goal.returns-in-115
unfolding reserved_word
returns-in-115 c rest = rw c.in-115.is refl

pub returns-in-116 : goal.returns-in-116
unfolding reserved_word
returns-in-116 c rest = rw c.in-116.is refl

pub returns-in-118 : goal.returns-in-118
unfolding reserved_word
returns-in-118 c rest = rw c.in-118.is refl

pub returns-in-119 : goal.returns-in-119
unfolding reserved_word
returns-in-119 c rest = rw c.in-119.is refl

pub returns-in-120 : goal.returns-in-120
unfolding reserved_word
returns-in-120 c rest = rw c.in-120.is refl

pub returns-in_default : goal.returns-in_default
unfolding reserved_word
returns-in_default c rest = not_in reserved_words (97 ∷ 98 ∷ 99 ∷ 101 ∷ 104 ∷ 105 ∷ 108 ∷ 110 ∷ 111 ∷ 112 ∷ 115 ∷ 116 ∷ 118 ∷ 119 ∷ 120 ∷ []) c.args.first rest refl (λ e. first_of (search rules, omega (arith, e)), (λ e. first_of (search rules, omega (arith, e)), (λ e. first_of (search rules, omega (arith, e)), (λ e. first_of (search rules, omega (arith, e)), (λ e. first_of (search rules, omega (arith, e)), (λ e. first_of (search rules, omega (arith, e)), (λ e. first_of (search rules, omega (arith, e)), (λ e. first_of (search rules, omega (arith, e)), (λ e. first_of (search rules, omega (arith, e)), (λ e. first_of (search rules, omega (arith, e)), (λ e. first_of (search rules, omega (arith, e)), (λ e. first_of (search rules, omega (arith, e)), (λ e. first_of (search rules, omega (arith, e)), (λ e. first_of (search rules, omega (arith, e)), (λ e. first_of (search rules, omega (arith, e)), tt)))))))))))))))
