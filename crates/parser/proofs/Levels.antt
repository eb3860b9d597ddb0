-- What is read inside a level, one level at a time.
use Rattle.std.proofs.Common.{◌≡◌, ℕ, zero, suc, ◌+◌, ◌-◌, ◌<◌, refl, ap, ◌∙◌, arith}
use Rattle.parser.specs.Input.{Input}
use Rattle.parser.specs.internal.Readers.{Reader, unexpected, nothing, inside, bind}
use Rattle.parser.specs.internal.Reading.{factor, factor_of, expression, expression_of, grouped, conjunct_of, comparison_of, compared, sum_of, simple, simple_of, command_of, parallel_of, alone_or_joined}
use Rattle.parser.specs.internal.Nests.{inner, factor_in, expression_in, simple_in, command_in}

-- inside the last level there is nothing
pub none_inside : {A : Type 0} (reader : ℕ → Reader A) (depth : ℕ) (i : Input) → depth ≡ 0 → inner reader depth i ≡ unexpected i.tokens
unfolding nothing
none_inside reader zero i last = refl
none_inside reader (suc depth) i last = absurd (omega (arith, last))

factor_at : (depth : ℕ) → factor depth ≡ factor_of depth (factor_in depth) (expression_in depth)
unfolding nothing expression_of inside grouped conjunct_of comparison_of compared sum_of bind
factor_at zero = refl
factor_at (suc depth) = refl

one_inside : {A : Type 0} (reader : ℕ → Reader A) (depth : ℕ) → 0 < depth → inner reader depth ≡ reader (depth - 1)
one_inside reader zero some = absurd (omega (arith, some))
one_inside reader (suc depth) some = let same : depth ≡ suc depth - 1 = omega arith in ap reader same

pub factor_inside : (depth : ℕ) (i : Input) → 0 < depth
    → factor_in depth i ≡ factor_of (depth - 1) (factor_in (depth - 1)) (expression_in (depth - 1)) i
factor_inside depth i some = ap (λ r. r i) (one_inside factor depth some ∙ factor_at (depth - 1))

next_expression : (depth : ℕ) → expression depth ≡ expression_in (depth + 1)
unfolding expression
next_expression depth = let same : suc depth ≡ depth + 1 = omega arith in ap expression_in same

simple_with : (depth : ℕ) → simple depth ≡ simple_of depth (expression depth) (command_in depth) (expression_in depth)
unfolding nothing expression expression_of inside grouped conjunct_of comparison_of compared sum_of bind command_of parallel_of alone_or_joined
simple_with zero = refl
simple_with (suc depth) = refl

simple_at : (depth : ℕ) → simple depth ≡ simple_of depth (expression_in (depth + 1)) (command_in depth) (expression_in depth)
simple_at depth = simple_with depth ∙ ap (λ e. simple_of depth e (command_in depth) (expression_in depth)) (next_expression depth)

pub simple_inside : (depth : ℕ) (i : Input) → 0 < depth
    → simple_in depth i ≡ simple_of (depth - 1) (expression_in ((depth - 1) + 1)) (command_in (depth - 1)) (expression_in (depth - 1)) i
simple_inside depth i some = ap (λ r. r i) (one_inside simple depth some ∙ simple_at (depth - 1))
