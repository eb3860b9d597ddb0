-- A repetition that is read, beside a loop that counts its turns up.
use Rattle.std.proofs.Common.{◌≡◌, ℕ, suc, ◌+◌, ◌-◌, ◌<◌, ◌≤◌, true, false, if◌then◌else◌, List, length, ap, ◌∙◌, arith}
use Rattle.lexer.specs.declared.token.Kind.{Kind}
use Rattle.lexer.specs.declared.token.Token.{Token}
use Rattle.syntax.specs.declared.expression.Expr.{Expr}
use Rattle.parser.specs.declared.halt.Halt.{Halt}
use Rattle.parser.specs.declared.halt.Halt.TheVariants.{Memory, Unexpected, TooDeep}
use Rattle.parser.specs.Input.{Input, next, is_one_of}
use Rattle.parser.specs.internal.Readers.{Outcome, Reader, read, and_then, bind, pure, branch, repeat, repeat_from}
use Rattle.parser.specs.internal.Reads.{Halts}

-- one turn fewer is left
left_over : (n at : ℕ) → at < n → n - at ≡ suc (n - (at + 1))
left_over n at below = omega arith

none_over : (n at : ℕ) → n ≤ at → n - at ≡ 0
none_over n at done = omega arith

goes_on : {A : Type 0} (kinds : List Kind) (turn : A → Reader A) (n : ℕ) (a : A) (i : Input) → is_one_of kinds (next i.tokens) ≡ true
    → repeat_from kinds turn (suc n) a i ≡ and_then (turn a i) (repeat_from kinds turn n)
unfolding branch bind
goes_on kinds turn n a i sees = ap (λ b. if b then and_then (turn a i) (repeat_from kinds turn n) else pure a i) sees

stands : {A : Type 0} (kinds : List Kind) (turn : A → Reader A) (n : ℕ) (a : A) (i : Input) → is_one_of kinds (next i.tokens) ≡ false
    → repeat_from kinds turn (suc n) a i ≡ read a i
unfolding branch bind pure
stands kinds turn n a i sees = ap (λ b. if b then and_then (turn a i) (repeat_from kinds turn n) else read a i) sees

-- before the first turn
pub before_turns : {A : Type 0} (kinds : List Kind) (turn : A → Reader A) (a : A) (i : Input) (n : ℕ) → n ≡ length i.tokens
    → repeat kinds turn a i ≡ repeat_from kinds turn (n - 0) a i
unfolding repeat
before_turns kinds turn a i n e = let same : length i.tokens ≡ n - 0 = omega (arith, e) in ap (λ m. repeat_from kinds turn m a i) same

-- a turn that reads
pub after_turn : {A : Type 0} {x : Outcome A} (kinds : List Kind) (turn : A → Reader A) (n at : ℕ) (a b : A) (i j : Input)
    → x ≡ repeat_from kinds turn (n - at) a i → at < n → is_one_of kinds (next i.tokens) ≡ true → turn a i ≡ read b j
    → x ≡ repeat_from kinds turn (n - (at + 1)) b j
after_turn kinds turn n at a b i j so_far below sees took =
    so_far ∙ ap (λ m. repeat_from kinds turn m a i) (left_over n at below) ∙ goes_on kinds turn (n - (at + 1)) a i sees
    ∙ ap (λ o. and_then o (repeat_from kinds turn (n - (at + 1)))) took

-- no turn, since the next token begins none
pub without_turn : {A : Type 0} {x : Outcome A} (kinds : List Kind) (turn : A → Reader A) (n at : ℕ) (a : A) (i : Input)
    → x ≡ repeat_from kinds turn (n - at) a i → at < n → is_one_of kinds (next i.tokens) ≡ false → x ≡ read a i
without_turn kinds turn n at a i so_far below sees =
    so_far ∙ ap (λ m. repeat_from kinds turn m a i) (left_over n at below) ∙ stands kinds turn (n - (at + 1)) a i sees

-- no turn, since there were as many as there may be
pub after_turns : {A : Type 0} {x : Outcome A} (kinds : List Kind) (turn : A → Reader A) (n at : ℕ) (a : A) (i : Input)
    → x ≡ repeat_from kinds turn (n - at) a i → n ≤ at → x ≡ read a i
unfolding pure
after_turns kinds turn n at a i so_far done = so_far ∙ ap (λ m. repeat_from kinds turn m a i) (none_over n at done)

halts_there : {A B : Type 0} (halt : Halt) (rest : List Token) (outcome : Outcome A) (following : A → Reader B)
    → Halts halt rest outcome → Halts halt rest (and_then outcome following)
halts_there Memory rest outcome following h = tt
halts_there Unexpected rest outcome following h = ap (λ o. and_then o following) h
halts_there TooDeep rest outcome following h = ap (λ o. and_then o following) h

halts_along : {A : Type 0} (halt : Halt) (rest : List Token) (x y : Outcome A) → x ≡ y → Halts halt rest y → Halts halt rest x
halts_along Memory rest x y e h = tt
halts_along Unexpected rest x y e h = e ∙ h
halts_along TooDeep rest x y e h = e ∙ h

-- a turn that finds no answer
pub halted_turn : {A : Type 0} {x : Outcome A} (kinds : List Kind) (turn : A → Reader A) (n at : ℕ) (a : A) (i : Input) (halt : Halt) (rest : List Token)
    → x ≡ repeat_from kinds turn (n - at) a i → at < n → is_one_of kinds (next i.tokens) ≡ true → Halts halt rest (turn a i)
    → Halts halt rest x
halted_turn kinds turn n at a i halt rest so_far below sees halts =
    let e = so_far ∙ ap (λ m. repeat_from kinds turn m a i) (left_over n at below) ∙ goes_on kinds turn (n - (at + 1)) a i sees in
    halts_along halt rest _ _ e (halts_there halt rest (turn a i) (repeat_from kinds turn (n - (at + 1))) halts)

-- before the first turn of a repetition behind a first operand
pub behind_first : {x : Outcome Expr} (signs : List Kind) (turn : Expr → Reader Expr) (first : Outcome Expr) (a : Expr) (i : Input) (n : ℕ)
    → x ≡ and_then first (repeat signs turn) → first ≡ read a i → n ≡ length i.tokens → x ≡ repeat_from signs turn (n - 0) a i
behind_first signs turn first a i n whole got e = whole ∙ ap (λ o. and_then o (repeat signs turn)) got ∙ before_turns signs turn a i n e
