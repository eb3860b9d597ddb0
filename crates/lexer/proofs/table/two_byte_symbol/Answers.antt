use Rattle.std.proofs.Common.{◌≡◌, Bool, true, false, if◌then◌else◌, ◌&&◌, Some, None, [], ◌∷◌, refl, rules, arith}
use Rattle.std.specs.Option.{option_or}
use Rattle.lexer.specs.Table.{symbol}
use Rattle.lexer.specs.declared.token.Kind.{Kind}
use Rattle.lexer.proofs.BucketLemmas.{no_symbol}
use Rattle.lexer.proofs.table.two_byte_symbol.Goals as goal

-- as the table asks for the second byte and for no further one
asked : (is : Bool) (kind : Kind) → (if is then Some kind else None) ≡ (if is && true then Some kind else None)
asked true kind = refl
asked false kind = refl

-- the same of two symbols
either : (is other : Bool) (kind another : Kind) → option_or (if is then Some kind else None) (if other then Some another else None) ≡ (if is && true then Some kind else (if other && true then Some another else None))
either true other kind another = refl
either false true kind another = refl
either false false kind another = refl

pub returns-in-58 : goal.returns-in-58
unfolding symbol
returns-in-58 c = rw (c.in-58.is, c.where_it_follows.ensures) (asked _ _)

pub returns-in-60 : goal.returns-in-60
unfolding symbol
returns-in-60 c = rw (c.in-60.is, c.or.ensures, c.where_it_follows-in-60.ensures, c.where_it_follows-in-60-2.ensures) (either _ _ _ _)

pub returns-in-45 : goal.returns-in-45
unfolding symbol
returns-in-45 c = rw (c.in-45.is, c.where_it_follows-in-45.ensures) (asked _ _)

pub returns-in-124 : goal.returns-in-124
unfolding symbol
returns-in-124 c = rw (c.in-124.is, c.where_it_follows-in-124.ensures) (asked _ _)

pub returns-in-47 : goal.returns-in-47
unfolding symbol
returns-in-47 c = rw (c.in-47.is, c.where_it_follows-in-47.ensures) (asked _ _)

pub returns-in-62 : goal.returns-in-62
unfolding symbol
returns-in-62 c = rw (c.in-62.is, c.where_it_follows-in-62.ensures) (asked _ _)

pub returns-in_default : goal.returns-in_default
returns-in_default c = no_symbol 1 (58 ∷ 60 ∷ 45 ∷ 124 ∷ 47 ∷ 62 ∷ []) (c.args.first ∷ c.args.second ∷ []) refl refl (λ e. first_of (search rules, omega (arith, e)), (λ e. first_of (search rules, omega (arith, e)), (λ e. first_of (search rules, omega (arith, e)), (λ e. first_of (search rules, omega (arith, e)), (λ e. first_of (search rules, omega (arith, e)), (λ e. first_of (search rules, omega (arith, e)), tt))))))
