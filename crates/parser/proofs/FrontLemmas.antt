-- Tokens before others.
use Rattle.std.proofs.Common.{◌≡◌, List, [], ◌∷◌, ◌++◌, refl, sym, ◌∙◌, ap, append_assoc}
use Rattle.lexer.specs.declared.token.Token.{Token}
use Rattle.parser.specs.Input.{next}

-- the next token is of one kind where what stands behind the same tokens begins with one kind
pub next_behind : (front rest other : List Token) → next rest ≡ next other → next (front ++ rest) ≡ next (front ++ other)
next_behind [] rest other e = e
next_behind (token ∷ front) rest other e = refl

pub joined : (first second rest whole middle : List Token) → whole ≡ first ++ middle → middle ≡ second ++ rest → whole ≡ (first ++ second) ++ rest
joined first second rest whole middle e f = e ∙ ap (λ t. first ++ t) f ∙ sym (append_assoc first second rest)
