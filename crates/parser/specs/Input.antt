-- Where a rule begins and ends: before these tokens, with so many levels that may still be opened.
use Rattle.std.specs.Prelude.{ℕ, Bool, false, ◌||◌, List, [], ◌∷◌}
use denote.Enum.Bare.{sameb}
use Rattle.lexer.specs.contracts.token.Kind.{the_type}
use Rattle.lexer.specs.declared.token.Kind.{Kind}
use Rattle.lexer.specs.declared.token.Kind.TheVariants.{End}
use Rattle.lexer.specs.declared.token.Token.{Token}

pub record Input : Type 0 where
  -- how many levels may still be opened around one another
  pub levels : ℕ
  -- the tokens that are left
  pub tokens : List Token

abbrev pub input : ℕ → List Token → Input
input levels tokens = record { levels = levels; tokens = tokens }

-- the kind of the next token; behind the last one stands the end of the source
abbrev pub next : List Token → Kind
next [] = End
next (token ∷ rest) = token.kind

-- `==` on kinds
unfoldable pub same_kind : Kind → Kind → Bool
same_kind = sameb the_type

-- whether the list has the kind
abbrev pub is_one_of : List Kind → Kind → Bool
is_one_of [] kind = false
is_one_of (first ∷ kinds) kind = same_kind kind first || is_one_of kinds kind
