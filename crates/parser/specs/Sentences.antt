-- Whole sentences of a grammar whose first rule is given for each number of levels, and the tokens that begin one.
use Rattle.std.specs.Prelude.{◌≡◌, ℕ, suc, List, [], ◌∷◌, ◌++◌}
use Rattle.lexer.specs.declared.token.Kind.TheVariants.{End}
use Rattle.lexer.specs.declared.token.Token.{Token}
use Rattle.parser.specs.Input.{input, next}
use Rattle.parser.specs.Rules.{Rule}

-- With at most so many levels open around one another the tokens up to the first end spell `a`.
pub record Spells {A : Type 0} (rule : ℕ → Rule A) (levels : ℕ) (tokens : List Token) (a : A) : Type 0 where
  -- behind it stands the end, or no token
  pub rest : List Token
  pub at_end : next rest ≡ End
  -- the levels that are not closed again
  pub unclosed : ℕ
  pub spelled : rule levels (input levels tokens) a (input unclosed rest)

-- something begins with these tokens
pub record GoesOn {A : Type 0} (rule : ℕ → Rule A) (levels : ℕ) (front : List Token) : Type 0 where
  pub tail : List Token
  pub whole : A
  pub spells : Spells rule levels (front ++ tail) whole

-- something begins with the tokens of `front` and the first one of `rest`; where there is none, the tokens of `front`
-- are something whole
abbrev pub GoesOnWith : {A : Type 0} → (ℕ → Rule A) → ℕ → List Token → List Token → Type 0
GoesOnWith {A} rule levels front [] = (a : A) × Spells rule levels front a
GoesOnWith rule levels front (token ∷ rest) = GoesOn rule levels (front ++ token ∷ [])

-- The tokens before `rest` can be gone on with, and no longer with the first one of `rest`, or with an end where there
-- is none.
pub record StopsAt {A : Type 0} (rule : ℕ → Rule A) (levels : ℕ) (tokens front rest : List Token) : Type 0 where
  pub whole : tokens ≡ front ++ rest
  pub goes_on : GoesOn rule levels front
  pub no_further : ¬ GoesOnWith rule levels front rest

-- There the tokens can't be gone on with, however many levels may be open.
pub record StopsForGood {A : Type 0} (rule : ℕ → Rule A) (levels : ℕ) (tokens front rest : List Token) : Type 0 where
  pub stops : StopsAt rule levels tokens front rest
  pub for_good : (more : ℕ) → ¬ GoesOnWith rule more front rest

-- There the tokens can be gone on with where one more level may be open.
pub record StopsForLevels {A : Type 0} (rule : ℕ → Rule A) (levels : ℕ) (tokens front rest : List Token) : Type 0 where
  pub stops : StopsAt rule levels tokens front rest
  pub with_one_more : GoesOnWith rule (suc levels) front rest
