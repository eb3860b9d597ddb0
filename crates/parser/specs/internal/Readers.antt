-- The words in which the grammar is written a second time: how it is read, with one token of lookahead.
-- No reader has to believe it: `proofs/WholeLaws.antt` ties them to the words of `Rules.antt` and `Sentences.antt`, and
-- `proofs/Parsed.antt` what they come to for a whole description to the clauses of `parse`.
use Rattle.std.specs.Prelude.{ℕ, zero, suc, if◌then◌else◌, List, [], ◌∷◌, length}
use Rattle.lexer.specs.declared.token.Kind.{Kind}
use Rattle.lexer.specs.declared.token.Kind.TheVariants.{End}
use Rattle.lexer.specs.declared.token.Token.{Token}
use Rattle.parser.specs.Input.{Input, input, next, same_kind, is_one_of}

-- what reading comes to
pub data Outcome (A : Type 0) : Type 0 where
  -- a value, and what is left
  read : A → Input → Outcome A
  -- the first of these tokens, or the end where there is none, may not stand there
  unexpected : List Token → Outcome A
  -- the first of these tokens would open a level too many
  too_deep : List Token → Outcome A

abbrev pub Reader : Type 0 → Type 0
Reader A = Input → Outcome A

-- goes on with what was read
abbrev pub and_then : {A B : Type 0} → Outcome A → (A → Reader B) → Outcome B
and_then (read a i) following = following a i
and_then (unexpected rest) following = unexpected rest
and_then (too_deep rest) following = too_deep rest

-- one reader after another, which may look at what the first one read
unfoldable pub bind : {A B : Type 0} → Reader A → (A → Reader B) → Reader B
bind reader following = λ i. and_then (reader i) following

infixl 10 ◌>>=◌
abbrev pub ◌>>=◌ : {A B : Type 0} → Reader A → (A → Reader B) → Reader B
reader >>= following = bind reader following

infixl 10 ◌>>◌
abbrev pub ◌>>◌ : {A B : Type 0} → Reader A → Reader B → Reader B
reader >> following = bind reader (λ _. following)

-- no token
unfoldable pub pure : {A : Type 0} → A → Reader A
pure a = λ i. read a i

abbrev pub take_from : List Kind → ℕ → List Token → Outcome Token
take_from kinds levels [] = unexpected []
take_from kinds levels (token ∷ rest) =
    if is_one_of kinds token.kind then read token (input levels rest) else unexpected (token ∷ rest)

-- one token of one of these kinds
unfoldable pub take : List Kind → Reader Token
take kinds = λ i. take_from kinds i.levels i.tokens

-- the token opens a level, where one may be opened
abbrev pub opened : ℕ → ℕ → Token → List Token → Outcome Token
opened zero levels token rest = too_deep (token ∷ rest)
opened (suc depth) zero token rest = too_deep (token ∷ rest)
opened (suc depth) (suc levels) token rest = read token (input levels rest)

abbrev pub take_open_from : ℕ → List Kind → ℕ → List Token → Outcome Token
take_open_from depth kinds levels [] = unexpected []
take_open_from depth kinds levels (token ∷ rest) =
    if is_one_of kinds token.kind then opened depth levels token rest else unexpected (token ∷ rest)

-- one token of one of these kinds, which opens a level
unfoldable pub take_open : ℕ → List Kind → Reader Token
take_open depth kinds = λ i. take_open_from depth kinds i.levels i.tokens

-- the one where the next token is of one of these kinds, and else the other
unfoldable pub branch : {A : Type 0} → List Kind → Reader A → Reader A → Reader A
branch kinds first second = λ i. if is_one_of kinds (next i.tokens) then first i else second i

-- a turn as long as the next token is of one of these kinds, and at most so many
abbrev pub repeat_from : {A : Type 0} → List Kind → (A → Reader A) → ℕ → A → Reader A
repeat_from kinds turn zero a = pure a
repeat_from kinds turn (suc n) a = branch kinds (bind (turn a) (repeat_from kinds turn n)) (pure a)

-- a turn as long as the next token is of one of these kinds. Each turn takes a token, so there are no more turns than
-- tokens.
unfoldable pub repeat : {A : Type 0} → List Kind → (A → Reader A) → A → Reader A
repeat kinds turn a = λ i. repeat_from kinds turn (length i.tokens) a i

-- the reader, behind which the levels that it opened are closed again
unfoldable pub inside : {A : Type 0} → Reader A → Reader A
inside reader = λ i. and_then (reader i) (λ a j. read a (input i.levels j.tokens))

-- reads nothing: what stands deeper than the last level
unfoldable pub nothing : {A : Type 0} → Reader A
nothing = λ i. unexpected i.tokens

-- the reader, behind which the tokens are to end
unfoldable pub whole : {A : Type 0} → Reader A → Reader A
whole reader = λ i. and_then (reader i) (λ a j. if same_kind (next j.tokens) End then read a j else unexpected j.tokens)
