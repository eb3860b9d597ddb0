-- The words in which the grammar is written: what a rule spells.
use Rattle.std.specs.Prelude.{◌≡◌, ◌⊎◌, ℕ, zero, suc, true, List, ◌∷◌}
use Rattle.lexer.specs.declared.token.Kind.{Kind}
use Rattle.lexer.specs.declared.token.Token.{Token}
use Rattle.parser.specs.Input.{Input, input, is_one_of}

-- `rule i a j`: from `i` to `j` the tokens spell `a`
abbrev pub Rule : Type 0 → Type 1
Rule A = Input → A → Input → Type 0

-- one rule after another, which may look at what the first one spelled
unfoldable pub bind : {A B : Type 0} → Rule A → (A → Rule B) → Rule B
bind rule following = λ i b k. (a : _) × (j : Input) × rule i a j × following a j b k

infixl 10 ◌>>=◌
abbrev pub ◌>>=◌ : {A B : Type 0} → Rule A → (A → Rule B) → Rule B
rule >>= following = bind rule following

infixl 10 ◌>>◌
abbrev pub ◌>>◌ : {A B : Type 0} → Rule A → Rule B → Rule B
rule >> following = bind rule (λ _. following)

-- no token
unfoldable pub pure : {A : Type 0} → A → Rule A
pure a = λ i b j. (a ≡ b) × (i ≡ j)

-- one token of one of these kinds
unfoldable pub take : List Kind → Rule Token
take kinds = λ i token j. (is_one_of kinds token.kind ≡ true) × (i ≡ input j.levels (token ∷ j.tokens))

-- one token of one of these kinds, which opens a level. What stands in the level may be written `depth` levels deep,
-- this one counted. A whole sentence is spelled at a depth of as many levels as may be opened (`Spells`).
unfoldable pub take_open : ℕ → List Kind → Rule Token
take_open zero kinds = λ i token j. ⊥
take_open (suc depth) kinds =
    λ i token j. (is_one_of kinds token.kind ≡ true) × (i ≡ input (suc j.levels) (token ∷ j.tokens))

-- the one or the other
unfoldable pub either : {A : Type 0} → Rule A → Rule A → Rule A
either first second = λ i a j. first i a j ⊎ second i a j

-- so many turns, each from what the one before it gave
abbrev pub turns : {A : Type 0} → (A → Rule A) → ℕ → A → Rule A
turns turn zero a = pure a
turns turn (suc n) a = bind (turn a) (turns turn n)

-- no turn or more
unfoldable pub repeat : {A : Type 0} → (A → Rule A) → A → Rule A
repeat turn a = λ i b j. (n : ℕ) × turns turn n a i b j

-- the rule, behind which the levels that it opened are closed again
unfoldable pub inside : {A : Type 0} → Rule A → Rule A
inside rule = λ i a j. (unclosed : ℕ) × rule i a (input unclosed j.tokens) × (i.levels ≡ j.levels)

-- spells nothing: what stands deeper than the last level
unfoldable pub nothing : {A : Type 0} → Rule A
nothing = λ i a j. ⊥
