-- What holds of one reader and its rule, together with the same at one level more (marked by a prime).
use Rattle.std.proofs.Common.{◌≡◌, ◌⊎◌, ℕ, suc, Bool, true, false, List, [], ◌∷◌, ◌++◌}
use Rattle.lexer.specs.declared.token.Kind.{Kind}
use Rattle.lexer.specs.declared.token.Token.{Token}
use Rattle.parser.specs.Input.{Input, input, next, is_one_of}
use Rattle.parser.specs.Rules.{Rule}
use Rattle.parser.specs.internal.Readers.{Reader, Outcome, read, unexpected, too_deep}

-- the same place with one level more
abbrev pub up : Input → Input
up i = input (suc i.levels) i.tokens

-- the tokens are a front of something that the rule spells, whatever stands behind that
pub record Completed {A : Type 0} (g : Rule A) (levels : ℕ) (front : List Token) : Type 0 where
  pub tail : List Token
  pub value : A
  pub unclosed : ℕ
  pub spelled : (rest : List Token) → g (input levels (front ++ (tail ++ rest))) value (input unclosed rest)

-- the rule spells something, however few levels may be opened
pub record HasSentence {A : Type 0} (g : Rule A) : Type 0 where
  pub sentence : (levels : ℕ) → Completed g levels []

-- What was read is a front of the tokens, the rule spells it whatever stands behind it,
-- and it is read alike before each other token of the kind that stands there.
pub record Taken {A : Type 0} (r : Reader A) (g : Rule A) (i : Input) (a : A) (j : Input) : Type 0 where
  pub front : List Token
  pub is_front : i.tokens ≡ front ++ j.tokens
  pub spelled : (rest : List Token) → g (input i.levels (front ++ rest)) a (input j.levels rest)
  pub local : (rest : List Token) → next rest ≡ next j.tokens → r (input i.levels (front ++ rest)) ≡ read a (input j.levels rest)

-- why reading stopped
pub data Halt : Type 0 where
  at_unexpected at_too_deep : Halt

abbrev pub halted : {A : Type 0} → Halt → List Token → Outcome A
halted at_unexpected rest = unexpected rest
halted at_too_deep rest = too_deep rest

-- What stands before the fault is empty or can be completed, and each other token of the kind is a fault there too.
pub record Halted {A : Type 0} (r : Reader A) (g : Rule A) (i : Input) (halt : Halt) (rest : List Token) : Type 0 where
  pub front : List Token
  pub is_front : i.tokens ≡ front ++ rest
  pub begun : (front ≡ []) ⊎ Completed g i.levels front
  pub local : (other : List Token) → next other ≡ next rest → r (input i.levels (front ++ other)) ≡ halted halt other

-- with one level more the token that is too deep could stand there
pub record Deeper {A : Type 0} (r : Reader A) (g g' : Rule A) (i : Input) (rest : List Token) : Type 0 where
  pub halt : Halted r g i at_too_deep rest
  pub token : Token
  pub more : List Token
  pub is_rest : rest ≡ token ∷ more
  pub completed : Completed g' (suc i.levels) (halt.front ++ token ∷ [])

abbrev pub Traced : {A : Type 0} → Reader A → Rule A → Rule A → Input → Outcome A → Type 0
Traced r g g' i (read a j) = Taken r g i a j
Traced r g g' i (unexpected rest) = Halted r g i at_unexpected rest
Traced r g g' i (too_deep rest) = Deeper r g g' i rest

pub record Trace {A : Type 0} (r : Reader A) (g g' : Rule A) : Type 0 where
  pub trace : (i : Input) → Traced r g g' i (r i)

-- each sentence of the rule is read, where the next token is none with which the reader would go on
pub record Complete {A : Type 0} (r : Reader A) (g : Rule A) (follow : List Kind) : Type 0 where
  pub complete : (i : Input) (a : A) (j : Input) → g i a j → is_one_of follow (next j.tokens) ≡ false → r i ≡ read a j

abbrev pub Alike : {A : Type 0} → Outcome A → Outcome A → Type 0
Alike (read a j) other = other ≡ read a (up j)
Alike (unexpected rest) other = other ≡ unexpected rest
Alike (too_deep rest) other = Unit {0}

-- with one level more the same is read, and spelled
pub record Grows {A : Type 0} (r r' : Reader A) (g g' : Rule A) : Type 0 where
  pub reads : (i : Input) → Alike (r i) (r' (up i))
  pub spells : (i : Input) (a : A) (j : Input) → g i a j → g' (up i) a (up j)

-- what the rule spells begins with one of these kinds, or is empty
pub record Starts {A : Type 0} (g : Rule A) (start : List Kind) (empty : Bool) : Type 0 where
  pub starts : (i : Input) (a : A) (j : Input) → g i a j → (is_one_of start (next i.tokens) ≡ true) ⊎ ((empty ≡ true) × (i.tokens ≡ j.tokens))

pub record Laws {A : Type 0} (r r' : Reader A) (g g' : Rule A) (start : List Kind) (empty : Bool) (follow : List Kind) : Type 0 where
  pub trace : Trace r g g'
  pub complete : Complete r g follow
  pub grows : Grows r r' g g'
  pub starts : Starts g start empty

-- the laws of a rule that spells something without opening a level
pub record Full {A : Type 0} (r r' : Reader A) (g g' : Rule A) (start : List Kind) (empty : Bool) (follow : List Kind) : Type 0 where
  pub laws : Laws r r' g g' start empty follow
  pub here : HasSentence g
  pub deeper : HasSentence g'
