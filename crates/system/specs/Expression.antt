-- Expressions with widths, and their values over a store.
use Rattle.std.specs.Prelude.{ℕ, suc, ◌+◌, ◌==◌, min, List, [], ◌∷◌, ◌++◌, Bool, true, false, cond, Option, Some, None, slice_index_or, slice_set, nat_lt, if◌then◌else◌}
use Rattle.value.specs.Word.{Word, most_bits, resized, common_width, sum_of, difference_of, and_of, or_of, xor_of, complement_of, comparison_of}
use Rattle.system.specs.declared.expression.Operator.{Operator}
use Rattle.system.specs.declared.expression.Operator.TheVariants.{Add, Subtract, And, Or, Xor, Compare}

-- a word of these bits and this width
abbrev pub word : ℕ → ℕ → Word
word bits width = record { bits = bits; width = width }

-- an expression of the elaborated description; its names are numbers
pub data Expression : Type 0 where
  constant : Word → Expression
  -- a variable, and its width
  variable : ℕ → ℕ → Expression
  -- in an arm: the value received on this channel, of this width
  received : ℕ → ℕ → Expression
  binary : Operator → Expression → Expression → Expression
  complement : Expression → Expression
  cast : Expression → ℕ → Expression

-- the values of the variables, by number
abbrev pub Store : Type 0
Store = List Word

-- the value of variable x
abbrev pub get : Store → ℕ → Word
get s x = slice_index_or s x (word 0 1)

-- the store after v was written to variable x, cut or widened to its width
abbrev pub put : Store → ℕ → Word → Store
put s x v = slice_set s x (resized v (get s x).width)

-- the value of an operator: a sum is one bit wider than the wider operand
-- (at most so many bits as a number has: typing refuses what would need more, so that no sum is cut)
abbrev pub combined : Operator → Word → Word → Word
combined Add a b = resized (sum_of a b) (min most_bits (common_width a b + 1))
combined Subtract a b = difference_of a b
combined And a b = and_of a b
combined Or a b = or_of a b
combined Xor a b = xor_of a b
combined (Compare op) a b = comparison_of op a b

-- the value of an expression over a store; a name that was not received reads 0
abbrev pub value : Store → Expression → Word
value s (constant v) = v
value s (variable x w) = resized (get s x) w
value s (received c w) = word 0 w
value s (binary op a b) = combined op (value s a) (value s b)
value s (complement a) = complement_of (value s a)
value s (cast a w) = resized (value s a) w

-- the variables that stand in an expression, in the order of the source
abbrev pub variables : Expression → List ℕ
variables (constant v) = []
variables (variable x w) = x ∷ []
variables (received c w) = []
variables (binary op a b) = variables a ++ variables b
variables (complement a) = variables a
variables (cast a w) = variables a

-- the expression with the value v put for the name of channel c
abbrev pub put_value : ℕ → Word → Expression → Expression
put_value c v (constant u) = constant u
put_value c v (variable x w) = variable x w
put_value c v (received d w) = cond (c == d) (constant (resized v w)) (received d w)
put_value c v (binary op a b) = binary op (put_value c v a) (put_value c v b)
put_value c v (complement a) = complement (put_value c v a)
put_value c v (cast a w) = cast (put_value c v a) w

-- what a test decides by: the first guard that is true, or the first labels with the value
pub data Decision : Type 0 where
  -- the guards, and whether there is an else
  by_guards : List Expression → Bool → Decision
  -- the expression, the labels of each arm, and whether there is an else
  by_labels : Expression → List (List ℕ) → Bool → Decision

-- x stands in the list
abbrev pub is_in : ℕ → List ℕ → Bool
is_in x [] = false
is_in x (y ∷ ys) = cond (x == y) true (is_in x ys)

-- the position of the first true test from n on; else the position after the last where there is an else
abbrev pub first_of_tests : ℕ → List Bool → Bool → Option ℕ
first_of_tests n [] true = Some n
first_of_tests n [] false = None
first_of_tests n (t ∷ ts) otherwise = cond t (Some n) (first_of_tests (suc n) ts otherwise)

-- which of the guards are true over a store
abbrev pub guards_hold : Store → List Expression → List Bool
guards_hold s [] = []
guards_hold s (g ∷ gs) = ((value s g).bits == 1) ∷ guards_hold s gs

-- which of the lists of labels have the number
abbrev pub labels_hold : ℕ → List (List ℕ) → List Bool
labels_hold n [] = []
labels_hold n (ls ∷ rest) = is_in n ls ∷ labels_hold n rest

-- the arm that a test takes over a store, `None` where it takes none
abbrev pub decide : Store → Decision → Option ℕ
decide s (by_guards gs otherwise) = first_of_tests 0 (guards_hold s gs) otherwise
decide s (by_labels e labels otherwise) = first_of_tests 0 (labels_hold (value s e).bits labels) otherwise

-- the variables that stand in the expressions, in the order of the source
abbrev pub variables_of_all : List Expression → List ℕ
variables_of_all [] = []
variables_of_all (e ∷ es) = variables e ++ variables_of_all es

-- the variables that a test reads, those of all its guards
abbrev pub decision_variables : Decision → List ℕ
decision_variables (by_guards gs otherwise) = variables_of_all gs
decision_variables (by_labels e labels otherwise) = variables e

-- the expressions with the value v put for the name of channel c
abbrev pub put_all : ℕ → Word → List Expression → List Expression
put_all c v [] = []
put_all c v (e ∷ es) = put_value c v e ∷ put_all c v es

-- the test with the value v put for the name of channel c
abbrev pub put_decision : ℕ → Word → Decision → Decision
put_decision c v (by_guards gs otherwise) = by_guards (put_all c v gs) otherwise
put_decision c v (by_labels e labels otherwise) = by_labels (put_value c v e) labels otherwise

-- a list with x at its position, once, where the list is ascending
abbrev pub inserted : ℕ → List ℕ → List ℕ
inserted x [] = x ∷ []
inserted x (y ∷ ys) = if x == y then (y ∷ ys) else (if nat_lt x y then (x ∷ y ∷ ys) else (y ∷ inserted x ys))

-- the numbers of a list, ascending, each once
abbrev pub ascending : List ℕ → List ℕ
ascending [] = []
ascending (x ∷ xs) = inserted x (ascending xs)
