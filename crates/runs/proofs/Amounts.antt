-- A move leaves no greater amount, and counts at most the amount.
use Rattle.std.proofs.Common.{◌≡◌, ℕ, zero, suc, ◌+◌, ◌*◌, ◌≤◌, max, List, [], ◌∷◌, ◌++◌, Option, Some, None, cond, true, false, Bool, ◌==◌, inl, inr, sym, refl, ap, ap₂, subst, arith, le_refl, le_trans, zero-le}
use Rattle.std.proofs.Math.Nat.{le-max_left, le-max_right}
use Rattle.runs.specs.Moves.{Place, Move, Local}
use Rattle.value.specs.Word.{Word}
use Rattle.system.specs.Expression.{Expression, constant, variable, received, binary, complement, cast, put_value, variables, Decision, by_guards, by_labels, put_decision, put_all, variables_of_all, decision_variables}
use Rattle.system.specs.Residual.{Residual, done, halted, inside, beside, assign, send, receive, sync, held, loop, while, test, choose, closing, drain, Arms, no_arms, arm, within, along, arm_at, opened, put_residual, put_arms}
use Rattle.sharing_rule.specs.Measure.{Measure, amount, amount_of_arms, most}
use Rattle.runs.proofs.Adding.{AddsUp}
use Rattle.runs.proofs.Most.{most_at}

-- a received value changes no variables of an expression
variables_put : (c : ℕ) (v : Word) (e : Expression) → variables (put_value c v e) ≡ variables e
variables_put c v (constant u) = refl
variables_put c v (variable x w) = refl
variables_put c v (received d w) = go (c == d)
  where
    go : (b : Bool) → variables (cond b (constant (Rattle.value.specs.Word.resized v w)) (received d w)) ≡ []
    go true = refl
    go false = refl
variables_put c v (binary op a b) = ap₂ (◌++◌) (variables_put c v a) (variables_put c v b)
variables_put c v (complement a) = variables_put c v a
variables_put c v (cast a w) = variables_put c v a

-- nor of expressions
all_put : (c : ℕ) (v : Word) (es : List Expression) → variables_of_all (put_all c v es) ≡ variables_of_all es
all_put c v [] = refl
all_put c v (e ∷ es) = ap₂ (◌++◌) (variables_put c v e) (all_put c v es)

-- nor of a test
decision_put : (c : ℕ) (v : Word) (d : Decision) → decision_variables (put_decision c v d) ≡ decision_variables d
decision_put c v (by_guards gs otherwise) = all_put c v gs
decision_put c v (by_labels e labels otherwise) = variables_put c v e

mutual
  -- a received value changes no amount
  pub amount_put : (M : Measure) (c : ℕ) (v : Word) (r : Residual) → amount M (put_residual c v r) ≡ amount M r
  amount_put M c v done = refl
  amount_put M c v halted = refl
  amount_put M c v (inside i child next) = ap₂ max (amount_put M c v child) (amount_put M c v next)
  amount_put M c v (beside k child rest) = ap₂ M.together (amount_put M c v child) (amount_put M c v rest)
  amount_put M c v (assign x w e) = ap (λ xs. max (M.writes x) (most M.reads xs)) (variables_put c v e)
  amount_put M c v (send d w e) = ap (λ xs. max (M.sends d) (max (M.holds d) (most M.reads xs))) (variables_put c v e)
  amount_put M c v (receive d x) = refl
  amount_put M c v (sync d) = refl
  amount_put M c v (held d) = refl
  amount_put M c v (loop k body) = amount_put M c v body
  amount_put M c v (while k e body) = ap₂ max (ap (most M.reads) (variables_put c v e)) (amount_put M c v body)
  amount_put M c v (test d arms) = ap₂ max (ap (most M.reads) (decision_put c v d)) (amount_put_arms M c v arms)
  amount_put M c v (choose channels arms) = ap (max (max (most M.opens channels) (most M.closes channels))) (amount_put_arms M c v arms)
  amount_put M c v (closing d) = refl
  amount_put M c v (drain d k) = refl

  -- nor the amount of arms
  amount_put_arms : (M : Measure) (c : ℕ) (v : Word) (arms : Arms) → amount_of_arms M (put_arms c v arms) ≡ amount_of_arms M arms
  amount_put_arms M c v no_arms = refl
  amount_put_arms M c v (arm r rest) = ap₂ max (amount_put M c v r) (amount_put_arms M c v rest)

-- opening an arm changes no amount
amount_opened : (M : Measure) (c : ℕ) (v : Option Word) (r : Residual) → amount M (opened c v r) ≡ amount M r
amount_opened M c None r = refl
amount_opened M c (Some v) r = amount_put M c v r

-- an arm has at most the amount of all
amount_arm : (M : Measure) (arms : Arms) (k : ℕ) → amount M (arm_at arms k) ≤ amount_of_arms M arms
amount_arm M no_arms k = le_refl 0
amount_arm M (arm r rest) zero = le-max_left _ _
amount_arm M (arm r rest) (suc k) = le_trans (amount_arm M rest k) (le-max_right (amount M r) _)

-- erasing a finished child adds nothing to a sequence
pub amount_within : (M : Measure) (i : ℕ) (child next : Residual) → amount M (within i child next) ≤ max (amount M child) (amount M next)
amount_within M i done next = le-max_right 0 _
amount_within M i _ next = le_refl _

-- nor to a parallel
pub amount_along : (M : Measure) → AddsUp M.together → (k : ℕ) (child rest : Residual) → amount M (along k child rest) ≤ M.together (amount M child) (amount M rest)
amount_along M A k done rest = A.right 0 _
amount_along M A k _ rest = le_refl _

-- greater parts have a greater maximum
max_more : (a b c d : ℕ) → a ≤ c → b ≤ d → max a b ≤ max c d
max_more a b c d h k = omega arith

-- an equal residual, and a bound of its amount
of_equal : (M : Measure) (q t : Residual) (n : ℕ) → q ≡ t → amount M t ≤ n → amount M q ≤ n
of_equal M q t n e h = subst (λ r. amount M r ≤ n) (sym e) h

-- the amount after a move is no greater
pub kept : (M : Measure) → AddsUp M.together → (r : Residual) (a : Place) (m : Move) (q : Residual) → Local r a m q → amount M q ≤ amount M r
kept M A done a m q h = elim h [ ]
kept M A halted a m q h = elim h [ ]
kept M A (inside i child next) a m q (b, t, _, h, e) =
    of_equal M q _ _ e (le_trans (amount_within M i t next) (max_more _ _ _ _ (kept M A child b m t h) (le_refl (amount M next))))
kept M A (beside k child rest) a m q (inl (b, t, _, h, e)) =
    of_equal M q _ _ e (le_trans (amount_along M A k t rest) (A.more _ _ _ _ (kept M A child b m t h) (le_refl _)))
kept M A (beside k child rest) a m q (inr (t, h, e)) =
    of_equal M q _ _ e (le_trans (amount_along M A k child t) (A.more _ _ _ _ (le_refl _) (kept M A rest a m t h)))
kept M A (assign x w e) a m q (_, _, f) = of_equal M q _ _ f zero-le
kept M A (send c w e) a m q (_, inl (_, f)) = of_equal M q _ _ f zero-le
kept M A (send c w e) a m q (_, inr (_, f)) = of_equal M q _ _ f (omega arith)
kept M A (receive c x) a m q (_, _, f) = of_equal M q _ _ f zero-le
kept M A (sync c) a m q (_, inl (_, f)) = of_equal M q _ _ f zero-le
kept M A (sync c) a m q (_, inr (_, f)) = of_equal M q _ _ f (le-max_right _ _)
kept M A (held c) a m q (_, _, f) = of_equal M q _ _ f zero-le
kept M A (loop k body) a m q (_, _, f) = of_equal M q _ _ f (le_trans (amount_within M (2 * k + 1) body (loop (k + 1) body)) (omega arith))
kept M A (while k e body) a m q (_, inl (_, f)) =
    of_equal M q _ _ f (le_trans (amount_within M (2 * k + 1) body (while (k + 1) e body)) (omega arith))
kept M A (while k e body) a m q (_, inr (_, f)) = of_equal M q _ _ f zero-le
kept M A (test d arms) a m q (_, inl (k, _, f)) =
    of_equal M q _ _ f (le_trans (amount_within M 1 (arm_at arms k) done) (let h = amount_arm M arms k in omega arith))
kept M A (test d arms) a m q (_, inr (_, f)) = of_equal M q _ _ f zero-le
kept M A (choose channels arms) a m q (_, c, k, v, g, _, f) =
    of_equal M q _ _ f (le_trans (amount_within M 1 (opened c v (arm_at arms k)) (closing c))
    (let h = amount_arm M arms k in let e = amount_opened M c v (arm_at arms k) in let j = most_at M.closes c channels k g in
    omega arith))
kept M A (closing c) a m q (_, _, f) = of_equal M q _ _ f zero-le
kept M A (drain c k) a m q (_, _, f) = of_equal M q _ _ f (le_refl _)
