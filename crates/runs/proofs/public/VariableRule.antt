-- The amount of a variable is at most 2 exactly where no branch writes it beside another that mentions it.
use Rattle.std.proofs.Common.{◌≡◌, ◌⊎◌, ◌↔◌, ℕ, zero, suc, ◌≤◌, max, List, [], ◌∷◌, cond, true, false, Bool, ◌==◌, inl, inr, ⊎_elim, refl, sym, subst, arith, le_refl, le_trans, eqb-true}
use Rattle.std.proofs.Math.Nat.{le-max_left, le-max_right, max-le}
use Rattle.syntax.specs.Lists.{In}
use Rattle.system.specs.Expression.{variables, decision_variables}
use Rattle.system.specs.Residual.{Residual, inside, beside, assign, send, receive, loop, while, test, choose, Arms, no_arms, arm}
use Rattle.sharing_rule.specs.Measure.{amount, amount_of_arms, most, only}
use Rattle.runs.proofs.public.SharingWidths.{on_variable, variable_together}
use Rattle.sharing_rule.specs.Sharing.{Writes, WritesInArms, Mentions, MentionsInArms, OneBranchWrites, OneBranchWritesInArms}
use Rattle.runs.proofs.Adding.{variables_add_up}
use Rattle.runs.proofs.Most.{only_least, most_least}

-- only the number that is asked for counts
only_found : (n x y : ℕ) → 1 ≤ only n x y → x ≡ y
only_found n x y h = go (x == y) refl h
  where
    go : (b : Bool) → (x == y) ≡ b → 1 ≤ cond b n 0 → x ≡ y
    go true e k = eqb-true x y e
    go false e k = absurd (omega arith)

-- a number counts at most n
pub only_bound : (n x y : ℕ) → only n x y ≤ n
only_bound n x y = go (x == y)
  where
    go : (b : Bool) → cond b n 0 ≤ n
    go true = le_refl n
    go false = omega arith

-- a bound from below of a maximum is one of a part
part : (n a b : ℕ) → n ≤ max a b → (n ≤ a) ⊎ (n ≤ b)
part n a b h = grind arith

-- only an element of the list counts
most_found : (x : ℕ) (xs : List ℕ) → 1 ≤ most (only 1 x) xs → In x xs
most_found x [] h = absurd (omega arith)
most_found x (y ∷ ys) h = ⊎_elim (λ k. inl (only_found 1 x y k)) (λ k. inr (most_found x ys k)) (part 1 _ _ h)

-- a read counts at most 1
most_bound : (x : ℕ) (xs : List ℕ) → most (only 1 x) xs ≤ 1
most_bound x [] = omega arith
most_bound x (y ∷ ys) = max-le (only_bound 1 x y) (most_bound x ys)

-- reads alone count less than 2
not_two : (x : ℕ) (xs : List ℕ) (P : Type 0) → 2 ≤ most (only 1 x) xs → P
not_two x xs P h = let k = most_bound x xs in absurd (omega arith)

-- where branches together count, one of them does
together_one : (a b : ℕ) → 1 ≤ variable_together a b → (1 ≤ a) ⊎ (1 ≤ b)
together_one zero b h = inr h
together_one (suc a) zero h = inl h
together_one (suc a) (suc b) h = inl (omega arith)

-- where branches together count 2, one of them does
together_two : (a b : ℕ) → 2 ≤ variable_together a b → (2 ≤ a) ⊎ (2 ≤ b)
together_two zero b h = inr h
together_two (suc a) zero h = inl h
together_two (suc zero) (suc zero) h = absurd (omega arith)
together_two (suc zero) (suc (suc b)) h = inr (omega arith)
together_two (suc (suc a)) (suc b) h = inl (omega arith)

-- branches count at most 2 together where a writer is beside no other use
within_two : (a b : ℕ) → a ≤ 2 → b ≤ 2 → (2 ≤ a → 1 ≤ b → ⊥) → (2 ≤ b → 1 ≤ a → ⊥) → variable_together a b ≤ 2
within_two zero b h k p q = k
within_two (suc a) zero h k p q = h
within_two (suc zero) (suc zero) h k p q = omega arith
within_two (suc zero) (suc (suc b)) h k p q = absurd (q (omega arith) (omega arith))
within_two (suc (suc a)) (suc b) h k p q = absurd (p (omega arith) (omega arith))

-- a bound of the first part is one of the maximum
left : (n a b : ℕ) → n ≤ a → n ≤ max a b
left n a b h = le_trans h (le-max_left a b)

-- a bound of the second part is one of the maximum
right : (n a b : ℕ) → n ≤ b → n ≤ max a b
right n a b h = le_trans h (le-max_right a b)

mutual
  -- what is mentioned counts 1 at least
  mentions_least : (x : ℕ) (r : Residual) → Mentions x r → 1 ≤ amount (on_variable x) r
  mentions_least x (inside i child next) h = ⊎_elim (λ k. left 1 _ _ (mentions_least x child k)) (λ k. right 1 _ _ (mentions_least x next k)) h
  mentions_least x (beside i child rest) h =
      ⊎_elim (λ k. le_trans (mentions_least x child k) (variables_add_up.left _ _)) (λ k. le_trans (mentions_least x rest k) (variables_add_up.right _ _)) h
  mentions_least x (assign y w e) h = ⊎_elim (λ k. left 1 _ _ (le_trans (omega arith) (only_least 2 x y (sym k)))) (λ k. right 1 _ _ (most_least x (variables e) k)) h
  mentions_least x (send c w e) h = let k = most_least x (variables e) h in omega arith
  mentions_least x (receive c y) h = right 1 0 _ (le_trans (omega arith) (only_least 2 x y (sym h)))
  mentions_least x (loop k body) h = mentions_least x body h
  mentions_least x (while k e body) h = ⊎_elim (λ k. left 1 _ _ (most_least x (variables e) k)) (λ k. right 1 _ _ (mentions_least x body k)) h
  mentions_least x (test d arms) h =
      ⊎_elim (λ k. left 1 _ _ (most_least x (decision_variables d) k)) (λ k. right 1 _ _ (mentions_least_arms x arms k)) h
  mentions_least x (choose channels arms) h = right 1 _ _ (mentions_least_arms x arms h)
  mentions_least x _ h = absurd h

  -- and in arms
  mentions_least_arms : (x : ℕ) (arms : Arms) → MentionsInArms x arms → 1 ≤ amount_of_arms (on_variable x) arms
  mentions_least_arms x no_arms h = elim h [ ]
  mentions_least_arms x (arm r rest) h = ⊎_elim (λ k. left 1 _ _ (mentions_least x r k)) (λ k. right 1 _ _ (mentions_least_arms x rest k)) h

mutual
  -- what is written counts 2 at least
  writes_least : (x : ℕ) (r : Residual) → Writes x r → 2 ≤ amount (on_variable x) r
  writes_least x (inside i child next) h = ⊎_elim (λ k. left 2 _ _ (writes_least x child k)) (λ k. right 2 _ _ (writes_least x next k)) h
  writes_least x (beside i child rest) h =
      ⊎_elim (λ k. le_trans (writes_least x child k) (variables_add_up.left _ _)) (λ k. le_trans (writes_least x rest k) (variables_add_up.right _ _)) h
  writes_least x (assign y w e) h = left 2 _ _ (only_least 2 x y (sym h))
  writes_least x (receive c y) h = right 2 0 _ (only_least 2 x y (sym h))
  writes_least x (loop k body) h = writes_least x body h
  writes_least x (while k e body) h = right 2 _ _ (writes_least x body h)
  writes_least x (test d arms) h = right 2 _ _ (writes_least_arms x arms h)
  writes_least x (choose channels arms) h = right 2 _ _ (writes_least_arms x arms h)
  writes_least x _ h = absurd h

  -- and in arms
  writes_least_arms : (x : ℕ) (arms : Arms) → WritesInArms x arms → 2 ≤ amount_of_arms (on_variable x) arms
  writes_least_arms x no_arms h = elim h [ ]
  writes_least_arms x (arm r rest) h = ⊎_elim (λ k. left 2 _ _ (writes_least x r k)) (λ k. right 2 _ _ (writes_least_arms x rest k)) h

-- no opens or closes count for a variable
none_most : (xs : List ℕ) → most (λ d. 0) xs ≡ 0
none_most [] = refl
none_most (y ∷ ys) = let e = none_most ys in omega arith

mutual
  -- what counts 1 or more is mentioned
  mentions_of : (x : ℕ) (r : Residual) → 1 ≤ amount (on_variable x) r → Mentions x r
  mentions_of x (inside i child next) h = ⊎_elim (λ k. inl (mentions_of x child k)) (λ k. inr (mentions_of x next k)) (part 1 _ _ h)
  mentions_of x (beside i child rest) h = ⊎_elim (λ k. inl (mentions_of x child k)) (λ k. inr (mentions_of x rest k)) (together_one _ _ h)
  mentions_of x (assign y w e) h = ⊎_elim (λ k. inl (only_found 2 x y k)) (λ k. inr (most_found x (variables e) k)) (part 1 _ _ h)
  mentions_of x (send c w e) h = most_found x (variables e) (omega arith)
  mentions_of x (receive c y) h = only_found 2 x y (omega arith)
  mentions_of x (loop k body) h = mentions_of x body h
  mentions_of x (while k e body) h = ⊎_elim (λ k. inl (most_found x (variables e) k)) (λ k. inr (mentions_of x body k)) (part 1 _ _ h)
  mentions_of x (test d arms) h = ⊎_elim (λ k. inl (most_found x (decision_variables d) k)) (λ k. inr (mentions_of_arms x arms k)) (part 1 _ _ h)
  mentions_of x (choose channels arms) h = mentions_of_arms x arms (let e = none_most channels in omega arith)
  mentions_of x _ h = absurd (omega arith)

  -- and in arms
  mentions_of_arms : (x : ℕ) (arms : Arms) → 1 ≤ amount_of_arms (on_variable x) arms → MentionsInArms x arms
  mentions_of_arms x no_arms h = absurd (omega arith)
  mentions_of_arms x (arm r rest) h = ⊎_elim (λ k. inl (mentions_of x r k)) (λ k. inr (mentions_of_arms x rest k)) (part 1 _ _ h)

mutual
  -- what counts 2 or more is written
  writes_of : (x : ℕ) (r : Residual) → 2 ≤ amount (on_variable x) r → Writes x r
  writes_of x (inside i child next) h = ⊎_elim (λ k. inl (writes_of x child k)) (λ k. inr (writes_of x next k)) (part 2 _ _ h)
  writes_of x (beside i child rest) h = ⊎_elim (λ k. inl (writes_of x child k)) (λ k. inr (writes_of x rest k)) (together_two _ _ h)
  writes_of x (assign y w e) h = ⊎_elim (λ k. only_found 2 x y (omega arith)) (λ k. not_two x (variables e) _ k) (part 2 _ _ h)
  writes_of x (send c w e) h = not_two x (variables e) _ (omega arith)
  writes_of x (receive c y) h = only_found 2 x y (omega arith)
  writes_of x (loop k body) h = writes_of x body h
  writes_of x (while k e body) h = ⊎_elim (λ k. not_two x (variables e) _ k) (λ k. writes_of x body k) (part 2 _ _ h)
  writes_of x (test d arms) h = ⊎_elim (λ k. not_two x (decision_variables d) _ k) (λ k. writes_of_arms x arms k) (part 2 _ _ h)
  writes_of x (choose channels arms) h = writes_of_arms x arms (let e = none_most channels in omega arith)
  writes_of x _ h = absurd (omega arith)

  -- and in arms
  writes_of_arms : (x : ℕ) (arms : Arms) → 2 ≤ amount_of_arms (on_variable x) arms → WritesInArms x arms
  writes_of_arms x no_arms h = absurd (omega arith)
  writes_of_arms x (arm r rest) h = ⊎_elim (λ k. inl (writes_of x r k)) (λ k. inr (writes_of_arms x rest k)) (part 2 _ _ h)

mutual
  -- where one branch at most writes, the amount is at most 2
  amount_of_rule : (x : ℕ) (r : Residual) → OneBranchWrites x r → amount (on_variable x) r ≤ 2
  amount_of_rule x (inside i child next) h = max-le (amount_of_rule x child h.0) (amount_of_rule x next h.1)
  amount_of_rule x (beside i child rest) h =
      within_two _ _ (amount_of_rule x child h.2) (amount_of_rule x rest h.3)
      (λ a b. h.0 (writes_of x child a) (mentions_of x rest b)) (λ a b. h.1 (writes_of x rest a) (mentions_of x child b))
  amount_of_rule x (assign y w e) h = max-le (only_bound 2 x y) (le_trans (most_bound x (variables e)) (omega arith))
  amount_of_rule x (send c w e) h = let k = most_bound x (variables e) in omega arith
  amount_of_rule x (receive c y) h = let k = only_bound 2 x y in omega arith
  amount_of_rule x (loop k body) h = amount_of_rule x body h
  amount_of_rule x (while k e body) h = max-le (le_trans (most_bound x (variables e)) (omega arith)) (amount_of_rule x body h)
  amount_of_rule x (test d arms) h = max-le (le_trans (most_bound x (decision_variables d)) (omega arith)) (amount_of_rule_arms x arms h)
  amount_of_rule x (choose channels arms) h = let k = amount_of_rule_arms x arms h in let e = none_most channels in omega arith
  amount_of_rule x _ h = omega arith

  -- and in arms
  amount_of_rule_arms : (x : ℕ) (arms : Arms) → OneBranchWritesInArms x arms → amount_of_arms (on_variable x) arms ≤ 2
  amount_of_rule_arms x no_arms h = omega arith
  amount_of_rule_arms x (arm r rest) h = max-le (amount_of_rule x r h.0) (amount_of_rule_arms x rest h.1)

-- a writer beside another use counts 3
three_together : (a b : ℕ) → 2 ≤ a → 1 ≤ b → variable_together a b ≤ 2 → ⊥
three_together a b h k l = let m = variables_add_up.more 2 1 a b h k in absurd (omega arith)

mutual
  -- where the amount is at most 2, one branch at most writes
  rule_of_amount : (x : ℕ) (r : Residual) → amount (on_variable x) r ≤ 2 → OneBranchWrites x r
  rule_of_amount x (inside i child next) h = (rule_of_amount x child (omega arith), rule_of_amount x next (omega arith))
  rule_of_amount x (beside i child rest) h = (
    λ a b. three_together _ _ (writes_least x child a) (mentions_least x rest b) h,
    λ a b. three_together _ _ (writes_least x rest a) (mentions_least x child b)
        (subst (λ n. n ≤ 2) (variables_add_up.either_order (amount (on_variable x) child) (amount (on_variable x) rest)) h),
    rule_of_amount x child (le_trans (variables_add_up.left _ _) h),
    rule_of_amount x rest (le_trans (variables_add_up.right _ _) h),
  )
  rule_of_amount x (loop k body) h = rule_of_amount x body h
  rule_of_amount x (while k e body) h = rule_of_amount x body (omega arith)
  rule_of_amount x (test d arms) h = rule_of_amount_arms x arms (omega arith)
  rule_of_amount x (choose channels arms) h = rule_of_amount_arms x arms (omega arith)
  rule_of_amount x _ h = tt

  -- and in arms
  rule_of_amount_arms : (x : ℕ) (arms : Arms) → amount_of_arms (on_variable x) arms ≤ 2 → OneBranchWritesInArms x arms
  rule_of_amount_arms x no_arms h = tt
  rule_of_amount_arms x (arm r rest) h = (rule_of_amount x r (omega arith), rule_of_amount_arms x rest (omega arith))

-- the limit of a variable's amount is the rule itself
pub variable_rule : (x : ℕ) (r : Residual) → amount (on_variable x) r ≤ 2 ↔ OneBranchWrites x r
variable_rule x r = (rule_of_amount x r, amount_of_rule x r)
