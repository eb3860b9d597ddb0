-- What one step does to the list of views: the view of one seat changes, or one more comes.
use Rattle.std.proofs.Common.{◌≡◌, ◌≢◌, ℕ, zero, suc, ◌<◌, List, [], ◌∷◌, ◌++◌, length, set, refl, sym, ap, ◌∙◌, subst, ⊎_elim, arith}
use mathlib.Core.Option.{some, some-ne-none, some-injective}
use lib.ListN.{get_elem?}
use Rattle.atomic_table.proofs.Lists.{at_set}

module _ {V : Type 0} where
  pub at_below : (l : List V) (i : ℕ) (v : V) → get_elem? l i ≡ some v → i < length l
  at_below [] i v e = absurd (some-ne-none v (sym e))
  at_below (x ∷ xs) zero v e = omega arith
  at_below (x ∷ xs) (suc i) v e = let h = at_below xs i v e in omega arith

  pub set_length : (l : List V) (i : ℕ) (v : V) → length (set l i v) ≡ length l
  set_length [] i v = refl
  set_length (x ∷ xs) zero v = refl
  set_length (x ∷ xs) (suc i) v = ap suc (set_length xs i v)

  pub at_one : (l : List V) (i : ℕ) (u v : V) → get_elem? l i ≡ some u → get_elem? l i ≡ some v → u ≡ v
  at_one l i u v p q = some-injective u v (sym p ∙ q)

  -- the others fit, and so does the new view
  pub all_set : (F : ℕ → V → Type 0) (views : List V) (id : ℕ) (w : V) → ((j : ℕ) (u : V) → j ≢ id → get_elem? views j ≡ some u → F j u) → F id w
      → (j : ℕ) (u : V) → get_elem? (set views id w) j ≡ some u → F j u
  all_set F views id w others mine j u e =
      ⊎_elim
      (λ (x : (j ≡ id) × (w ≡ u)). subst (λ (k : ℕ). F k u) (sym x.0) (subst (F id) x.1 mine))
      (λ (x : (j ≢ id) × (get_elem? views j ≡ some u)). others j u x.0 x.1)
      (at_set views id j w u e)

  -- the same where one more view comes
  pub all_more : (F : ℕ → V → Type 0) (views : List V) (w : V) → ((j : ℕ) (u : V) → get_elem? views j ≡ some u → F j u) → F (length views) w
      → (j : ℕ) (u : V) → get_elem? (views ++ w ∷ []) j ≡ some u → F j u
  all_more F [] w others mine zero u e = subst (F 0) (some-injective w u e) mine
  all_more F [] w others mine (suc j) u e = absurd (some-ne-none u (sym e))
  all_more F (x ∷ xs) w others mine zero u e = others zero u e
  all_more F (x ∷ xs) w others mine (suc j) u e = all_more (λ k. F (suc k)) xs w (λ k. others (suc k)) mine j u e
