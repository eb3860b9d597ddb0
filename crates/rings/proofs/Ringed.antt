-- Rings of indexes, and ways that close one.
use Rattle.std.proofs.Common.{◌≡◌, ◌⊎◌, inl, inr, ℕ, zero, suc, ◌<◌, List, [], ◌∷◌, ◌++◌, drop, true, Some, slice_get, refl, sym, subst}
use Rattle.runs.proofs.public.Options.{none-some, some-injective}
use Rattle.syntax.specs.Lists.{In}
use Rattle.rings.specs.internal.Search.{Test, Chain, Ring, InNoRing, Path}

module _ (n : ℕ) (w : Test) where
  -- each of a chain is below the number, and waits for one of it or for the first
  chain-below : (first i : ℕ) (rest : List ℕ) (x : ℕ) → Chain n w first i rest → In x (i ∷ rest) → x < n
  chain-below first i [] x h (inl is) = subst (λ k. k < n) (sym is) h.0
  chain-below first i [] x h (inr later) = absurd later
  chain-below first i (j ∷ rest) x h (inl is) = subst (λ k. k < n) (sym is) h.0
  chain-below first i (j ∷ rest) x h (inr later) = chain-below first j rest x h.2 later

  chain-next : (first i : ℕ) (rest : List ℕ) (x : ℕ) → Chain n w first i rest → In x (i ∷ rest) → (y : ℕ) × (w x y ≡ true) × ((y ≡ first) ⊎ In y (i ∷ rest))
  chain-next first i [] x h (inl is) = (first, subst (λ k. w k first ≡ true) (sym is) h.1, inl refl)
  chain-next first i [] x h (inr later) = absurd later
  chain-next first i (j ∷ rest) x h (inl is) = (j, subst (λ k. w k j ≡ true) (sym is) h.1, inr (inr (inl refl)))
  chain-next first i (j ∷ rest) x h (inr later) =
      let found = chain-next first j rest x h.2 later in
      (found.0, found.1, elim found.2 [ inl is ↦ inl is | inr at ↦ inr (inr at) ])

  -- so each of a ring waits for one of it
  ring-next : (ring : List ℕ) (x : ℕ) → Ring n w ring → In x ring → (y : ℕ) × (y < n) × (w x y ≡ true) × In y ring
  ring-next [] x h at = absurd h
  ring-next (i ∷ rest) x h at =
      let found = chain-next i i rest x h at in
      let there : In found.0 (i ∷ rest) = elim found.2 [ inl is ↦ inl is | inr later ↦ later ] in
      (found.0, chain-below i i rest found.0 h there, found.1, there)

  -- what waits for none but those in no ring is in none
  pub none-through : (x : ℕ) → ((y : ℕ) → y < n → w x y ≡ true → InNoRing n w y) → InNoRing n w x
  none-through x h ring r at = let next = ring-next ring x r at in h next.0 next.1 next.2 ring r next.3

  pub ring-below : (i : ℕ) (rest : List ℕ) → Ring n w (i ∷ rest) → i < n
  ring-below i rest h = chain-below i i rest i h (inl refl)

  -- ---- ways
  pub path-more : (xs : List ℕ) (t k : ℕ) → Path n w (xs ++ t ∷ []) → w t k ≡ true → k < n → Path n w ((xs ++ t ∷ []) ++ k ∷ [])
  path-more [] t k h is l = (h, is, l)
  path-more (x ∷ []) t k h is l = (h.0, h.1, path-more [] t k h.2 is l)
  path-more (x ∷ y ∷ xs) t k h is l = (h.0, h.1, path-more (y ∷ xs) t k h.2 is l)

  pub path-less : (xs : List ℕ) (t : ℕ) → Path n w (xs ++ t ∷ []) → Path n w xs
  path-less [] t h = tt
  path-less (x ∷ []) t h = h.0
  path-less (x ∷ y ∷ xs) t h = (h.0, h.1, path-less (y ∷ xs) t h.2)

  pub path-last : (xs : List ℕ) (t : ℕ) → Path n w (xs ++ t ∷ []) → t < n
  path-last [] t h = h
  path-last (x ∷ []) t h = h.2
  path-last (x ∷ y ∷ xs) t h = path-last (y ∷ xs) t h.2

  -- a way whose last waits for the first is a chain
  closes : (first x t : ℕ) (xs : List ℕ) → Path n w (x ∷ (xs ++ t ∷ [])) → w t first ≡ true → Chain n w first x (xs ++ t ∷ [])
  closes first x t [] h is = (h.0, h.1, (h.2, is))
  closes first x t (y ∷ xs) h is = (h.0, h.1, closes first y t xs h.2 is)

  -- from where the way comes to what its last waits for it is a ring
  pub ring-from : (xs : List ℕ) (t k i : ℕ) → Path n w (xs ++ t ∷ []) → w t k ≡ true → slice_get (xs ++ t ∷ []) i ≡ Some k → Ring n w (drop i (xs ++ t ∷ []))
  ring-from [] t k zero h is at = let e : t ≡ k = some-injective t k at in (h, subst (λ j. w t j ≡ true) (sym e) is)
  ring-from [] t k (suc i) h is at = none-some k at
  ring-from (x ∷ xs) t k zero h is at =
      let e : x ≡ k = some-injective x k at in closes x x t xs h (subst (λ j. w t j ≡ true) (sym e) is)
  ring-from (x ∷ []) t k (suc i) h is at = ring-from [] t k i h.2 is at
  ring-from (x ∷ y ∷ xs) t k (suc i) h is at = ring-from (y ∷ xs) t k i h.2 is at
