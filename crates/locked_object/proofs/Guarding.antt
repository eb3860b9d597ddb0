-- The two steps of the cell keep its rule.
use Rattle.std.proofs.Common.{◌≡◌, ℕ, zero, suc, List, [], ◌∷◌, set, refl, ap, sym, ◌∙◌, subst}
use mathlib.Core.Option.{Option, some, none, some-injective, some-ne-none}
use lib.ListN.{get_elem?}
use Rattle.atomic_table.specs.Table.{State, Me, takes, gives, Allows, rest, Final, Seen}
use Rattle.atomic_table.specs.Seated.{TableId}
use Rattle.locked_object.specs.Guards.{Guards, Stays, TakesKeeper, GivesKeeper}
use Rattle.locked_object.specs.Keepers.{IsKeeperOf, IsKeeperFor}
use Rattle.locked_object.specs.declared.keeper.Keeper.{Keeper}
use Rattle.locked_object.specs.declared.cell.Place.{Place}
use Rattle.locked_object.specs.declared.cell.Place.TheVariants.{Home, Away}

-- the only seat
one-seat : (v u : Place) (id : ℕ) → get_elem? (v ∷ []) id ≡ some u → (id ≡ 0) × (v ≡ u)
one-seat v u zero e = (refl, some-injective v u e)
one-seat v u (suc id) e = absurd (some-ne-none u (sym e))

module _ {D C R : Type 0} (performs : D → ℕ → C → R → D → Type 0) (table : TableId) (opening : D) (count : ℕ) where
  -- what the rule says to the seat, of this view
  seated : (s : State (Keeper D C R) Place) (id : ℕ) (u : Place) → Guards performs table opening count s → get_elem? s.views id ≡ some u → (id ≡ 0) × (s.views ≡ u ∷ []) × Stays performs table opening count u s.homes
  seated s id u h at =
      let one = one-seat h.0 u id (ap (λ (vs : List Place). get_elem? vs id) (sym h.1) ∙ at) in
      (one.0, h.1 ∙ ap (λ (v : Place). v ∷ []) one.1, subst (λ (v : Place). Stays performs table opening count v s.homes) one.1 h.2)

  -- the only seat's view changes
  alone : (views : List Place) (id : ℕ) (u w : Place) → id ≡ 0 → views ≡ u ∷ [] → set views id w ≡ w ∷ []
  alone views id u w e is = λ i. set (is i) (e i) w

  takes-home : (slots id : ℕ) (known : Keeper D C R → Type 0) → ((k : Keeper D C R) → IsKeeperFor performs table opening count k → known k) → Allows (Guards performs table opening count) slots id (Home, []) 0 (λ n. n) (λ _. TakesKeeper known)
  takes-home slots id known all s h words at small =
      let now = seated s id Home h at in
      let k = now.2.0 in
      (Away, takes 0 k, ap (λ (hs : List (Option (Keeper D C R))). get_elem? hs 0) now.2.1, (Away, alone s.views id Home Away now.0 now.1, ap (λ (hs : List (Option (Keeper D C R))). set hs 0 none) now.2.1), (k, refl, all k now.2.2))

  pub takes_at : (slots id : ℕ) (me : Me (Keeper D C R) Place) (known : Keeper D C R → Type 0) → me ≡ (Home, []) → ((k : Keeper D C R) → IsKeeperFor performs table opening count k → known k)
      → Allows (Guards performs table opening count) slots id me 0 (λ n. n) (λ _. TakesKeeper known)
  takes_at slots id me known is all = subst (λ (m : Me (Keeper D C R) Place). Allows (Guards performs table opening count) slots id m 0 (λ n. n) (λ _. TakesKeeper known)) (sym is) (takes-home slots id known all)

  gives-away : (slots id : ℕ) (k : Keeper D C R) → IsKeeperFor performs table opening count k → Allows (Guards performs table opening count) slots id (Away, (0, k) ∷ []) 0 (λ n. n) (λ _. GivesKeeper)
  gives-away slots id k fits s h words at small =
      let now = seated s id Away h at in
      (Home, gives, tt, (Home, alone s.views id Away Home now.0 now.1, (k, ap (λ (hs : List (Option (Keeper D C R))). set hs 0 (some k)) now.2, fits)), refl)

  pub gives_at : (slots id : ℕ) (me : Me (Keeper D C R) Place) (k : Keeper D C R) → me ≡ (Away, (0, k) ∷ []) → IsKeeperFor performs table opening count k
      → Allows (Guards performs table opening count) slots id me 0 (λ n. n) (λ _. GivesKeeper)
  gives_at slots id me k is fits = subst (λ (m : Me (Keeper D C R) Place). Allows (Guards performs table opening count) slots id m 0 (λ n. n) (λ _. GivesKeeper)) (sym is) (gives-away slots id k fits)

  -- the keeper that is found where the cell is closed while its seat knows it at home
  pub closed_keeper : (id : ℕ) (u : Place) (words : List ℕ) (slots : List (Keeper D C R)) (x : Keeper D C R) → u ≡ Home → Final (Seen (Guards performs table opening count) id u) words slots → get_elem? slots 0 ≡ some x
      → IsKeeperFor performs table opening count x
  closed_keeper id u words slots x home ended at =
      let s = ended.0 in
      let now = seated s id Home ended.1.0 (ended.1.1 ∙ ap some home) in
      let there = ended.4 0 now.2.0 (ap (λ (hs : List (Option (Keeper D C R))). get_elem? hs 0) now.2.1) in
      subst (IsKeeperFor performs table opening count) (some-injective now.2.0 x (sym there ∙ at)) now.2.2

  -- the same keeper, at the same word
  pub keeper_moves : (t : TableId) (o : D) (n : ℕ) (k : Keeper D C R) → t ≡ table → o ≡ opening → n ≡ count → IsKeeperFor performs t o n k → IsKeeperFor performs table opening count k
  keeper_moves t o n k one other many fits = (subst (λ (u : D). IsKeeperOf performs table u k) other (subst (λ (u : TableId). IsKeeperOf performs u o k) one fits.0), fits.1 ∙ many)

module _ {K : Type 0} where
  -- the slot of a seat that has this keeper
  pub held_slot : (me : Me K Place) (k : K) → me ≡ (Away, (0, k) ∷ []) → me.1 ≡ (0, k) ∷ rest me.1
  held_slot me k is = ap (λ (m : Me K Place). m.1) is ∙ ap (λ (r : List (ℕ × K)). (0, k) ∷ r) (sym (ap (λ (m : Me K Place). rest m.1) is))

  abbrev first-slot : K → List (ℕ × K) → K
  first-slot k [] = k
  first-slot k (x ∷ xs) = x.1

  pub same_slot : (me : Me K Place) (k x : K) → me ≡ (Away, (0, k) ∷ []) → me.1 ≡ (0, x) ∷ rest me.1 → k ≡ x
  same_slot me k x is at = sym (ap (λ (m : Me K Place). first-slot k m.1) is) ∙ ap (first-slot k) at

  -- the seat after a write to the slot
  pub written_slot : (me : Me K Place) (k w : K) → me ≡ (Away, (0, k) ∷ []) → ◌≡◌ {A = Me K Place} (me.0, (0, w) ∷ rest me.1) (Away, (0, w) ∷ [])
  written_slot me k w is = λ i. ((is i).0, (0, w) ∷ rest ((is i).1))
