-- What children and arms add.
use Rattle.std.proofs.Common.{◌≡◌, ◌≢◌, ⊎_elim, ℕ, suc, ◌≤◌, List, [], ◌∷◌, ◌++◌, map, Bool, ap, subst, arith, le_refl}
use Rattle.address.specs.declared.Entry.{Entry}
use Rattle.address.specs.declared.Entry.TheVariants.{Ordered}
use Rattle.address.specs.Places.{Apart}
use Rattle.syntax.specs.Lists.{In}
use Rattle.sharing_check.specs.internal.Gathering.{Gathers, in_turn}
use Rattle.sharing_check.specs.Uses.{VariableUse, behind, numbered}
use Rattle.sharing_check.proofs.FitsParts.{in_either, from_behind}
use Rattle.sharing_check.proofs.Adds.{Good, Unrelated, adds_nothing, adds_both, adds_behind}

-- what a part finds, and its uses
pub record Part (shared : ℕ → Bool) : Type 0 where
  pub gathers : Gathers
  pub uses : List VariableUse
  pub good : Good shared uses gathers

abbrev pub gathers_of : (shared : ℕ → Bool) → List (Part shared) → List Gathers
gathers_of shared ps = map (λ (p : Part shared). p.gathers) ps

abbrev pub uses_of_parts : (shared : ℕ → Bool) → List (Part shared) → List (List VariableUse)
uses_of_parts shared ps = map (λ (p : Part shared). p.uses) ps

-- the uses of children from the n-th on stand behind numbers from n on
numbered_behind : (n : ℕ) (uss : List (List VariableUse)) (v : VariableUse) → In v (numbered Ordered n uss) →
    (m : ℕ) × (p : List Entry) × (n ≤ m) × (v.place ≡ Ordered m ∷ p)
numbered_behind n [] v h = absurd h
numbered_behind n (us ∷ rest) v h =
    ⊎_elim
    (λ k. let w = from_behind (Ordered n) v us k in (n, w.0.place, le_refl n, ap (λ (u : VariableUse). u.place) w.2))
    (λ k. let w = numbered_behind (suc n) rest v k in (w.0, w.1, before n w.0 w.2, w.3))
    (in_either v (behind (Ordered n) us) (numbered Ordered (suc n) rest) h)
  where
    before : (n m : ℕ) → suc n ≤ m → n ≤ m
    before n m h = omega arith

-- the uses of one child stand in no other branch than those of later ones
unrelated : (n : ℕ) (us : List VariableUse) (uss : List (List VariableUse)) → Unrelated (behind (Ordered n) us) (numbered Ordered (suc n) uss)
unrelated n us uss u v i j =
    let a = from_behind (Ordered n) u us i in
    let b = numbered_behind (suc n) uss v j in
    let at : u.place ≡ Ordered n ∷ a.0.place = ap (λ (w : VariableUse). w.place) a.2 in (
      λ h. never n b.0 a.0.place b.1 (less n b.0 b.2) (subst (λ z. Apart (Ordered n ∷ a.0.place) z) b.3 (subst (λ z. Apart z v.place) at h)),
      λ h. never b.0 n b.1 a.0.place (more n b.0 b.2) (subst (λ z. Apart z (Ordered n ∷ a.0.place)) b.3 (subst (λ z. Apart v.place z) at h)),
    )
  where
    never : (n m : ℕ) (a b : List Entry) → n ≢ m → Apart (Ordered n ∷ a) (Ordered m ∷ b) → ⊥
    never n m a b differ h = differ h.0

    less : (n m : ℕ) → suc n ≤ m → n ≢ m
    less n m h = λ e. absurd (omega arith)

    more : (n m : ℕ) → suc n ≤ m → m ≢ n
    more n m h = λ e. absurd (omega arith)

module _ (shared : ℕ → Bool) where
  -- the n-th child
  adds_child : (n : ℕ) (p : Part shared) → Good shared (behind (Ordered n) p.uses) p.gathers
  adds_child n p g d = adds_behind shared (Ordered n) p.uses g (p.gathers g) (p.good g d)

  -- children in turn
  pub adds_in_turn : (n : ℕ) (ps : List (Part shared)) → Good shared (numbered Ordered n (uses_of_parts shared ps)) (in_turn (gathers_of shared ps))
  adds_in_turn n [] g d = adds_nothing shared g d
  adds_in_turn n (p ∷ ps) g d =
      let first = adds_child n p g d in
      adds_both shared (behind (Ordered n) p.uses) (numbered Ordered (suc n) (uses_of_parts shared ps)) g (p.gathers g) (in_turn (gathers_of shared ps) (p.gathers g))
      first (adds_in_turn (suc n) ps (p.gathers g) first.touched.distinct) (unrelated n p.uses (uses_of_parts shared ps))

  -- arms in turn, and an else
  pub adds_with_last : (n : ℕ) (ps : List (Part shared)) (last : Part shared) →
      Good shared (numbered Ordered n (uses_of_parts shared ps ++ last.uses ∷ [])) (λ g. last.gathers (in_turn (gathers_of shared ps) g))
  adds_with_last n [] last g d =
      let only = adds_child n last g d in
      adds_both shared (behind (Ordered n) last.uses) [] g (last.gathers g) (last.gathers g)
      only (adds_nothing shared (last.gathers g) only.touched.distinct) (λ u v i j. absurd j)
  adds_with_last n (p ∷ ps) last g d =
      let first = adds_child n p g d in
      adds_both shared (behind (Ordered n) p.uses) (numbered Ordered (suc n) (uses_of_parts shared ps ++ last.uses ∷ [])) g (p.gathers g) (last.gathers (in_turn (gathers_of shared ps) (p.gathers g)))
      first (adds_with_last (suc n) ps last (p.gathers g) first.touched.distinct) (unrelated n p.uses (uses_of_parts shared ps ++ last.uses ∷ []))
