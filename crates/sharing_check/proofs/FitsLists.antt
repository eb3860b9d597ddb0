-- How the uses of children and arms speak of their residuals.
use Rattle.std.proofs.Common.{◌≡◌, ◌≢◌, inl, ⊎_elim, ℕ, suc, ◌≤◌, List, [], ◌∷◌, ◌++◌, map, None, Some, sym, ap, subst, arith, le_refl}
use Rattle.address.specs.declared.Entry.{Entry}
use Rattle.address.specs.declared.Entry.TheVariants.{Ordered, Branch}
use Rattle.address.specs.Places.{Apart}
use Rattle.syntax.specs.Lists.{In}
use Rattle.system.specs.Residual.{Residual, Arms, no_arms, arm}
use Rattle.system.specs.Translation.{in_sequence, in_parallel, arms_of}
use Rattle.sharing_check.specs.Uses.{VariableUse, behind, numbered}
use Rattle.sharing_check.proofs.FitsParts.{Fits, FitsArms, in_either, from_behind, fits_done, fits_behind, fits_left, fits_right, fits_within, fits_along, used_behind, used_left, used_right, written_behind, written_left, written_right, free_behind, free_left, free_right}

-- what a part is to do, and its uses
pub record Part (x : ℕ) : Type 0 where
  pub residual : Residual
  pub uses : List VariableUse
  pub fits : Fits x residual uses

-- the uses of branches from the n-th on stand behind branch numbers from n on
numbered_from : (n : ℕ) (uss : List (List VariableUse)) (v : VariableUse) → In v (numbered Branch n uss) →
    (m : ℕ) × (p : List Entry) × (n ≤ m) × (v.place ≡ Branch m ∷ p)
numbered_from n [] v h = absurd h
numbered_from n (us ∷ rest) v h =
    ⊎_elim
    (λ k. let w = from_behind (Branch n) v us k in (n, w.0.place, le_refl n, ap (λ (u : VariableUse). u.place) w.2))
    (λ k. let w = numbered_from (suc n) rest v k in (w.0, w.1, before n w.0 w.2, w.3))
    (in_either v (behind (Branch n) us) (numbered Branch (suc n) rest) h)
  where
    before : (n m : ℕ) → suc n ≤ m → n ≤ m
    before n m h = omega arith

-- places behind different branch numbers are apart
branches_apart : (a b : List Entry) (n m : ℕ) (p q : List Entry) → suc n ≤ m → a ≡ Branch n ∷ p → b ≡ Branch m ∷ q → Apart a b
branches_apart a b n m p q less is is' =
    subst (λ z. Apart z b) (sym is) (subst (λ z. Apart (Branch n ∷ p) z) (sym is') (inl (different n m less)))
  where
    different : (n m : ℕ) → suc n ≤ m → n ≢ m
    different n m h = λ e. absurd (omega arith)

-- children one after another
pub fits_sequence : (x n : ℕ) (ps : List (Part x)) →
    Fits x (in_sequence n (map (λ p. p.residual) ps)) (numbered Ordered n (map (λ p. p.uses) ps))
fits_sequence x n [] = fits_done x []
fits_sequence x n (p ∷ ps) =
    let us = behind (Ordered n) p.uses in
    let vs = numbered Ordered (suc n) (map (λ p. p.uses) ps) in
    fits_within x n p.residual (in_sequence (suc n) (map (λ p. p.residual) ps)) (us ++ vs)
    (fits_left x p.residual us vs (fits_behind x (Ordered n) p.residual p.uses p.fits))
    (fits_right x (in_sequence (suc n) (map (λ p. p.residual) ps)) us vs (fits_sequence x (suc n) ps))

-- children beside one another
pub fits_parallel : (x n : ℕ) (ps : List (Part x)) →
    Fits x (in_parallel n (map (λ p. p.residual) ps)) (numbered Branch n (map (λ p. p.uses) ps))
fits_parallel x n [] = fits_done x []
fits_parallel x n (p ∷ ps) =
    let us = behind (Branch n) p.uses in
    let vs = numbered Branch (suc n) (map (λ p. p.uses) ps) in
    fits_along x n p.residual (in_parallel (suc n) (map (λ p. p.residual) ps)) us vs
    (fits_behind x (Branch n) p.residual p.uses p.fits)
    (fits_parallel x (suc n) ps)
    (λ u v i j. let w = from_behind (Branch n) u p.uses i in
    let z = numbered_from (suc n) (map (λ p. p.uses) ps) v j in
    branches_apart u.place v.place n z.0 w.0.place z.1 z.2 (ap (λ (u : VariableUse). u.place) w.2) z.3)

-- an arm before others
fits_arm : (x : ℕ) (e : Entry) (r : Residual) (rest : Arms) (us vs : List VariableUse) → Fits x r us → FitsArms x rest vs
    → FitsArms x (arm r rest) (behind e us ++ vs)
fits_arm x e r rest us vs f g = record {
  mentions = ⊎_elim
      (λ h. used_left x (behind e us) vs (used_behind x e us (f.mentions h)))
      (λ h. used_right x (behind e us) vs (g.mentions h));
  writes = ⊎_elim
      (λ h. written_left x (behind e us) vs (written_behind x e us (f.writes h)))
      (λ h. written_right x (behind e us) vs (g.writes h));
  clear = λ h. (f.clear (free_behind x e us (free_left x (behind e us) vs h)), g.clear (free_right x (behind e us) vs h));
}

-- no arm
fits_no_arms : (x : ℕ) (us : List VariableUse) → FitsArms x no_arms us
fits_no_arms x us = record { mentions = λ h. absurd h; writes = λ h. absurd h; clear = λ h. tt }

-- arms in order
pub fits_arms : (x n : ℕ) (ps : List (Part x)) →
    FitsArms x (arms_of (map (λ p. p.residual) ps) None) (numbered Ordered n (map (λ p. p.uses) ps))
fits_arms x n [] = fits_no_arms x []
fits_arms x n (p ∷ ps) =
    fits_arm x (Ordered n) p.residual (arms_of (map (λ p. p.residual) ps) None) p.uses (numbered Ordered (suc n) (map (λ p. p.uses) ps)) p.fits (fits_arms x (suc n) ps)

-- arms in order, with an else
pub fits_arms_else : (x n : ℕ) (ps : List (Part x)) (last : Part x) →
    FitsArms x (arms_of (map (λ p. p.residual) ps) (Some last.residual)) (numbered Ordered n (map (λ p. p.uses) ps ++ last.uses ∷ []))
fits_arms_else x n [] last = fits_arm x (Ordered n) last.residual no_arms last.uses [] last.fits (fits_no_arms x [])
fits_arms_else x n (p ∷ ps) last =
    fits_arm x (Ordered n) p.residual (arms_of (map (λ p. p.residual) ps) (Some last.residual)) p.uses
    (numbered Ordered (suc n) (map (λ p. p.uses) ps ++ last.uses ∷ [])) p.fits (fits_arms_else x (suc n) ps last)
