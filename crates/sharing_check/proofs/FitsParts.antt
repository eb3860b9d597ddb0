-- How the uses of a command speak of its residual: parts.
use Rattle.std.proofs.Common.{◌≡◌, ◌⊎◌, inl, inr, ⊎_elim, ℕ, List, [], ◌∷◌, ◌++◌, true, refl, ap}
use Rattle.address.specs.declared.Entry.{Entry}
use Rattle.address.specs.declared.Entry.TheVariants.{Ordered, Branch}
use Rattle.address.specs.Places.{Apart}
use Rattle.syntax.specs.Lists.{In}
use Rattle.system.specs.Residual.{Residual, done, inside, beside, within, along, Arms}
use Rattle.sharing_rule.specs.Sharing.{Writes, WritesInArms, Mentions, MentionsInArms, OneBranchWrites, OneBranchWritesInArms}
use Rattle.sharing_check.specs.Uses.{VariableUse, farther, behind}

-- one of the uses is of the variable x
abbrev pub Used : ℕ → List VariableUse → Type 0
Used x us = (u : VariableUse) × In u us × (u.variable ≡ x)

-- one of them writes it
abbrev pub Written : ℕ → List VariableUse → Type 0
Written x us = (u : VariableUse) × In u us × (u.variable ≡ x) × (u.writes ≡ true)

-- no use in `us` clashes with one in `vs`
abbrev pub FreeOf : ℕ → List VariableUse → List VariableUse → Type 0
FreeOf x us vs = (u v : VariableUse) → In u us → In v vs → Apart u.place v.place → u.variable ≡ x → v.variable ≡ x
    → (u.writes ≡ true) ⊎ (v.writes ≡ true) → ⊥

-- no two of them clash
abbrev pub Free : ℕ → List VariableUse → Type 0
Free x us = FreeOf x us us

-- the uses tell what the residual mentions and writes, and where they do not clash one branch alone writes
pub record Fits (x : ℕ) (r : Residual) (us : List VariableUse) : Type 0 where
  pub mentions : Mentions x r → Used x us
  pub writes : Writes x r → Written x us
  pub clear : Free x us → OneBranchWrites x r

-- the same for arms
pub record FitsArms (x : ℕ) (arms : Arms) (us : List VariableUse) : Type 0 where
  pub mentions : MentionsInArms x arms → Used x us
  pub writes : WritesInArms x arms → Written x us
  pub clear : Free x us → OneBranchWritesInArms x arms

-- an element of the first list, or of the second, is one of both
pub in_left : {X : Type 0} (x : X) (us vs : List X) → In x us → In x (us ++ vs)
in_left x [] vs h = absurd h
in_left x (y ∷ us) vs (inl e) = inl e
in_left x (y ∷ us) vs (inr h) = inr (in_left x us vs h)

pub in_right : {X : Type 0} (x : X) (us vs : List X) → In x vs → In x (us ++ vs)
in_right x [] vs h = h
in_right x (y ∷ us) vs h = inr (in_right x us vs h)

-- and an element of both is one of one of them
pub in_either : {X : Type 0} (x : X) (us vs : List X) → In x (us ++ vs) → In x us ⊎ In x vs
in_either x [] vs h = inr h
in_either x (y ∷ us) vs (inl e) = inl (inl e)
in_either x (y ∷ us) vs (inr h) = ⊎_elim (λ k. inl (inr k)) (λ k. inr k) (in_either x us vs h)

-- a use behind an entry
pub in_behind : (e : Entry) (u : VariableUse) (us : List VariableUse) → In u us → In (farther e u) (behind e us)
in_behind e u [] h = absurd h
in_behind e u (v ∷ us) (inl h) = inl (ap (farther e) h)
in_behind e u (v ∷ us) (inr h) = inr (in_behind e u us h)

-- a use that stands behind an entry was one before
pub from_behind : (e : Entry) (u : VariableUse) (us : List VariableUse) → In u (behind e us) → (v : VariableUse) × In v us × (u ≡ farther e v)
from_behind e u [] h = absurd h
from_behind e u (v ∷ us) (inl h) = (v, inl refl, h)
from_behind e u (v ∷ us) (inr h) = let k = from_behind e u us h in (k.0, inr k.1, k.2)

-- behind one entry, places are apart that were so before
pub apart_behind : (e : Entry) (a b : List Entry) → Apart a b → Apart (e ∷ a) (e ∷ b)
apart_behind (Ordered i) a b h = (refl, h)
apart_behind (Branch i) a b h = inr (refl, h)

-- fewer uses clash less
pub free_less : (x : ℕ) (us vs : List VariableUse) → ((u : VariableUse) → In u vs → In u us) → Free x us → Free x vs
free_less x us vs sub h = λ u v i j. h u v (sub u i) (sub v j)

-- without the entry that they stand behind they clash no more
pub free_behind : (x : ℕ) (e : Entry) (us : List VariableUse) → Free x (behind e us) → Free x us
free_behind x e us h = λ u v i j apart is is' w. h (farther e u) (farther e v) (in_behind e u us i) (in_behind e v us j) (apart_behind e u.place v.place apart) is is' w

pub used_behind : (x : ℕ) (e : Entry) (us : List VariableUse) → Used x us → Used x (behind e us)
used_behind x e us h = (farther e h.0, in_behind e h.0 us h.1, h.2)

pub written_behind : (x : ℕ) (e : Entry) (us : List VariableUse) → Written x us → Written x (behind e us)
written_behind x e us h = (farther e h.0, in_behind e h.0 us h.1, h.2, h.3)

pub used_left : (x : ℕ) (us vs : List VariableUse) → Used x us → Used x (us ++ vs)
used_left x us vs h = (h.0, in_left h.0 us vs h.1, h.2)

pub used_right : (x : ℕ) (us vs : List VariableUse) → Used x vs → Used x (us ++ vs)
used_right x us vs h = (h.0, in_right h.0 us vs h.1, h.2)

pub written_left : (x : ℕ) (us vs : List VariableUse) → Written x us → Written x (us ++ vs)
written_left x us vs h = (h.0, in_left h.0 us vs h.1, h.2, h.3)

pub written_right : (x : ℕ) (us vs : List VariableUse) → Written x vs → Written x (us ++ vs)
written_right x us vs h = (h.0, in_right h.0 us vs h.1, h.2, h.3)

pub free_left : (x : ℕ) (us vs : List VariableUse) → Free x (us ++ vs) → Free x us
free_left x us vs = free_less x (us ++ vs) us (λ u h. in_left u us vs h)

pub free_right : (x : ℕ) (us vs : List VariableUse) → Free x (us ++ vs) → Free x vs
free_right x us vs = free_less x (us ++ vs) vs (λ u h. in_right u us vs h)

-- nothing is used
pub fits_done : (x : ℕ) (us : List VariableUse) → Fits x done us
fits_done x us = record { mentions = λ h. absurd h; writes = λ h. absurd h; clear = λ h. tt }

-- behind an entry
pub fits_behind : (x : ℕ) (e : Entry) (r : Residual) (us : List VariableUse) → Fits x r us → Fits x r (behind e us)
fits_behind x e r us f = record {
  mentions = λ h. used_behind x e us (f.mentions h);
  writes = λ h. written_behind x e us (f.writes h);
  clear = λ h. f.clear (free_behind x e us h);
}

-- with further uses
pub fits_left : (x : ℕ) (r : Residual) (us vs : List VariableUse) → Fits x r us → Fits x r (us ++ vs)
fits_left x r us vs f = record {
  mentions = λ h. used_left x us vs (f.mentions h);
  writes = λ h. written_left x us vs (f.writes h);
  clear = λ h. f.clear (free_left x us vs h);
}

pub fits_right : (x : ℕ) (r : Residual) (us vs : List VariableUse) → Fits x r vs → Fits x r (us ++ vs)
fits_right x r us vs f = record {
  mentions = λ h. used_right x us vs (f.mentions h);
  writes = λ h. written_right x us vs (f.writes h);
  clear = λ h. f.clear (free_right x us vs h);
}

-- a child and what comes after it
fits_inside : (x i : ℕ) (r next : Residual) (ws : List VariableUse) → Fits x r ws → Fits x next ws → Fits x (inside i r next) ws
fits_inside x i r next ws f g = record {
  mentions = ⊎_elim f.mentions g.mentions;
  writes = ⊎_elim f.writes g.writes;
  clear = λ h. (f.clear h, g.clear h);
}

pub fits_within : (x i : ℕ) (r next : Residual) (ws : List VariableUse) → Fits x r ws → Fits x next ws → Fits x (within i r next) ws
fits_within x i done next ws f g = g
fits_within x i r next ws f g = fits_inside x i r next ws f g

-- a branch beside others, with whose uses none of its clashes
fits_beside : (x k : ℕ) (r rest : Residual) (us vs : List VariableUse) → Fits x r us → Fits x rest vs
    → ((u v : VariableUse) → In u us → In v vs → Apart u.place v.place) → Fits x (beside k r rest) (us ++ vs)
fits_beside x k r rest us vs f g apart = record {
  mentions = ⊎_elim (λ h. used_left x us vs (f.mentions h)) (λ h. used_right x us vs (g.mentions h));
  writes = ⊎_elim (λ h. written_left x us vs (f.writes h)) (λ h. written_right x us vs (g.writes h));
  clear = λ h. (
    (λ w m. let u = f.writes w in let v = g.mentions m in
        h u.0 v.0 (in_left u.0 us vs u.1) (in_right v.0 us vs v.1) (apart u.0 v.0 u.1 v.1) u.2 v.2 (inl u.3)),
    (λ w m. let v = g.writes w in let u = f.mentions m in
        h u.0 v.0 (in_left u.0 us vs u.1) (in_right v.0 us vs v.1) (apart u.0 v.0 u.1 v.1) u.2 v.2 (inr v.3)),
    f.clear (free_left x us vs h),
    g.clear (free_right x us vs h),
  );
}

pub fits_along : (x k : ℕ) (r rest : Residual) (us vs : List VariableUse) → Fits x r us → Fits x rest vs
    → ((u v : VariableUse) → In u us → In v vs → Apart u.place v.place) → Fits x (along k r rest) (us ++ vs)
fits_along x k done rest us vs f g apart = fits_right x rest us vs g
fits_along x k r rest us vs f g apart = fits_beside x k r rest us vs f g apart
