-- Lists from which some elements are left out.
use Rattle.std.proofs.Common.{◌≡◌, inl, inr, ℕ, suc, ◌≤◌, [], ◌∷◌, ◌++◌, refl, sym, ◌∙◌, ap, arith}
use Rattle.runs.specs.Dependence.{ended, stays, leaves}
use Rattle.runs.specs.Live.{Live, Rising, LiveAt, WithoutTickets}
use Rattle.runs.specs.declared.event.Event.{Event}
use Rattle.runs.proofs.public.Lists.{in-right}
use Rattle.runs.proofs.public.Tickets.{rising-in}

-- nothing is left out
all-stay : (D : ℕ → Type 0) (l : Live) → ((u : ℕ) (f : Event) → LiveAt l u f → D u → ⊥) → WithoutTickets D l l
all-stay D [] none = ended
all-stay D (x ∷ l) none = stays (none x.0 x.1 (inl refl)) (all-stay D l (λ u f i. none u f (inr i)))

-- one entry is left out
pub without-entry : (low next : ℕ) (before after : Live) (t : ℕ) (e : Event) → Rising low (before ++ (t, e) ∷ after) next →
    WithoutTickets (λ v. v ≡ t) (before ++ (t, e) ∷ after) (before ++ after)
without-entry low next [] after t e r =
    leaves refl (all-stay (λ v. v ≡ t) after (λ u f i is.
    let above : suc t ≤ u = (rising-in (suc t) next after u f r.1 i).0 in
    omega arith))
without-entry low next (x ∷ before) after t e r =
    let above : suc x.0 ≤ t = (rising-in (suc x.0) next (before ++ (t, e) ∷ after) t e r.1 (in-right (t, e) before ((t, e) ∷ after) (inl refl))).0 in
    stays (λ (is : x.0 ≡ t). omega arith) (without-entry (suc x.0) next before after t e r.1)

without-end : (D : ℕ → Type 0) (k : Live) → WithoutTickets D [] k → k ≡ []
without-end D k ended = refl

without-next : (D : ℕ → Type 0) (x : ℕ × Event) (l k m : Live) → ((a b : Live) → WithoutTickets D l a → WithoutTickets D l b → a ≡ b) →
    WithoutTickets D (x ∷ l) k → WithoutTickets D (x ∷ l) m → k ≡ m
without-next D x l k m more (stays {k = a} out v) (stays {k = b} away w) = ap (λ (z : Live). x ∷ z) (more a b v w)
without-next D x l k m more (stays out v) (leaves gone w) = absurd (out gone)
without-next D x l k m more (leaves gone v) (stays out w) = absurd (out gone)
without-next D x l k m more (leaves gone v) (leaves away w) = more k m v w

-- what is left is one list
pub one-left : (D : ℕ → Type 0) (l k m : Live) → WithoutTickets D l k → WithoutTickets D l m → k ≡ m
one-left D [] k m v w = without-end D k v ∙ sym (without-end D m w)
one-left D (x ∷ l) k m v w = without-next D x l k m (λ a b c d. one-left D l a b c d) v w
