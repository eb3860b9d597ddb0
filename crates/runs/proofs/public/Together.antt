-- Two moves that are possible in one residual, at places apart, can be made one after the other.
use Rattle.std.proofs.Common.{◌≡◌, inl, inr, ℕ, ◌*◌, [], ◌∷◌, refl, subst}
use Rattle.address.specs.Places.{Apart}
use Rattle.address.specs.declared.Entry.TheVariants.{Ordered, Branch}
use Rattle.system.specs.Residual.{Residual, done, halted, inside, beside, assign, send, receive, sync, held, loop, while, test, choose, closing, drain, within, along}
use Rattle.runs.specs.Moves.{Place, Move, Local}
use Rattle.runs.proofs.Smart.{within_local, along_left, along_right}

-- the tails of two places apart that begin alike
apart-ordered : (i j : ℕ) (a b : Place) → Apart (Ordered i ∷ a) (Ordered j ∷ b) → Apart a b
apart-ordered i j a b h = h.1

not-apart : (i : ℕ) (b : Place) → Apart (Ordered i ∷ []) b → ⊥
not-apart i [] h = h
not-apart i (Ordered j ∷ b) h = h.1
not-apart i (Branch j ∷ b) h = h

alone : {A : Type 0} (i : ℕ) (a b : Place) → a ≡ Ordered i ∷ [] → Apart a b → A
alone i a b e h = absurd (not-apart i b (subst (λ (x : Place). Apart x b) e h))

none : {A : Type 0} (a b : Place) → a ≡ [] → Apart a b → A
none a b e h = absurd (subst (λ (x : Place). Apart x b) e h)

moved-to : (s u q : Residual) (b c : Place) (n : Move) → s ≡ u → b ≡ c → Local u c n q → Local s b n q
moved-to s u q b c n es eb h = rw (es, eb) h

pub together : (r : Residual) (a b : Place) (m n : Move) (s t : Residual) → Apart a b → Local r a m s → Local r b n t →
    (q : Residual) × Local s b n q
together done a b m n s t h x y = absurd x
together halted a b m n s t h x y = absurd x
together (inside i child next) a b m n s t h x y =
    let apart = subst (λ (c : Place). Apart (Ordered i ∷ x.0) c) y.2 (subst (λ (c : Place). Apart c b) x.2 h) in
    let deep = together child x.0 y.0 m n x.1 y.1 (apart-ordered i i x.0 y.0 apart) x.3 y.3 in
    (within i deep.0 next, moved-to s (within i x.1 next) (within i deep.0 next) b (Ordered i ∷ y.0) n x.4 y.2 (within_local i x.1 next y.0 n deep.0 deep.1))
together (beside k child rest) a b m n s t h x y =
    elim x [
      | inl u ↦ elim y [
        | inl v ↦ both-left u.0 v.0 u.1 v.1 u.2 v.2 u.4
            (λ apart. together child u.0 v.0 m n u.1 v.1 apart u.3 v.3)
        | inr v ↦ (along k u.1 v.0, moved-to s (along k u.1 rest) (along k u.1 v.0) b b n u.4 refl (along_right k u.1 rest b n v.0 v.1))
      ]
      | inr u ↦ elim y [
        | inl v ↦ (along k v.1 u.0, moved-to s (along k child u.0) (along k v.1 u.0) b (Branch k ∷ v.0) n u.2 v.2 (along_left k child u.0 v.0 n v.1 v.3))
        | inr v ↦ let deep = together rest a b m n u.0 v.0 h u.1 v.1 in
            (along k child deep.0, moved-to s (along k child u.0) (along k child deep.0) b b n u.2 refl (along_right k child u.0 b n deep.0 deep.1))
      ]
    ]
  where
    both-left : (c d : Place) (p w : Residual) → a ≡ Branch k ∷ c → b ≡ Branch k ∷ d → s ≡ along k p rest →
        (Apart c d → (q : Residual) × Local p d n q) → (q : Residual) × Local s b n q
    both-left c d p w ea eb es deeper =
        elim (subst (λ (c' : Place). Apart (Branch k ∷ c) c') eb (subst (λ (c' : Place). Apart c' b) ea h)) [
          | inl other ↦ absurd (other refl)
          | inr same ↦ let deep = deeper same.1 in (along k deep.0 rest, moved-to s (along k p rest) (along k deep.0 rest) b (Branch k ∷ d) n es eb (along_left k p rest d n deep.0 deep.1))
        ]
together (assign x' w e) a b m n s t h x y = none a b x.0 h
together (send c w e) a b m n s t h x y = alone 0 a b x.0 h
together (receive c x') a b m n s t h x y = none a b x.0 h
together (sync c) a b m n s t h x y = alone 0 a b x.0 h
together (held c) a b m n s t h x y = alone 1 a b x.0 h
together (loop j body) a b m n s t h x y = alone (2 * j) a b x.0 h
together (while j e body) a b m n s t h x y = alone (2 * j) a b x.0 h
together (test d arms) a b m n s t h x y = alone 0 a b x.0 h
together (choose channels arms) a b m n s t h x y = alone 0 a b x.0 h
together (closing c) a b m n s t h x y = alone 2 a b x.0 h
together (drain c j) a b m n s t h x y = alone j a b x.0 h
