-- What depends on what: chains of dependence joined, cut and moved between lists.
use Rattle.std.proofs.Common.{◌≡◌, ◌≢◌, ◌⊎◌, inl, inr, ℕ, ◌<◌, refl, subst, arith}
use Rattle.std.proofs.lemmas.Bool.{cases_eq}
use Rattle.runs.specs.Live.{Live, LiveAt, DependsOn, same, later, NoDependent}
use Rattle.runs.specs.declared.event.Event.{Event}

pub follows-on : (l : Live) (t u v : ℕ) → DependsOn l t u → DependsOn l u v → DependsOn l t v
follows-on l t u v first same = first
follows-on l t u v first (later {u = w} g h before iw iv less d) = later g h (follows-on l t u w first before) iw iv less d

-- what follows another is live
pub follows-live : (l : Live) (t u : ℕ) → DependsOn l t u → (u ≡ t) ⊎ ((f : Event) × LiveAt l u f)
follows-live l t u same = inl refl
follows-live l t u (later g h before iw iu less d) = inr (h, iu)

pub live-beyond : (l : Live) (t u : ℕ) → DependsOn l t u → u ≢ t → (f : Event) × LiveAt l u f
live-beyond l t u follows differs = elim (follows-live l t u follows) [ inl is ↦ absurd (differs is) | inr live ↦ live ]

-- what another follows is live
pub live-before : (l : Live) (t u : ℕ) → DependsOn l t u → u ≢ t → (e : Event) × LiveAt l t e
live-before l t u same differs = absurd (differs refl)
live-before l t u (later {u = w} g h before iw iu less d) differs =
    elim (cases_eq w t) [
      | inl is ↦ (g, subst (λ (v : ℕ). LiveAt l v g) is iw)
      | inr other ↦ live-before l t w before other
    ]

-- a chain stands in every list that has its events
pub follows-in : (l k : Live) (t u : ℕ) → ((v : ℕ) (e : Event) → LiveAt l v e → LiveAt k v e) → DependsOn l t u → DependsOn k t u
follows-in l k t u inside same = same
follows-in l k t u inside (later {u = w} g h before iw iu less d) =
    later g h (follows-in l k t w inside before) (inside w g iw) (inside u h iu) less d

-- a chain stands where the events up to its end are
pub follows-upto : (l k : Live) (t u top : ℕ) → u < top → ((v : ℕ) (e : Event) → LiveAt l v e → v < top → LiveAt k v e) → DependsOn l t u → DependsOn k t u
follows-upto l k t u top low inside same = same
follows-upto l k t u top low inside (later {u = w} g h before iw iu less d) =
    let below : w < top = omega arith in
    later g h (follows-upto l k t w top below inside before) (inside w g iw below) (inside u h iu low) less d

-- a chain to another event stands without an event on which none depends
pub follows-without : (l k : Live) (t a b : ℕ) → NoDependent l t → ((v : ℕ) (e : Event) → LiveAt l v e → v ≢ t → LiveAt k v e) → b ≢ t →
    DependsOn l a b → DependsOn k a b
follows-without l k t a b none inside differs same = same
follows-without l k t a b none inside differs (later {u = w} g h before iw ib less d) =
    let other : w ≢ t =
    λ is. differs (none b h ib (later g h same (subst (λ (v : ℕ). LiveAt l v g) is iw) ib (subst (λ (v : ℕ). v < b) is less) d)) in
    later g h (follows-without l k t a w none inside other before) (inside w g iw other) (inside b h ib differs) less d
