-- What a new event behind the live ones changes.
use Rattle.std.proofs.Common.{◌≡◌, ◌≢◌, ◌⊎◌, ◌↔◌, inl, inr, ℕ, ◌<◌, ◌≤◌, List, [], ◌∷◌, ◌++◌, refl, ap, subst, arith}
use Rattle.std.proofs.lemmas.Bool.{cases_eq}
use Rattle.syntax.specs.Lists.{In}
use Rattle.runs.specs.Dependence.{Directly}
use Rattle.runs.specs.Live.{Live, Rising, LiveAt, DependsOn, same, later}
use Rattle.runs.specs.declared.event.Event.{Event}
use Rattle.runs.proofs.public.Lists.{in-left, in-right, in-parts}
use Rattle.runs.proofs.public.Tickets.{rising-in}
use Rattle.runs.proofs.public.DependsOnLaw.{depends-up}
use Rattle.dependence.specs.Followers.{Follower}
use Rattle.dependence.specs.internal.Tables.{Candidates, Topmost}
use Rattle.dependence.proofs.public.Following.{follows-on, follows-in, follows-upto}

-- l with the event f behind, of ticket n
abbrev pub added : Live → ℕ → Event → Live
added l n f = l ++ (n, f) ∷ []

module _ (low : ℕ) (l : Live) (n : ℕ) (f : Event) (r : Rising low l n) where
  was-live : (v : ℕ) (e : Event) → LiveAt l v e → LiveAt (added l n f) v e
  was-live v e i = in-left (v, e) l ((n, f) ∷ []) i

  is-new : LiveAt (added l n f) n f
  is-new = in-right (n, f) l ((n, f) ∷ []) (inl refl)

  -- a lesser ticket was live
  lesser : (v : ℕ) (e : Event) → LiveAt (added l n f) v e → v < n → LiveAt l v e
  lesser v e i less = elim (in-parts (v, e) l ((n, f) ∷ []) i) [
    | inl a ↦ a
    | inr (inl a) ↦ let is : v ≡ n = ap (λ (x : ℕ × Event). x.0) a in absurd (omega arith)
    | inr (inr a) ↦ absurd a
  ]

  -- the event of the new ticket is the new one
  newest : (e : Event) → LiveAt (added l n f) n e → e ≡ f
  newest e i = elim (in-parts (n, e) l ((n, f) ∷ []) i) [
    | inl a ↦ let less : n < n = (rising-in low n l n e r a).1 in absurd (omega arith)
    | inr (inl a) ↦ ap (λ (x : ℕ × Event). x.1) a
    | inr (inr a) ↦ absurd a
  ]

  -- a live ticket is new or less
  none-above : (v : ℕ) (e : Event) → LiveAt (added l n f) v e → (v < n) ⊎ (v ≡ n)
  none-above v e i = elim (in-parts (v, e) l ((n, f) ∷ []) i) [
    | inl a ↦ inl (rising-in low n l v e r a).1
    | inr (inl a) ↦ inr (ap (λ (x : ℕ × Event). x.0) a)
    | inr (inr a) ↦ absurd a
  ]

  before-new : (t v : ℕ) → v < n → DependsOn (added l n f) t v → DependsOn l t v
  before-new t v less follows = follows-upto (added l n f) l t v n less lesser follows

  after-all : (t v : ℕ) → DependsOn l t v → DependsOn (added l n f) t v
  after-all t v follows = follows-in l (added l n f) t v was-live follows

  -- what the new event depends on is followed by one on which it depends directly
  last-link : (v : ℕ) → v ≢ n → DependsOn (added l n f) v n → (w : ℕ) × (g : Event) × DependsOn l v w × LiveAt l w g × Directly g f
  last-link v differs same = absurd (differs refl)
  last-link v differs (later {u = w} g h before iw iu less d) =
      (w, g, before-new v w less before, lesser w g iw less, subst (λ (e : Event). Directly g e) (newest h iu) d)

  pub others-stay : (t u : ℕ) → u ≢ n → Follower (added l n f) t u ↔ Follower l t u
  others-stay t u differs = (
    (λ k.
        let d = k.dependent in
        let less : u < n = elim (none-above u d.dependent d.dependent_live) [ inl low ↦ low | inr is ↦ absurd (differs is) ] in
        let up : t < u = d.less in
        let below : t < n = omega arith in
        record {
          dependent = record {
            event = d.event;
            dependent = d.dependent;
            live = lesser t d.event d.live below;
            dependent_live = lesser u d.dependent d.dependent_live less;
            less = d.less;
            direct = d.direct;
          };
          next = λ v from to. k.next v (after-all t v from) (after-all v u to);
        }),
    (λ k.
        let d = k.dependent in
        let less : u < n = (rising-in low n l u d.dependent r d.dependent_live).1 in
        record {
          dependent = record {
            event = d.event;
            dependent = d.dependent;
            live = was-live t d.event d.live;
            dependent_live = was-live u d.dependent d.dependent_live;
            less = d.less;
            direct = d.direct;
          };
          next = λ v from to.
              let up : v ≤ u = depends-up (added l n f) v u to in
              let below : v < n = omega arith in
              k.next v (before-new t v below from) (before-new v u less to);
        }),
  )

  module _ (cs : List ℕ) (c : Candidates l f cs) where
    follows-new : (w : ℕ) (g : Event) → LiveAt l w g → Directly g f → DependsOn (added l n f) w n
    follows-new w g i d = later g f same (was-live w g i) is-new (rising-in low n l w g r i).1 d

    new-follows-topmost : (t : ℕ) → Follower (added l n f) t n → Topmost l cs t
    new-follows-topmost t k =
        let d = k.dependent in
        let first : LiveAt l t d.event = lesser t d.event d.live d.less in
        let direct : Directly d.event f = subst (λ (e : Event). Directly d.event e) (newest d.dependent d.dependent_live) d.direct in
        let only : (x : ℕ) → In x cs → DependsOn l t x → x ≡ t = λ x i follows.
        let at = c.sound x i in
        let low_x : x < n = (rising-in low n l x at.0 r at.1).1 in
        elim (k.next x (after-all t x follows) (follows-new x at.0 at.1 at.2)) [ inl is ↦ is | inr is ↦ absurd (omega arith) ] in
        let top = c.complete t d.event first direct in
        (subst (λ (x : ℕ). In x cs) (only top.0 top.1 top.2) top.1, only)

    topmost-leads : (t : ℕ) → Topmost l cs t → Follower (added l n f) t n
    topmost-leads t top =
        let at = c.sound t top.0 in
        record {
          dependent = record {
            event = at.0;
            dependent = f;
            live = was-live t at.0 at.1;
            dependent_live = is-new;
            less = (rising-in low n l t at.0 r at.1).1;
            direct = at.2;
          };
          next = λ v from to. elim (cases_eq v n) [
            | inl is ↦ inr is
            | inr differs ↦
                let link = last-link v differs to in
                let w : ℕ = link.0 in
                let found = c.complete w link.1 link.3 link.4 in
                let x : ℕ = found.0 in
                let up : v ≤ w = depends-up l v w link.2 in
                let low_w : w < n = (rising-in low n l w link.1 r link.3).1 in
                let below : v < n = omega arith in
                let start : DependsOn l t v = before-new t v below from in
                let is : x ≡ t = top.1 x found.1 (follows-on l t v x start (follows-on l v w x link.2 found.2)) in
                let one : t ≤ v = depends-up l t v start in
                let two : w ≤ x = depends-up l w x found.2 in
                inl (omega arith)
          ];
        }

    pub new-follows : (t : ℕ) → Follower (added l n f) t n ↔ Topmost l cs t
    new-follows t = (new-follows-topmost t, topmost-leads t)
