-- From an event along its followers to others that depend on it.
use Rattle.std.proofs.Common.{◌≡◌, ◌⊎◌, ◌↔◌, inl, inr, ℕ, suc, ◌<◌, ◌≤◌, List, [], ◌∷◌, ◌++◌, Bool, true, false, cond, length, get_or, drop, IsTrue, refl, sym, subst, true≢false, arith}
use Rattle.std.proofs.lemmas.Option.{slice_get-get_or}
use Rattle.syntax.specs.Lists.{In}
use Rattle.runs.specs.Live.{Live, Rising, IsLive, DependsOn}
use Rattle.runs.proofs.public.DependsOnLaw.{depends-up}
use Rattle.runs.proofs.public.Lists.{in-left, in-right, in-parts}
use Rattle.dependence.specs.Followers.{Follower}
use Rattle.dependence.specs.internal.Tables.{IsRising}
use Rattle.dependence.proofs.Sweeps.{first-step}
use Rattle.dependence.proofs.public.Following.{follows-on}
use Rattle.dependence.proofs.public.FollowerLaws.{direct-follows, reached-through-followers}
use Rattle.dependence.proofs.public.ListPlaces.{drop-next}

-- one follower more
pub added-next : (fs old mid new : List ℕ) (p last : ℕ) (b : Bool) → p < length fs → IsTrue b ↔ (get_or fs p 0 ≤ last) → new ≡ cond b (mid ++ get_or fs p 0 ∷ []) mid →
    ((u : ℕ) → In u mid ↔ (In u old ⊎ (In u (drop (suc p) fs) × (u ≤ last)))) → (u : ℕ) → In u new ↔ (In u old ⊎ (In u (drop p fs) × (u ≤ last)))
added-next fs old mid new p last true less test is told u =
    let x : ℕ = get_or fs p 0 in
    let there : drop p fs ≡ x ∷ drop (suc p) fs = drop-next fs p x (slice_get-get_or fs p 0 less) in
    subst (λ (ys : List ℕ). In u new ↔ (In u old ⊎ (In u ys × (u ≤ last)))) (sym there)
    (subst (λ (ks : List ℕ). In u ks ↔ (In u old ⊎ (In u (x ∷ drop (suc p) fs) × (u ≤ last)))) (sym is) (
      (λ i. elim (in-parts u mid (x ∷ []) i) [
        | inl a ↦ elim ((told u).0 a) [ inl o ↦ inl o | inr k ↦ inr (inr k.0, k.1) ]
        | inr (inl same) ↦ inr (inl same, subst (λ (v : ℕ). v ≤ last) (sym same) (test.0 refl))
        | inr (inr a) ↦ absurd a
      ]),
      (λ k. elim k [
        | inl o ↦ in-left u mid (x ∷ []) ((told u).1 (inl o))
        | inr (inl same, le) ↦ in-right u mid (x ∷ []) (inl same)
        | inr (inr a, le) ↦ in-left u mid (x ∷ []) ((told u).1 (inr (a, le)))
      ]),
    ))
added-next fs old mid new p last false less test is told u =
    let x : ℕ = get_or fs p 0 in
    let there : drop p fs ≡ x ∷ drop (suc p) fs = drop-next fs p x (slice_get-get_or fs p 0 less) in
    subst (λ (ys : List ℕ). In u new ↔ (In u old ⊎ (In u ys × (u ≤ last)))) (sym there)
    (subst (λ (ks : List ℕ). In u ks ↔ (In u old ⊎ (In u (x ∷ drop (suc p) fs) × (u ≤ last)))) (sym is) (
      (λ i. elim ((told u).0 i) [ inl o ↦ inl o | inr k ↦ inr (inr k.0, k.1) ]),
      (λ k. elim k [
        | inl o ↦ (told u).1 (inl o)
        | inr (inl same, le) ↦ absurd (true≢false (sym (test.1 (subst (λ (v : ℕ). v ≤ last) same le))))
        | inr (inr a, le) ↦ (told u).1 (inr (a, le))
      ]),
    ))

-- what depends on t goes through one of the pending
pub record Pends (l : Live) (cs : List ℕ) (t : ℕ) (pending : List ℕ) : Type 0 where
  pub sound : (u : ℕ) → In u pending → (t < u) × IsLive l u × DependsOn l t u
  pub complete : (c : ℕ) → In c cs → DependsOn l t c → (c ≡ t → ⊥) → (u : ℕ) × In u pending × DependsOn l u c

-- the followers of t
pub pends-first : (l : Live) (cs : List ℕ) (t last : ℕ) (old new : List ℕ) → IsRising l → ((c : ℕ) → In c cs → c ≤ last) → old ≡ [] →
    ((u : ℕ) → In u new ↔ (In u old ⊎ (Follower l t u × (u ≤ last)))) → Pends l cs t new
pends-first l cs t last old new r below none told = record {
  sound = λ u i. elim ((told u).0 i) [
    | inl o ↦ absurd (subst (λ (ks : List ℕ). In u ks) none o)
    | inr k ↦ let d = k.0.dependent in (d.less, (d.dependent, d.dependent_live), direct-follows l t u d)
  ];
  complete = λ c i on other.
      let step = first-step l t c ((reached-through-followers 0 r.0 l t c r.1).0 on) other in
      let up : step.ticket ≤ c = depends-up l step.ticket c step.on in
      let high : c ≤ last = below c i in
      (step.ticket, (told step.ticket).1 (inr (step.follower, omega arith)), step.on);
}

-- one of the pending, which is none of cs, and its followers in its place
pub pends-next : (l : Live) (cs : List ℕ) (t last here : ℕ) (before rest new : List ℕ) → IsRising l → ((c : ℕ) → In c cs → c ≤ last) → before ≡ rest ++ here ∷ [] →
    (In here cs → ⊥) → ((u : ℕ) → In u new ↔ (In u rest ⊎ (Follower l here u × (u ≤ last)))) → Pends l cs t before → Pends l cs t new
pends-next l cs t last here before rest new r below is absent told pends =
    let of_here = pends.sound here (subst (λ (ks : List ℕ). In here ks) (sym is) (in-right here rest (here ∷ []) (inl refl))) in
    record {
      sound = λ u i. elim ((told u).0 i) [
        | inl o ↦ pends.sound u (subst (λ (ks : List ℕ). In u ks) (sym is) (in-left u rest (here ∷ []) o))
        | inr k ↦
            let d = k.0.dependent in
            let low : t < here = of_here.0 in
            let up : here < u = d.less in
            (omega arith, (d.dependent, d.dependent_live), follows-on l t here u of_here.2 (direct-follows l here u d))
      ];
      complete = λ c i on other.
          let k = pends.complete c i on other in
          elim (in-parts k.0 rest (here ∷ []) (subst (λ (ks : List ℕ). In k.0 ks) is k.1)) [
            | inl a ↦ (k.0, (told k.0).1 (inl a), k.2)
            | inr (inr a) ↦ absurd a
            | inr (inl same) ↦
                let from : DependsOn l here c = subst (λ (v : ℕ). DependsOn l v c) same k.2 in
                let step = first-step l here c ((reached-through-followers 0 r.0 l here c r.1).0 from) (λ one. absent (subst (λ (v : ℕ). In v cs) one i)) in
                let up : step.ticket ≤ c = depends-up l step.ticket c step.on in
                let high : c ≤ last = below c i in
                (step.ticket, (told step.ticket).1 (inr (step.follower, omega arith)), step.on)
          ];
    }
