-- Counting the events that depend directly on one.
use Rattle.std.proofs.Common.{◌≡◌, inl, inr, ℕ, suc, ◌+◌, ◌-◌, ◌<◌, ◌≤◌, List, [], ◌∷◌, ◌++◌, length, take, drop, get_or, Some, refl, sym, ◌∙◌, ap, subst, arith, length-append, length-drop}
use Rattle.std.specs.Prelude.{slice_get}
use Rattle.std.proofs.lemmas.Bool.{cases_eq, cases_lt}
use Rattle.std.proofs.lemmas.Option.{slice_get-get_or}
use Rattle.syntax.specs.Lists.{In}
use Rattle.runs.specs.Dependence.{Directly}
use Rattle.runs.specs.Live.{Live, Rising, LiveAt, NoDependent, FirstDependent}
use Rattle.runs.specs.declared.event.Event.{Event}
use Rattle.runs.proofs.public.DependsOnLaw.{depends-up}
use Rattle.runs.proofs.public.Lists.{in-left, in-right, in-parts}
use Rattle.runs.proofs.public.Tickets.{rising-in, rising-one, rising-parts}
use Rattle.dependence.specs.Followers.{CountsDirect}
use Rattle.dependence.specs.internal.Tables.{IsRising, CountsAmong}
use Rattle.dependence.proofs.public.ListPlaces.{parts-at, in-at, take-next, drop-next, take-all, in-order-more}
use Rattle.dependence.proofs.public.FollowerLaws.{direct-follows}

pub among-none : (e : Event) → CountsAmong e [] 0
among-none e = ([], record { exactly = λ u. ((λ i. absurd i), (λ h. absurd h.1)); ascending = tt }, refl)

module _ (e : Event) (l : Live) (i n : ℕ) (x : ℕ × Event) (r : IsRising l) (less : i < length l) (is : x ≡ get_or l i x) (counted : CountsAmong e (take i l) n) where
  at : slice_get l i ≡ Some x
  at = slice_get-get_or l i x less ∙ ap (λ (y : ℕ × Event). Some y) (sym is)

  next : take (i + 1) l ≡ take i l ++ x ∷ []
  next = let more : i + 1 ≡ suc i = omega arith in ap (λ (k : ℕ). take k l) more ∙ take-next l i x at

  -- what was passed has a lesser ticket
  passed : (u : ℕ) (f : Event) → LiveAt (take i l) u f → u < x.0
  passed u f j =
      let split = rising-parts 0 r.0 (take i l) (x ∷ drop (suc i) l) (subst (λ (k : Live). Rising 0 k r.0) (parts-at l i x at) r.1) in
      let low : u < split.0 = (rising-in 0 split.0 (take i l) u f split.1 j).1 in
      let high : split.0 ≤ x.0 = split.2.0 in
      omega arith

  pub among-more : Directly e x.1 → CountsAmong e (take (i + 1) l) (n + 1)
  among-more d =
      let ts : List ℕ = counted.0 in
      let old = counted.1 in
      let size = length-append ts (x.0 ∷ []) in
      let was : length ts ≡ n = counted.2 in
      subst (λ (k : Live). CountsAmong e k (n + 1)) (sym next) (
        ts ++ x.0 ∷ [],
        record {
          exactly = λ u. (
            (λ j. elim (in-parts u ts (x.0 ∷ []) j) [
              | inl a ↦ let found = (old.exactly u).0 a in (found.0, in-left (u, found.0) (take i l) (x ∷ []) found.1, found.2)
              | inr (inl a) ↦ (x.1, in-right (u, x.1) (take i l) (x ∷ []) (inl (ap (λ (v : ℕ). (v, x.1)) a)), d)
              | inr (inr a) ↦ absurd a
            ]),
            (λ h. elim (in-parts (u, h.0) (take i l) (x ∷ []) h.1) [
              | inl a ↦ in-left u ts (x.0 ∷ []) ((old.exactly u).1 (h.0, a, h.2))
              | inr (inl a) ↦ in-right u ts (x.0 ∷ []) (inl (ap (λ (y : ℕ × Event). y.0) a))
              | inr (inr a) ↦ absurd a
            ]),
          );
          ascending = in-order-more ◌<◌ ts x.0 old.ascending (λ u j. let found = (old.exactly u).0 j in passed u found.0 found.1);
        },
        omega arith,
      )

  pub among-same : (Directly e x.1 → ⊥) → CountsAmong e (take (i + 1) l) n
  among-same none =
      let old = counted.1 in
      subst (λ (k : Live). CountsAmong e k n) (sym next) (
        counted.0,
        record {
          exactly = λ u. (
            (λ j. let found = (old.exactly u).0 j in (found.0, in-left (u, found.0) (take i l) (x ∷ []) found.1, found.2)),
            (λ h. elim (in-parts (u, h.0) (take i l) (x ∷ []) h.1) [
              | inl a ↦ (old.exactly u).1 (h.0, a, h.2)
              | inr (inl a) ↦ absurd (none (subst (λ (f : Event). Directly e f) (ap (λ (y : ℕ × Event). y.1) a) h.2))
              | inr (inr a) ↦ absurd a
            ]),
          );
          ascending = old.ascending;
        },
        counted.2,
      )

module _ (l : Live) (t index : ℕ) (e : Event) (r : IsRising l) (at : slice_get l index ≡ Some (t, e)) where
  split : (between : ℕ) × Rising 0 (take index l) between × Rising between ((t, e) ∷ drop (suc index) l) r.0
  split = rising-parts 0 r.0 (take index l) ((t, e) ∷ drop (suc index) l) (subst (λ (k : Live). Rising 0 k r.0) (parts-at l index (t, e) at) r.1)

  -- the tickets after an entry
  pub rising-after : Rising (suc t) (drop (suc index) l) r.0
  rising-after = split.2.1

  after-live : (u : ℕ) (f : Event) → LiveAt (drop (suc index) l) u f → LiveAt l u f
  after-live u f i =
      subst (λ (k : Live). LiveAt k u f) (sym (parts-at l index (t, e) at)) (in-right (u, f) (take index l) ((t, e) ∷ drop (suc index) l) (inr i))

  live-after : (u : ℕ) (f : Event) → LiveAt l u f → t < u → LiveAt (drop (suc index) l) u f
  live-after u f i less =
      elim (in-parts (u, f) (take index l) ((t, e) ∷ drop (suc index) l) (subst (λ (k : Live). LiveAt k u f) (parts-at l index (t, e) at) i)) [
        | inl a ↦
            let low : u < split.0 = (rising-in 0 split.0 (take index l) u f split.1 a).1 in
            let high : split.0 ≤ t = split.2.0 in
            absurd (omega arith)
        | inr (inl a) ↦ let is : u ≡ t = ap (λ (y : ℕ × Event). y.0) a in absurd (omega arith)
        | inr (inr a) ↦ a
      ]

  here-live : LiveAt l t e
  here-live = subst (λ (k : Live). LiveAt k t e) (sym (parts-at l index (t, e) at)) (in-right (t, e) (take index l) ((t, e) ∷ drop (suc index) l) (inl refl))

module _ (l : Live) (t u from : ℕ) (e f : Event) (r : IsRising l) (here : LiveAt l t e) (at : slice_get l from ≡ Some (u, f)) (first : FirstDependent l t u) where
  rest : drop from l ≡ (u, f) ∷ drop (suc from) l
  rest = drop-next l from (u, f) at

  -- the first dependent is later
  later-first : t < u
  later-first =
      let up : t ≤ u = depends-up l t u first.depends in
      elim (cases_eq u t) [ inl is ↦ absurd (first.other is) | inr differs ↦ omega arith ]

  -- what stands from it on
  rest-live : (v : ℕ) (g : Event) → LiveAt (drop from l) v g → LiveAt l v g × (u ≤ v)
  rest-live v g i = elim (subst (λ (k : Live). LiveAt k v g) rest i) [
    | inl is ↦ (
      subst (λ (x : ℕ × Event). In x l) (sym is) (in-at l from (u, f) at),
      let same_ticket : v ≡ u = ap (λ (x : ℕ × Event). x.0) is in omega arith,
    )
    | inr behind ↦ (
      after-live l u from f r at v g behind,
      let above : suc u ≤ v = (rising-in (suc u) r.0 (drop (suc from) l) v g (rising-after l u from f r at) behind).0 in omega arith,
    )
  ]

  live-rest : (v : ℕ) (g : Event) → LiveAt l v g → u ≤ v → LiveAt (drop from l) v g
  live-rest v g i up = subst (λ (k : Live). LiveAt k v g) (sym rest) (elim (cases_lt u v) [
    | inl less ↦ inr (live-after l u from f r at v g i less)
    | inr high ↦
        let is : v ≡ u = omega arith in
        let same_event : g ≡ f = rising-one 0 r.0 l u g f r.1 (subst (λ (k : ℕ). LiveAt l k g) is i) (in-at l from (u, f) at) in
        inl (ap (λ (k : ℕ). (k, g)) is ∙ ap (λ (x : Event). (u, x)) same_event)
  ])

  pub counts-from : (n : ℕ) → CountsAmong e (drop from l) n → CountsDirect l t n
  counts-from n counted = (
    counted.0,
    record {
      exactly = λ v. (
        (λ j.
            let found = (counted.1.exactly v).0 j in
            let stands = rest-live v found.0 found.1 in
            let low : u ≤ v = stands.1 in
            let more : t < u = later-first in
            record { event = e; dependent = found.0; live = here; dependent_live = stands.0; less = omega arith; direct = found.2 }),
        (λ d.
            let differs : v ≡ t → ⊥ = λ is. let less : t < v = d.less in omega arith in
            (counted.1.exactly v).1 (
              d.dependent,
              live-rest v d.dependent d.dependent_live (first.least v d.dependent d.dependent_live differs (direct-follows l t v d)),
              subst (λ (g : Event). Directly g d.dependent) (rising-one 0 r.0 l t d.event e r.1 d.live here) d.direct,
            )),
      );
      ascending = counted.1.ascending;
    },
    counted.2,
  )

  -- what stands from it on rises
  pub from-rises : IsRising (drop from l)
  from-rises = subst (λ (k : Live). IsRising k) (sym rest) (r.0, (omega arith, rising-after l u from f r at))

-- without a dependent there is none to count
pub counts-none : (l : Live) (t : ℕ) → NoDependent l t → CountsDirect l t 0
counts-none l t none = (
  [],
  record {
    exactly = λ v. (
      (λ i. absurd i),
      (λ d.
          let is : v ≡ t = none v d.dependent d.dependent_live (direct-follows l t v d) in
          let less : t < v = d.less in
          absurd (omega arith)),
    );
    ascending = tt;
  },
  refl,
)

-- what stands from an index on
pub rest-is : (l : Live) (index : ℕ) → take (length l - index) (drop index l) ≡ drop index l
rest-is l index = let size = length-drop index l in take-all (drop index l) (length l - index) (omega arith)
