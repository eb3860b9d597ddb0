-- Races, while they are listed.
use Rattle.std.proofs.Common.{◌≡◌, ◌⊎◌, inl, inr, ℕ, zero, suc, ◌+◌, ◌-◌, ◌<◌, ◌≤◌, List, [], ◌∷◌, ◌++◌, length, drop, take, get_or, Option, Some, None, Bool, true, false, refl, sym, ◌∙◌, ap, subst, arith}
use Rattle.std.specs.Prelude.{MatchOption, slice_get}
use Rattle.std.proofs.lemmas.Bool.{cases_lt}
use Rattle.std.proofs.lemmas.Option.{slice_get-get_or, slice_get_within}
use Rattle.syntax.specs.Lists.{In}
use Rattle.system.specs.Expression.{is_in}
use Rattle.runs.specs.Dependence.{Directly, OnOneChannel, OnOneVariable, SomeBefore}
use Rattle.runs.specs.InOrder.{InOrder}
use Rattle.runs.specs.Live.{Live, LiveAt, Rising}
use Rattle.runs.specs.declared.event.Event.{Event}
use Rattle.runs.proofs.public.Lists.{every-in, in-left, in-right, in-parts}
use Rattle.runs.proofs.public.Options.{some-injective}
use Rattle.runs.proofs.public.ReadTests.{in-is, is-in}
use Rattle.runs.proofs.public.Tickets.{rising-one}
use Rattle.dependence.specs.Followers.{Follower}
use Rattle.dependence.proofs.public.ListPlaces.{at-one, drop-all, drop-next, in-at, in-order-more, in-order-right, parts-at}
use Rattle.dependence.proofs.public.Standing.{lesser-stands}
use Rattle.run_depths.specs.Depths.{StandsAt}
use Rattle.run_depths.specs.Races.{AreRaces, ByVariable, IsEarlierRace, IsRace, ReadsAfter, WritesAfter}
use Rattle.run_depths.specs.declared.races.Race.{Race}
use Rattle.run_depths.specs.internal.RacesSoFar.{RacesTo, RacesWith}
use Rattle.run_depths.proofs.public.Deepening.{one-place}

-- ---- the variable

pub is-read : (x : ℕ) (read given : List ℕ) (b : Bool) → given ≡ read → b ≡ is_in x given → b ≡ true → In x read
is-read x read given b is told on = subst (λ (xs : List ℕ). In x xs) is (is-in x given (sym told ∙ on))

pub not-read : (x : ℕ) (read given : List ℕ) (b : Bool) → given ≡ read → b ≡ is_in x given → b ≡ false → In x read → ⊥
not-read x read given b is told off here =
    let there : is_in x given ≡ true = in-is x given (subst (λ (xs : List ℕ). In x xs) (sym is) here) in cc

pub reads-none : (e f : Event) (x : ℕ) → e.written ≡ Some x → (In x f.read → ⊥) → (y : ℕ) → ReadsAfter e f y → ⊥
reads-none e f x is not y h = let one : y ≡ x = some-injective y x (sym h.0 ∙ is) in not (subst (λ (z : ℕ). In z f.read) one h.1)

pub writes-none : (e f : Event) (x : ℕ) → f.written ≡ Some x → (In x e.read → ⊥) → (e.written ≡ Some x → ⊥) → (y : ℕ) → WritesAfter e f y → ⊥
writes-none e f x is not_read not_written y h =
    let one : y ≡ x = some-injective y x (sym h.0 ∙ is) in
    elim h.1 [
      | inl a ↦ not_read (subst (λ (z : ℕ). In z e.read) one a)
      | inr a ↦ not_written (subst (λ (z : ℕ). e.written ≡ Some z) one a)
    ]

-- ---- one race

-- of live events one follows another only where it depends directly on it
follower-directly : (low next : ℕ) (l : Live) (t u : ℕ) (e f : Event) → Rising low l next → LiveAt l t e → LiveAt l u f → Follower l t u → Directly e f
follower-directly low next l t u e f r a b h =
    let one : h.dependent.event ≡ e = rising-one low next l t h.dependent.event e r h.dependent.live a in
    let two : h.dependent.dependent ≡ f = rising-one low next l u h.dependent.dependent f r h.dependent.dependent_live b in
    subst (λ (x : Event). Directly e x) two (subst (λ (x : Event). Directly x h.dependent.dependent) one h.dependent.direct)

-- where no variable alone orders the two, they are no race
pub no-race : (low next : ℕ) (l : Live) (t u : ℕ) (d e f : Event) → Rising low l next → LiveAt l t d → LiveAt l u f →
    (OnOneVariable d f → SomeBefore d f ⊎ OnOneChannel d f) → LiveAt l t e → ByVariable l t u e f → ⊥
no-race low next l t u d e f r a b none here v =
    let same : e ≡ d = rising-one low next l t e d r here a in
    let places : SomeBefore d f → ⊥ = subst (λ (x : Event). SomeBefore x f → ⊥) same v.places in
    let channels : OnOneChannel d f → ⊥ = subst (λ (x : Event). OnOneChannel x f → ⊥) same v.channels in
    elim (follower-directly low next l t u d f r a b v.follows) [
      | inl x ↦ places x
      | inr (inl x) ↦ channels x
      | inr (inr x) ↦ elim (none x) [ inl y ↦ places y | inr y ↦ channels y ]
    ]

-- ---- the races of one event

pub races-begin : (l : Live) (n : ℕ) (seen : List ℕ) (races : List Race) → seen ≡ [] → RacesTo l n races → RacesWith l n seen races
races-begin l n seen races is h = record {
  each = λ r i. let one = h.each r i in (one.0, inl one.1);
  all = λ i j t u e f now a b v.
      elim now [
        | inl low ↦ h.all i j t u e f low a b v
        | inr here ↦ absurd (subst (λ (ts : List ℕ). In t ts) is here.1)
      ];
  in_order = h.in_order;
}

pub none-seen : (leads : List ℕ) → drop (length leads - 0) leads ≡ []
none-seen leads = drop-all leads (length leads - 0) (omega arith)

-- the next of the tickets that fall, from the last on
pub lead-next : (leads : List ℕ) (k : ℕ) → k < length leads →
    drop (length leads - (k + 1)) leads ≡ get_or leads (length leads - 1 - k) 0 ∷ drop (length leads - k) leads
lead-next leads k less =
    let i : ℕ = length leads - 1 - k in
    let within : i < length leads = omega arith in
    let here : length leads - (k + 1) ≡ i = omega arith in
    let behind : suc i ≡ length leads - k = omega arith in
    ap (λ (n : ℕ). drop n leads) here
    ∙ drop-next leads i (get_or leads i 0) (slice_get-get_or leads i 0 within)
    ∙ ap (λ (n : ℕ). get_or leads i 0 ∷ drop n leads) behind

pub seen-less : (leads : List ℕ) (k t : ℕ) → k < length leads → InOrder (λ (a : ℕ) (b : ℕ). b < a) leads → In t (drop (length leads - k) leads) →
    t < get_or leads (length leads - 1 - k) 0
seen-less leads k t less falling j =
    let i : ℕ = length leads - 1 - k in
    let lead : ℕ = get_or leads i 0 in
    let within : i < length leads = omega arith in
    let behind : length leads - k ≡ suc i = omega arith in
    let parts : InOrder (λ (a : ℕ) (b : ℕ). b < a) (take i leads ++ lead ∷ drop (suc i) leads) =
    subst (InOrder (λ (a : ℕ) (b : ℕ). b < a)) (parts-at leads i lead (slice_get-get_or leads i 0 within)) falling in
    every-in (λ (b : ℕ). b < lead) (drop (suc i) leads) t (in-order-right (λ (a : ℕ) (b : ℕ). b < a) (take i leads) (lead ∷ drop (suc i) leads) parts).0
    (subst (λ (n : ℕ). In t (drop n leads)) behind j)

-- what is told of the event of ticket `lead`
abbrev Told : Live → ℕ → ℕ → ℕ → Event → Option Race → Type 0
Told l n lead ticket f found =
    MatchOption found ((e : Event) → LiveAt l lead e → ByVariable l lead ticket e f → ⊥) (λ (r : Race). IsRace l r × (r.event ≡ n) × StandsAt l lead r.cause)

abbrev Added : Option Race → List Race → List Race → Type 0
Added found old new = MatchOption found (new ≡ old) (λ (r : Race). new ≡ old ++ r ∷ [])

one-at : (l : Live) (n j u ticket : ℕ) (g f : Event) → slice_get l n ≡ Some (ticket, f) → slice_get l j ≡ Some (u, g) → j ≡ n →
    (u ≡ ticket) × (g ≡ f)
one-at l n j u ticket g f at b is =
    let one = at-one l n (u, g) (ticket, f) (subst (λ (k : ℕ). slice_get l k ≡ Some (u, g)) is b) at in
    (ap (λ (y : ℕ × Event). y.0) one, ap (λ (y : ℕ × Event). y.1) one)

race-is : (r : Race) (i j : ℕ) → i ≡ r.cause → j ≡ r.event → record { cause = i; event = j; variable = r.variable } ≡ r
race-is r i j p q =
    let first : ℕ → Race = λ k. record { cause = k; event = j; variable = r.variable } in
    let second : ℕ → Race = λ k. record { cause = r.cause; event = k; variable = r.variable } in
    ap first p ∙ ap second q

with-none : (l : Live) (n ticket lead : ℕ) (f : Event) (seen : List ℕ) (races : List Race) → slice_get l n ≡ Some (ticket, f) →
    ((e : Event) → LiveAt l lead e → ByVariable l lead ticket e f → ⊥) → RacesWith l n seen races → RacesWith l n (lead ∷ seen) races
with-none l n ticket lead f seen races at none w = record {
  each = λ r i.
      let one = w.each r i in
      (one.0, elim one.1 [ inl low ↦ inl low | inr here ↦ inr (here.0, (here.1.0, inr here.1.1, here.1.2)) ]);
  all = λ i j t u e g now a b v.
      elim now [
        | inl low ↦ w.all i j t u e g (inl low) a b v
        | inr here ↦ elim here.1 [
          | inl is ↦
              let same = one-at l n j u ticket g f at b here.0 in
              let v1 : ByVariable l lead u e g = subst (λ (s : ℕ). ByVariable l s u e g) is v in
              let v2 : ByVariable l lead ticket e f = subst (λ (x : Event). ByVariable l lead ticket e x) same.1 (subst (λ (s : ℕ). ByVariable l lead s e g) same.0 v1) in
              absurd (none e (subst (λ (s : ℕ). LiveAt l s e) is (in-at l i (t, e) a)) v2)
          | inr later ↦ w.all i j t u e g (inr (here.0, later)) a b v
        ]
      ];
  in_order = w.in_order;
}

with-one : (low next : ℕ) (l : Live) (n lead : ℕ) (seen : List ℕ) (races : List Race) (race : Race) → Rising low l next →
    ((t : ℕ) → In t seen → t < lead) → IsRace l race → race.event ≡ n → StandsAt l lead race.cause → RacesWith l n seen races →
    RacesWith l n (lead ∷ seen) (races ++ race ∷ [])
with-one low next l n lead seen races race rising below is here cause w = record {
  each = λ r i.
      elim (in-parts r races (race ∷ []) i) [
        | inl before ↦
            let one = w.each r before in
            (one.0, elim one.1 [ inl less ↦ inl less | inr same ↦ inr (same.0, (same.1.0, inr same.1.1, same.1.2)) ])
        | inr (inl last) ↦
            subst (λ (q : Race). IsRace l q × ((q.event < n) ⊎ ((q.event ≡ n) × ((t : ℕ) × In t (lead ∷ seen) × StandsAt l t q.cause)))) (sym last)
            (is, inr (here, (lead, inl refl, cause)))
        | inr (inr none) ↦ absurd none
      ];
  all = λ i j t u e g now a b v.
      elim now [
        | inl less ↦ let got = w.all i j t u e g (inl less) a b v in (got.0, in-left _ races (race ∷ []) got.1)
        | inr same ↦ elim same.1 [
          | inl lead_is ↦
              let at : StandsAt l lead i = (e, subst (λ (s : ℕ). slice_get l i ≡ Some (s, e)) lead_is a) in
              let place : i ≡ race.cause = one-place low next l lead i race.cause rising at cause in
              let made = race-is race i j place (same.0 ∙ sym here) in
              (race.variable, in-right _ races (race ∷ []) (inl made))
          | inr later ↦ let got = w.all i j t u e g (inr (same.0, later)) a b v in (got.0, in-left _ races (race ∷ []) got.1)
        ]
      ];
  in_order = in-order-more IsEarlierRace races race w.in_order (λ r i.
      elim (w.each r i).1 [
        | inl less ↦ let up : r.event < race.event = subst (λ (k : ℕ). r.event < k) (sym here) less in inl up
        | inr same ↦
            let less : same.1.0 < lead = below same.1.0 same.1.1 in
            inr (same.0 ∙ sym here, lesser-stands low next l r.cause race.cause same.1.0 lead same.1.2.0 cause.0 rising same.1.2.1 cause.1 less)
      ]);
}

pub races-next : (low next : ℕ) (l : Live) (n ticket lead : ℕ) (f : Event) (seen : List ℕ) (old new : List Race) (found : Option Race) →
    Rising low l next → slice_get l n ≡ Some (ticket, f) → ((t : ℕ) → In t seen → t < lead) → Told l n lead ticket f found → Added found old new →
    RacesWith l n seen old → RacesWith l n (lead ∷ seen) new
races-next low next l n ticket lead f seen old new None rising at below told added w =
    subst (λ (rs : List Race). RacesWith l n (lead ∷ seen) rs) (sym added) (with-none l n ticket lead f seen old at told w)
races-next low next l n ticket lead f seen old new (Some race) rising at below told added w =
    subst (λ (rs : List Race). RacesWith l n (lead ∷ seen) rs) (sym added)
    (with-one low next l n lead seen old race rising below told.0 told.1 told.2 w)

drop-none : (xs : List ℕ) → drop zero xs ≡ xs
drop-none [] = refl
drop-none (x ∷ xs) = refl

pub all-seen : (leads : List ℕ) (k : ℕ) → length leads ≤ k → drop (length leads - k) leads ≡ leads
all-seen leads k past = let none : length leads - k ≡ zero = omega arith in ap (λ (n : ℕ). drop n leads) none ∙ drop-none leads

pub races-end : (l : Live) (n ticket : ℕ) (f : Event) (leads seen : List ℕ) (races : List Race) → slice_get l n ≡ Some (ticket, f) → seen ≡ leads →
    ((t : ℕ) → Follower l t ticket → In t leads) → RacesWith l n seen races → RacesTo l (n + 1) races
races-end l n ticket f leads seen races at whole all w = record {
  each = λ r i.
      let one = w.each r i in
      let less : r.event < n + 1 = elim one.1 [ inl low ↦ omega arith | inr here ↦ let is = here.0 in omega arith ] in
      (one.0, less);
  all = λ i j t u e g less a b v.
      elim (cases_lt j n) [
        | inl low ↦ w.all i j t u e g (inl low) a b v
        | inr high ↦
            let is : j ≡ n = omega arith in
            let same = one-at l n j u ticket g f at b is in
            let follows : Follower l t ticket = subst (λ (s : ℕ). Follower l t s) same.0 v.follows in
            w.all i j t u e g (inr (is, subst (λ (ts : List ℕ). In t ts) (sym whole) (all t follows))) a b v
      ];
  in_order = w.in_order;
}

pub all-races : (l : Live) (n : ℕ) (races : List Race) → length l ≤ n → RacesTo l n races → AreRaces l races
all-races l n races past w = record {
  each = λ r i. (w.each r i).0;
  all = λ i j t u e f a b v. let within = slice_get_within l j _ b in let less : j < n = omega arith in w.all i j t u e f less a b v;
  in_order = w.in_order;
}
