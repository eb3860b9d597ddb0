-- Since when something may stand at a place is one in equal runs.
use Rattle.std.proofs.Common.{◌≡◌, inl, inr, ℕ, ◌+◌, ◌<◌, ◌≤◌, List, [], ◌∷◌, length, get_or, Option, None, Some, refl, sym, ◌∙◌, ap, subst, arith}
use Rattle.std.specs.Prelude.{map, slice_get}
use Rattle.std.proofs.lemmas.Bool.{cases_lt}
use Rattle.std.proofs.lemmas.Option.{slice_get_past}
use Rattle.syntax.specs.Lists.{Every}
use Rattle.system.specs.declared.system.System.{System}
use Rattle.runs.specs.Live.{Live, LiveAt, events}
use Rattle.runs.specs.Moves.{Place}
use Rattle.runs.specs.declared.event.Event.{Event}
use Rattle.runs.proofs.public.Elements.{in-rearranged}
use Rattle.runs.proofs.public.FromOpening.{respecting_orders}
use Rattle.runs.proofs.public.Tickets.{event-in, in-event}
use Rattle.dependence.proofs.public.ListPlaces.{at-within, in-at, index-in}
use Rattle.run_depths.specs.Depths.{AreDepths}
use Rattle.run_depths.specs.Since.{AreSince, IsEventSince, IsSecondSince, IsSince}
use Rattle.depth_laws.specs.Laws.{AreEqualRuns}
use Rattle.depth_laws.proofs.public.EqualRuns.{depths-agree}
use Rattle.picture_data.specs.Spots.{Deep, Spot, StandsSince, spot_of}
use Rattle.picture_data.specs.declared.places.Place.{Place as Shown}
use Rattle.picture_laws.specs.EqualPictures.{since_of}
use Rattle.picture_laws.proofs.OneOrder.{by-index}

-- since when a place may be stood at is one
abbrev pub SameSince : Live → Live → List ℕ → List ℕ → Type 0
SameSince l m depths others = (a : Place) (d b : ℕ) → IsSince l depths a d → IsSince m others a b → d ≡ b

-- ---- of a place

-- an event of the one run stands in the other
there-at : (system : System) (l m : Live) (i t : ℕ) (e : Event) → AreEqualRuns system l m → slice_get l i ≡ Some (t, e) →
    (j : ℕ) × (u : ℕ) × (slice_get m j ≡ Some (u, e))
there-at system l m i t e equal at =
    let live : (u : ℕ) × LiveAt m u e =
    in-event m e (in-rearranged (events l) (events m) e equal.forth.rearranged (event-in l t e (in-at l i (t, e) at))) in
    let index = index-in m (live.0, e) live.1 in
    (index.0, live.0, index.1)

below-too : (system : System) (l m : Live) (depths others : List ℕ) (a : Place) (d b : ℕ) → AreEqualRuns system l m → AreDepths l depths → AreDepths m others →
    IsSince l depths a d → IsSince m others a b → d ≤ b
below-too system l m depths others a d b equal are those one two = elim one.reached [
  | inl none ↦ omega arith
  | inr some ↦
      let at = some.2 in
      let there = there-at system l m some.0 at.0 at.1 equal at.2 in
      let same : get_or depths some.0 0 ≡ get_or others there.0 0 =
      depths-agree system l m depths others some.0 there.0 at.0 there.1 at.1 equal are those at.2 there.2 in
      let less : get_or others there.0 0 < b = two.above there.0 some.1 (there.1, at.1, there.2, at.3) some.3 in
      let is : d ≡ get_or depths some.0 0 + 1 = some.4 in
      omega arith
]

turned : (system : System) (l m : Live) → AreEqualRuns system l m → AreEqualRuns system m l
turned system l m r = record {
  state = r.state;
  runs = respecting_orders system (events l) (events m) r.state r.runs r.forth;
  forth = r.back;
  back = r.forth;
  low = r.other_low;
  next = r.other_next;
  rising = r.other_rising;
  other_low = r.low;
  other_next = r.next;
  other_rising = r.rising;
}

pub since-agrees : (system : System) (l m : Live) (depths others : List ℕ) → AreEqualRuns system l m → AreDepths l depths → AreDepths m others →
    SameSince l m depths others
since-agrees system l m depths others equal are those a d b one two =
    let up : d ≤ b = below-too system l m depths others a d b equal are those one two in
    let down : b ≤ d = below-too system m l others depths a b d (turned system l m equal) those are two one in
    omega arith

-- ---- of events

second-since : (l m : Live) (depths others : List ℕ) (o : Option Place) (f g d b : ℕ) → SameSince l m depths others → f ≡ g →
    IsSecondSince l depths o f d → IsSecondSince m others o g b → d ≡ b
second-since l m depths others None f g d b agree same one two = one ∙ same ∙ sym two
second-since l m depths others (Some a) f g d b agree same one two = agree a d b one two

pub event-since : (l m : Live) (depths others : List ℕ) (e : Event) (s r : ℕ × ℕ) → SameSince l m depths others → IsEventSince l depths e s →
    IsEventSince m others e r → s ≡ r
event-since l m depths others e s r agree one two =
    let first : s.0 ≡ r.0 = agree e.first s.0 r.0 one.0 two.0 in
    let second : s.1 ≡ r.1 = second-since l m depths others e.second s.0 r.0 s.1 r.1 agree first one.1 two.1 in
    let made : ℕ → ℕ → ℕ × ℕ = λ a b. (a, b) in
    ap (λ (a : ℕ). made a s.1) first ∙ ap (λ (b : ℕ). made r.0 b) second

pub one-sinces : (l : Live) (depths others : List ℕ) (since more : List (ℕ × ℕ)) → SameSince l l depths others → AreSince l depths since →
    AreSince l others more → since ≡ more
one-sinces l depths others since more agree are those = by-index since more at
  where
    at : (i : ℕ) → slice_get since i ≡ slice_get more i
    at i =
        elim (cases_lt i (length l)) [
          | inl less ↦
              let x = at-within l i less in
              let size = are.size in
              let other = those.size in
              let here = at-within since i (let h : i < length since = omega arith in h) in
              let there = at-within more i (let h : i < length more = omega arith in h) in
              let same : here.0 ≡ there.0 =
              event-since l l depths others x.0.1 here.0 there.0 agree (are.each i x.0.0 x.0.1 here.0 x.1 here.1)
              (those.each i x.0.0 x.0.1 there.0 x.1 there.1) in
              here.1 ∙ ap (λ (s : ℕ × ℕ). Some s) same ∙ sym there.1
          | inr past ↦
              let size = are.size in
              let other = those.size in
              slice_get_past since i (let h : length since ≤ i = omega arith in h)
              ∙ sym (slice_get_past more i (let h : length more ≤ i = omega arith in h))
        ]

-- ---- of what waits

no-cons : {X : Type 0} (x : X) (xs : List X) → [] ≡ x ∷ xs → ⊥
no-cons x xs e = cc

pub places-since : (deep other : Deep) (ps qs : List Shown) → SameSince deep.live other.live deep.depths other.depths → map spot_of ps ≡ map spot_of qs →
    Every (StandsSince deep) ps → Every (StandsSince other) qs → map since_of ps ≡ map since_of qs
places-since deep other [] [] agree same here there = refl
places-since deep other [] (q ∷ qs) agree same here there = absurd (no-cons (spot_of q) (map spot_of qs) same)
places-since deep other (p ∷ ps) [] agree same here there = absurd (no-cons (spot_of p) (map spot_of ps) (sym same))
places-since deep other (p ∷ ps) (q ∷ qs) agree same here there =
    let head : spot_of p ≡ spot_of q = cc in
    let rest : map spot_of ps ≡ map spot_of qs = cc in
    let place : p.place ≡ q.place = ap (λ (s : Spot). s.place) head in
    let own : IsSince deep.live deep.depths q.place p.since =
    subst (λ (a : Place). IsSince deep.live deep.depths a p.since) place here.0 in
    let one : p.since ≡ q.since = agree q.place p.since q.since own there.0 in
    ap (λ (d : ℕ). d ∷ map since_of ps) one ∙ ap (λ (ds : List ℕ). q.since ∷ ds) (places-since deep other ps qs agree rest here.1 there.1)
