-- Places, one behind another, and rings of them.
use Rattle.std.proofs.Common.{◌≡◌, ◌⊎◌, inl, inr, ℕ, zero, suc, ◌+◌, ◌-◌, ◌<◌, ◌≤◌, List, [], ◌∷◌, ◌++◌, drop, length, get_or, take, map, append_assoc, Bool, true, false, cond, Option, Some, None, refl, sym, ◌∙◌, ap, subst, arith, length-append}
use Rattle.std.specs.Prelude.{option_map, slice_get}
use Rattle.std.specs.List.{flat_map}
use Rattle.std.specs.Option.{option_to_list}
use Rattle.std.proofs.lemmas.List.{append-nil, drop_all, drop_more, length-take-le, map-append}
use Rattle.std.proofs.lemmas.Option.{slice_get-map}
use Rattle.syntax.specs.Lists.{Every}
use Rattle.runs.specs.Moves.{Place}
use Rattle.runs.specs.Steps.{State}
use Rattle.runs.specs.Tests.{same_place}
use Rattle.runs.specs.declared.event.Event.{Event}
use Rattle.runs.proofs.public.Lists.{every-left, every-right}
use Rattle.dependence.proofs.public.ListPlaces.{take-all}
use Rattle.machine.specs.AtMachine.{AtMachine}
use Rattle.local_actions.proofs.public.PlacedActions.{told-same}
use Rattle.local_actions.specs.declared.action.LocalAction.{LocalAction}
use Rattle.rings.specs.Rings.{places_at}
use Rattle.rings.specs.declared.partner.Partner.{Partner}
use Rattle.waiting.specs.Rings.{NamesRing}
use Rattle.run_depths.specs.Since.{IsSince}
use Rattle.picture_data.specs.Spots.{Deep, ShowsRing, Spot, StandsSince, Want, channel_at, event_spots, first_role, is_met, made_spot, place_at, places_of_sides, ready_spot, ready_spots, role_of, second_role, second_spots, spot_at, spot_if_new, spot_of, spots_behind, waiting_with, want_of, with_side, with_sides}
use Rattle.picture_data.specs.Wanted.{Seen}
use Rattle.picture_data.specs.declared.places.Place.{Place as Shown}
use Rattle.picture_data.specs.declared.places.Role.{Role}
use Rattle.picture_data.specs.declared.places.Wanted.{Wanted}
use Rattle.picture_data.specs.internal.SpotsSoFar.{AddsSoFar, AddsSpots, SpotsOf, TakenFor, side_place}
use Rattle.picture_data.proofs.EachStands.{one-more}

-- ---- one more action

every-join : {X : Type 0} (P : X → Type 0) (xs ys : List X) → Every P xs → Every P ys → Every P (xs ++ ys)
every-join P [] ys h k = k
every-join P (x ∷ xs) ys h k = (h.0, every-join P xs ys h.1 k)

last-of : (ps : List Shown) → (ps ≡ []) ⊎ ((front : List Shown) × (q : Shown) × (ps ≡ front ++ q ∷ []))
last-of [] = inl refl
last-of (p ∷ ps) =
    elim (last-of ps) [
      | inl none ↦ inr ([], p, ap (λ (k : List Shown). p ∷ k) none)
      | inr more ↦ inr (p ∷ more.0, more.1, ap (λ (k : List Shown). p ∷ k) more.2)
    ]

beside-last : (m : Seen) (spots : List Spot) (s : Spot) (x : LocalAction) (p : Option Partner) →
    with_side m (spots ++ s ∷ []) x p ≡ spots ++ with_side m (s ∷ []) x p
beside-last m [] s x p = refl
beside-last m (t ∷ []) s x p = refl
beside-last m (t ∷ u ∷ spots) s x p = ap (λ (k : List Spot). t ∷ k) (beside-last m (u ∷ spots) s x p)

is-same : (a b : Place) → a ≡ b → same_place a b ≡ true
is-same a b is = sym (told-same a b true ((λ on. is), (λ e. refl)))

not-same : (a b : Place) → (a ≡ b → ⊥) → same_place a b ≡ false
not-same a b not = sym (told-same a b false ((λ on. absurd (off on)), (λ e. absurd (not e))))
  where
    off : false ≡ true → ⊥
    off e = cc

stays-at : (m : Seen) (spots : List Spot) (s : Spot) (x : LocalAction) (p : Option Partner) → s.place ≡ x.place →
    with_side m (spots ++ s ∷ []) x p ≡ spots ++ waiting_with m.around s x p ∷ []
stays-at m spots s x p is =
    beside-last m spots s x p
    ∙ ap (λ (b : Bool). spots ++ cond b (waiting_with m.around s x p ∷ []) (s ∷ waiting_with m.around (spot_at m x.place (role_of x.action)) x p ∷ [])) (is-same s.place x.place is)

comes-behind : (m : Seen) (spots : List Spot) (s : Spot) (x : LocalAction) (p : Option Partner) → (s.place ≡ x.place → ⊥) →
    with_side m (spots ++ s ∷ []) x p ≡ (spots ++ s ∷ []) ++ waiting_with m.around (spot_at m x.place (role_of x.action)) x p ∷ []
comes-behind m spots s x p not =
    beside-last m spots s x p
    ∙ ap (λ (b : Bool). spots ++ cond b (waiting_with m.around s x p ∷ []) (s ∷ waiting_with m.around (spot_at m x.place (role_of x.action)) x p ∷ [])) (not-same s.place x.place not)
    ∙ sym (append_assoc spots (s ∷ []) (waiting_with m.around (spot_at m x.place (role_of x.action)) x p ∷ []))

map-end : (ps : List Shown) (p : Shown) → map spot_of (ps ++ p ∷ []) ≡ map spot_of ps ++ spot_of p ∷ []
map-end ps p = map-append spot_of ps (p ∷ [])

new-place : (m : Seen) (x : LocalAction) (partner : Option Partner) (old : List Shown) →
    ((front : List Shown) (q : Shown) → old ≡ front ++ q ∷ [] → q.place ≡ x.place → ⊥) →
    with_side m (map spot_of old) x partner ≡ map spot_of old ++ waiting_with m.around (spot_at m x.place (role_of x.action)) x partner ∷ []
new-place m x partner old elsewhere =
    elim (last-of old) [
      | inl none ↦
          subst (λ (ps : List Shown). with_side m (map spot_of ps) x partner ≡ map spot_of ps ++ waiting_with m.around (spot_at m x.place (role_of x.action)) x partner ∷ [])
          (sym none) refl
      | inr more ↦
          let spots = map spot_of more.0 in
          let is : map spot_of old ≡ map spot_of more.0 ++ spot_of more.1 ∷ [] = ap (map spot_of) more.2 ∙ map-end more.0 more.1 in
          subst (λ (ss : List Spot). with_side m ss x partner ≡ ss ++ waiting_with m.around (spot_at m x.place (role_of x.action)) x partner ∷ []) (sym is)
          (comes-behind m (map spot_of more.0) (spot_of more.1) x partner (elsewhere more.0 more.1 more.2))
    ]

pub added-spots : (m : Seen) (deep : Deep) (x : LocalAction) (partner : Option Partner) (old rest new : List Shown) (p q : Shown) →
    TakenFor m deep x old rest p → spot_of q ≡ waiting_with m.around (spot_of p) x partner → new ≡ rest ++ q ∷ [] →
    map spot_of new ≡ with_side m (map spot_of old) x partner
added-spots m deep x partner old rest new p q taken waits is =
    let whole : map spot_of new ≡ map spot_of rest ++ waiting_with m.around (spot_of p) x partner ∷ [] =
    ap (map spot_of) is ∙ map-end rest q ∙ ap (λ (s : Spot). map spot_of rest ++ s ∷ []) waits in
    elim taken [
      | inl last ↦
          whole
          ∙ sym (stays-at m (map spot_of rest) (spot_of p) x partner last.1)
          ∙ ap (λ (ss : List Spot). with_side m ss x partner) (sym (ap (map spot_of) last.0 ∙ map-end rest p))
      | inr made ↦
          whole
          ∙ ap (λ (s : Spot). map spot_of rest ++ waiting_with m.around s x partner ∷ []) made.2
          ∙ ap (λ (ps : List Shown). map spot_of ps ++ waiting_with m.around (spot_at m x.place (role_of x.action)) x partner ∷ []) made.0
          ∙ sym (new-place m x partner old made.1)
    ]

moved-since : (deep : Deep) (p q : Shown) → q.since ≡ p.since → q.place ≡ p.place → StandsSince deep p → StandsSince deep q
moved-since deep p q since place h =
    subst (λ (d : ℕ). IsSince deep.live deep.depths q.place d) (sym since)
    (subst (λ (a : Place). IsSince deep.live deep.depths a p.since) (sym place) h)

pub added-since : (m : Seen) (deep : Deep) (x : LocalAction) (old rest new : List Shown) (p q : Shown) →
    TakenFor m deep x old rest p → q.since ≡ p.since → q.place ≡ p.place → new ≡ rest ++ q ∷ [] → Every (StandsSince deep) old →
    Every (StandsSince deep) new
added-since m deep x old rest new p q taken since place is each =
    subst (Every (StandsSince deep)) (sym is)
    (elim taken [
      | inl last ↦
          let parts : Every (StandsSince deep) (rest ++ p ∷ []) = subst (Every (StandsSince deep)) last.0 each in
          every-join (StandsSince deep) rest (q ∷ []) (every-left (StandsSince deep) rest (p ∷ []) parts)
          (moved-since deep p q since place (every-right (StandsSince deep) rest (p ∷ []) parts).0, tt)
      | inr made ↦
          every-join (StandsSince deep) rest (q ∷ []) (subst (Every (StandsSince deep)) (sym made.0) each) (moved-since deep p q since place made.3, tt)
    ])

abbrev place_of : Shown → Place
place_of p = p.place

at-left : (ys bs : List Place) (k : ℕ) (a : Place) → slice_get ys k ≡ Some a → slice_get (ys ++ bs) k ≡ Some a
at-left [] bs k a h = cc
at-left (b ∷ ys) bs zero a h = h
at-left (b ∷ ys) bs (suc k) a h = at-left ys bs k a h

at-end : (ys : List Place) (a : Place) → slice_get (ys ++ a ∷ []) (length ys) ≡ Some a
at-end [] a = refl
at-end (b ∷ ys) a = at-end ys a

by-map : (ps : List Shown) (k : ℕ) → slice_get (map place_of ps) k ≡ place_at ps k
by-map ps k = slice_get-map place_of ps k

-- what stands at an index stays there where others come behind
pub kept-left : (ps qs : List Shown) (k : ℕ) (a : Place) → place_at ps k ≡ Some a → place_at (ps ++ qs) k ≡ Some a
kept-left ps qs k a h =
    sym (by-map (ps ++ qs) k)
    ∙ ap (λ (ys : List Place). slice_get ys k) (map-append place_of ps qs)
    ∙ at-left (map place_of ps) (map place_of qs) k a (by-map ps k ∙ h)

pub added-kept : (m : Seen) (deep : Deep) (x : LocalAction) (old rest new : List Shown) (p q : Shown) →
    TakenFor m deep x old rest p → q.place ≡ p.place → new ≡ rest ++ q ∷ [] → (k : ℕ) (a : Place) → place_at old k ≡ Some a →
    place_at new k ≡ Some a
added-kept m deep x old rest new p q taken place is k a h =
    elim taken [
      | inl last ↦
          let same : map place_of new ≡ map place_of old =
          ap (map place_of) is
          ∙ map-append place_of rest (q ∷ [])
          ∙ ap (λ (b : Place). map place_of rest ++ b ∷ []) place
          ∙ sym (ap (map place_of) last.0 ∙ map-append place_of rest (p ∷ [])) in
          sym (by-map new k) ∙ ap (λ (ys : List Place). slice_get ys k) same ∙ by-map old k ∙ h
      | inr made ↦
          subst (λ (ps : List Shown). place_at ps k ≡ Some a) (sym is)
          (kept-left rest (q ∷ []) k a (subst (λ (ps : List Shown). place_at ps k ≡ Some a) (sym made.0) h))
    ]

length-map : (ps : List Shown) → length (map place_of ps) ≡ length ps
length-map [] = refl
length-map (p ∷ ps) = ap suc (length-map ps)

pub added-last : (m : Seen) (deep : Deep) (x : LocalAction) (old rest new : List Shown) (p q : Shown) →
    TakenFor m deep x old rest p → q.place ≡ p.place → new ≡ rest ++ q ∷ [] → place_at new (length new - 1) ≡ Some x.place
added-last m deep x old rest new p q taken place is =
    let size : length new ≡ length (rest ++ q ∷ []) = ap (λ (ps : List Shown). length ps) is in
    let parts = length-append rest (q ∷ []) in
    let index : length new - 1 ≡ length (map place_of rest) = let same = length-map rest in omega arith in
    let own : p.place ≡ x.place = elim taken [ inl last ↦ last.1 | inr made ↦ ap (λ (s : Spot). s.place) made.2 ] in
    sym (by-map new (length new - 1))
    ∙ ap (λ (k : ℕ). slice_get (map place_of new) k) index
    ∙ ap (λ (ys : List Place). slice_get ys (length (map place_of rest))) (ap (map place_of) is ∙ map-append place_of rest (q ∷ []))
    ∙ at-end (map place_of rest) q.place
    ∙ ap (λ (b : Place). Some b) (place ∙ own)

-- ---- the actions so far

with-actions-more : (m : Seen) (spots : List Spot) (ps : List Partner) (n : ℕ) (xs : List LocalAction) (x : LocalAction) →
    with_sides m spots ps n (xs ++ x ∷ []) ≡ with_side m (with_sides m spots ps n xs) x (slice_get ps (n + length xs))
with-actions-more m spots ps n [] x =
    let at : n ≡ n + 0 = omega arith in ap (λ (k : ℕ). with_side m spots x (slice_get ps k)) at
with-actions-more m spots ps n (y ∷ xs) x =
    let next : List Spot = with_side m spots y (slice_get ps n) in
    let at : n + 1 + length xs ≡ n + suc (length xs) = omega arith in
    with-actions-more m next ps (n + 1) xs x
    ∙ ap (λ (k : ℕ). with_side m (with_sides m next ps (n + 1) xs) x (slice_get ps k)) at

places-more : (m : Seen) (spots : List Spot) (ps : List Partner) (n : ℕ) (xs : List LocalAction) (x : LocalAction) →
    places_of_sides m spots ps n (xs ++ x ∷ [])
    ≡ places_of_sides m spots ps n xs ++ (length (with_side m (with_sides m spots ps n xs) x (slice_get ps (n + length xs))) - 1) ∷ []
places-more m spots ps n [] x =
    let at : n ≡ n + 0 = omega arith in ap (λ (k : ℕ). (length (with_side m spots x (slice_get ps k)) - 1) ∷ []) at
places-more m spots ps n (y ∷ xs) x =
    let next : List Spot = with_side m spots y (slice_get ps n) in
    let at : n + 1 + length xs ≡ n + suc (length xs) = omega arith in
    ap (λ (ks : List ℕ). (length next - 1) ∷ ks)
    (places-more m next ps (n + 1) xs x
    ∙ ap
    (λ (k : ℕ). places_of_sides m next ps (n + 1) xs ++ (length (with_side m (with_sides m next ps (n + 1) xs) x (slice_get ps k)) - 1) ∷ [])
    at)

length-spots : (ps : List Shown) → length (map spot_of ps) ≡ length ps
length-spots [] = refl
length-spots (p ∷ ps) = ap suc (length-spots ps)

found-kept : (old new : List Shown) → ((k : ℕ) (a : Place) → place_at old k ≡ Some a → place_at new k ≡ Some a) → (found : List ℕ) (xs : List LocalAction) →
    map (place_at old) found ≡ map side_place xs → map (place_at new) found ≡ map side_place xs
found-kept old new keeps [] xs is = is
found-kept old new keeps (k ∷ found) [] is = cc
found-kept old new keeps (k ∷ found) (x ∷ xs) is =
    let here : place_at old k ≡ Some x.place = cc in
    let rest : map (place_at old) found ≡ map side_place xs = cc in
    let one = keeps k x.place here in
    let more = found-kept old new keeps found xs rest in
    ap (λ (a : Option Place). a ∷ map (place_at new) found) one ∙ ap (λ (ys : List (Option Place)). Some x.place ∷ ys) more

pub spots-none : (m : Seen) (deep : Deep) (ps : List Partner) → SpotsOf m deep ps [] [] []
spots-none m deep ps = record { spots = refl; since_told = tt; found_places = refl; found_is = refl }

pub spots-next : (m : Seen) (deep : Deep) (ps : List Partner) (actions : List LocalAction) (i : ℕ) (x : LocalAction) (partner : Option Partner)
    (old new : List Shown) (found upto : List ℕ) → i < length actions → x ≡ get_or actions i x → partner ≡ slice_get ps i →
    SpotsOf m deep ps (take i actions) old found → map spot_of new ≡ with_side m (map spot_of old) x partner →
    (Every (StandsSince deep) old → Every (StandsSince deep) new) →
    ((k : ℕ) (a : Place) → place_at old k ≡ Some a → place_at new k ≡ Some a) → place_at new (length new - 1) ≡ Some x.place →
    upto ≡ found ++ (length new - 1) ∷ [] → SpotsOf m deep ps (take (i + 1) actions) new upto
spots-next m deep ps actions i x partner old new found upto less here with_partner h spots told keeps last is =
    let next : take (i + 1) actions ≡ take i actions ++ x ∷ [] = one-more actions i x less here in
    let size : 0 + length (take i actions) ≡ i = let long = length-take-le i actions (let within : i ≤ length actions = omega arith in within) in omega arith in
    subst (λ (xs : List LocalAction). SpotsOf m deep ps xs new upto) (sym next)
    (record {
      spots =
          spots
          ∙ ap (λ (ss : List Spot). with_side m ss x partner) h.spots
          ∙ ap (λ (o : Option Partner). with_side m (with_sides m [] ps 0 (take i actions)) x o) (with_partner ∙ ap (λ (k : ℕ). slice_get ps k) (sym size))
          ∙ sym (with-actions-more m [] ps 0 (take i actions) x);
      since_told = told h.since_told;
      found_places =
          ap (map (place_at new)) is
          ∙ map-append (place_at new) found ((length new - 1) ∷ [])
          ∙ ap (λ (ys : List (Option Place)). ys ++ place_at new (length new - 1) ∷ []) (found-kept old new keeps found (take i actions) h.found_places)
          ∙ ap (λ (a : Option Place). map side_place (take i actions) ++ a ∷ []) last
          ∙ sym (map-append side_place (take i actions) (x ∷ []));
      found_is =
          let sides : map spot_of new ≡ with_side m (with_sides m [] ps 0 (take i actions)) x (slice_get ps (0 + length (take i actions))) =
          spots
          ∙ ap (λ (ss : List Spot). with_side m ss x partner) h.spots
          ∙ ap (λ (o : Option Partner). with_side m (with_sides m [] ps 0 (take i actions)) x o) (with_partner ∙ ap (λ (k : ℕ). slice_get ps k) (sym size)) in
          let long : length new ≡ length (with_side m (with_sides m [] ps 0 (take i actions)) x (slice_get ps (0 + length (take i actions)))) =
          sym (length-spots new) ∙ ap (λ (ss : List Spot). length ss) sides in
          is
          ∙ ap (λ (ks : List ℕ). ks ++ (length new - 1) ∷ []) h.found_is
          ∙ ap (λ (n : ℕ). places_of_sides m [] ps 0 (take i actions) ++ (n - 1) ∷ []) long
          ∙ sym (places-more m [] ps 0 (take i actions) x);
    })

-- ---- those of events that can be taken

pub adds-none : (deep : Deep) (ps : List Shown) → AddsSpots deep ps ps []
adds-none deep ps = record { more = []; joined = sym (append-nil ps); shown = refl; since_told = tt }

pub adds-one : (deep : Deep) (old new : List Shown) (p : Shown) (s : Spot) → new ≡ old ++ p ∷ [] → spot_of p ≡ s → StandsSince deep p →
    AddsSpots deep old new (s ∷ [])
adds-one deep old new p s is spot lies =
    record { more = p ∷ []; joined = is; shown = ap (λ (t : Spot). t ∷ []) spot; since_told = (lies, tt) }

pub adds-then : (deep : Deep) (old between new : List Shown) (ss ts : List Spot) → AddsSpots deep old between ss → AddsSpots deep between new ts →
    AddsSpots deep old new (ss ++ ts)
adds-then deep old between new ss ts one two = record {
  more = one.more ++ two.more;
  joined = two.joined ∙ ap (λ (ps : List Shown). ps ++ two.more) one.joined ∙ append_assoc old one.more two.more;
  shown = map-append spot_of one.more two.more ∙ ap (λ (k : List Spot). k ++ map spot_of two.more) one.shown ∙ ap (λ (k : List Spot). ss ++ k) two.shown;
  since_told = every-join (StandsSince deep) one.more two.more one.since_told two.since_told;
}

pub wants-more : (old new : List Wanted) (w : Wanted) (x : Want) → want_of w ≡ x → new ≡ old ++ w ∷ [] → map want_of new ≡ map want_of old ++ x ∷ []
wants-more old new w x same is =
    ap (map want_of) is ∙ map-append want_of old (w ∷ []) ∙ ap (λ (y : Want). map want_of old ++ y ∷ []) same

-- where an event before has the place, none is added
pub adds_met : (m : Seen) (deep : Deep) (before es given : List Event) (a : Place) (r : Role) (t : Bool) (old new : List Shown) →
    t ≡ is_met a given → given ≡ before → t ≡ true → new ≡ old → AddsSpots deep old new (spot_if_new m before es a r)
adds_met m deep before es given a r t old new told is on same =
    let met : is_met a before ≡ true = sym (told ∙ ap (λ (k : List Event). is_met a k) is) ∙ on in
    subst (λ (ps : List Shown). AddsSpots deep old ps (spot_if_new m before es a r)) (sym same)
    (subst (λ (b : Bool). AddsSpots deep old old (cond b [] (ready_spot m es a r ∷ []))) (sym met) (adds-none deep old))

-- and else one, on the channels of all that have it
pub adds_new : (m : Seen) (deep : Deep) (before es given rest : List Event) (a : Place) (r : Role) (t : Bool) (old new : List Shown) (p : Shown) (ws : List Wanted) →
    t ≡ is_met a given → given ≡ before → t ≡ false → map want_of ws ≡ flat_map (channel_at a) rest → rest ≡ es →
    spot_of p ≡ made_spot m a r (map want_of ws) true → StandsSince deep p → new ≡ old ++ p ∷ [] → AddsSpots deep old new (spot_if_new m before es a r)
adds_new m deep before es given rest a r t old new p ws told is off wanted all made lies more =
    let met : is_met a before ≡ false = sym (told ∙ ap (λ (k : List Event). is_met a k) is) ∙ off in
    let on : map want_of ws ≡ flat_map (channel_at a) es = wanted ∙ ap (λ (k : List Event). flat_map (channel_at a) k) all in
    subst (λ (b : Bool). AddsSpots deep old new (cond b [] (ready_spot m es a r ∷ []))) (sym met)
    (adds-one deep old new p (ready_spot m es a r) more (made ∙ ap (λ (w : List Want). made_spot m a r w true) on) lies)

pub event-one : (m : Seen) (deep : Deep) (before es : List Event) (e : Event) (r : Role) (old new : List Shown) → e.second ≡ None → r ≡ first_role e.kind e.value →
    AddsSpots deep old new (spot_if_new m before es e.first r) → AddsSpots deep old new (event_spots m before es e)
event-one m deep before es e r old new none role one =
    subst (λ (o : Option Place). AddsSpots deep old new (spot_if_new m before es e.first (first_role e.kind e.value) ++ second_spots m before es e o)) (sym none)
    (subst (λ (k : List Spot). AddsSpots deep old new k) (sym (append-nil (spot_if_new m before es e.first (first_role e.kind e.value))))
    (subst (λ (q : Role). AddsSpots deep old new (spot_if_new m before es e.first q)) role one))

pub event-two : (m : Seen) (deep : Deep) (before es : List Event) (e : Event) (b : Place) (r q : Role) (old between new : List Shown) → e.second ≡ Some b →
    r ≡ first_role e.kind e.value → q ≡ second_role e.kind → AddsSpots deep old between (spot_if_new m before es e.first r) →
    AddsSpots deep between new (spot_if_new m before es b q) → AddsSpots deep old new (event_spots m before es e)
event-two m deep before es e b r q old between new some role other one two =
    subst (λ (o : Option Place). AddsSpots deep old new (spot_if_new m before es e.first (first_role e.kind e.value) ++ second_spots m before es e o)) (sym some)
    (adds-then deep old between new (spot_if_new m before es e.first (first_role e.kind e.value)) (spot_if_new m before es b (second_role e.kind))
    (subst (λ (w : Role). AddsSpots deep old between (spot_if_new m before es e.first w)) role one)
    (subst (λ (w : Role). AddsSpots deep between new (spot_if_new m before es b w)) other two))

pub ready-none : (m : Seen) (deep : Deep) (es : List Event) (old : List Shown) → AddsSoFar m deep es 0 old old
ready-none m deep es old = record { done = []; adds = adds-none deep old; rest = refl }

pub ready-next : (m : Seen) (deep : Deep) (es : List Event) (i : ℕ) (e : Event) (old between new : List Shown) → i < length es → e ≡ get_or es i e →
    AddsSoFar m deep es i old between → AddsSpots deep between new (event_spots m (take i es) (drop i es) e) → AddsSoFar m deep es (i + 1) old new
ready-next m deep es i e old between new less here so_far one =
    let left : List Event = drop (i + 1) es in
    let next : take (i + 1) es ≡ take i es ++ e ∷ [] = one-more es i e less here in
    let parts : drop i es ≡ e ∷ left = drop_more es i e less ∙ ap (λ (x : Event). x ∷ left) (sym here) in
    let step : event_spots m (take i es) (drop i es) e ++ spots_behind m (take (i + 1) es) left ≡ spots_behind m (take i es) (drop i es) =
    ap (λ (k : List Event). event_spots m (take i es) (drop i es) e ++ spots_behind m k left) next
    ∙ ap (λ (k : List Event). event_spots m (take i es) k e ++ spots_behind m (take i es ++ e ∷ []) left) parts
    ∙ sym (ap (λ (k : List Event). spots_behind m (take i es) k) parts) in
    record {
      done = so_far.done ++ event_spots m (take i es) (drop i es) e;
      adds = adds-then deep old between new so_far.done (event_spots m (take i es) (drop i es) e) so_far.adds one;
      rest =
          append_assoc so_far.done (event_spots m (take i es) (drop i es) e) (spots_behind m (take (i + 1) es) left)
          ∙ ap (λ (k : List Spot). so_far.done ++ k) step
          ∙ so_far.rest;
    }

pub ready-all : (m : Seen) (deep : Deep) (es : List Event) (i : ℕ) (old new : List Shown) → length es ≤ i →
    AddsSoFar m deep es i old new → AddsSpots deep old new (ready_spots m es)
ready-all m deep es i old new past h =
    let none : drop i es ≡ [] = drop_all i es past in
    let all : h.done ≡ ready_spots m es =
    sym (append-nil h.done) ∙ sym (ap (λ (k : List Event). h.done ++ spots_behind m (take i es) k) none) ∙ h.rest in
    subst (λ (k : List Spot). AddsSpots deep old new k) all h.adds

-- ---- all of them

pub spots-all : (m : Seen) (deep : Deep) (ps : List Partner) (actions : List LocalAction) (i : ℕ) (places : List Shown) (found : List ℕ) →
    length actions ≤ i → SpotsOf m deep ps (take i actions) places found → SpotsOf m deep ps actions places found
spots-all m deep ps actions i places found past h = subst (λ (xs : List LocalAction). SpotsOf m deep ps xs places found) (take-all actions i past) h

pub all-spots : (m : Seen) (deep : Deep) (ps : List Partner) (actions : List LocalAction) (old new : List Shown) (found : List ℕ) (ss : List Spot) →
    SpotsOf m deep ps actions old found → AddsSpots deep old new ss → map spot_of new ≡ with_sides m [] ps 0 actions ++ ss
all-spots m deep ps actions old new found ss h more =
    ap (map spot_of) more.joined
    ∙ map-append spot_of old more.more
    ∙ ap (λ (k : List Spot). k ++ map spot_of more.more) h.spots
    ∙ ap (λ (k : List Spot). with_sides m [] ps 0 actions ++ k) more.shown

pub all-since : (m : Seen) (deep : Deep) (ps : List Partner) (actions : List LocalAction) (old new : List Shown) (found : List ℕ) (ss : List Spot) →
    SpotsOf m deep ps actions old found → AddsSpots deep old new ss → Every (StandsSince deep) new
all-since m deep ps actions old new found ss h more =
    subst (Every (StandsSince deep)) (sym more.joined) (every-join (StandsSince deep) old more.more h.since_told more.since_told)

-- ---- a ring

abbrev look : List ℕ → ℕ → List ℕ
look found i = option_to_list (slice_get found i)

-- the index of the place of an action
place-found : (places : List Shown) (found : List ℕ) (actions : List LocalAction) (i : ℕ) (a : Place) → map (place_at places) found ≡ map side_place actions →
    option_map (λ (x : LocalAction). x.place) (slice_get actions i) ≡ Some a → (k : ℕ) × (slice_get found i ≡ Some k) × (place_at places k ≡ Some a)
place-found places [] [] i a is h = cc
place-found places [] (x ∷ actions) i a is h = cc
place-found places (k ∷ found) [] i a is h = cc
place-found places (k ∷ found) (x ∷ actions) zero a is h = let here : place_at places k ≡ Some x.place = cc in (k, refl, here ∙ h)
place-found places (k ∷ found) (x ∷ actions) (suc i) a is h =
    let rest : map (place_at places) found ≡ map side_place actions = cc in place-found places found actions i a rest h

ring-rest : (places : List Shown) (found : List ℕ) (actions : List LocalAction) (is : List ℕ) (ring : List Place) →
    map (place_at places) found ≡ map side_place actions → places_at actions is ≡ map (λ (a : Place). Some a) ring →
    map (place_at places) (flat_map (look found) is) ≡ map (λ (a : Place). Some a) ring
ring-rest places found actions [] ring told h = h
ring-rest places found actions (i ∷ is) [] told h = cc
ring-rest places found actions (i ∷ is) (a ∷ ring) told h =
    let here : option_map (λ (x : LocalAction). x.place) (slice_get actions i) ≡ Some a = cc in
    let rest : places_at actions is ≡ map (λ (b : Place). Some b) ring = cc in
    let one = place-found places found actions i a told here in
    ap (λ (o : Option ℕ). map (place_at places) (option_to_list o ++ flat_map (look found) is)) one.1
    ∙ ap (λ (o : Option Place). o ∷ map (place_at places) (flat_map (look found) is)) one.2
    ∙ ap (λ (os : List (Option Place)). Some a ∷ os) (ring-rest places found actions is ring told rest)

ring-first : (m : AtMachine) (S : State) (places : List Shown) (found : List ℕ) (actions : List LocalAction) (i : ℕ) (is : List ℕ) →
    map (place_at places) found ≡ map side_place actions → NamesRing m S actions (i ∷ is) → (ring : List Place) →
    places_at actions (i ∷ is) ≡ map (λ (a : Place). Some a) ring → (k : ℕ) × (flat_map (look found) (i ∷ is) ≡ k ∷ flat_map (look found) is)
ring-first m S places found actions i is told h [] at = cc
ring-first m S places found actions i is told h (a ∷ ring) at =
    let here : option_map (λ (x : LocalAction). x.place) (slice_get actions i) ≡ Some a = cc in
    let one = place-found places found actions i a told here in
    (one.0, ap (λ (o : Option ℕ). option_to_list o ++ flat_map (look found) is) one.1)

pub ring-shown : (m : AtMachine) (S : State) (places : List Shown) (found : List ℕ) (actions : List LocalAction) (is ring : List ℕ) →
    map (place_at places) found ≡ map side_place actions → NamesRing m S actions is → ring ≡ flat_map (look found) is → ShowsRing m S places ring
ring-shown m S places found actions [] ring told h made = subst (ShowsRing m S places) (sym made) h
ring-shown m S places found actions (i ∷ is) ring told h made =
    let first = ring-first m S places found actions i is told h h.0 h.1 in
    let all : map (place_at places) (flat_map (look found) (i ∷ is)) ≡ map (λ (a : Place). Some a) h.0 = ring-rest places found actions (i ∷ is) h.0 told h.1 in
    let all_first : map (place_at places) (first.0 ∷ flat_map (look found) is) ≡ map (λ (a : Place). Some a) h.0 =
    ap (map (place_at places)) (sym first.1) ∙ all in
    subst (ShowsRing m S places) (sym (made ∙ first.1)) (h.0, all_first, h.2, h.3)

pub all-found : (m : Seen) (deep : Deep) (ps : List Partner) (actions : List LocalAction) (old new : List Shown) (found : List ℕ) (ss : List Spot) →
    SpotsOf m deep ps actions old found → AddsSpots deep old new ss → map (place_at new) found ≡ map side_place actions
all-found m deep ps actions old new found ss h more =
    found-kept old new
    (λ k a at. subst (λ (qs : List Shown). place_at qs k ≡ Some a) (sym more.joined) (kept-left old more.more k a at)) found actions h.found_places

-- ---- the last place

-- of a list with one more the last is nothing where it is empty
pub none-last : (old new : List Shown) (a : Place) → old ≡ [] → (front : List Shown) (q : Shown) → old ≡ front ++ q ∷ [] → q.place ≡ a → ⊥
none-last old new a none [] q is at = let h : [] ≡ q ∷ [] = sym none ∙ is in absurd (no-cons q [] h)
  where
    no-cons : (p : Shown) (ps : List Shown) → [] ≡ p ∷ ps → ⊥
    no-cons p ps e = cc
none-last old new a none (p ∷ front) q is at = let h : [] ≡ p ∷ (front ++ q ∷ []) = sym none ∙ is in absurd (no-cons p (front ++ q ∷ []) h)
  where
    no-cons : (p : Shown) (ps : List Shown) → [] ≡ p ∷ ps → ⊥
    no-cons p ps e = cc

last-one : (front other : List Shown) (p q : Shown) → front ++ p ∷ [] ≡ other ++ q ∷ [] → p ≡ q
last-one [] [] p q is = cc
last-one [] (x ∷ []) p q is = cc
last-one [] (x ∷ y ∷ other) p q is = cc
last-one (x ∷ []) [] p q is = cc
last-one (x ∷ y ∷ front) [] p q is = cc
last-one (x ∷ front) (y ∷ other) p q is = let rest : front ++ p ∷ [] ≡ other ++ q ∷ [] = cc in last-one front other p q rest

-- the last is no other
pub other-last : (old rest : List Shown) (p : Shown) (a : Place) → old ≡ rest ++ p ∷ [] → (p.place ≡ a → ⊥) → (front : List Shown) (q : Shown) →
    old ≡ front ++ q ∷ [] → q.place ≡ a → ⊥
other-last old rest p a is not front q same at =
    let one : p ≡ q = last-one rest front p q (sym is ∙ same) in not (ap (λ (x : Shown). x.place) one ∙ at)

-- ---- the place of an action

pub taken_last : (m : Seen) (deep : Deep) (x : LocalAction) (old new : List Shown) (p : Shown) → old ≡ new ++ p ∷ [] → p.place ≡ x.place →
    TakenFor m deep x old new p
taken_last m deep x old new p is at = inl (is, at)

pub taken_first : (m : Seen) (deep : Deep) (x : LocalAction) (old new : List Shown) (p : Shown) → old ≡ [] → new ≡ old →
    spot_of p ≡ spot_at m x.place (role_of x.action) → StandsSince deep p → TakenFor m deep x old new p
taken_first m deep x old new p none same spot lies = inr (same, none-last old new x.place none, spot, lies)

pub taken_behind : (m : Seen) (deep : Deep) (x : LocalAction) (old rest new : List Shown) (q p : Shown) → old ≡ rest ++ q ∷ [] →
    (q.place ≡ x.place → ⊥) → new ≡ rest ++ q ∷ [] → spot_of p ≡ spot_at m x.place (role_of x.action) → StandsSince deep p → TakenFor m deep x old new p
taken_behind m deep x old rest new q p is not back spot lies = inr (back ∙ sym is, other-last old rest q x.place is not, spot, lies)
