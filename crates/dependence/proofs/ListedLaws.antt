-- The live events of what is kept at places: which stands where, and what an edit of one place leaves.
use Rattle.std.proofs.Common.{◌≡◌, inl, inr, ℕ, zero, suc, ◌+◌, ◌-◌, ◌*◌, ◌<◌, ◌≤◌, List, [], ◌∷◌, ◌++◌, length, map, drop, take, Option, Some, None, refl, sym, ◌∙◌, ap, subst, arith, length-append, Bool, true, false}
use Rattle.std.specs.Prelude.{slice_get, slice_set, nat_lt, if◌then◌else◌}
use Rattle.std.specs.List.{remove}
use Rattle.indexmap.specs.IndexMap.{set_value_at}
use Rattle.std.proofs.lemmas.Option.{slice_get_within}
use Rattle.syntax.specs.Lists.{In}
use Rattle.slots.specs.Places.{Places, put_before, filled, rank, RiseFrom, IsOf, NoneOf}
use Rattle.slots.specs.Places.{EndsFilled, Counted}
use Rattle.std.specs.Map.{values_of}
use Rattle.slots.proofs.public.PlaceLaws.{add_here, rank-cons, rank-next, rank-whole, filled-at, filled-append, filled-changed, filled-taken, rise-set, rise-more, length-edited, value-is, none-some, some-is}
use Rattle.slots.proofs.public.CountLaws.{counted-changed}
use Rattle.std.proofs.lemmas.List.{map-append, length-map}
use Rattle.runs.specs.Live.{Live, Rising, LiveAt, NoneAt, IsLive}
use Rattle.runs.specs.declared.event.Event.{Event}
use Rattle.std.proofs.lemmas.Bool.{cases_lt}
use Rattle.dependence.specs.Shown.{tickets_marked}
use Rattle.dependence.proofs.public.ListPlaces.{at-within, drop-next, drop-all}
use Rattle.dependence.specs.declared.kept.Kept.{Kept}
use Rattle.dependence.specs.declared.links.Links.{Links}
use Rattle.dependence.specs.internal.Listed.{Listed, IsListed, events_kept, links_kept, room_in, LinksOf, SameLive}
use Rattle.dependence.specs.internal.Tables.{FollowersChanged}

pub get-map : {X Y : Type 0} (f : X → Y) (xs : List X) (i : ℕ) (x : X) → slice_get xs i ≡ Some x → slice_get (map f xs) i ≡ Some (f x)
get-map f [] i x h = none-some x h
get-map f (y ∷ xs) zero x h = ap (λ o. Some (f o)) (some-is y x h)
get-map f (y ∷ xs) (suc i) x h = get-map f xs i x h

pub got-map : {X Y : Type 0} (f : X → Y) (xs : List X) (i : ℕ) → i < length xs → (x : X) × (slice_get xs i ≡ Some x) × (slice_get (map f xs) i ≡ Some (f x))
got-map f [] i h = absurd (omega arith)
got-map f (x ∷ xs) zero h = (x, refl, refl)
got-map f (x ∷ xs) (suc i) h = let less : i < length xs = omega arith in got-map f xs i less

pub in-map : {X Y : Type 0} (f : X → Y) (xs : List X) (y : Y) → In y (map f xs) → (x : X) × In x xs × (y ≡ f x)
in-map f [] y i = absurd i
in-map f (x ∷ xs) y i = elim i [
  | inl is ↦ (x, inl refl, is)
  | inr later ↦ let rest = in-map f xs y later in (rest.0, inr rest.1, rest.2)
]

pub map-removed : {X Y : Type 0} (f : X → Y) (xs : List X) (i : ℕ) → map f (remove xs i) ≡ remove (map f xs) i
map-removed f [] zero = refl
map-removed f [] (suc i) = refl
map-removed f (x ∷ xs) zero = refl
map-removed f (x ∷ xs) (suc i) = ap (λ k. f x ∷ k) (map-removed f xs i)

pub map-written : {X Y : Type 0} (f : X → Y) (xs : List X) (i : ℕ) (v : X) → map f (slice_set xs i v) ≡ slice_set (map f xs) i (f v)
map-written f [] i v = refl
map-written f (x ∷ xs) zero v = refl
map-written f (x ∷ xs) (suc i) v = ap (λ k. f x ∷ k) (map-written f xs i v)

-- what stands there already changes nothing
pub written-same : {X : Type 0} (xs : List X) (i : ℕ) (x : X) → slice_get xs i ≡ Some x → slice_set xs i x ≡ xs
written-same [] i x h = refl
written-same (y ∷ xs) zero x h = ap (λ z. z ∷ xs) (sym (some-is y x h))
written-same (y ∷ xs) (suc i) x h = ap (λ k. y ∷ k) (written-same xs i x h)

-- ---- where a ticket stands
pub stands-at : (ps : Places Kept) (t place : ℕ) (k : Kept) → slice_get ps place ≡ Some (t, Some k) → slice_get (events_kept (filled ps)) (rank ps place) ≡ Some (t, k.event)
stands-at ps t place k at = get-map (λ (x : ℕ × Kept). (x.0, x.1.event)) (filled ps) (rank ps place) (t, k) (filled-at ps place t k at)

pub links-stand : (ps : Places Kept) (t place : ℕ) (k : Kept) → slice_get ps place ≡ Some (t, Some k) → slice_get (links_kept (filled ps)) (rank ps place) ≡ Some k.links
links-stand ps t place k at = get-map (λ (x : ℕ × Kept). x.1.links) (filled ps) (rank ps place) (t, k) (filled-at ps place t k at)

pub none-kept : (ps : Places Kept) (t : ℕ) → NoneOf ps t → NoneAt (events_kept (filled ps)) t
none-kept ps t none e i =
    let found = in-map (λ (x : ℕ × Kept). (x.0, x.1.event)) (filled ps) (t, e) i in
    let same : t ≡ found.0.0 = ap (λ (x : ℕ × Event). x.0) found.2 in
    none found.0.1 (subst (λ (u : ℕ). In (u, found.0.1) (filled ps)) (sym same) found.1)

pub live-some : (ps : Places Kept) (t : ℕ) → IsLive (events_kept (filled ps)) t → NoneOf ps t → ⊥
live-some ps t live none = none-kept ps t none live.0 live.1

-- ---- the order of tickets
lower : (a b c : ℕ) (l : Live) → a ≤ b → Rising b l c → Rising a l c
lower a b c [] h r = omega arith
lower a b c (x ∷ l) h r = let first = r.0 in (omega arith, r.1)

pub rising-kept : (low high : ℕ) (ps : Places Kept) → RiseFrom low ps → ((t : ℕ) (o : Option Kept) → In (t, o) ps → t < high) → low ≤ high → Rising low (events_kept (filled ps)) high
rising-kept low high [] r below le = le
rising-kept low high (p ∷ ps) r below le = by p.0 p.1 r.0 (below p.0 p.1 (inl refl)) (λ le2. rising-kept (suc p.0) high ps r.1 (λ t o i. below t o (inr i)) le2)
  where
    by : (t : ℕ) (o : Option Kept) → low ≤ t → t < high → (suc t ≤ high → Rising (suc t) (events_kept (filled ps)) high) → Rising low (events_kept (put_before t o (filled ps))) high
    by t None first last rest = lower low (suc t) high (events_kept (filled ps)) (omega arith) (rest (omega arith))
    by t (Some k) first last rest = (first, rest (omega arith))

-- ---- an edit of the links at one place
pub live-changed : (ps : Places Kept) (place t : ℕ) (k m : Kept) → slice_get ps place ≡ Some (t, Some k) → m.event ≡ k.event →
    events_kept (filled (set_value_at ps place (Some m))) ≡ events_kept (filled ps)
live-changed ps place t k m at same =
    let f : ℕ × Kept → ℕ × Event = λ x. (x.0, x.1.event) in
    ap events_kept (filled-changed ps place t k m at) ∙ map-written f (filled ps) (rank ps place) (t, m)
    ∙ ap (λ (e : Event). slice_set (events_kept (filled ps)) (rank ps place) (t, e)) same
    ∙ written-same (events_kept (filled ps)) (rank ps place) (t, k.event) (stands-at ps t place k at)

pub links-changed : (ps : Places Kept) (place t : ℕ) (k m : Kept) → slice_get ps place ≡ Some (t, Some k) →
    links_kept (filled (set_value_at ps place (Some m))) ≡ slice_set (links_kept (filled ps)) (rank ps place) m.links
links-changed ps place t k m at =
    ap links_kept (filled-changed ps place t k m at) ∙ map-written (λ (x : ℕ × Kept). x.1.links) (filled ps) (rank ps place) (t, m)

-- one event less
pub live-taken : (ps : Places Kept) (place t : ℕ) (k : Kept) → slice_get ps place ≡ Some (t, Some k) →
    events_kept (filled (set_value_at ps place None)) ≡ remove (events_kept (filled ps)) (rank ps place)
live-taken ps place t k at = ap events_kept (filled-taken ps place t k at) ∙ map-removed (λ (x : ℕ × Kept). (x.0, x.1.event)) (filled ps) (rank ps place)

pub links-taken : (ps : Places Kept) (place t : ℕ) (k : Kept) → slice_get ps place ≡ Some (t, Some k) →
    links_kept (filled (set_value_at ps place None)) ≡ remove (links_kept (filled ps)) (rank ps place)
links-taken ps place t k at = ap links_kept (filled-taken ps place t k at) ∙ map-removed (λ (x : ℕ × Kept). x.1.links) (filled ps) (rank ps place)

pub links-pushed : (ps : Places Kept) (t : ℕ) (k : Kept) → links_kept (filled (ps ++ (t, Some k) ∷ [])) ≡ links_kept (filled ps) ++ k.links ∷ []
links-pushed ps t k = ap links_kept (filled-append ps ((t, Some k) ∷ [])) ∙ map-append (λ (x : ℕ × Kept). x.1.links) (filled ps) ((t, k) ∷ [])

pub live-pushed : (ps : Places Kept) (t : ℕ) (k : Kept) → events_kept (filled (ps ++ (t, Some k) ∷ [])) ≡ events_kept (filled ps) ++ (t, k.event) ∷ []
live-pushed ps t k = ap events_kept (filled-append ps ((t, Some k) ∷ [])) ∙ map-append (λ (x : ℕ × Kept). (x.0, x.1.event)) (filled ps) ((t, k) ∷ [])

-- ---- what holds at every moment
pub held-at : (ps : Places Kept) (place t : ℕ) (x k : Kept) (o : Option Kept) → slice_get ps place ≡ Some (t, Some x) → slice_get (values_of ps) place ≡ Some o → o ≡ Some k →
    slice_get ps place ≡ Some (t, Some k)
held-at ps place t x k o at value is = at ∙ ap (λ (q : Option Kept). Some (t, q)) (sym (value-is ps place t x o at value) ∙ is)

edited-none : (ps : Places Kept) (i j t : ℕ) (m : Kept) → slice_get (set_value_at ps i (Some m)) j ≡ Some (t, None) → slice_get ps j ≡ Some (t, None)
edited-none [] i j t m h = h
edited-none (p ∷ ps) zero zero t m h = none-some m (sym (ap (λ (q : ℕ × Option Kept). q.1) (some-is (p.0, Some m) (t, None) h)))
edited-none (p ∷ ps) zero (suc j) t m h = h
edited-none (p ∷ ps) (suc i) zero t m h = h
edited-none (p ∷ ps) (suc i) (suc j) t m h = edited-none ps i j t m h

length-written : {X : Type 0} (xs : List X) (i : ℕ) (v : X) → length (slice_set xs i v) ≡ length xs
length-written [] i v = refl
length-written (x ∷ xs) zero v = refl
length-written (x ∷ xs) (suc i) v = ap suc (length-written xs i v)

pub listed-changed : (ps : Places Kept) (counts : List ℕ) (n place t : ℕ) (k m : Kept) → slice_get ps place ≡ Some (t, Some k) → IsListed ps counts n →
    IsListed (set_value_at ps place (Some m)) counts n
listed-changed ps counts n place t k m at h = record {
  rising = rise-set 0 ps place (Some m) h.rising;
  counted = counted-changed ps counts place t k m at h.counted;
  count = h.count ∙ sym (ap length (filled-changed ps place t k m at) ∙ length-written (filled ps) (rank ps place) (t, m));
  last = λ j u up none. h.last j u (up ∙ length-edited ps place (Some m)) (edited-none ps place j u m none);
}

pub room-changed : (ps : Places Kept) (spare blocks place : ℕ) (o : Option Kept) → room_in (set_value_at ps place o) spare blocks ≡ room_in ps spare blocks
room-changed ps spare blocks place o = ap (λ (n : ℕ). if nat_lt n (64 * blocks) then spare else 0) (length-edited ps place o)

-- the followers at one place are changed, and nothing else
pub changed-kept : (ps : Places Kept) (place t : ℕ) (k m : Kept) (change : List ℕ → List ℕ → Type 0) → slice_get ps place ≡ Some (t, Some k) →
    change k.links.followers.items m.links.followers.items → m.links.leads.items ≡ k.links.leads.items →
    FollowersChanged (events_kept (filled ps)) t change (links_kept (filled ps)) (links_kept (filled (set_value_at ps place (Some m))))
changed-kept ps place t k m change at followers leads = record {
  index = rank ps place;
  event = k.event;
  before = k.links;
  after = m.links;
  stands = stands-at ps t place k at;
  was = links-stand ps t place k at;
  is = links-changed ps place t k m at;
  followers = followers;
  leads = leads;
}

-- ---- from a place on
drop-put : (t : ℕ) (o : Option Kept) (rest : List (ℕ × Kept)) (n : ℕ) → drop (add_here o n) (put_before t o rest) ≡ drop n rest
drop-put t None rest n = refl
drop-put t (Some k) rest n = refl

filled-drop : (ps : Places Kept) (i : ℕ) → filled (drop i ps) ≡ drop (rank ps i) (filled ps)
filled-drop [] zero = refl
filled-drop [] (suc i) = refl
filled-drop (p ∷ ps) zero = refl
filled-drop (p ∷ ps) (suc i) =
    filled-drop ps i ∙ sym (drop-put p.0 p.1 (filled ps) (rank ps i)) ∙ ap (λ (n : ℕ). drop n (put_before p.0 p.1 (filled ps))) (sym (rank-cons p ps i))

map-drop : {X Y : Type 0} (f : X → Y) (xs : List X) (n : ℕ) → map f (drop n xs) ≡ drop n (map f xs)
map-drop f xs zero = refl
map-drop f [] (suc n) = refl
map-drop f (x ∷ xs) (suc n) = map-drop f xs n

pub live-from-place : (ps : Places Kept) (place : ℕ) → events_kept (filled (drop place ps)) ≡ drop (rank ps place) (events_kept (filled ps))
live-from-place ps place = ap events_kept (filled-drop ps place) ∙ map-drop (λ (x : ℕ × Kept). (x.0, x.1.event)) (filled ps) (rank ps place)

-- ---- behind the last
ends-rest : (p : ℕ × Option Kept) (ps : Places Kept) → EndsFilled (p ∷ ps) → EndsFilled ps
ends-rest p ps h = λ place t up at. h (suc place) t (ap suc up) at

pub places-below : (low high : ℕ) (ps : Places Kept) → RiseFrom low ps → EndsFilled ps → ((t : ℕ) (k : Kept) → In (t, k) (filled ps) → t < high) →
    (t : ℕ) (o : Option Kept) → In (t, o) ps → t < high
places-below low high [] r ends below t o i = absurd i
places-below low high (p ∷ []) r ends below t o i = one p.0 p.1 (λ u e. ends 0 u refl e) (λ k j. below p.0 k j) (elim i [ inl is ↦ ap (λ (q : ℕ × _). q.0) is | inr none ↦ absurd none ])
  where
    one : (u : ℕ) (b : Option Kept) → ((v : ℕ) → ◌≡◌ {A = Option (ℕ × Option Kept)} (Some (u, b)) (Some (v, None)) → ⊥) → ((k : Kept) → In (u, k) (put_before u b []) → u < high) → t ≡ u → t < high
    one u None ends_here below_here is = absurd (ends_here u refl)
    one u (Some k) ends_here below_here is = let less : u < high = below_here k (inl refl) in omega arith
places-below low high (p ∷ (q ∷ ps)) r ends below t o i =
    let rest = places-below (suc p.0) high (q ∷ ps) r.1 (ends-rest p (q ∷ ps) ends) (λ u k j. below u k (behind p.0 p.1 u k j)) in
    elim i [
      | inl is ↦
          let same : t ≡ p.0 = ap (λ (z : ℕ × _). z.0) is in
          let next : q.0 < high = rest q.0 q.1 (inl refl) in
          let up : suc p.0 ≤ q.0 = r.1.0 in
          omega arith
      | inr later ↦ rest t o later
    ]
  where
    behind : (v : ℕ) (b : Option Kept) (u : ℕ) (k : Kept) → In (u, k) (filled (q ∷ ps)) → In (u, k) (put_before v b (filled (q ∷ ps)))
    behind v None u k j = j
    behind v (Some m) u k j = inr j

-- the tickets of what is kept are those of live events
pub live-kept : (ps : Places Kept) (t : ℕ) (k : Kept) → In (t, k) (filled ps) → LiveAt (events_kept (filled ps)) t k.event
live-kept ps t k i = into (filled ps) i
  where
    into : (ks : List (ℕ × Kept)) → In (t, k) ks → LiveAt (events_kept ks) t k.event
    into [] i = absurd i
    into (x ∷ ks) i = elim i [ inl is ↦ inl (ap (λ (z : ℕ × Kept). (z.0, z.1.event)) is) | inr later ↦ inr (into ks later) ]

ends-pushed : (ps : Places Kept) (t : ℕ) (k : Kept) → EndsFilled (ps ++ (t, Some k) ∷ [])
ends-pushed [] t k = λ place u up at. first place u up at
  where
    first : (place u : ℕ) → suc place ≡ 1 → slice_get {X = ℕ × Option Kept} ((t, Some k) ∷ []) place ≡ Some (u, None) → ⊥
    first zero u up at = none-some k (sym (ap (λ (q : ℕ × Option Kept). q.1) (some-is (t, Some k) (u, None) at)))
    first (suc place) u up at = absurd (omega arith)
ends-pushed (p ∷ ps) t k = λ place u up at. behind (ends-pushed ps t k) place u up at
  where
    behind : EndsFilled (ps ++ (t, Some k) ∷ []) → (place u : ℕ) → suc place ≡ suc (length (ps ++ (t, Some k) ∷ [])) →
        slice_get {X = ℕ × Option Kept} (p ∷ (ps ++ (t, Some k) ∷ [])) place ≡ Some (u, None) → ⊥
    behind rest zero u up at = let size = length-append ps ((t, Some k) ∷ []) in absurd (omega arith)
    behind rest (suc place) u up at = let less : suc place ≡ length (ps ++ (t, Some k) ∷ []) = omega arith in rest place u less at

pub listed-pushed : (ps new : Places Kept) (old counts : List ℕ) (n t : ℕ) (k : Kept) → new ≡ ps ++ (t, Some k) ∷ [] → ((u : ℕ) (o : Option Kept) → In (u, o) ps → u < t) →
    IsListed ps old n → Counted new counts → IsListed new counts (n + 1)
listed-pushed ps new old counts n t k is above h counted = record {
  rising = subst (λ (qs : Places Kept). RiseFrom 0 qs) (sym is) (rise-more 0 ps t (Some k) h.rising above (omega arith));
  counted = counted;
  count =
      let all = ap (λ (qs : Places Kept). length (filled qs)) is in
      let more = ap length (filled-append ps ((t, Some k) ∷ [])) in
      let size : length (filled ps ++ (t, k) ∷ []) ≡ length (filled ps) + 1 = length-append (filled ps) ((t, k) ∷ []) in
      let was = h.count in
      omega arith;
  last = subst (λ (qs : Places Kept). EndsFilled qs) (sym is) (ends-pushed ps t k);
}

pub length-removed : {X : Type 0} (xs : List X) (i : ℕ) → i < length xs → suc (length (remove xs i)) ≡ length xs
length-removed [] i h = absurd (omega arith)
length-removed (x ∷ xs) zero h = refl
length-removed (x ∷ xs) (suc i) h = let less : i < length xs = omega arith in ap suc (length-removed xs i less)

-- one less of those that are counted
pub count-less : (ps : Places Kept) (n place t : ℕ) (k : Kept) (left : List (ℕ × Kept)) → slice_get ps place ≡ Some (t, Some k) → n ≡ length (filled ps) →
    left ≡ remove (filled ps) (rank ps place) → n - 1 ≡ length left
count-less ps n place t k left at count is =
    let less = slice_get_within (filled ps) (rank ps place) (t, k) (filled-at ps place t k at) in
    let size = length-removed (filled ps) (rank ps place) less in
    let same = ap length is in
    omega arith

-- what the last place has is the last event
pub last-kept : (ps : Places Kept) (i t : ℕ) (k : Kept) → suc i ≡ length ps → slice_get ps i ≡ Some (t, Some k) →
    slice_get (events_kept (filled ps)) (length (events_kept (filled ps)) - 1) ≡ Some (t, k.event)
last-kept ps i t k last at =
    let next : rank ps (suc i) ≡ suc (rank ps i) = rank-next ps i (t, Some k) at in
    let all = rank-whole ps (suc i) (omega arith) in
    let size : length (events_kept (filled ps)) ≡ length (filled ps) = length-map (filled ps) (λ (x : ℕ × Kept). (x.0, x.1.event)) in
    let index : length (events_kept (filled ps)) - 1 ≡ rank ps i = omega arith in
    ap (slice_get (events_kept (filled ps))) index ∙ stands-at ps t i k at

pub same-self : (s : Listed) → SameLive s s
same-self s = record { live = refl; room = refl }

pub same-then : (a b c : Listed) → SameLive a b → SameLive b c → SameLive a c
same-then a b c one two = record { live = two.live ∙ one.live; room = two.room ∙ one.room }

-- ---- the marked tickets from an index on
pub tickets-none : (l : Live) (marks : List Bool) → marks ≡ [] → tickets_marked l marks ≡ []
tickets-none [] marks is = refl
tickets-none (x ∷ l) marks is = ap (tickets_marked (x ∷ l)) is

pub tickets-on : (l : Live) (marks : List Bool) (i : ℕ) (x : ℕ × Event) → slice_get l i ≡ Some x → slice_get marks i ≡ Some true →
    tickets_marked (drop i l) (drop i marks) ≡ x.0 ∷ tickets_marked (drop (i + 1) l) (drop (i + 1) marks)
tickets-on l marks i x at on =
    let more : suc i ≡ i + 1 = omega arith in
    ap (λ (k : Live). tickets_marked k (drop i marks)) (drop-next l i x at) ∙ ap (tickets_marked (x ∷ drop (suc i) l)) (drop-next marks i true on)
    ∙ ap (λ (n : ℕ). x.0 ∷ tickets_marked (drop n l) (drop n marks)) more

pub tickets-off : (l : Live) (marks : List Bool) (i : ℕ) → slice_get marks i ≡ Some false →
    tickets_marked (drop i l) (drop i marks) ≡ tickets_marked (drop (i + 1) l) (drop (i + 1) marks)
tickets-off l marks i off =
    let more : suc i ≡ i + 1 = omega arith in
    let next = drop-next marks i false off in
    elim (cases_lt i (length l)) [
      | inl less ↦
          let here = at-within l i less in
          ap (λ (k : Live). tickets_marked k (drop i marks)) (drop-next l i here.0 here.1) ∙ ap (tickets_marked (here.0 ∷ drop (suc i) l)) next
          ∙ ap (λ (n : ℕ). tickets_marked (drop n l) (drop n marks)) more
      | inr past ↦
          let one : tickets_marked (drop i l) (drop i marks) ≡ [] = ap (λ (k : Live). tickets_marked k (drop i marks)) (drop-all l i past) in
          let two : tickets_marked (drop (i + 1) l) (drop (i + 1) marks) ≡ [] = ap (λ (k : Live). tickets_marked k (drop (i + 1) marks)) (drop-all l (i + 1) (omega arith)) in
          one ∙ sym two
    ]
