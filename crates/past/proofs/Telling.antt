-- The told events of a whole past: the places of their nearest causes, and the list of them.
use Rattle.std.proofs.Common.{◌≡◌, ◌⊎◌, inl, inr, ℕ, zero, suc, ◌+◌, ◌<◌, ◌≤◌, List, [], ◌∷◌, ◌++◌, Bool, true, false, ◌||◌, ◌==◌, cond, length, Some, take, drop, refl, sym, ◌∙◌, ap, subst, arith, append_assoc, append-nil, length-append}
use Rattle.std.specs.Prelude.{slice_get, slice_index}
use Rattle.std.proofs.lemmas.Bool.{cases_eq, cases_lt}
use Rattle.std.proofs.lemmas.Option.{slice_get_within}
use Rattle.syntax.specs.Lists.{In, Every}
use Rattle.runs.specs.InOrder.{InOrder}
use Rattle.runs.specs.Live.{Live, Rising, LiveAt, DependsOn}
use Rattle.runs.specs.declared.event.Event.{Event}
use Rattle.runs.proofs.public.Lists.{every-in, every-of}
use Rattle.runs.proofs.public.Options.{none-some, some-injective}
use Rattle.runs.proofs.public.Tickets.{rising-one}
use Rattle.dependence.specs.Followers.{Follower, ListsLeads, Reached, here, along}
use Rattle.dependence.proofs.public.Following.{follows-on}
use Rattle.dependence.proofs.public.FollowerLaws.{direct-follows, reached-follows, reached-through-followers}
use Rattle.dependence.proofs.public.ListPlaces.{in-at, index-in, at-one, at-within, got-here, take-all, drop-all}
use Rattle.past.specs.Past.{NearestCause, IsInPast, ListsCauses, ListsPast, ListsTickets, Tells, carries, tickets_of}
use Rattle.past.specs.declared.past.Past.{Past}
use Rattle.past.specs.declared.past.PastEvent.{PastEvent}
use Rattle.past.specs.internal.Blocks.{AllOpen, Down, stays, leads_on, IsOpen}
use Rattle.past.specs.internal.Near.{AllLeads, AllNear, AreLeads, ArePlaces, Falling, IsNear, LeadDown, tickets_at, told, told_tickets, Told, ToldAt, untold}
use Rattle.past.specs.internal.Swept.{FollowsAt, IsWhole}
use Rattle.past.proofs.Nearest.{all-told}

-- ---- places in a list that ascends
pub order-at : (ts : List ℕ) (i j a b : ℕ) → InOrder ◌<◌ ts → slice_get ts i ≡ Some a → slice_get ts j ≡ Some b → i < j → a < b
order-at [] i j a b o at_i at_j less = none-some a at_i
order-at (x ∷ ts) zero zero a b o at_i at_j less = absurd (omega arith)
order-at (x ∷ ts) zero (suc j) a b o at_i at_j less =
    let here : x ≡ a = some-injective x a at_i in
    let more : x < b = every-in (λ v. x < v) ts b o.0 (in-at ts j b at_j) in
    omega arith
order-at (x ∷ ts) (suc i) zero a b o at_i at_j less = absurd (omega arith)
order-at (x ∷ ts) (suc i) (suc j) a b o at_i at_j less = let rest : i < j = omega arith in order-at ts i j a b o.1 at_i at_j rest

pub one-place : (ts : List ℕ) (i j u : ℕ) → InOrder ◌<◌ ts → slice_get ts i ≡ Some u → slice_get ts j ≡ Some u → i ≡ j
one-place ts i j u o at_i at_j = elim (cases_lt i j) [
  | inl less ↦ let more : u < u = order-at ts i j u u o at_i at_j less in absurd (omega arith)
  | inr up ↦ elim (cases_lt j i) [
    | inl less ↦ let more : u < u = order-at ts j i u u o at_j at_i less in absurd (omega arith)
    | inr down ↦ omega arith
  ]
]

pub places-rise : (ts : List ℕ) (i j a b : ℕ) → InOrder ◌<◌ ts → slice_get ts i ≡ Some a → slice_get ts j ≡ Some b → a < b → i < j
places-rise ts i j a b o at_i at_j less = elim (cases_lt i j) [
  | inl up ↦ up
  | inr not_up ↦ elim (cases_lt j i) [
    | inl down ↦ let more : b < a = order-at ts j i b a o at_j at_i down in absurd (omega arith)
    | inr not_down ↦
        let is : i ≡ j = omega arith in
        let same : a ≡ b = at-one ts j a b (subst (λ (k : ℕ). slice_get ts k ≡ Some a) is at_i) at_j in
        absurd (omega arith)
  ]
]

-- the places of tickets
pub in-places : (ts some places : List ℕ) (p : ℕ) → ArePlaces ts some places → In p places → (u : ℕ) × (slice_get ts p ≡ Some u) × In u some
in-places ts [] [] p are i = absurd i
in-places ts [] (q ∷ places) p are i = absurd are
in-places ts (u ∷ some) [] p are i = absurd i
in-places ts (u ∷ some) (q ∷ places) p are i = elim i [
  | inl is ↦ (u, ap (λ (k : ℕ). slice_get ts k) is ∙ are.0, inl refl)
  | inr later ↦ let rest = in-places ts some places p are.1 later in (rest.0, rest.1, inr rest.2)
]

pub place-in : (ts some places : List ℕ) (p u : ℕ) → InOrder ◌<◌ ts → ArePlaces ts some places → slice_get ts p ≡ Some u → In u some → In p places
place-in ts [] [] p u o are at i = absurd i
place-in ts [] (q ∷ places) p u o are at i = absurd are
place-in ts (v ∷ some) [] p u o are at i = absurd are
place-in ts (v ∷ some) (q ∷ places) p u o are at i = elim i [
  | inl is ↦ inl (one-place ts p q u o at (are.0 ∙ ap (λ (k : ℕ). Some k) (sym is)))
  | inr later ↦ inr (place-in ts some places p u o are.1 at later)
]

pub places-fall : (ts some places : List ℕ) → InOrder ◌<◌ ts → ArePlaces ts some places → Falling some → Falling places
places-fall ts [] [] o are fall = tt
places-fall ts [] (q ∷ places) o are fall = absurd are
places-fall ts (v ∷ some) [] o are fall = absurd are
places-fall ts (v ∷ some) (q ∷ places) o are fall = (
  every-of (λ (p : ℕ). p < q) places (λ p i.
      let at = in-places ts some places p are.1 i in
      let less : at.0 < v = every-in (λ (u : ℕ). u < v) some at.0 fall.0 at.2 in
      places-rise ts p q at.0 v o at.1 are.0 less),
  places-fall ts some places o are.1 fall.1,
)

pub places-more : (ts some places : List ℕ) (u p : ℕ) → ArePlaces ts some places → slice_get ts p ≡ Some u → ArePlaces ts (some ++ u ∷ []) (places ++ p ∷ [])
places-more ts [] [] u p are at = (at, tt)
places-more ts [] (q ∷ places) u p are at = absurd are
places-more ts (v ∷ some) [] u p are at = absurd are
places-more ts (v ∷ some) (q ∷ places) u p are at = (are.0, places-more ts some places u p are.1 at)

pub leads-placed : (l : Live) (ts some places : List ℕ) (s : ℕ) → InOrder ◌<◌ ts → ArePlaces ts some places → ListsLeads l s some → AreLeads l ts s places
leads-placed l ts some places s o are lists = record {
  exactly = λ p. (
    (λ i. let at = in-places ts some places p are i in (at.0, at.1, (lists.exactly at.0).0 at.2)),
    (λ h. place-in ts some places p h.0 o are h.1 ((lists.exactly h.0).1 h.2)),
  );
  falling = places-fall ts some places o are lists.falling;
}

-- ---- the tickets of events
pub ticket-at : (whole : List PastEvent) (p : ℕ) (x : PastEvent) → slice_get whole p ≡ Some x → slice_get (tickets_of whole) p ≡ Some x.ticket
ticket-at [] p x at = none-some x at
ticket-at (y ∷ whole) zero x at = ap (λ (z : PastEvent). Some z.ticket) (some-injective y x at)
ticket-at (y ∷ whole) (suc p) x at = ticket-at whole p x at

pub tickets-length : (whole : List PastEvent) → length (tickets_of whole) ≡ length whole
tickets-length [] = refl
tickets-length (y ∷ whole) = ap suc (tickets-length whole)

module _ (low next : ℕ) (l : Live) (t : ℕ) (last : Event) (r : Rising low l next) (at_last : LiveAt l t last) (whole : List PastEvent) (w : IsWhole l t whole) where
  -- the event at a place
  pub event-at : (p u : ℕ) → slice_get (tickets_of whole) p ≡ Some u → (x : PastEvent) × (slice_get whole p ≡ Some x) × (x.ticket ≡ u)
  event-at p u at =
      let size = tickets-length whole in
      let inside : p < length (tickets_of whole) = slice_get_within (tickets_of whole) p u at in
      let found = at-within whole p (omega arith) in
      (found.0, found.1, at-one (tickets_of whole) p found.0.ticket u (ticket-at whole p found.0 found.1) at)

  -- what is told has a place
  pub place-of : (all : Bool) (u : ℕ) → IsInPast all l t u → (p : ℕ) × (slice_get (tickets_of whole) p ≡ Some u)
  place-of all u h = index-in (tickets_of whole) u ((w.tickets.exactly u).1 (h.0, h.1, h.2, refl))

  pub past-at : (p u : ℕ) → slice_get (tickets_of whole) p ≡ Some u → IsInPast true l t u
  past-at p u at = (w.tickets.exactly u).0 (in-at (tickets_of whole) p u at)

  tells-at : (p : ℕ) (x : PastEvent) → slice_get whole p ≡ Some x → Tells l x
  tells-at p x at = every-in (λ (y : PastEvent). Tells l y) whole x w.tells (in-at whole p x at)

  told-same : (p : ℕ) (x : PastEvent) (at : slice_get whole p ≡ Some x) (e : Event) → LiveAt l x.ticket e → told t x ≡ (carries e || (x.ticket == t))
  told-same p x at e live =
      let tells = tells-at p x at in
      let one : tells.event ≡ e = rising-one low next l x.ticket tells.event e r (in-at l x.index (x.ticket, tells.event) tells.stands) live in
      ap (λ (b : Bool). b || (x.ticket == t)) (tells.carries ∙ ap (λ (f : Event). carries f) one)

  pub told-is : (p : ℕ) (x : PastEvent) → slice_get whole p ≡ Some x → told t x ≡ true → IsInPast false l t x.ticket
  told-is p x at on =
      let past = past-at p x.ticket (ticket-at whole p x at) in
      (past.0, past.1, past.2, sym (told-same p x at past.0 past.1) ∙ on)

  pub is-told : (p : ℕ) (x : PastEvent) → slice_get whole p ≡ Some x → IsInPast false l t x.ticket → told t x ≡ true
  is-told p x at h = told-same p x at h.0 h.1 ∙ h.3

  pub untold-is : (p : ℕ) (x : PastEvent) → slice_get whole p ≡ Some x → told t x ≡ false → IsInPast false l t x.ticket → ⊥
  untold-is p x at off h = let both : true ≡ false = sym (is-told p x at h) ∙ off in cc

  not-told : (p : ℕ) (x : PastEvent) → slice_get whole p ≡ Some x → (IsInPast false l t x.ticket → ⊥) → told t x ≡ false
  not-told p x at out = pick (told t x) refl
    where
      pick : (b : Bool) → told t x ≡ b → told t x ≡ false
      pick true is = absurd (out (told-is p x at is))
      pick false is = is

  -- what an event follows is in the whole past
  pub lead-in : (p : ℕ) (x : PastEvent) → slice_get whole p ≡ Some x → ListsLeads l x.ticket x.causes
  lead-in p x at = every-in (λ (y : PastEvent). FollowsAt l y) whole x w.follows (in-at whole p x at)

  pub lead-among : (p u : ℕ) (x : PastEvent) → slice_get whole p ≡ Some x → In u x.causes → In u (tickets_of whole)
  lead-among p u x at i =
      let f = ((lead-in p x at).exactly u).0 i in
      let past = past-at p x.ticket (ticket-at whole p x at) in
      (w.tickets.exactly u).1
      (f.dependent.event, f.dependent.live, follows-on l u x.ticket t (direct-follows l u x.ticket f.dependent) past.2, refl)

  pub placed-at : (tickets some places : List ℕ) (p : ℕ) (x : PastEvent) → tickets ≡ tickets_of whole → slice_get whole p ≡ Some x → some ≡ x.causes →
      ArePlaces tickets some places → AreLeads l (tickets_of whole) x.ticket places
  placed-at tickets some places p x one_is at is are =
      leads-placed l (tickets_of whole) x.causes places x.ticket w.tickets.in_order
      (subst (λ (ts : List ℕ). ArePlaces ts x.causes places) one_is (subst (λ (us : List ℕ). ArePlaces tickets us places) is are)) (lead-in p x at)

  told-at : (p u : ℕ) → slice_get (tickets_of whole) p ≡ Some u → IsInPast false l t u → ToldAt t whole p true
  told-at p u at h = let x = event-at p u at in (x.0, x.1, is-told p x.0 x.1 (subst (λ (v : ℕ). IsInPast false l t v) (sym x.2) h))

  told-past : (p : ℕ) (h : ToldAt t whole p true) → (slice_get (tickets_of whole) p ≡ Some h.0.ticket) × IsInPast false l t h.0.ticket
  told-past p h = (ticket-at whole p h.0 h.1, told-is p h.0 h.1 h.2)

  -- ---- the lists of what the events follow
  module _ (leads : List (List ℕ)) (all : AllLeads l (tickets_of whole) leads) where
    pub leads-down : LeadDown leads
    leads-down q p places at i =
        let inside : q < length leads = slice_get_within leads q places at in
        let size = all.size in
        let here = at-within (tickets_of whole) q (omega arith) in
        let f = ((all.lists q here.0 places here.1 at).exactly p).0 i in
        places-rise (tickets_of whole) p q f.0 here.0 w.tickets.in_order f.1 here.1 f.2.dependent.less

    -- where they lead down, the one depends on the other
    down-on : (p q u s : ℕ) → Down leads p q → slice_get (tickets_of whole) p ≡ Some u → slice_get (tickets_of whole) q ≡ Some s → DependsOn l u s
    down-on p q u s stays at_p at_q = subst (λ (v : ℕ). DependsOn l u v) (at-one (tickets_of whole) p u s at_p at_q) (reached-follows l u u here)
    down-on p q u s (leads_on {f = f} places before at i) at_p at_q =
        let lead = ((all.lists q s places at_q at).exactly f).0 i in
        follows-on l u lead.0 s (down-on p f u lead.0 before at_p lead.1) (direct-follows l lead.0 s lead.2.dependent)

    reached-down : (u s p q : ℕ) → Reached l u s → slice_get (tickets_of whole) p ≡ Some u → slice_get (tickets_of whole) q ≡ Some s → Down leads p q
    reached-down u s p q here at_p at_q = subst (λ (k : ℕ). Down leads p k) (one-place (tickets_of whole) p q u w.tickets.in_order at_p at_q) stays
    reached-down u s p q (along {u = v} before f) at_p at_q =
        let d = f.dependent in
        let place = place-of true v (d.event, d.live, follows-on l v s t (direct-follows l v s d) (past-at q s at_q).2, refl) in
        let inside : q < length (tickets_of whole) = slice_get_within (tickets_of whole) q s at_q in
        let size = all.size in
        let list = at-within leads q (omega arith) in
        leads_on list.0 (reached-down u v p place.0 before at_p place.1) list.1 (((all.lists q s list.0 at_q list.1).exactly place.0).1 (v, place.1, f))

    on-down : (p q u s : ℕ) → DependsOn l u s → slice_get (tickets_of whole) p ≡ Some u → slice_get (tickets_of whole) q ≡ Some s → Down leads p q
    on-down p q u s on at_p at_q = reached-down u s p q ((reached-through-followers low next l u s r).0 on) at_p at_q

    -- a told event to which they lead down, with no other between, is a nearest cause
    open-cause : (p q s : ℕ) → slice_get (tickets_of whole) q ≡ Some s → IsOpen t whole leads p q →
        (u : ℕ) × (slice_get (tickets_of whole) p ≡ Some u) × NearestCause false l t s u
    open-cause p q s at_q h =
        let u : ℕ = h.0.0.0.ticket in
        let one = told-past p h.0.0 in (
          u,
          one.0,
          record {
            told = one.1;
            other = λ is. h.0.1 (one-place (tickets_of whole) p q u w.tickets.in_order one.0 (at_q ∙ ap (λ (v : ℕ). Some v) (sym is)));
            cause = down-on p q u s h.0.2 one.0 at_q;
            next = λ v told_v from to. elim (cases_eq v u) [
              | inl is ↦ inl is
              | inr first ↦ elim (cases_eq v s) [
                | inl is ↦ inr is
                | inr end ↦
                    let place = place-of false v told_v in
                    absurd (h.1 (
                      h.0.0,
                      (
                        place.0,
                        told-at place.0 v place.1 told_v,
                        (λ is. first (at-one (tickets_of whole) p v u (subst (λ (k : ℕ). slice_get (tickets_of whole) k ≡ Some v) is place.1) one.0)),
                        (λ is. end (at-one (tickets_of whole) q v s (subst (λ (k : ℕ). slice_get (tickets_of whole) k ≡ Some v) is place.1) at_q)),
                        on-down p place.0 u v from one.0 place.1,
                        on-down place.0 q v s to place.1 at_q,
                      ),
                    ))
              ]
            ];
          },
        )

    cause-open : (p q s u : ℕ) → slice_get (tickets_of whole) p ≡ Some u → slice_get (tickets_of whole) q ≡ Some s → NearestCause false l t s u → IsOpen t whole leads p q
    cause-open p q s u at_p at_q d = (
      (
        told-at p u at_p d.told,
        (λ is. d.other (at-one (tickets_of whole) q u s (subst (λ (k : ℕ). slice_get (tickets_of whole) k ≡ Some u) is at_p) at_q)),
        on-down p q u s d.cause at_p at_q,
      ),
      (λ h.
          let v : ℕ = h.1.0 in
          let x : ℕ = h.1.1.0.ticket in
          let one = told-past v h.1.1 in
          elim (d.next x one.1 (down-on p v u x h.1.4 at_p one.0) (down-on v q x s h.1.5 one.0 at_q)) [
            | inl is ↦ h.1.2 (one-place (tickets_of whole) v p u w.tickets.in_order (one.0 ∙ ap (λ (k : ℕ). Some k) is) at_p)
            | inr is ↦ h.1.3 (one-place (tickets_of whole) v q s w.tickets.in_order (one.0 ∙ ap (λ (k : ℕ). Some k) is) at_q)
          ]),
    )

    pub near-all : (near : List (List ℕ)) → length near ≡ length whole → AllOpen t whole leads 0 near → AllNear l t whole near
    near-all near size lists = record {
      size = size;
      lists = λ q s places told_q at_q at.
          let found = lists q places told_q at in
          record {
            exactly = λ p. (
              (λ i. open-cause p q s at_q ((found.exactly p).0 i).1),
              (λ h. (found.exactly p).1 (omega arith, cause-open p q s h.0 h.1 at_q h.2)),
            );
            falling = found.falling;
          };
    }

-- ---- the list of those that are told
told-part : (b c : Bool) (v u : ℕ) (rest : List ℕ) → b ≡ c → In u (cond b (v ∷ rest) rest) → ((b ≡ true) × (u ≡ v)) ⊎ In u rest
told-part true c v u rest is (inl one) = inl (refl, one)
told-part true c v u rest is (inr later) = inr later
told-part false c v u rest is i = inr i

part-here : (b : Bool) (v : ℕ) (rest : List ℕ) → b ≡ true → In v (cond b (v ∷ rest) rest)
part-here true v rest h = inl refl
part-here false v rest h = cc

part-later : (b : Bool) (v u : ℕ) (rest : List ℕ) → In u rest → In u (cond b (v ∷ rest) rest)
part-later true v u rest i = inr i
part-later false v u rest i = i

part-order : (b : Bool) (v : ℕ) (rest : List ℕ) → Every (λ u. v < u) rest → InOrder ◌<◌ rest → InOrder ◌<◌ (cond b (v ∷ rest) rest)
part-order true v rest e o = (e, o)
part-order false v rest e o = o

part-count : (b : Bool) (v n k : ℕ) (rest : List ℕ) → k ≡ length rest + n → suc k ≡ length (cond b (v ∷ rest) rest) + cond b n (n + 1)
part-count true v n k rest h = omega arith
part-count false v n k rest h = omega arith

in-told : (t : ℕ) (xs : List PastEvent) (u : ℕ) → In u (told_tickets t xs) → (x : PastEvent) × In x xs × (told t x ≡ true) × (u ≡ x.ticket)
in-told t [] u i = absurd i
in-told t (x ∷ xs) u i = elim (told-part (told t x) (told t x) x.ticket u (told_tickets t xs) refl i) [
  | inl found ↦ (x, inl refl, found.0, found.1)
  | inr later ↦ let rest = in-told t xs u later in (rest.0, inr rest.1, rest.2, rest.3)
]

told-in : (t : ℕ) (xs : List PastEvent) (x : PastEvent) → In x xs → told t x ≡ true → In x.ticket (told_tickets t xs)
told-in t [] x i on = absurd i
told-in t (y ∷ xs) x i on = elim i [
  | inl is ↦ subst (λ (z : PastEvent). In z.ticket (told_tickets t (y ∷ xs))) (sym is)
      (part-here (told t y) y.ticket (told_tickets t xs) (subst (λ (z : PastEvent). told t z ≡ true) is on))
  | inr later ↦ part-later (told t y) y.ticket x.ticket (told_tickets t xs) (told-in t xs x later on)
]

ticket-in : (xs : List PastEvent) (x : PastEvent) → In x xs → In x.ticket (tickets_of xs)
ticket-in [] x i = absurd i
ticket-in (y ∷ xs) x i = elim i [
  | inl is ↦ inl (ap (λ (z : PastEvent). z.ticket) is)
  | inr later ↦ inr (ticket-in xs x later)
]

told-order : (t : ℕ) (xs : List PastEvent) → InOrder ◌<◌ (tickets_of xs) → InOrder ◌<◌ (told_tickets t xs)
told-order t [] o = tt
told-order t (x ∷ xs) o = part-order (told t x) x.ticket (told_tickets t xs)
    (every-of (λ u. x.ticket < u) (told_tickets t xs) (λ u i.
    let at = in-told t xs u i in
    subst (λ (v : ℕ). x.ticket < v) (sym at.3) (every-in (λ v. x.ticket < v) (tickets_of xs) at.0.ticket o.0 (ticket-in xs at.0 at.1))))
    (told-order t xs o.1)

told-count : (t : ℕ) (xs : List PastEvent) → length xs ≡ length (told_tickets t xs) + untold t xs
told-count t [] = refl
told-count t (x ∷ xs) = part-count (told t x) x.ticket (untold t xs) (length xs) (told_tickets t xs) (told-count t xs)

tickets-more : (events : List PastEvent) (one : PastEvent) → tickets_of (events ++ one ∷ []) ≡ tickets_of events ++ one.ticket ∷ []
tickets-more [] one = refl
tickets-more (e ∷ events) one = ap (λ (ts : List ℕ). e.ticket ∷ ts) (tickets-more events one)

every-more : (P : PastEvent → Type 0) (events : List PastEvent) (one : PastEvent) → Every P events → P one → Every P (events ++ one ∷ [])
every-more P [] one e p = (p, tt)
every-more P (x ∷ events) one e p = (e.0, every-more P events one e.1 p)

-- the next is told, or it is not
pub told-passed : (l : Live) (t : ℕ) (whole left rest : List PastEvent) (x one : PastEvent) (events : List PastEvent) (n : ℕ) → Told l t whole left events n →
    left ≡ x ∷ rest → told t x ≡ true → one.ticket ≡ x.ticket → Tells l one → ListsCauses false l t one.ticket one.causes → Told l t whole rest (events ++ one ∷ []) n
told-passed l t whole left rest x one events n p is on one_is tells causes =
    let shown : told_tickets t left ≡ x.ticket ∷ told_tickets t rest =
    ap (λ (k : List PastEvent). told_tickets t k) is ∙ ap (λ (b : Bool). cond b (x.ticket ∷ told_tickets t rest) (told_tickets t rest)) on in
    let hidden : untold t left ≡ untold t rest =
    ap (λ (k : List PastEvent). untold t k) is ∙ ap (λ (b : Bool). cond b (untold t rest) (untold t rest + 1)) on in
    record {
      tickets = ap (λ (ts : List ℕ). ts ++ told_tickets t rest) (tickets-more events one)
          ∙ append_assoc (tickets_of events) (one.ticket ∷ []) (told_tickets t rest)
          ∙ ap (λ (u : ℕ). tickets_of events ++ u ∷ told_tickets t rest) one_is
          ∙ ap (λ (ts : List ℕ). tickets_of events ++ ts) (sym shown)
          ∙ p.tickets;
      tells = every-more (λ (q : PastEvent). Tells l q) events one p.tells tells;
      causes = every-more (λ (q : PastEvent). ListsCauses false l t q.ticket q.causes) events one p.causes causes;
      left_out = ap (λ (u : ℕ). n + u) (sym hidden) ∙ p.left_out;
    }

pub untold-passed : (l : Live) (t : ℕ) (whole left rest : List PastEvent) (x : PastEvent) (events : List PastEvent) (n : ℕ) → Told l t whole left events n →
    left ≡ x ∷ rest → told t x ≡ false → Told l t whole rest events (n + 1)
untold-passed l t whole left rest x events n p is off =
    let shown : told_tickets t left ≡ told_tickets t rest =
    ap (λ (k : List PastEvent). told_tickets t k) is ∙ ap (λ (b : Bool). cond b (x.ticket ∷ told_tickets t rest) (told_tickets t rest)) off in
    let hidden : untold t left ≡ untold t rest + 1 =
    ap (λ (k : List PastEvent). untold t k) is ∙ ap (λ (b : Bool). cond b (untold t rest) (untold t rest + 1)) off in
    let sum = p.left_out in
    record {
      tickets = ap (λ (ts : List ℕ). tickets_of events ++ ts) (sym shown) ∙ p.tickets;
      tells = p.tells;
      causes = p.causes;
      left_out = omega arith;
    }

-- none is left
module _ (low next : ℕ) (l : Live) (t : ℕ) (last : Event) (r : Rising low l next) (at_last : LiveAt l t last) (whole : List PastEvent) (w : IsWhole l t whole) where
  tickets-listed : ListsTickets false l t (told_tickets t whole)
  tickets-listed = record {
    exactly = λ u. (
      (λ i.
          let at = in-told t whole u i in
          let place = index-in whole at.0 at.1 in
          subst (λ (v : ℕ). IsInPast false l t v) (sym at.3) (told-is low next l t last r at_last whole w place.0 at.0 place.1 at.2)),
      (λ h.
          let place = place-of low next l t last r at_last whole w false u h in
          let x = event-at low next l t last r at_last whole w place.0 u place.1 in
          let on = is-told low next l t last r at_last whole w place.0 x.0 x.1 (subst (λ (v : ℕ). IsInPast false l t v) (sym x.2) h) in
          subst (λ (v : ℕ). In v (told_tickets t whole)) x.2 (told-in t whole x.0 (in-at whole place.0 x.0 x.1) on)),
    );
    in_order = told-order t whole w.tickets.in_order;
  }

  pub told-all : (left events : List PastEvent) (n : ℕ) → Told l t whole left events n → left ≡ [] → ListsPast false l t (record { events = events; left_out = n })
  told-all left events n p none =
      let shown : tickets_of events ++ [] ≡ told_tickets t whole =
      subst (λ (k : List PastEvent). tickets_of events ++ told_tickets t k ≡ told_tickets t whole) none p.tickets in
      let same : tickets_of events ≡ told_tickets t whole = sym (append-nil (tickets_of events)) ∙ shown in
      let sum : n + 0 ≡ untold t whole = subst (λ (k : List PastEvent). n + untold t k ≡ untold t whole) none p.left_out in
      let counted = told-count t whole in
      let size = tickets-length whole in
      let listed : length (tickets_of events) ≡ length (told_tickets t whole) = ap (λ (ts : List ℕ). length ts) same in
      record {
        live = (last, at_last);
        tickets = subst (λ (ts : List ℕ). ListsTickets false l t ts) (sym same) tickets-listed;
        tells = p.tells;
        causes = p.causes;
        left_out = (tickets_of whole, w.tickets, omega arith);
      }

  -- the whole past, of which nothing is left out
  pub whole-past : (all : Bool) (past : Past) → all ≡ true → past ≡ record { events = whole; left_out = 0 } → ListsPast all l t past
  whole-past all past on is = subst (λ (b : Bool). ListsPast b l t past) (sym on) (subst (λ (q : Past). ListsPast true l t q) (sym is) (record {
    live = (last, at_last);
    tickets = w.tickets;
    tells = w.tells;
    causes = every-of (λ (x : PastEvent). ListsCauses true l t x.ticket x.causes) whole (λ x i.
        let lists = every-in (λ (y : PastEvent). FollowsAt l y) whole x w.follows i in
        let past_x = (w.tickets.exactly x.ticket).0 (ticket-in whole x i) in
        let told_lead : (f : ℕ) → Follower l f x.ticket → IsInPast true l t f =
        λ f follower. (
          follower.dependent.event,
          follower.dependent.live,
          follows-on l f x.ticket t (direct-follows l f x.ticket follower.dependent) past_x.2,
          refl,
        ) in
        record {
          exactly = λ u. (
            (λ j. (all-told low next true l t last r at_last x.ticket u told_lead).1 ((lists.exactly u).0 j)),
            (λ d. (lists.exactly u).1 ((all-told low next true l t last r at_last x.ticket u told_lead).0 d)),
          );
          falling = lists.falling;
        });
    left_out = (tickets_of whole, w.tickets, omega arith);
  }))

  -- the tickets at the places of nearest causes
  in-tickets : (ts places : List ℕ) (u : ℕ) → In u (tickets_at ts places) → (p : ℕ) × In p places × (u ≡ slice_index ts p)
  in-tickets ts [] u i = absurd i
  in-tickets ts (q ∷ places) u i = elim i [
    | inl is ↦ (q, inl refl, is)
    | inr later ↦ let rest = in-tickets ts places u later in (rest.0, inr rest.1, rest.2)
  ]

  tickets-in : (ts places : List ℕ) (p : ℕ) → In p places → In (slice_index ts p) (tickets_at ts places)
  tickets-in ts [] p i = absurd i
  tickets-in ts (q ∷ places) p i = elim i [
    | inl is ↦ inl (ap (λ (k : ℕ). slice_index ts k) is)
    | inr later ↦ inr (tickets-in ts places p later)
  ]

  tickets-fall : (ts places : List ℕ) → InOrder ◌<◌ ts → ((p : ℕ) → In p places → (u : ℕ) × (slice_get ts p ≡ Some u)) → Falling places → Falling (tickets_at ts places)
  tickets-fall ts [] o within fall = tt
  tickets-fall ts (q ∷ places) o within fall = (
    every-of (λ (u : ℕ). u < slice_index ts q) (tickets_at ts places) (λ u i.
        let at = in-tickets ts places u i in
        let here = within q (inl refl) in
        let there = within at.0 (inr at.1) in
        let less = order-at ts at.0 q there.0 here.0 o there.1 here.1 (every-in (λ (p : ℕ). p < q) places at.0 fall.0 at.1) in
        let first_is : slice_index ts q ≡ here.0 = got-here ts q here.0 0 here.1 in
        let other_is : slice_index ts at.0 ≡ there.0 = got-here ts at.0 there.0 0 there.1 in
        let is : u ≡ slice_index ts at.0 = at.2 in
        omega arith),
    tickets-fall ts places o (λ p i. within p (inr i)) fall.1,
  )

  pub near-within : (s : ℕ) (places : List ℕ) → IsNear l t (tickets_of whole) s places → (p : ℕ) → In p places → p < length (tickets_of whole)
  near-within s places near p i = let at = (near.exactly p).0 i in slice_get_within (tickets_of whole) p at.0 at.1

  pub near-causes : (s : ℕ) (places : List ℕ) → IsNear l t (tickets_of whole) s places → ListsCauses false l t s (tickets_at (tickets_of whole) places)
  near-causes s places near = record {
    exactly = λ u. (
      (λ i.
          let at = in-tickets (tickets_of whole) places u i in
          let cause = (near.exactly at.0).0 at.1 in
          let is : slice_index (tickets_of whole) at.0 ≡ cause.0 = got-here (tickets_of whole) at.0 cause.0 0 cause.1 in
          subst (λ (v : ℕ). NearestCause false l t s v) (sym (at.2 ∙ is)) cause.2),
      (λ d.
          let place = place-of low next l t last r at_last whole w false u d.told in
          let is : slice_index (tickets_of whole) place.0 ≡ u = got-here (tickets_of whole) place.0 u 0 place.1 in
          subst (λ (v : ℕ). In v (tickets_at (tickets_of whole) places)) is
          (tickets-in (tickets_of whole) places place.0 ((near.exactly place.0).1 (u, place.1, d)))),
    );
    falling = tickets-fall (tickets_of whole) places w.tickets.in_order (λ p i. let cause = (near.exactly p).0 i in (cause.0, cause.1)) near.falling;
  }

-- one list more
pub leads-more : (l : Live) (ts : List ℕ) (leads : List (List ℕ)) (places : List ℕ) (s : ℕ) →
    ((q u : ℕ) (list : List ℕ) → slice_get ts q ≡ Some u → slice_get leads q ≡ Some list → AreLeads l ts u list) → slice_get ts (length leads) ≡ Some s →
    AreLeads l ts s places →
    (q u : ℕ) (list : List ℕ) → slice_get ts q ≡ Some u → slice_get (leads ++ places ∷ []) q ≡ Some list → AreLeads l ts u list
leads-more l ts leads places s are at_s is q u list at_q at_list = elim (cases_lt q (length leads)) [
  | inl below ↦ are q u list at_q (sym (get-left leads (places ∷ []) q below) ∙ at_list)
  | inr above ↦
      let size = length-append leads (places ∷ []) in
      let inside : q < length (leads ++ places ∷ []) = slice_get_within (leads ++ places ∷ []) q list at_list in
      let one : q ≡ length leads = omega arith in
      let same_list : places ≡ list = some-injective places list (sym (get-last leads places) ∙ subst (λ (k : ℕ). slice_get (leads ++ places ∷ []) k ≡ Some list) one at_list) in
      let same_ticket : s ≡ u = at-one ts (length leads) s u at_s (subst (λ (k : ℕ). slice_get ts k ≡ Some u) one at_q) in
      subst (λ (v : ℕ). AreLeads l ts v list) same_ticket (subst (λ (k : List ℕ). AreLeads l ts s k) same_list is)
]
  where
    get-last : (xs : List (List ℕ)) (x : List ℕ) → slice_get (xs ++ x ∷ []) (length xs) ≡ Some x
    get-last [] x = refl
    get-last (y ∷ xs) x = get-last xs x

    get-left : (xs ys : List (List ℕ)) (k : ℕ) → k < length xs → slice_get (xs ++ ys) k ≡ slice_get xs k
    get-left [] ys k h = absurd (omega arith)
    get-left (y ∷ xs) ys zero h = refl
    get-left (y ∷ xs) ys (suc k) h = let less : k < length xs = omega arith in get-left xs ys k less

-- one empty list more
pub empty-more : (lists : List (List ℕ)) (new : List ℕ) → new ≡ [] → ((q : ℕ) (places : List ℕ) → slice_get lists q ≡ Some places → places ≡ []) →
    (q : ℕ) (places : List ℕ) → slice_get (lists ++ new ∷ []) q ≡ Some places → places ≡ []
empty-more [] new none all zero places at = some-injective places new (sym at) ∙ none
empty-more [] new none all (suc q) places at = none-some places at
empty-more (x ∷ lists) new none all zero places at = all zero places at
empty-more (x ∷ lists) new none all (suc q) places at = empty-more lists new none (λ k ps is. all (suc k) ps is) q places at

-- what is written to the whole of a vector is what it has
pub written-back : (new old : List (List ℕ)) (n : ℕ) → length new ≤ n → length old ≤ length new → take n (new ++ drop (length new) old) ≡ new
written-back new old n within covers =
    ap (λ (k : List (List ℕ)). take n (new ++ k)) (drop-all old (length new) covers) ∙ ap (λ (k : List (List ℕ)). take n k) (append-nil new) ∙ take-all new n within
