-- The last events before a place: of each branch of the parallel before it that has some.
use Rattle.std.proofs.Common.{◌≡◌, ◌⊎◌, inl, inr, ℕ, zero, suc, ◌<◌, ◌≤◌, Bool, true, false, cond, List, [], ◌∷◌, ◌++◌, append-nil, append_assoc, length, take, drop, map, Option, Some, None, slice_get, refl, sym, ap, subst, ◌∙◌, true≢false, arith, Ordering, Less}
use Rattle.std.specs.Global.{Box}
use Rattle.std.specs.Ordering.{is_eq}
use Rattle.address.specs.declared.Entry.{Entry}
use Rattle.address.specs.declared.Entry.TheVariants.{Ordered, Branch}
use Rattle.address.specs.Places.{Before, Apart}
use Rattle.address.specs.Order.{order_of}
use Rattle.address.specs.internal.OrderLaws.{less-not-equal, greater-not-less}
use Rattle.address.proofs.public.Places.{before-end, before-transitive, before-left, apart-left, before-irreflexive, tail-injective, ordered-injective, nil-not-cons}
use Rattle.address.proofs.public.Total.{order-itself}
use Rattle.syntax.specs.Lists.{In, Every}
use Rattle.dependence.specs.LastEvents.{IsAt, ticket_at, OneTree, Orderly, LastBefore}
use Rattle.dependence.specs.declared.branch.Seat.{Seat}
use Rattle.dependence.specs.declared.branch.Seat.TheVariants.{Event, Inner}
use Rattle.dependence.specs.internal.Search.{Splits}
use Rattle.dependence.specs.internal.Seats.{Places, way_of, rest_of, ordered_of, EndsAtBranch, behind_way, seat_way, seat_places, flat, HasSeat, IsSound, IsBranch, FitsBehind}
use Rattle.dependence.specs.internal.Walks.{Related, Covered, AddedLast, AddedBefore, AddedInner, AddedLesser, AddedFrom, IsGroup, IsNearer}
use Rattle.dependence.proofs.ForkLaws.{number-less, less-first, less-parts, less-rest, less-number}
use Rattle.dependence.proofs.ListLaws.{in-left, in-right, in-either, every-in, every-left, every-right, whole, map-take, take-again, take-none, take-some, take-within, drop-either}
use Rattle.dependence.proofs.SearchLaws.{none-some, some-is, length-places}
use Rattle.dependence.proofs.SeatLaws.{is_key, key-is, first_of, look-here, look-behind, in-behind, less-differs, seat-ways, flat-ways, look-append, look-parts, look-seat, left-none, right-none, split-low, split-not-high, rising-left, rising-right, Stands, absent-way}
use Rattle.dependence.proofs.WayLaws.{way-behind, rest-behind, way-and-rest, ordered-of-way, same-rest}

-- ---- ways and what is before
-- what is before a place is in the same branch or its way is less than the ordered entries
pub before-parts : (b a : List Entry) → Before b a → ((way_of b ≡ way_of a) × Before (rest_of b) (rest_of a)) ⊎ (order_of (way_of b) (ordered_of a) ≡ Less)
before-parts [] a h = absurd h
before-parts (x ∷ b) [] h = absurd (before-end (x ∷ b) h)
before-parts (Ordered i ∷ b) (Ordered j ∷ a) h = elim h [
  | inl less ↦ inr (less-first (Ordered i) (Ordered j) (way_of b) (ordered_of a) (less-number i j less))
  | inr same ↦ elim (before-parts b a same.1) [
    | inl inner ↦ inl (ap (λ (k : ℕ). Ordered k ∷ way_of b) same.0 ∙ ap (λ (w : List Entry). Ordered j ∷ w) inner.0, inner.1)
    | inr less ↦ inr (less-rest (Ordered i) (Ordered j) (way_of b) (ordered_of a) (ap Ordered same.0) less)
  ]
]
before-parts (Branch i ∷ b) (Branch j ∷ a) h = inl (ap (λ (k : ℕ). Branch k ∷ []) h.0, h.1)
before-parts (Ordered i ∷ b) (Branch j ∷ a) h = absurd h
before-parts (Branch i ∷ b) (Ordered j ∷ a) h = absurd h

not-under-none : (b : List Entry) → order_of b [] ≡ Less → ⊥
not-under-none [] h = less-not-equal (sym h)
not-under-none (y ∷ b) h = greater-not-less h

tree-rest : (x : Entry) (b a : List Entry) → OneTree (x ∷ b) (x ∷ a) → OneTree b a
tree-rest x b a h = elim h [
  | inl is ↦ inl (tail-injective x x b a is)
  | inr (inl low) ↦ inr (inl ((before-left (x ∷ []) b a).0 low))
  | inr (inr (inl high)) ↦ inr (inr (inl ((before-left (x ∷ []) a b).0 high)))
  | inr (inr (inr apart)) ↦ inr (inr (inr ((apart-left (x ∷ []) b a).0 apart)))
]

-- in one tree, a lesser way is before
pub less-before : (b a : List Entry) → order_of (way_of b) (ordered_of a) ≡ Less → OneTree b a → Before b a
less-before [] [] h tree = absurd (less-not-equal (sym h))
less-before [] (x ∷ a) h tree = elim tree [
  | inl is ↦ absurd (nil-not-cons x a is)
  | inr (inl low) ↦ low
  | inr (inr (inl high)) ↦ absurd (before-end (x ∷ a) high)
  | inr (inr (inr apart)) ↦ absurd apart
]
less-before (Ordered i ∷ b) [] h tree = absurd (greater-not-less h)
less-before (Branch i ∷ b) [] h tree = absurd (greater-not-less h)
less-before (Branch i ∷ b) (Ordered j ∷ a) h tree = absurd (greater-not-less h)
less-before (x ∷ b) (Branch j ∷ a) h tree = absurd (not-under-none (way_of (x ∷ b)) h)
less-before (Ordered i ∷ b) (Ordered j ∷ a) h tree = elim (less-parts (Ordered i) (Ordered j) (way_of b) (ordered_of a) h) [
  | inl less ↦ inl (number-less i j less)
  | inr both ↦
      let same : i ≡ j = ordered-injective i j both.0 in
      inr (same, less-before b a both.1 (tree-rest (Ordered i) b a (subst (λ (k : ℕ). OneTree (Ordered i ∷ b) (Ordered k ∷ a)) (sym same) tree)))
]

-- ---- what stands where
pub at-left : (xs ys : List Seat) (b : List Entry) (t : ℕ) → IsAt (flat xs) b t → IsAt (flat (xs ++ ys)) b t
at-left xs ys b t at = look-parts xs ys b ∙ ap (λ (o : Option ℕ). first_of o (ticket_at (flat ys) b)) at

first-either : (o p : Option ℕ) (t : ℕ) → first_of o p ≡ Some t → (o ≡ Some t) ⊎ ((o ≡ None) × (p ≡ Some t))
first-either (Some u) p t h = inl h
first-either None p t h = inr (refl, h)

pub at-either : (xs ys : List Seat) (b : List Entry) (t : ℕ) → IsAt (flat (xs ++ ys)) b t → IsAt (flat xs) b t ⊎ IsAt (flat ys) b t
at-either xs ys b t at = elim (first-either (ticket_at (flat xs) b) (ticket_at (flat ys) b) t (sym (look-parts xs ys b) ∙ at)) [
  | inl here ↦ inl here
  | inr there ↦ inr there.1
]

first-none : (o : Option ℕ) → first_of o None ≡ o
first-none None = refl
first-none (Some t) = refl

-- at its way nothing else stands
pub look-middle : (xs ys : List Seat) (s : Seat) (a : List Entry) → IsBranch (xs ++ s ∷ ys) → seat_way s ≡ way_of a → ticket_at (flat (xs ++ s ∷ ys)) a ≡ ticket_at (seat_places s) a
look-middle xs ys s a h is =
    look-seat xs ys s a
    ∙ (ap (λ (o : Option ℕ). first_of o (first_of (ticket_at (seat_places s) a) (ticket_at (flat ys) a))) (left-none xs ys s h a is)
    ∙ (ap (λ (o : Option ℕ). first_of (ticket_at (seat_places s) a) o) (right-none xs ys s h a is) ∙ first-none (ticket_at (seat_places s) a)))

-- a place of a table is one of its places
found-step : (a : List Entry) (u : ℕ) (e : List Entry × ℕ) (es : Places) (p : Bool) → is_key a e.0 ≡ p → cond p (Some e.1) (ticket_at es a) ≡ Some u →
    (ticket_at es a ≡ Some u → (x : List Entry × ℕ) × In x es × (a ≡ x.0)) → (x : List Entry × ℕ) × In x (e ∷ es) × (a ≡ x.0)
found-step a u e es true is at rest = (e, inl refl, key-is a e.0 is)
found-step a u e es false is at rest = let x = rest at in (x.0, inr x.1, x.2)

pub at-in : (es : Places) (a : List Entry) (u : ℕ) → IsAt es a u → (x : List Entry × ℕ) × In x es × (a ≡ x.0)
at-in [] a u at = absurd (none-some u at)
at-in (e ∷ es) a u at = found-step a u e es (is_key a e.0) refl at (λ there. at-in es a u there)

pub at-way : (ss : List Seat) (b : List Entry) (t : ℕ) → Every IsSound ss → IsAt (flat ss) b t → (s : Seat) × In s ss × (way_of b ≡ seat_way s)
at-way ss b t h at =
    let e = at-in (flat ss) b t at in
    let s = flat-ways ss e.0 h e.1 in
    (s.0, s.1, ap way_of e.2 ∙ s.3)

pub seat-at-way : (s : Seat) (b : List Entry) (t : ℕ) → IsSound s → IsAt (seat_places s) b t → way_of b ≡ seat_way s
seat-at-way s b t h at = let e = at-in (seat_places s) b t at in ap way_of e.2 ∙ seat-ways s e.0 h e.1

inner-has : (w : List Entry) (es : Places) → 0 < length es → (c : List Entry) × (u : ℕ) × IsAt (behind_way w es) c u
inner-has w [] some = absurd (omega arith)
inner-has w (e ∷ es) some =
    (w ++ e.0, e.1, look-behind w (e ∷ es) e.0 ∙ ap (λ (o : Ordering). cond (is_eq o) (Some e.1) (ticket_at es e.0)) (order-itself e.0))

-- something stands at each seat
pub seat-has : (s : Seat) → IsSound s → (c : List Entry) × (u : ℕ) × IsAt (seat_places s) c u
seat-has (Event w t) h = (w, t, look-here w t)
seat-has (Inner w inner) h = inner-has w inner.value h.1

covered-behind : (es : Places) (new : List ℕ) (b c : List Entry) → Before b c → Covered es new c → Covered es new b
covered-behind es new b c low h = (
  h.0,
  h.1,
  h.2,
  h.3,
  inr (elim h.4 [
    | inl is ↦ subst (λ (d : List Entry). Before b d) is low
    | inr more ↦ before-transitive b c h.0 low more
  ]),
)

-- ---- the last of all
pub event-last : (w : List Entry) (n : ℕ) (old new : List ℕ) → new ≡ old ++ n ∷ [] → AddedLast ((w, n) ∷ []) old new
event-last w n old new is = record {
  kept = λ t i. subst (λ (ts : List ℕ). In t ts) (sym is) (in-left t old (n ∷ []) i);
  sound = λ t i. elim (in-either t old (n ∷ []) (subst (λ (ts : List ℕ). In t ts) is i)) [
    | inl earlier ↦ inl earlier
    | inr (inl same) ↦ inr (w, subst (λ (u : ℕ). IsAt ((w, n) ∷ []) w u) (sym same) (look-here w n))
    | inr (inr none) ↦ absurd none
  ];
  complete = λ b t at.
      let e = at-in ((w, n) ∷ []) b t at in (
        w,
        n,
        look-here w n,
        subst (λ (ts : List ℕ). In n ts) (sym is) (in-right n old (n ∷ []) (inl refl)),
        elim e.1 [ inl same ↦ inl (e.2 ∙ ap (λ (x : List Entry × ℕ). x.0) same) | inr none ↦ absurd none ],
      );
}

-- behind a way
behind-at : (w : List Entry) (es : Places) (b : List Entry) (t : ℕ) → IsAt es b t → IsAt (behind_way w es) (w ++ b) t
behind-at w es b t at = look-behind w es b ∙ at

at-behind : (w : List Entry) (es : Places) (b : List Entry) (t : ℕ) → EndsAtBranch w → IsAt (behind_way w es) b t → (b ≡ w ++ rest_of b) × IsAt es (rest_of b) t
at-behind w es b t h at =
    let e = at-in (behind_way w es) b t at in
    let x = in-behind w es e.0 e.1 in
    let parts : b ≡ w ++ x.0.0 = e.2 ∙ ap (λ (y : List Entry × ℕ). y.0) x.2 in
    let rest : rest_of b ≡ x.0.0 = ap rest_of parts ∙ rest-behind w x.0.0 h in
    let parted : b ≡ w ++ rest_of b = parts ∙ ap (λ (r : List Entry). w ++ r) (sym rest) in
    (parted, sym (look-behind w es (rest_of b)) ∙ subst (λ (c : List Entry). IsAt (behind_way w es) c t) parted at)

tree-behind : (w b c : List Entry) → OneTree (w ++ b) (w ++ c) → OneTree b c
tree-behind w b c h = elim h [
  | inl is ↦ inl (same-rest w b c is)
  | inr (inl low) ↦ inr (inl ((before-left w b c).0 low))
  | inr (inr (inl high)) ↦ inr (inr (inl ((before-left w c b).0 high)))
  | inr (inr (inr apart)) ↦ inr (inr (inr ((apart-left w b c).0 apart)))
]

pub related-behind : (w : List Entry) (es : Places) → Related (behind_way w es) → Related es
related-behind w es h b c t u at cu = tree-behind w b c (h (w ++ b) (w ++ c) t u (behind-at w es b t at) (behind-at w es c u cu))

pub inner-last : (w : List Entry) (es : Places) (old new : List ℕ) → EndsAtBranch w → AddedLast es old new → AddedLast (behind_way w es) old new
inner-last w es old new h added = record {
  kept = added.kept;
  sound = λ t i. elim (added.sound t i) [ inl earlier ↦ inl earlier | inr at ↦ inr (w ++ at.0, behind-at w es at.0 t at.1) ];
  complete = λ b t at.
      let inner = at-behind w es b t h at in
      let c = added.complete (rest_of b) t inner.1 in (
        w ++ c.0,
        c.1,
        behind-at w es c.0 c.1 c.2,
        c.3,
        subst (λ (d : List Entry). (d ≡ w ++ c.0) ⊎ Before d (w ++ c.0)) (sym inner.0) (elim c.4 [
          | inl is ↦ inl (ap (λ (r : List Entry). w ++ r) is)
          | inr low ↦ inr ((before-left w (rest_of b) c.0).1 low)
        ]),
      );
}

-- what is before a place or apart from it stands in one tree with it
pub in-tree : (b a : List Entry) → Before b a ⊎ Apart b a → OneTree b a
in-tree b a h = elim h [ inl low ↦ inr (inl low) | inr apart ↦ inr (inr (inr apart)) ]

outside-behind : (w b r : List Entry) → Before (w ++ b) (w ++ r) ⊎ Apart (w ++ b) (w ++ r) → Before b r ⊎ Apart b r
outside-behind w b r h = elim h [ inl low ↦ inl ((before-left w b r).0 low) | inr apart ↦ inr ((apart-left w b r).0 apart) ]

pub orderly-behind : (w : List Entry) (es : Places) (r : List Entry) → Orderly (behind_way w es) (w ++ r) → Orderly es r
orderly-behind w es r orderly = record {
  inside = related-behind w es orderly.inside;
  outside = λ b t at. outside-behind w b r (orderly.outside (w ++ b) t (behind-at w es b t at));
}

before-in : (w b r : List Entry) → b ≡ w ++ rest_of b → Before b (w ++ r) → Before (rest_of b) r
before-in w b r parts low = (before-left w (rest_of b) r).0 (subst (λ (x : List Entry). Before x (w ++ r)) parts low)

before-behind : (w : List Entry) (es : Places) (r : List Entry) (some : Bool) (old new : List ℕ) → EndsAtBranch w → AddedBefore es r some old new →
    AddedBefore (behind_way w es) (w ++ r) some old new
before-behind w es r some old new h added = record {
  kept = added.kept;
  sound = λ t j. elim (added.sound t j) [
    | inl earlier ↦ inl earlier
    | inr at ↦ inr (w ++ at.0, behind-at w es at.0 t at.1, (before-left w at.0 r).1 at.2)
  ];
  complete = λ b t at low any.
      let q = at-behind w es b t h at in
      let c = added.complete (rest_of b) t q.1 (before-in w b r q.0 low) tt in (
        w ++ c.0,
        c.1,
        behind-at w es c.0 c.1 c.2,
        c.3,
        subst (λ (d : List Entry). (d ≡ w ++ c.0) ⊎ Before d (w ++ c.0)) (sym q.0) (elim c.4 [
          | inl same ↦ inl (ap (λ (x : List Entry). w ++ x) same)
          | inr less ↦ inr ((before-left w (rest_of b) c.0).1 less)
        ]),
      );
  found = λ holds. let c = added.found holds in (w ++ c.0, c.1, behind-at w es c.0 c.1 c.2, (before-left w c.0 r).1 c.3, tt, c.5);
  none = λ fails b t at low any. let q = at-behind w es b t h at in added.none fails (rest_of b) t q.1 (before-in w b r q.0 low) tt;
}

-- the same of a walk
pub from-behind : (near : Places) (w : List Entry) (es : Places) (r : List Entry) (old new : List ℕ) → EndsAtBranch w → AddedFrom near es r old new →
    AddedFrom near (behind_way w es) (w ++ r) old new
from-behind near w es r old new h added = elim added [
  | inl some ↦ inl (before-behind w es r true old new h some)
  | inr none ↦ inr (before-behind w es r false old old h none.0, none.1)
]

-- at an event there is nothing before it
event-at : (w : List Entry) (n : ℕ) (b : List Entry) (t : ℕ) → IsAt ((w, n) ∷ []) b t → b ≡ w
event-at w n b t at =
    let e = at-in ((w, n) ∷ []) b t at in
    elim e.1 [ inl same ↦ e.2 ∙ ap (λ (x : List Entry × ℕ). x.0) same | inr none ↦ absurd none ]

event-before : (w : List Entry) (n : ℕ) (old : List ℕ) → AddedBefore ((w, n) ∷ []) w false old old
event-before w n old = record {
  kept = λ t i. i;
  sound = λ t i. inl i;
  complete = λ b t at low any. absurd (before-irreflexive w (subst (λ (x : List Entry). Before x w) (event-at w n b t at) low));
  found = λ holds. absurd (true≢false (sym holds));
  none = λ fails b t at low any. before-irreflexive w (subst (λ (x : List Entry). Before x w) (event-at w n b t at) low);
}

pub from-event : (near : Places) (s : Seat) (w : List Entry) (n : ℕ) (r : List Entry) (old new : List ℕ) → s ≡ Event w n → FitsBehind s r → AddedLast near old new →
    AddedFrom near (seat_places s) (seat_way s ++ r) old new
from-event near s w n r old new is fits last =
    subst (λ (x : Seat). AddedFrom near (seat_places x) (seat_way x ++ r) old new) (sym is)
    (subst (λ (x : List Entry). AddedFrom near ((w, n) ∷ []) x old new)
    (sym (ap (λ (x : List Entry). w ++ x) (subst (λ (x : Seat). FitsBehind x r) is fits) ∙ append-nil w))
    (inr (event-before w n old, last)))

-- ---- one seat after another
branch-left : (xs ys : List Seat) → IsBranch (xs ++ ys) → IsBranch xs
branch-left xs ys h = record { rising = rising-left xs ys h.rising; sound = every-left IsSound xs ys h.sound }

branch-right : (xs ys : List Seat) → IsBranch (xs ++ ys) → IsBranch ys
branch-right xs ys h = record { rising = rising-right xs ys h.rising; sound = every-right IsSound xs ys h.sound }

pub branch-taken : (ss : List Seat) (n : ℕ) → IsBranch ss → IsBranch (take n ss)
branch-taken ss n h = branch-left (take n ss) (drop n ss) (subst IsBranch (sym (whole n ss)) h)

pub branch-dropped : (ss : List Seat) (n : ℕ) → IsBranch ss → IsBranch (drop n ss)
branch-dropped ss n h = branch-right (take n ss) (drop n ss) (subst IsBranch (sym (whole n ss)) h)

-- what stands at a seat stands there in the whole
seat-there : (xs ys : List Seat) (s : Seat) (b : List Entry) (t : ℕ) → IsBranch (xs ++ s ∷ ys) → IsAt (seat_places s) b t → IsAt (flat (xs ++ s ∷ ys)) b t
seat-there xs ys s b t h at =
    let sound = every-right IsSound xs (s ∷ ys) h.sound in
    look-middle xs ys s b h (sym (seat-at-way s b t sound.0 at)) ∙ at

pub at-taken : (ss : List Seat) (n : ℕ) (b : List Entry) (t : ℕ) → IsAt (flat (take n ss)) b t → IsAt (flat ss) b t
at-taken ss n b t at = subst (λ (xs : List Seat). IsAt (flat xs) b t) (whole n ss) (at-left (take n ss) (drop n ss) b t at)

in-parted : (s : Seat) (ys : List Seat) → In s ys → (xs : List Seat) × (zs : List Seat) × (ys ≡ xs ++ s ∷ zs)
in-parted s [] i = absurd i
in-parted s (y ∷ ys) i = elim i [
  | inl is ↦ ([], ys, ap (λ (x : Seat). x ∷ ys) (sym is))
  | inr later ↦ let p = in-parted s ys later in (y ∷ p.0, p.1, ap (λ (xs : List Seat). y ∷ xs) p.2)
]

at-right : (xs ys ss : List Seat) (b : List Entry) (t : ℕ) → xs ++ ys ≡ ss → IsBranch ss → IsAt (flat ys) b t → IsAt (flat ss) b t
at-right xs ys ss b t is h at =
    let both : IsBranch (xs ++ ys) = subst IsBranch (sym is) h in
    let s = at-way ys b t (branch-right xs ys both).sound at in
    let parts = in-parted s.0 ys s.1 in
    let split : xs ++ ys ≡ xs ++ (parts.0 ++ s.0 ∷ parts.1) = ap (λ (zs : List Seat). xs ++ zs) parts.2 in
    let join : xs ++ (parts.0 ++ s.0 ∷ parts.1) ≡ (xs ++ parts.0) ++ s.0 ∷ parts.1 = sym (append_assoc xs parts.0 (s.0 ∷ parts.1)) in
    let inside : IsAt (seat_places s.0) b t =
    sym (look-middle parts.0 parts.1 s.0 b (subst IsBranch parts.2 (branch-right xs ys both)) (sym s.2)) ∙ subst (λ (zs : List Seat). IsAt (flat zs) b t) parts.2 at in
    subst (λ (zs : List Seat). IsAt (flat zs) b t) is
    (subst (λ (zs : List Seat). IsAt (flat zs) b t) (sym (split ∙ join)) (seat-there (xs ++ parts.0) parts.1 s.0 b t (subst IsBranch (split ∙ join) both) inside))

-- what stands behind stands in the whole: its way is no other's
pub at-dropped : (ss : List Seat) (n : ℕ) (b : List Entry) (t : ℕ) → IsBranch ss → IsAt (flat (drop n ss)) b t → IsAt (flat ss) b t
at-dropped ss n b t h at = at-right (take n ss) (drop n ss) ss b t (whole n ss) h at

pub seat-in-there : (ss : List Seat) (s : Seat) (b : List Entry) (t : ℕ) → IsBranch ss → In s ss → IsAt (seat_places s) b t → IsAt (flat ss) b t
seat-in-there ss s b t h i at =
    let p = in-parted s ss i in
    subst (λ (xs : List Seat). IsAt (flat xs) b t) (sym p.2) (seat-there p.0 p.1 s b t (subst IsBranch p.2 h) at)

pub related-seat : (ss : List Seat) (s : Seat) → IsBranch ss → In s ss → Related (flat ss) → Related (seat_places s)
related-seat ss s h i related b c t u at cu = related b c t u (seat-in-there ss s b t h i at) (seat-in-there ss s c u h i cu)

pub related-taken : (ss : List Seat) (n : ℕ) → Related (flat ss) → Related (flat (take n ss))
related-taken ss n related b c t u at cu = related b c t u (at-taken ss n b t at) (at-taken ss n c u cu)

pub related-dropped : (ss : List Seat) (n : ℕ) → IsBranch ss → Related (flat ss) → Related (flat (drop n ss))
related-dropped ss n h related b c t u at cu = related b c t u (at-dropped ss n b t h at) (at-dropped ss n c u h cu)

pub each-none : (old : List ℕ) → AddedLast [] old old
each-none old = record { kept = λ t i. i; sound = λ t i. inl i; complete = λ b t at. absurd (none-some t at) }

seat-or : (s : Seat) (b : List Entry) (t : ℕ) → IsAt (flat (s ∷ [])) b t → IsAt (seat_places s) b t
seat-or s b t at = elim (first-either (ticket_at (seat_places s) b) None t (sym (look-append b (seat_places s) []) ∙ at)) [
  | inl here ↦ here
  | inr none ↦ absurd (none-some t none.1)
]

-- one more
pub each-next : (xs : List Seat) (s : Seat) (old mid new : List ℕ) → IsBranch (xs ++ s ∷ []) → AddedLast (flat xs) old mid → AddedLast (seat_places s) mid new →
    AddedLast (flat (xs ++ s ∷ [])) old new
each-next xs s old mid new h first next = record {
  kept = λ t i. next.kept t (first.kept t i);
  sound = λ t i. elim (next.sound t i) [
    | inl there ↦ elim (first.sound t there) [ inl earlier ↦ inl earlier | inr at ↦ inr (at.0, at-left xs (s ∷ []) at.0 t at.1) ]
    | inr at ↦ inr (at.0, seat-there xs [] s at.0 t h at.1)
  ];
  complete = λ b t at. elim (at-either xs (s ∷ []) b t at) [
    | inl low ↦ let c = first.complete b t low in (c.0, c.1, at-left xs (s ∷ []) c.0 c.1 c.2, next.kept c.1 c.3, c.4)
    | inr here ↦ let c = next.complete b t (seat-or s b t here) in (c.0, c.1, seat-there xs [] s c.0 c.1 h c.2, c.3, c.4)
  ];
}

-- ---- the group at the end
-- the last seat is not less than its own ordered entries
pub not-under-ordered : (w : List Entry) → order_of w (ordered_of w) ≡ Less → ⊥
not-under-ordered [] h = less-not-equal (sym h)
not-under-ordered (Ordered i ∷ w) h = elim (less-parts (Ordered i) (Ordered i) w (ordered_of w) h) [
  | inl less ↦ less-differs (Ordered i ∷ []) (Ordered i ∷ []) (less-first (Ordered i) (Ordered i) [] [] less) refl
  | inr both ↦ not-under-ordered w both.1
]
not-under-ordered (Branch i ∷ w) h = greater-not-less h

module _ (ss : List Seat) (last : Seat) (n : ℕ) (h : IsBranch ss) (related : Related (flat ss)) (there : In last ss) (split : Splits (map seat_way ss) (ordered_of (seat_way last)) n)
  where
    last-in-group : In last (drop n ss)
    last-in-group = elim (in-either last (take n ss) (drop n ss) (subst (λ (xs : List Seat). In last xs) (sym (whole n ss)) there)) [
      | inl low ↦ absurd (not-under-ordered (seat_way last) (split-low ss (ordered_of (seat_way last)) n split last low))
      | inr high ↦ high
    ]

    pub group-last : (old new : List ℕ) → AddedLast (flat (drop n ss)) old new → AddedLast (flat ss) old new
    group-last old new added =
        let sound = every-in IsSound ss last h.sound there in
        let has = seat-has last sound in
        let group = branch-dropped ss n h in
        let high : IsAt (flat (drop n ss)) has.0 has.1 = seat-in-there (drop n ss) last has.0 has.1 group last-in-group has.2 in
        let way : way_of has.0 ≡ seat_way last = seat-at-way last has.0 has.1 sound has.2 in
        let begins : ordered_of (seat_way last) ≡ ordered_of has.0 = ap ordered_of (sym way) ∙ ordered-of-way has.0 in
        let top = added.complete has.0 has.1 high in
        let cover : Covered (flat ss) new has.0 = (top.0, top.1, at-dropped ss n top.0 top.1 h top.2, top.3, top.4) in
        record {
          kept = added.kept;
          sound = λ t i. elim (added.sound t i) [ inl earlier ↦ inl earlier | inr at ↦ inr (at.0, at-dropped ss n at.0 t h at.1) ];
          complete = λ b t at. elim (at-either (take n ss) (drop n ss) b t (subst (λ (xs : List Seat). IsAt (flat xs) b t) (sym (whole n ss)) at)) [
            | inl low ↦
                let s = at-way (take n ss) b t (branch-taken ss n h).sound low in
                let less : order_of (way_of b) (ordered_of has.0) ≡ Less =
                subst (λ (w : List Entry). order_of w (ordered_of has.0) ≡ Less) (sym s.2)
                (subst (λ (p : List Entry). order_of (seat_way s.0) p ≡ Less) begins (split-low ss (ordered_of (seat_way last)) n split s.0 s.1)) in
                covered-behind (flat ss) new b has.0 (less-before b has.0 less (related b has.0 t has.1 at (at-dropped ss n has.0 has.1 h high))) cover
            | inr up ↦ let c = added.complete b t up in (c.0, c.1, at-dropped ss n c.0 c.1 h c.2, c.3, c.4)
          ];
        }

-- the last one alone
drop-last : (ss : List Seat) (n : ℕ) (s : Seat) → slice_get ss n ≡ Some s → length ss ≡ suc n → drop n ss ≡ s ∷ []
drop-last [] n s at h = absurd (omega arith)
drop-last (x ∷ []) zero s at h = ap (λ (y : Seat). y ∷ []) (some-is x s at)
drop-last (x ∷ y ∷ ss) zero s at h = absurd (omega arith)
drop-last (x ∷ ss) (suc n) s at h = let less : length ss ≡ suc n = omega arith in drop-last ss n s at less

pub alone-last : (ss : List Seat) (n m : ℕ) (s : Seat) (old new : List ℕ) → slice_get ss m ≡ Some s → m ≡ n → length ss ≡ suc n → AddedLast (seat_places s) old new →
    AddedLast (flat (drop n ss)) old new
alone-last ss n m s old new at same long added =
    subst (λ (xs : List Seat). AddedLast (flat xs) old new) (sym (drop-last ss n s (subst (λ (k : ℕ). slice_get ss k ≡ Some s) same at) long))
    (subst (λ (es : Places). AddedLast es old new) (sym (append-nil (seat_places s))) added)

-- ---- before a place
some-first : (ss : List Seat) → 0 < length ss → (s : Seat) × In s ss
some-first [] h = absurd (omega arith)
some-first (s ∷ ss) h = (s, inl refl)

-- what is lesser stands before the place
module _ (ss : List Seat) (a p : List Entry) (n : ℕ) (h : IsBranch ss) (orderly : Orderly (flat ss) a) (begins : p ≡ ordered_of a) (split : Splits (map seat_way ss) p n) where
  lesser-way : (b : List Entry) (t : ℕ) → IsAt (flat (take n ss)) b t → order_of (way_of b) (ordered_of a) ≡ Less
  lesser-way b t at =
      let s = at-way (take n ss) b t (branch-taken ss n h).sound at in
      subst (λ (w : List Entry). order_of w (ordered_of a) ≡ Less) (sym s.2)
      (subst (λ (q : List Entry). order_of (seat_way s.0) q ≡ Less) begins (split-low ss p n split s.0 s.1))

  lesser-before : (b : List Entry) (t : ℕ) → IsAt (flat (take n ss)) b t → Before b a
  lesser-before b t at = less-before b a (lesser-way b t at) (in-tree b a (orderly.outside b t (at-taken ss n b t at)))

  -- and no other is
  lesser-in : (b : List Entry) (t : ℕ) → IsAt (flat ss) b t → order_of (way_of b) (ordered_of a) ≡ Less → IsAt (flat (take n ss)) b t
  lesser-in b t at less = elim (at-either (take n ss) (drop n ss) b t (subst (λ (xs : List Seat). IsAt (flat xs) b t) (sym (whole n ss)) at)) [
    | inl low ↦ low
    | inr high ↦
        let s = at-way (drop n ss) b t (branch-dropped ss n h).sound high in
        absurd (split-not-high ss p n split s.0 s.1
        (subst (λ (q : List Entry). order_of (seat_way s.0) q ≡ Less) (sym begins) (subst (λ (w : List Entry). order_of w (ordered_of a) ≡ Less) s.2 less)))
  ]

  pub lesser-none : (old : List ℕ) → take n ss ≡ [] → AddedLesser (flat ss) a false old old
  lesser-none old none =
      let never : (b : List Entry) (t : ℕ) → IsAt (flat ss) b t → order_of (way_of b) (ordered_of a) ≡ Less → ⊥ =
      λ b t at less. none-some t (subst (λ (xs : List Seat). IsAt (flat xs) b t) none (lesser-in b t at less)) in
      record {
        kept = λ t i. i;
        sound = λ t i. inl i;
        complete = λ b t at low less. absurd (never b t at less);
        found = λ holds. absurd (true≢false (sym holds));
        none = λ fails b t at low less. never b t at less;
      }

  pub lesser-some : (old new : List ℕ) → 0 < length (take n ss) → AddedLast (flat (take n ss)) old new → AddedLesser (flat ss) a true old new
  lesser-some old new some added =
      let first = some-first (take n ss) some in
      let sound = every-in IsSound (take n ss) first.0 (branch-taken ss n h).sound first.1 in
      let has = seat-has first.0 sound in
      let top = added.complete has.0 has.1 (seat-in-there (take n ss) first.0 has.0 has.1 (branch-taken ss n h) first.1 has.2) in
      record {
        kept = added.kept;
        sound = λ t i. elim (added.sound t i) [ inl earlier ↦ inl earlier | inr at ↦ inr (at.0, at-taken ss n at.0 t at.1, lesser-before at.0 t at.1) ];
        complete = λ b t at low less. let c = added.complete b t (lesser-in b t at less) in (c.0, c.1, at-taken ss n c.0 c.1 c.2, c.3, c.4);
        found = λ holds. (top.0, top.1, at-taken ss n top.0 top.1 top.2, lesser-before top.0 top.1 top.2, lesser-way top.0 top.1 top.2, top.3);
        none = λ fails. absurd (true≢false fails);
      }

-- ---- in the branch that the place goes into
pub inner-none : (ss : List Seat) (a : List Entry) (old : List ℕ) → ((b : List Entry) (t : ℕ) → IsAt (flat ss) b t → way_of b ≡ way_of a → Before b a → ⊥) →
    AddedInner (flat ss) a false old old
inner-none ss a old never = record {
  kept = λ t i. i;
  sound = λ t i. inl i;
  complete = λ b t at low way. absurd (never b t at way low);
  found = λ holds. absurd (true≢false (sym holds));
  none = λ fails b t at low way. never b t at way low;
}

-- no seat has the way
pub absent-inner : (ss : List Seat) (a : List Entry) (i : ℕ) (old : List ℕ) → IsBranch ss → Splits (map seat_way ss) (way_of a) i → (HasSeat ss i (way_of a) → ⊥) →
    AddedInner (flat ss) a false old old
absent-inner ss a i old h split none =
    inner-none ss a old (λ b t at way low. let s = at-way ss b t h.sound at in absent-way ss a i h split none s.0 s.1 (sym s.2 ∙ way))

module _ (ss : List Seat) (i : ℕ) (s : Seat) (a : List Entry) (h : IsBranch ss) (st : Stands ss i s a) where
  middle : (b : List Entry) → way_of b ≡ way_of a → ticket_at (flat ss) b ≡ ticket_at (seat_places s) b
  middle b way =
      ap (λ (xs : List Seat). ticket_at (flat xs) b) st.parts
      ∙ look-middle (take i ss) (drop (suc i) ss) s b (subst IsBranch st.parts h) (st.way ∙ sym way)

  there : (b : List Entry) (t : ℕ) → IsAt (seat_places s) b t → IsAt (flat ss) b t
  there b t at =
      subst (λ (xs : List Seat). IsAt (flat xs) b t) (sym st.parts)
      (seat-there (take i ss) (drop (suc i) ss) s b t (subst IsBranch st.parts h) at)

  pub orderly-seat : (v : List Entry) → v ≡ a → Orderly (flat ss) a → Orderly (seat_places s) v
  orderly-seat v is orderly = record {
    inside = λ b c t u at cu. orderly.inside b c t u (there b t at) (there c u cu);
    outside = λ b t at. subst (λ (x : List Entry). Before b x ⊎ Apart b x) (sym is) (orderly.outside b t (there b t at));
  }

  -- what is before the place in the seat is all that takes the same way
  pub seat-inner : (some : Bool) (old new : List ℕ) → IsSound s → AddedBefore (seat_places s) a some old new → AddedInner (flat ss) a some old new
  seat-inner some old new sound added = record {
    kept = added.kept;
    sound = λ t j. elim (added.sound t j) [ inl earlier ↦ inl earlier | inr at ↦ inr (at.0, there at.0 t at.1, at.2) ];
    complete = λ b t at low way.
        let c = added.complete b t (sym (middle b way) ∙ at) low tt in
        (c.0, c.1, there c.0 c.1 c.2, c.3, c.4);
    found = λ holds.
        let c = added.found holds in
        (c.0, c.1, there c.0 c.1 c.2, c.3, seat-at-way s c.0 c.1 sound c.2 ∙ st.way, c.5);
    none = λ fails b t at low way. added.none fails b t (sym (middle b way) ∙ at) low tt;
  }

module _ (ss : List Seat) (i : ℕ) (s : Seat) (a r : List Entry) (h : IsBranch ss) (st : Stands ss i s a) (rest : r ≡ rest_of a) (w : List Entry) (inner : Box Places)
    (is : s ≡ Inner w inner) (ends : EndsAtBranch w) where
  own : w ≡ way_of a
  own = ap seat_way (sym is) ∙ st.way

  goes : w ++ r ≡ a
  goes = ap (λ (v : List Entry). v ++ r) own ∙ (ap (λ (x : List Entry). way_of a ++ x) rest ∙ way-and-rest a)

  pub child-inner : ticket_at (flat ss) (a ++ Ordered 0 ∷ []) ≡ ticket_at inner.value (r ++ Ordered 0 ∷ [])
  child-inner =
      let child : a ++ Ordered 0 ∷ [] ≡ w ++ (r ++ Ordered 0 ∷ []) = ap (λ (x : List Entry). x ++ Ordered 0 ∷ []) (sym goes) ∙ append_assoc w r (Ordered 0 ∷ []) in
      ap (λ (x : List Entry). ticket_at (flat ss) x) child
      ∙ (middle ss i s a h st (w ++ (r ++ Ordered 0 ∷ [])) (way-behind w (r ++ Ordered 0 ∷ []) ends ∙ own)
      ∙ (ap (λ (x : Seat). ticket_at (seat_places x) (w ++ (r ++ Ordered 0 ∷ []))) is ∙ look-behind w inner.value (r ++ Ordered 0 ∷ [])))

-- ---- both together
pub inner-all : (es : Places) (a : List Entry) (old new : List ℕ) → Orderly es a → AddedInner es a true old new → AddedBefore es a true old new
inner-all es a old new orderly inner =
    let top = inner.found refl in
    let begins : ordered_of a ≡ ordered_of top.0 = sym (ordered-of-way a) ∙ (ap ordered_of (sym top.4) ∙ ordered-of-way top.0) in
    record {
      kept = inner.kept;
      sound = inner.sound;
      complete = λ b t at low any. elim (before-parts b a low) [
        | inl same ↦ inner.complete b t at low same.0
        | inr less ↦ (
          top.0,
          top.1,
          top.2,
          top.5,
          inr (less-before b top.0 (subst (λ (p : List Entry). order_of (way_of b) p ≡ Less) begins less) (orderly.inside b top.0 t top.1 at top.2)),
        )
      ];
      found = λ holds. (top.0, top.1, top.2, top.3, tt, top.5);
      none = λ fails. absurd (true≢false fails);
    }

pub lesser-all : (es : Places) (a : List Entry) (some : Bool) (old mid new : List ℕ) → AddedInner es a false old mid → AddedLesser es a some mid new → AddedBefore es a some old new
lesser-all es a some old mid new inner lesser = record {
  kept = λ t i. lesser.kept t (inner.kept t i);
  sound = λ t i. elim (lesser.sound t i) [ inl there ↦ inner.sound t there | inr at ↦ inr at ];
  complete = λ b t at low any. elim (before-parts b a low) [
    | inl same ↦ absurd (inner.none refl b t at low same.0)
    | inr less ↦ lesser.complete b t at low less
  ];
  found = λ holds. let c = lesser.found holds in (c.0, c.1, c.2, c.3, tt, c.5);
  none = λ fails b t at low any. elim (before-parts b a low) [
    | inl same ↦ inner.none refl b t at low same.0
    | inr less ↦ lesser.none fails b t at low less
  ];
}

-- ---- one walk
-- what splits the first of them below the way splits all of them
split-more : (ps : List (List Entry)) (w p : List Entry) (i n : ℕ) → Splits ps w i → ((b : List Entry) → order_of b p ≡ Less → order_of b w ≡ Less) → Splits (take i ps) p n →
    Splits ps p n
split-more ps w p i n split under low = record {
  within = let h : n ≤ length (take i ps) = low.within in omega (arith, h, take-within ps i);
  below = λ b at. low.below b (subst (λ (qs : List (List Entry)). In b qs) (sym (take-again ps n i low.within)) at);
  above = λ b at less. elim (drop-either ps n i b low.within at) [
    | inl there ↦ low.above b there less
    | inr high ↦ split.above b high (under b less)
  ];
}

pub less-ordered : (b a : List Entry) → order_of b (ordered_of a) ≡ Less → order_of b (way_of a) ≡ Less
less-ordered b [] h = h
less-ordered b (Branch i ∷ a) h = absurd (not-under-none b h)
less-ordered [] (Ordered i ∷ a) h = refl
less-ordered (x ∷ b) (Ordered i ∷ a) h = elim (less-parts x (Ordered i) b (ordered_of a) h) [
  | inl less ↦ less-first x (Ordered i) b (way_of a) less
  | inr both ↦ less-rest x (Ordered i) b (way_of a) both.0 (less-ordered b a both.1)
]

-- the nearest of those before the way are the nearest of all
module _ (ss : List Seat) (a : List Entry) (i : ℕ) (before nearest nearer : List Seat) (h : IsBranch ss) (split : Splits (map seat_way ss) (way_of a) i)
    (is : before ≡ take i ss) (near : IsNearer before (ordered_of a) nearest nearer) where
  splits-taken : Splits (take i (map seat_way ss)) (ordered_of a) near.count
  splits-taken =
      subst (λ (ps : List (List Entry)). Splits ps (ordered_of a) near.count) (map-take seat_way i ss)
      (subst (λ (xs : List Seat). Splits (map seat_way xs) (ordered_of a) near.count) is near.splits)

  splits-all : Splits (map seat_way ss) (ordered_of a) near.count
  splits-all = split-more (map seat_way ss) (way_of a) (ordered_of a) i near.count split (λ b less. less-ordered b a less) splits-taken

  fewer : near.count ≤ length (take i ss)
  fewer =
      let within : near.count ≤ length (map seat_way before) = near.splits.within in
      let same : length (map seat_way before) ≡ length before = length-places seat_way before in
      let long : length before ≡ length (take i ss) = ap length is in
      omega (arith, within, same, long)

  lesser-is : take near.count before ≡ take near.count ss
  lesser-is = ap (λ (xs : List Seat). take near.count xs) is ∙ take-again ss near.count i fewer

  pub near-group : IsGroup nearest → Related (flat ss) → IsGroup nearer
  near-group group related = elim near.are [
    | inl none ↦ subst IsGroup (sym none.1) group
    | inr some ↦
        subst IsGroup (sym (some.1 ∙ lesser-is))
        (record { branch = branch-taken ss near.count h; related = related-taken ss near.count related })
  ]

  pub from-lesser : (old new : List ℕ) → Orderly (flat ss) a → AddedInner (flat ss) a false old old → AddedLast (flat nearer) old new → AddedFrom (flat nearest) (flat ss) a old new
  from-lesser old new orderly inner last = elim near.are [
    | inl none ↦ inr (
      lesser-all (flat ss) a false old old old inner
          (lesser-none ss a (ordered_of a) near.count h orderly refl splits-all old (ap (λ (n : ℕ). take n ss) none.0 ∙ take-none ss)),
      subst (λ (xs : List Seat). AddedLast (flat xs) old new) none.1 last,
    )
    | inr some ↦
        inl (lesser-all (flat ss) a true old old new inner
        (lesser-some ss a (ordered_of a) near.count h orderly refl splits-all old new
        (subst (λ (xs : List Seat). 0 < length xs) (take-again ss near.count i fewer) (take-some (take i ss) near.count some.0 fewer))
        (subst (λ (xs : List Seat). AddedLast (flat xs) old new) (some.1 ∙ lesser-is) last)))
  ]

  pub from-seat : (s : Seat) (v : List Entry) (old new : List ℕ) → Orderly (flat ss) a → Stands ss i s a → IsSound s → v ≡ a → AddedFrom (flat nearer) (seat_places s) v old new →
      AddedFrom (flat nearest) (flat ss) a old new
  from-seat s v old new orderly st sound place added = elim (subst (λ (x : List Entry). AddedFrom (flat nearer) (seat_places s) x old new) place added) [
    | inl some ↦ inl (inner-all (flat ss) a old new orderly (seat-inner ss i s a h st true old new sound some))
    | inr none ↦ from-lesser old new orderly (seat-inner ss i s a h st false old old sound none.0) none.1
  ]

-- at the top there are no nearest
pub none-group : IsGroup []
none-group = record { branch = record { rising = tt; sound = tt }; related = λ b c t u at cu. absurd (none-some t at) }

-- what `put` promises of those that it finds
pub all-before : (es : Places) (a : List Entry) (old new : List ℕ) → AddedFrom [] es a old new → LastBefore es a old new
all-before es a old new added = elim added [
  | inl some ↦ record {
    kept = some.kept;
    sound = some.sound;
    complete = λ b t at low. some.complete b t at low tt;
  }
  | inr none ↦ record {
    kept = none.1.kept;
    sound = λ t i. elim (none.1.sound t i) [ inl earlier ↦ inl earlier | inr at ↦ absurd (none-some t at.1) ];
    complete = λ b t at low. absurd (none.0.none refl b t at low tt);
  }
]
