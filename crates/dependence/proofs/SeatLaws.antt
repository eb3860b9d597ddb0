-- What stands in a branch: what it answers, and what one more and one less leave.
use Rattle.std.proofs.Common.{◌≡◌, ◌≢◌, inl, inr, ℕ, zero, suc, ◌+◌, ◌*◌, ◌<◌, eqb, length-append, get_or, Bool, true, false, cond, List, [], ◌∷◌, ◌++◌, length, take, drop, map, set, append_assoc, Option, Some, None, refl, sym, ap, subst, ◌∙◌, true≢false, arith, Ordering, Less, Equal, Greater}
use Rattle.std.specs.Ordering.{is_eq, ordering_then}
use Rattle.std.specs.Global.{Box}
use Rattle.std.specs.Map.{lookup}
use Rattle.address.specs.declared.Entry.{Entry}
use Rattle.address.specs.Order.{order_of}
use Rattle.address.specs.internal.OrderLaws.{less-not-equal}
use Rattle.address.proofs.public.Total.{order-itself, order-ties, order-total, order-transitive}
use Rattle.syntax.specs.Lists.{In, Every}
use Rattle.dependence.specs.LastEvents.{ticket_at, PutAt, RemovedAt}
use Rattle.dependence.specs.declared.branch.Seat.{Seat}
use Rattle.dependence.specs.declared.branch.Seat.TheVariants.{Event, Inner}
use Rattle.dependence.specs.internal.Search.{Rising, Splits}
use Rattle.dependence.specs.internal.Seats.{Places, way_of, rest_of, AllOrdered, EndsAtBranch, IsWay, behind_way, seat_way, seat_places, flat, HasSeat, IsSound, IsBranch, IsMadeOf, FitsBehind, TakenAt}
use Rattle.dependence.proofs.ForkLaws.{entry-itself}
use Rattle.dependence.proofs.ListLaws.{in-left, in-right, in-either, in-map, map-in, in-map-take, in-map-drop, every-left, every-right, every-both, whole, split-at, set-split, get-at, at-map, at-within, map-at}
use Rattle.dependence.proofs.SearchLaws.{some-is}
use Rattle.dependence.proofs.WayLaws.{ordered-way, ends-way, way-behind, event-rest, rest-shorter, way-and-rest, begins}

-- ---- the table asked for a place
abbrev pub is_key : List Entry → List Entry → Bool
is_key a k = is_eq (order_of a k)

eq-of : (o : Ordering) → is_eq o ≡ true → o ≡ Equal
eq-of Less h = absurd (true≢false (sym h))
eq-of Equal h = refl
eq-of Greater h = absurd (true≢false (sym h))

not-true : (b : Bool) → (b ≡ true → ⊥) → b ≡ false
not-true true h = absurd (h refl)
not-true false h = refl

pub key-is : (a k : List Entry) → is_key a k ≡ true → a ≡ k
key-is a k h = order-ties a k (eq-of (order_of a k) h)

no-key : (a k : List Entry) → a ≢ k → is_key a k ≡ false
no-key a k differs = not-true (is_key a k) (λ here. differs (order-ties a k (eq-of (order_of a k) here)))

pub less-differs : (a b : List Entry) → order_of a b ≡ Less → a ≢ b
less-differs a b less is = less-not-equal (sym (subst (λ (c : List Entry). order_of c b ≡ Less) is less) ∙ order-itself b)

pub look-none : (a : List Entry) (es : Places) → ((e : List Entry × ℕ) → In e es → a ≢ e.0) → ticket_at es a ≡ None
look-none a [] h = refl
look-none a (x ∷ es) h =
    ap (λ (p : Bool). cond p (Some x.1) (lookup (is_key a) es)) (no-key a x.0 (h x (inl refl))) ∙ look-none a es (λ e i. h e (inr i))

pub look-here : (a : List Entry) (t : ℕ) → ticket_at ((a, t) ∷ []) a ≡ Some t
look-here a t = ap (λ (o : Ordering). cond (is_eq o) (Some t) None) (order-itself a)

pub look-other : (a : List Entry) (t : ℕ) (b : List Entry) → b ≢ a → ticket_at ((a, t) ∷ []) b ≡ None
look-other a t b differs = ap (λ (p : Bool). cond p (Some t) None) (no-key b a differs)

-- the first that there is
abbrev pub first_of : Option ℕ → Option ℕ → Option ℕ
first_of (Some t) o = Some t
first_of None o = o

first-step : (p : Bool) (t : ℕ) (o left right : Option ℕ) → o ≡ first_of left right → cond p (Some t) o ≡ first_of (cond p (Some t) left) right
first-step true t o left right is = refl
first-step false t o left right is = is

pub look-append : (a : List Entry) (xs ys : Places) → ticket_at (xs ++ ys) a ≡ first_of (ticket_at xs a) (ticket_at ys a)
look-append a [] ys = refl
look-append a (x ∷ xs) ys = first-step (is_key a x.0) x.1 (ticket_at (xs ++ ys) a) (ticket_at xs a) (ticket_at ys a) (look-append a xs ys)

-- ---- behind a way
pub order-behind : (w a b : List Entry) → order_of (w ++ a) (w ++ b) ≡ order_of a b
order-behind [] a b = refl
order-behind (x ∷ w) a b = ap (λ (o : Ordering). ordering_then o (order_of (w ++ a) (w ++ b))) (entry-itself x) ∙ order-behind w a b

pub look-behind : (w : List Entry) (es : Places) (a : List Entry) → ticket_at (behind_way w es) (w ++ a) ≡ ticket_at es a
look-behind w [] a = refl
look-behind w (e ∷ es) a =
    ap (λ (o : Ordering). cond (is_eq o) (Some e.1) (ticket_at (behind_way w es) (w ++ a))) (order-behind w a e.0)
    ∙ ap (λ (o : Option ℕ). cond (is_eq (order_of a e.0)) (Some e.1) o) (look-behind w es a)

pub in-behind : (w : List Entry) (es : Places) (e : List Entry × ℕ) → In e (behind_way w es) → (x : List Entry × ℕ) × In x es × (e ≡ (w ++ x.0, x.1))
in-behind w [] e i = absurd i
in-behind w (x ∷ es) e i = elim i [
  | inl is ↦ (x, inl refl, is)
  | inr later ↦ let y = in-behind w es e later in (y.0, inr y.1, y.2)
]

behind-none : (w : List Entry) (es : Places) (b : List Entry) → ((x : List Entry) → b ≢ w ++ x) → ticket_at (behind_way w es) b ≡ None
behind-none w es b not =
    look-none b (behind_way w es)
    (λ e i is. let x = in-behind w es e i in not x.0.0 (is ∙ ap (λ (y : List Entry × ℕ). y.0) x.2))

-- what is the same behind the way is the same
same-behind : (w : List Entry) (old new : Places) (r b : List Entry) → ((x : List Entry) → x ≢ r → ticket_at new x ≡ ticket_at old x) → b ≢ w ++ r →
    ticket_at (behind_way w new) b ≡ ticket_at (behind_way w old) b
same-behind w old new r b same differs = elim (begins w b) [
  | inl h ↦
      subst (λ (c : List Entry). ticket_at (behind_way w new) c ≡ ticket_at (behind_way w old) c) (sym h.1)
      (look-behind w new h.0 ∙ (same h.0 (λ is. differs (h.1 ∙ ap (λ (x : List Entry). w ++ x) is)) ∙ sym (look-behind w old h.0)))
  | inr not ↦ behind-none w new b not ∙ sym (behind-none w old b not)
]

pub put-behind : (w : List Entry) (old new : Places) (r : List Entry) (t : ℕ) → PutAt old r t new → PutAt (behind_way w old) (w ++ r) t (behind_way w new)
put-behind w old new r t put = record {
  here = look-behind w new r ∙ put.here;
  others = λ b differs. same-behind w old new r b put.others differs;
}

pub removed-behind : (w : List Entry) (old new : Places) (r : List Entry) → RemovedAt old r new → RemovedAt (behind_way w old) (w ++ r) (behind_way w new)
removed-behind w old new r gone = record {
  here = look-behind w new r ∙ gone.here;
  others = λ b differs. same-behind w old new r b gone.others differs;
}

behind-some : (w : List Entry) (es : Places) → 0 < length es → 0 < length (behind_way w es)
behind-some w [] h = absurd (omega arith)
behind-some w (e ∷ es) h = omega arith

-- ---- seats
pub seat-ways : (s : Seat) (e : List Entry × ℕ) → IsSound s → In e (seat_places s) → way_of e.0 ≡ seat_way s
seat-ways (Event w t) e h i = elim i [ inl is ↦ ap (λ (x : List Entry × ℕ). way_of x.0) is ∙ ordered-way w h | inr none ↦ absurd none ]
seat-ways (Inner w inner) e h i =
    let x = in-behind w inner.value e i in ap (λ (y : List Entry × ℕ). way_of y.0) x.2 ∙ way-behind w x.0.0 h.0

-- something stands at each
pub seat-some : (s : Seat) → IsSound s → 0 < length (seat_places s)
seat-some (Event w t) h = omega arith
seat-some (Inner w inner) h = behind-some w inner.value h.1

pub flat-ways : (ss : List Seat) (e : List Entry × ℕ) → Every IsSound ss → In e (flat ss) → (s : Seat) × In s ss × In e (seat_places s) × (way_of e.0 ≡ seat_way s)
flat-ways [] e h i = absurd i
flat-ways (s ∷ ss) e h i = elim (in-either e (seat_places s) (flat ss) i) [
  | inl here ↦ (s, inl refl, here, seat-ways s e h.0 here)
  | inr there ↦ let t = flat-ways ss e h.1 there in (t.0, inr t.1, t.2, t.3)
]

pub flat-none : (ss : List Seat) (a : List Entry) → Every IsSound ss → ((s : Seat) → In s ss → seat_way s ≢ way_of a) → ticket_at (flat ss) a ≡ None
flat-none ss a h other =
    look-none a (flat ss) (λ e i is. let s = flat-ways ss e h i in other s.0 s.1 (sym s.3 ∙ ap way_of (sym is)))

pub flat-append : (xs ys : List Seat) → flat (xs ++ ys) ≡ flat xs ++ flat ys
flat-append [] ys = refl
flat-append (x ∷ xs) ys = ap (λ (es : Places). seat_places x ++ es) (flat-append xs ys) ∙ sym (append_assoc (seat_places x) (flat xs) (flat ys))

pub look-parts : (xs ys : List Seat) (a : List Entry) → ticket_at (flat (xs ++ ys)) a ≡ first_of (ticket_at (flat xs) a) (ticket_at (flat ys) a)
look-parts xs ys a = ap (λ (es : Places). ticket_at es a) (flat-append xs ys) ∙ look-append a (flat xs) (flat ys)

pub look-seat : (xs ys : List Seat) (s : Seat) (a : List Entry) →
    ticket_at (flat (xs ++ s ∷ ys)) a ≡ first_of (ticket_at (flat xs) a) (first_of (ticket_at (seat_places s) a) (ticket_at (flat ys) a))
look-seat xs ys s a = look-parts xs (s ∷ ys) a ∙ ap (λ (o : Option ℕ). first_of (ticket_at (flat xs) a) o) (look-append a (seat_places s) (flat ys))

-- ---- rising ways
pub rising-before : (xs ys : List Seat) (s t : Seat) → Rising (map seat_way (xs ++ s ∷ ys)) → In t xs → order_of (seat_way t) (seat_way s) ≡ Less
rising-before [] ys s t r i = absurd i
rising-before (x ∷ xs) ys s t r i = elim i [
  | inl is ↦
      subst (λ (u : Seat). order_of (seat_way u) (seat_way s) ≡ Less) (sym is)
      (r.0 (seat_way s) (in-map seat_way s (xs ++ s ∷ ys) (in-right s xs (s ∷ ys) (inl refl))))
  | inr later ↦ rising-before xs ys s t r.1 later
]

pub rising-behind : (xs ys : List Seat) (s t : Seat) → Rising (map seat_way (xs ++ s ∷ ys)) → In t ys → order_of (seat_way s) (seat_way t) ≡ Less
rising-behind [] ys s t r i = r.0 (seat_way t) (in-map seat_way t ys i)
rising-behind (x ∷ xs) ys s t r i = rising-behind xs ys s t r.1 i

pub rising-right : (xs ys : List Seat) → Rising (map seat_way (xs ++ ys)) → Rising (map seat_way ys)
rising-right [] ys r = r
rising-right (x ∷ xs) ys r = rising-right xs ys r.1

pub rising-left : (xs ys : List Seat) → Rising (map seat_way (xs ++ ys)) → Rising (map seat_way xs)
rising-left [] ys r = tt
rising-left (x ∷ xs) ys r = (
  λ b i.
      let t = map-in seat_way b xs i in
      subst (λ (c : List Entry). order_of (seat_way x) c ≡ Less) (sym t.2) (r.0 (seat_way t.0) (in-map seat_way t.0 (xs ++ ys) (in-left t.0 xs ys t.1))),
  rising-left xs ys r.1,
)

rising-across : (xs ys : List Seat) (s t : Seat) → Rising (map seat_way (xs ++ ys)) → In s xs → In t ys → order_of (seat_way s) (seat_way t) ≡ Less
rising-across [] ys s t r i j = absurd i
rising-across (x ∷ xs) ys s t r i j = elim i [
  | inl is ↦
      subst (λ (u : Seat). order_of (seat_way u) (seat_way t) ≡ Less) (sym is) (r.0 (seat_way t) (in-map seat_way t (xs ++ ys) (in-right t xs ys j)))
  | inr later ↦ rising-across xs ys s t r.1 later j
]

rising-join : (xs ys : List Seat) → Rising (map seat_way xs) → Rising (map seat_way ys) →
    ((s t : Seat) → In s xs → In t ys → order_of (seat_way s) (seat_way t) ≡ Less) → Rising (map seat_way (xs ++ ys))
rising-join [] ys r q across = q
rising-join (x ∷ xs) ys r q across = (
  λ b i.
      let t = map-in seat_way b (xs ++ ys) i in
      subst (λ (c : List Entry). order_of (seat_way x) c ≡ Less) (sym t.2)
      (elim (in-either t.0 xs ys t.1) [
        | inl here ↦ r.0 (seat_way t.0) (in-map seat_way t.0 xs here)
        | inr there ↦ across x t.0 (inl refl) there
      ]),
  rising-join xs ys r.1 q (λ s t i j. across s t (inr i) j),
)

pub same-rising : (xs ys : List Seat) (s t : Seat) → seat_way t ≡ seat_way s → map seat_way (xs ++ s ∷ ys) ≡ map seat_way (xs ++ t ∷ ys)
same-rising [] ys s t is = ap (λ (w : List Entry). w ∷ map seat_way ys) (sym is)
same-rising (x ∷ xs) ys s t is = ap (λ (ws : List (List Entry)). seat_way x ∷ ws) (same-rising xs ys s t is)

-- ---- one seat changed
module _ (xs ys : List Seat) (s : Seat) (h : IsBranch (xs ++ s ∷ ys)) where
  sound-left : Every IsSound xs
  sound-left = every-left IsSound xs (s ∷ ys) h.sound

  sound-right : Every IsSound (s ∷ ys)
  sound-right = every-right IsSound xs (s ∷ ys) h.sound

  pub left-none : (a : List Entry) → seat_way s ≡ way_of a → ticket_at (flat xs) a ≡ None
  left-none a is = flat-none xs a sound-left (λ t i same. less-differs (seat_way t) (seat_way s) (rising-before xs ys s t h.rising i) (same ∙ sym is))

  pub right-none : (a : List Entry) → seat_way s ≡ way_of a → ticket_at (flat ys) a ≡ None
  right-none a is = flat-none ys a sound-right.1 (λ t i same. less-differs (seat_way s) (seat_way t) (rising-behind xs ys s t h.rising i) (is ∙ sym same))

  pub middle-sound : IsSound s
  middle-sound = sound-right.0

  pub changed-branch : (t : Seat) → IsSound t → seat_way t ≡ seat_way s → IsBranch (xs ++ t ∷ ys)
  changed-branch t sound is = record {
    rising = subst Rising (same-rising xs ys s t is) h.rising;
    sound = every-both IsSound xs (t ∷ ys) sound-left (sound, sound-right.1);
  }

  pub less-branch : IsBranch (xs ++ ys)
  less-branch = record {
    rising = rising-join xs ys (rising-left xs (s ∷ ys) h.rising) (rising-right xs (s ∷ ys) h.rising).1 (λ t u i j. rising-across xs (s ∷ ys) t u h.rising i (inr j));
    sound = every-both IsSound xs ys sound-left sound-right.1;
  }

  pub seat-put : (t : Seat) (a : List Entry) (n : ℕ) → seat_way s ≡ way_of a → PutAt (seat_places s) a n (seat_places t) → PutAt (flat (xs ++ s ∷ ys)) a n (flat (xs ++ t ∷ ys))
  seat-put t a n is put = record {
    here =
        look-seat xs ys t a
        ∙ (ap (λ (o : Option ℕ). first_of o (first_of (ticket_at (seat_places t) a) (ticket_at (flat ys) a))) (left-none a is)
        ∙ ap (λ (o : Option ℕ). first_of o (ticket_at (flat ys) a)) put.here);
    others = λ b differs.
        look-seat xs ys t b
        ∙ (ap (λ (o : Option ℕ). first_of (ticket_at (flat xs) b) (first_of o (ticket_at (flat ys) b))) (put.others b differs)
        ∙ sym (look-seat xs ys s b));
  }

  pub seat-removed : (t : Seat) (a : List Entry) → seat_way s ≡ way_of a → RemovedAt (seat_places s) a (seat_places t) →
      RemovedAt (flat (xs ++ s ∷ ys)) a (flat (xs ++ t ∷ ys))
  seat-removed t a is gone = record {
    here =
        look-seat xs ys t a
        ∙ (ap (λ (o : Option ℕ). first_of o (first_of (ticket_at (seat_places t) a) (ticket_at (flat ys) a))) (left-none a is)
        ∙ (ap (λ (o : Option ℕ). first_of o (ticket_at (flat ys) a)) gone.here ∙ right-none a is));
    others = λ b differs.
        look-seat xs ys t b
        ∙ (ap (λ (o : Option ℕ). first_of (ticket_at (flat xs) b) (first_of o (ticket_at (flat ys) b))) (gone.others b differs)
        ∙ sym (look-seat xs ys s b));
  }

  pub seat-gone : (a : List Entry) → seat_way s ≡ way_of a → RemovedAt (seat_places s) a [] → RemovedAt (flat (xs ++ s ∷ ys)) a (flat (xs ++ ys))
  seat-gone a is gone = record {
    here = look-parts xs ys a ∙ (ap (λ (o : Option ℕ). first_of o (ticket_at (flat ys) a)) (left-none a is) ∙ right-none a is);
    others = λ b differs.
        look-parts xs ys b
        ∙ (ap (λ (o : Option ℕ). first_of (ticket_at (flat xs) b) (first_of o (ticket_at (flat ys) b))) (gone.others b differs)
        ∙ sym (look-seat xs ys s b));
  }

-- ---- one seat more
module _ (xs ys : List Seat) (s : Seat) (a : List Entry) (n : ℕ) (h : IsBranch (xs ++ ys)) (made : IsMadeOf a n s)
    (low : (t : Seat) → In t xs → order_of (seat_way t) (way_of a) ≡ Less) (high : (t : Seat) → In t ys → order_of (way_of a) (seat_way t) ≡ Less) where
  pub more-branch : IsBranch (xs ++ s ∷ ys)
  more-branch = record {
    rising = rising-join xs (s ∷ ys) (rising-left xs ys h.rising) (
      (λ b i.
          let t = map-in seat_way b ys i in
          subst (λ (c : List Entry). order_of (seat_way s) c ≡ Less) (sym t.2)
          (subst (λ (c : List Entry). order_of c (seat_way t.0) ≡ Less) (sym made.way) (high t.0 t.1))),
      rising-right xs ys h.rising,
    )
        (λ t u i j. elim j [
          | inl is ↦ subst (λ (c : List Entry). order_of (seat_way t) c ≡ Less) (sym (ap seat_way is ∙ made.way)) (low t i)
          | inr later ↦ rising-across xs ys t u h.rising i later
        ]);
    sound = every-both IsSound xs (s ∷ ys) (every-left IsSound xs ys h.sound) (made.sound, every-right IsSound xs ys h.sound);
  }

  lower-none : ticket_at (flat xs) a ≡ None
  lower-none = flat-none xs a (every-left IsSound xs ys h.sound) (λ t i. less-differs (seat_way t) (way_of a) (low t i))

  pub more-put : PutAt (flat (xs ++ ys)) a n (flat (xs ++ s ∷ ys))
  more-put = record {
    here =
        look-seat xs ys s a
        ∙ (ap (λ (o : Option ℕ). first_of o (first_of (ticket_at (seat_places s) a) (ticket_at (flat ys) a))) lower-none
        ∙ ap (λ (o : Option ℕ). first_of o (ticket_at (flat ys) a)) (ap (λ (es : Places). ticket_at es a) made.places ∙ look-here a n));
    others = λ b differs.
        look-seat xs ys s b
        ∙ (ap (λ (o : Option ℕ). first_of (ticket_at (flat xs) b) (first_of o (ticket_at (flat ys) b)))
        (ap (λ (es : Places). ticket_at es b) made.places ∙ look-other a n b differs)
        ∙ sym (look-parts xs ys b));
  }

-- ---- the index behind all lesser ways
pub split-low : (ss : List Seat) (w : List Entry) (i : ℕ) → Splits (map seat_way ss) w i → (t : Seat) → In t (take i ss) → order_of (seat_way t) w ≡ Less
split-low ss w i split t at = split.below (seat_way t) (in-map-take seat_way t i ss at)

pub split-not-high : (ss : List Seat) (w : List Entry) (i : ℕ) → Splits (map seat_way ss) w i → (t : Seat) → In t (drop i ss) → order_of (seat_way t) w ≡ Less → ⊥
split-not-high ss w i split t at = split.above (seat_way t) (in-map-drop seat_way t i ss at)

over-first : (ss : List Seat) (w : List Entry) → Rising (map seat_way ss) → ((t : Seat) → In t ss → order_of (seat_way t) w ≡ Less → ⊥) →
    (HasSeat ss 0 w → ⊥) → (t : Seat) → In t ss → order_of w (seat_way t) ≡ Less
over-first [] w r above none t i = absurd i
over-first (x ∷ ss) w r above none t i =
    let first : order_of w (seat_way x) ≡ Less = elim (order-total w (seat_way x)) [
      | inl less ↦ less
      | inr (inl more) ↦ absurd (above x (inl refl) more)
      | inr (inr same) ↦ absurd (none (ap Some (sym same)))
    ] in
    elim i [
      | inl is ↦ subst (λ (u : Seat). order_of w (seat_way u) ≡ Less) (sym is) first
      | inr later ↦ order-transitive w (seat_way x) (seat_way t) first (r.0 (seat_way t) (in-map seat_way t ss later))
    ]

first-dropped : (ss : List Seat) (i : ℕ) (w : List Entry) → HasSeat (drop i ss) 0 w → HasSeat ss i w
first-dropped ss zero w h = h
first-dropped [] (suc i) w h = h
first-dropped (x ∷ ss) (suc i) w h = first-dropped ss i w h

pub split-high : (ss : List Seat) (w : List Entry) (i : ℕ) → IsBranch ss → Splits (map seat_way ss) w i → (HasSeat ss i w → ⊥) →
    (t : Seat) → In t (drop i ss) → order_of w (seat_way t) ≡ Less
split-high ss w i h split none =
    over-first (drop i ss) w
    (rising-right (take i ss) (drop i ss) (subst (λ (ts : List Seat). Rising (map seat_way ts)) (sym (whole i ss)) h.rising))
    (λ t at. split.above (seat_way t) (in-map-drop seat_way t i ss at)) (λ at. none (first-dropped ss i w at))

-- no seat has the way
pub absent-way : (ss : List Seat) (a : List Entry) (i : ℕ) → IsBranch ss → Splits (map seat_way ss) (way_of a) i → (HasSeat ss i (way_of a) → ⊥) →
    (t : Seat) → In t ss → seat_way t ≢ way_of a
absent-way ss a i h split none t at is =
    elim (in-either t (take i ss) (drop i ss) (subst (λ (ts : List Seat). In t ts) (sym (whole i ss)) at)) [
      | inl low ↦ less-differs (seat_way t) (way_of a) (split-low ss (way_of a) i split t low) is
      | inr high ↦ less-differs (way_of a) (seat_way t) (split-high ss (way_of a) i h split none t high) (sym is)
    ]

pub absent-removed : (ss : List Seat) (a : List Entry) (i : ℕ) → IsBranch ss → Splits (map seat_way ss) (way_of a) i → (HasSeat ss i (way_of a) → ⊥) →
    RemovedAt (flat ss) a (flat ss)
absent-removed ss a i h split none = record { here = flat-none ss a h.sound (absent-way ss a i h split none); others = λ b differs. refl }

-- ---- behind the way of a seat
pub fits-behind : (s : Seat) (a : List Entry) → IsSound s → seat_way s ≡ way_of a → FitsBehind s (rest_of a)
fits-behind (Event w t) a h is = event-rest a (subst AllOrdered is h)
fits-behind (Inner w inner) a h is = tt

-- ---- a seat by its index
pub has-at : (ss : List Seat) (i : ℕ) (s : Seat) (w : List Entry) → i < length ss → s ≡ get_or ss i s → seat_way s ≡ w → HasSeat ss i w
has-at ss i s w less is way = at-map seat_way ss i s (get-at ss i s less ∙ ap Some (sym is)) ∙ ap Some way

pub has-is : (ss : List Seat) (i : ℕ) (s : Seat) (w : List Entry) → i < length ss → s ≡ get_or ss i s → HasSeat ss i w → seat_way s ≡ w
has-is ss i s w less is there = some-is (seat_way s) w (sym (at-map seat_way ss i s (get-at ss i s less ∙ ap Some (sym is))) ∙ there)

pub has-within : (ss : List Seat) (i : ℕ) (w : List Entry) → HasSeat ss i w → i < length ss
has-within ss i w there = let x = map-at seat_way ss i w there in at-within ss i x.0 x.1

-- the seat of the way of a place stands at the index
pub record Stands (ss : List Seat) (i : ℕ) (s : Seat) (a : List Entry) : Type 0 where
  pub within : i < length ss
  pub way : seat_way s ≡ way_of a
  pub parts : ss ≡ take i ss ++ s ∷ drop (suc i) ss

pub stands-at : (ss xs : List Seat) (i : ℕ) (w p a : List Entry) (s : Seat) → xs ≡ ss → w ≡ p → p ≡ way_of a → HasSeat xs i w → s ≡ get_or ss i s → Stands ss i s a
stands-at ss xs i w p a s same front way there is =
    let has : HasSeat ss i (way_of a) = subst (λ (ys : List Seat). HasSeat ys i (way_of a)) same (subst (λ (q : List Entry). HasSeat xs i q) (front ∙ way) there) in
    let within : i < length ss = has-within ss i (way_of a) has in
    record {
      within = within;
      way = has-is ss i s (way_of a) within is has;
      parts = split-at ss i s (get-at ss i s within ∙ ap Some (sym is));
    }

pub stands-sound : (ss : List Seat) (i : ℕ) (s : Seat) (a : List Entry) → IsBranch ss → Stands ss i s a → IsSound s
stands-sound ss i s a h st = middle-sound (take i ss) (drop (suc i) ss) s (subst IsBranch st.parts h)

-- how far the walk is from the end, at a seat
abbrev pub seat_left : Seat → List Entry → ℕ
seat_left (Event w t) r = 0
seat_left (Inner w inner) r = 3 * length r + 3

pub left-less : (s : Seat) (a r : List Entry) → IsSound s → seat_way s ≡ way_of a → r ≡ rest_of a → seat_left s r < 3 * length a + 1
left-less (Event w t) a r h is rest = omega arith
left-less (Inner w inner) a r h is rest =
    let shorter : length (rest_of a) < length a = rest-shorter a (subst EndsAtBranch is h.0) in
    let same : length r ≡ length (rest_of a) = ap length rest in
    omega arith

pub some-flat : (ss : List Seat) (b : Bool) (n : ℕ) → IsBranch ss → n ≡ length ss → b ≡ eqb n 0 → b ≡ false → 0 < length (flat ss)
some-flat [] b n h is test fails = absurd (true≢false (subst (λ (k : ℕ). eqb k 0 ≡ false) is (sym test ∙ fails)))
some-flat (s ∷ ss) b n h is test fails = let some = seat-some s h.sound.0 in omega (arith, some, length-append (seat_places s) (flat ss))

-- ---- taking out
no-more : {X : Type 0} (xs : List X) → xs ++ [] ≡ xs
no-more [] = refl
no-more (x ∷ xs) = ap (λ ys. x ∷ ys) (no-more xs)

pub event-removed : (s : Seat) (w : List Entry) (t : ℕ) (r : List Entry) → s ≡ Event w t → FitsBehind s r → RemovedAt (seat_places s) (seat_way s ++ r) []
event-removed s w t r is fits =
    subst (λ (x : Seat). RemovedAt (seat_places x) (seat_way x ++ r) []) (sym is)
    (record {
      here = refl;
      others = λ b differs. sym (look-other w t b (λ same. differs (same ∙ sym (ap (λ (x : List Entry). w ++ x) (subst (λ (x : Seat). FitsBehind x r) is fits) ∙ no-more w))));
    })

pub taken-set : (ss : List Seat) (i : ℕ) (t : Seat) → take i (set ss i t) ≡ take i ss
taken-set [] zero t = refl
taken-set [] (suc i) t = refl
taken-set (x ∷ ss) zero t = refl
taken-set (x ∷ ss) (suc i) t = ap (λ (ys : List Seat). x ∷ ys) (taken-set ss i t)

pub dropped-set : (ss : List Seat) (i : ℕ) (t : Seat) → drop (suc i) (set ss i t) ≡ drop (suc i) ss
dropped-set [] zero t = refl
dropped-set [] (suc i) t = refl
dropped-set (x ∷ ss) zero t = refl
dropped-set (x ∷ ss) (suc i) t = dropped-set ss i t

-- the way and what is behind it are the place
pub whole-place : (s : Seat) (a r : List Entry) → seat_way s ≡ way_of a → r ≡ rest_of a → seat_way s ++ r ≡ a
whole-place s a r way rest = ap (λ (w : List Entry). w ++ r) way ∙ (ap (λ (x : List Entry). way_of a ++ x) rest ∙ way-and-rest a)

module _ (ss : List Seat) (i : ℕ) (s t : Seat) (a r : List Entry) (h : IsBranch ss) (st : Stands ss i s a) (rest : r ≡ rest_of a) where
  parted : IsBranch (take i ss ++ s ∷ drop (suc i) ss)
  parted = subst IsBranch st.parts h

  pub gone-branch : (after : List Seat) → after ≡ take i (set ss i t) ++ drop (suc i) (set ss i t) → IsBranch after
  gone-branch after is =
      subst IsBranch (sym (is ∙ (ap (λ (ys : List Seat). ys ++ drop (suc i) (set ss i t)) (taken-set ss i t) ∙ ap (λ (ys : List Seat). take i ss ++ ys) (dropped-set ss i t))))
      (less-branch (take i ss) (drop (suc i) ss) s parted)

  pub gone-removed : (after : List Seat) → after ≡ take i (set ss i t) ++ drop (suc i) (set ss i t) → RemovedAt (seat_places s) (seat_way s ++ r) [] → RemovedAt (flat ss) a (flat after)
  gone-removed after is gone =
      subst (λ (ys : List Seat). RemovedAt (flat ys) a (flat after)) (sym st.parts)
      (subst (λ (ys : List Seat). RemovedAt (flat (take i ss ++ s ∷ drop (suc i) ss)) a (flat ys))
      (sym (is ∙ (ap (λ (ys : List Seat). ys ++ drop (suc i) (set ss i t)) (taken-set ss i t) ∙ ap (λ (ys : List Seat). take i ss ++ ys) (dropped-set ss i t))))
      (seat-gone (take i ss) (drop (suc i) ss) s parted a st.way (subst (λ (x : List Entry). RemovedAt (seat_places s) x []) (whole-place s a r st.way rest) gone)))

  pub kept-branch : IsSound t → seat_way t ≡ seat_way s → IsBranch (set ss i t)
  kept-branch sound way = subst IsBranch (sym (set-split ss i t st.within)) (changed-branch (take i ss) (drop (suc i) ss) s parted t sound way)

  pub kept-removed : RemovedAt (seat_places s) (seat_way s ++ r) (seat_places t) → RemovedAt (flat ss) a (flat (set ss i t))
  kept-removed gone =
      subst (λ (ys : List Seat). RemovedAt (flat ys) a (flat (set ss i t))) (sym st.parts)
      (subst (λ (ys : List Seat). RemovedAt (flat (take i ss ++ s ∷ drop (suc i) ss)) a (flat ys)) (sym (set-split ss i t st.within))
      (seat-removed (take i ss) (drop (suc i) ss) s parted t a st.way
      (subst (λ (x : List Entry). RemovedAt (seat_places s) x (seat_places t)) (whole-place s a r st.way rest) gone)))

  pub kept-put : (n : ℕ) → PutAt (seat_places s) (seat_way s ++ r) n (seat_places t) → PutAt (flat ss) a n (flat (set ss i t))
  kept-put n put =
      subst (λ (ys : List Seat). PutAt (flat ys) a n (flat (set ss i t))) (sym st.parts)
      (subst (λ (ys : List Seat). PutAt (flat (take i ss ++ s ∷ drop (suc i) ss)) a n (flat ys)) (sym (set-split ss i t st.within))
      (seat-put (take i ss) (drop (suc i) ss) s parted t a n st.way
      (subst (λ (x : List Entry). PutAt (seat_places s) x n (seat_places t)) (whole-place s a r st.way rest) put)))

  pub kept-same : seat_places t ≡ seat_places s → flat (set ss i t) ≡ flat ss
  kept-same same =
      ap flat (set-split ss i t st.within)
      ∙ (flat-append (take i ss) (t ∷ drop (suc i) ss)
      ∙ (ap (λ (es : Places). flat (take i ss) ++ (es ++ flat (drop (suc i) ss))) same
      ∙ (sym (flat-append (take i ss) (s ∷ drop (suc i) ss)) ∙ sym (ap flat st.parts))))

-- what stood at a seat and behind its way is taken out
pub taken-all : (s : Seat) (r : List Entry) (b : Bool) (t : Seat) → TakenAt s r b t → b ≡ true → RemovedAt (seat_places s) (seat_way s ++ r) []
taken-all s r true t h is = h
taken-all s r false t h is = absurd (true≢false (sym is))

pub taken-some : (s : Seat) (r : List Entry) (b : Bool) (t : Seat) → TakenAt s r b t → b ≡ false →
    IsSound t × (seat_way t ≡ seat_way s) × RemovedAt (seat_places s) (seat_way s ++ r) (seat_places t)
taken-some s r true t h is = absurd (true≢false is)
taken-some s r false t h is = h

pub inner-taken : (s : Seat) (w : List Entry) (inner box : Box Places) (r : List Entry) (b : Bool) (new : Places) → s ≡ Inner w inner → IsSound s → box.value ≡ new →
    RemovedAt inner.value r new → (b ≡ true → new ≡ []) → (b ≡ false → 0 < length new) → TakenAt s r b (Inner w box)
inner-taken s w inner box r true new is sound value gone none some =
    subst (λ (x : Seat). RemovedAt (seat_places x) (seat_way x ++ r) []) (sym is)
    (removed-behind w inner.value [] r (subst (λ (es : Places). RemovedAt inner.value r es) (none refl) gone))
inner-taken s w inner box r false new is sound value gone none some =
    let ends : EndsAtBranch w × (0 < length inner.value) = subst IsSound is sound in (
      (ends.0, subst (λ (es : Places). 0 < length es) (sym value) (some refl)),
      ap seat_way (sym is),
      subst (λ (x : Seat). RemovedAt (seat_places x) (seat_way x ++ r) (behind_way w box.value)) (sym is)
          (removed-behind w inner.value box.value r (subst (λ (es : Places). RemovedAt inner.value r es) (sym value) gone)),
    )

-- the same of the slices that the code looks at
pub absent-as : (ss xs ys : List Seat) (w p a : List Entry) (i : ℕ) → IsBranch ss → xs ≡ ss → ys ≡ ss → w ≡ p → p ≡ way_of a → Splits (map seat_way xs) w i → (HasSeat ys i w → ⊥) →
    RemovedAt (flat ss) a (flat ss)
absent-as ss xs ys w p a i h one two front way split none =
    absent-removed ss a i h (subst (λ (q : List Entry). Splits (map seat_way ss) q i) (front ∙ way) (subst (λ (zs : List Seat). Splits (map seat_way zs) w i) one split))
    (λ there. none (subst (λ (q : List Entry). HasSeat ys i q) (sym (front ∙ way)) (subst (λ (zs : List Seat). HasSeat zs i (way_of a)) (sym two) there)))

-- ---- putting in
pub event-put : (s : Seat) (w : List Entry) (t n : ℕ) (r : List Entry) → s ≡ Event w t → FitsBehind s r → PutAt (seat_places s) (seat_way s ++ r) n ((w, n) ∷ [])
event-put s w t n r is fits =
    subst (λ (x : Seat). PutAt (seat_places x) (seat_way x ++ r) n ((w, n) ∷ [])) (sym is)
    (let place : w ++ r ≡ w = ap (λ (x : List Entry). w ++ x) (subst (λ (x : Seat). FitsBehind x r) is fits) ∙ no-more w in
    record {
      here = subst (λ (x : List Entry). ticket_at ((w, n) ∷ []) x ≡ Some n) (sym place) (look-here w n);
      others = λ b differs.
          let other : b ≢ w = λ same. differs (same ∙ sym place) in
          look-other w n b other ∙ sym (look-other w t b other);
    })

pub inner-put : (s : Seat) (w : List Entry) (inner box : Box Places) (r : List Entry) (n : ℕ) (new : Places) → s ≡ Inner w inner → box.value ≡ new → PutAt inner.value r n new →
    PutAt (seat_places s) (seat_way s ++ r) n (behind_way w box.value)
inner-put s w inner box r n new is value put =
    subst (λ (x : Seat). PutAt (seat_places x) (seat_way x ++ r) n (behind_way w box.value)) (sym is)
    (put-behind w inner.value box.value r n (subst (λ (es : Places). PutAt inner.value r n es) (sym value) put))

pub seat-is-way : (s : Seat) → IsSound s → IsWay (seat_way s)
seat-is-way (Event w t) h = ordered-way w h
seat-is-way (Inner w inner) h = ends-way w h.0
