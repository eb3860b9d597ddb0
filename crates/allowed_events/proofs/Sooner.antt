-- What the test of order tells, and where it puts an event.
use Rattle.std.proofs.Common.{◌≡◌, ◌⊎◌, inl, inr, ℕ, zero, suc, ◌==◌, ◌<◌, ◌≤◌, List, [], ◌∷◌, ◌++◌, Bool, true, false, cond, length, take, drop, Some, refl, sym, ◌∙◌, ap, subst, arith}
use Rattle.std.proofs.lemmas.Bool.{ltb-true}
use Rattle.std.proofs.lemmas.Bool.Decides.{nat_tests}
use Rattle.std.specs.Prelude.{nat_lt, slice_get}
use Rattle.std.specs.Ordering.{is_lt}
use Rattle.std.specs.declared.cmp.Ordering.{Ordering}
use Rattle.std.specs.declared.cmp.Ordering.TheVariants.{Less, Equal, Greater}
use Rattle.syntax.specs.Lists.{In}
use Rattle.address.specs.Order.{order_of}
use Rattle.address.proofs.public.Total.{order-ties, order-itself}
use Rattle.runs.specs.Events.{acting}
use Rattle.runs.specs.Steps.{State, Allowed}
use Rattle.runs.specs.Choices.{choice_of}
use Rattle.runs.specs.InOrder.{InOrder}
use Rattle.runs.specs.Ready.{other, Sooner}
use Rattle.runs.specs.Moves.{Place}
use Rattle.runs.specs.Tests.{same_event}
use Rattle.runs.specs.internal.EventLaws.{same_event-decides}
use Rattle.runs.specs.WellFormed.{WellFormed}
use Rattle.runs.specs.declared.event.Event.{Event}
use Rattle.runs.proofs.public.Lists.{every-in, every-of, in-left, in-right, in-parts}
use Rattle.runs.proofs.public.Options.{none-some, some-injective}
use Rattle.runs.proofs.public.ReadyLists.{sooner?, sooner-transitive}
use Rattle.std.specs.List.{Contains}
use Rattle.std.specs.List.Sorted.{IsPermutation}
use Rattle.std.proofs.lemmas.List.Sorted.{IsPermutation-sym, Contains-permutation}
use Rattle.allowed_events.proofs.Entries.{parts-at, item-at}
use Rattle.allowed_events.specs.internal.Acting.{SortedOf}
use Rattle.allowed_events.specs.internal.Sorting.{sooner_by, is_sooner, inserted}

arms-true : (m n : ℕ) (q : Ordering) → cond (nat_lt m n) true (cond (m == n) (is_lt q) false) ≡ true → (m < n) ⊎ ((m ≡ n) × (is_lt q ≡ true))
arms-true m n q h = pick (nat_lt m n) refl h
  where
    last : (b : Bool) → (m == n) ≡ b → cond b (is_lt q) false ≡ true → (m < n) ⊎ ((m ≡ n) × (is_lt q ≡ true))
    last true is g = inr (grind (arith, nat_tests), g)
    last false is g = cc

    pick : (b : Bool) → nat_lt m n ≡ b → cond b true (cond (m == n) (is_lt q) false) ≡ true → (m < n) ⊎ ((m ≡ n) × (is_lt q ≡ true))
    pick true is g = inl (ltb-true m n is)
    pick false is g = last (m == n) refl g

arms-less : (m n : ℕ) (q : Ordering) → m < n → cond (nat_lt m n) true (cond (m == n) (is_lt q) false) ≡ true
arms-less m n q h = grind (arith, nat_tests)

arms-same : (m n : ℕ) (q : Ordering) → m ≡ n → is_lt q ≡ true → cond (nat_lt m n) true (cond (m == n) (is_lt q) false) ≡ true
arms-same m n q h g = grind (arith, nat_tests)

less-only : (q : Ordering) → is_lt q ≡ true → q ≡ Less
less-only Less h = refl
less-only Equal h = cc
less-only Greater h = cc

-- the test tells that one event comes before another
pub sooner-true : (e f : Event) → is_sooner e f ≡ true → Sooner e f
sooner-true e f h = pick (order_of (acting e) (acting f)) refl h
  where
    pick : (o : Ordering) → order_of (acting e) (acting f) ≡ o → sooner_by o (choice_of e).arm (choice_of f).arm (order_of (other e) (other f)) ≡ true → Sooner e f
    pick Less is g = inl is
    pick Greater is g = cc
    pick Equal is g =
        inr (
          order-ties (acting e) (acting f) is,
          elim (arms-true (choice_of e).arm (choice_of f).arm (order_of (other e) (other f)) g) [
            | inl less ↦ inl less
            | inr same ↦ inr (same.0, less-only (order_of (other e) (other f)) same.1)
          ],
        )

-- and tells it of all that do
pub sooner-tested : (e f : Event) → Sooner e f → is_sooner e f ≡ true
sooner-tested e f s =
    elim s [
      | inl a ↦ ap (λ (o : Ordering). sooner_by o (choice_of e).arm (choice_of f).arm (order_of (other e) (other f))) a
      | inr a ↦
          let tied : order_of (acting e) (acting f) ≡ Equal =
          subst (λ (p : Place). order_of (acting e) p ≡ Equal) a.0 (order-itself (acting e)) in
          ap (λ (o : Ordering). sooner_by o (choice_of e).arm (choice_of f).arm (order_of (other e) (other f))) tied
          ∙ elim a.1 [
            | inl less ↦ arms-less (choice_of e).arm (choice_of f).arm (order_of (other e) (other f)) less
            | inr same ↦ arms-same (choice_of e).arm (choice_of f).arm (order_of (other e) (other f)) same.0 (ap is_lt same.1)
          ]
    ]

-- the list has the events of es and e, in order
record PutIn (e : Event) (es list : List Event) : Type 0 where
  of : (f : Event) → In f list → (f ≡ e) ⊎ In f es
  to : (f : Event) → (f ≡ e) ⊎ In f es → In f list
  sorted : InOrder Sooner list

put-behind : (e f : Event) (fs : List Event) → Sooner f e → InOrder Sooner (f ∷ fs) → PutIn e fs (inserted e fs) → PutIn e (f ∷ fs) (f ∷ inserted e fs)
put-behind e f fs before order rest = record {
  of = λ g i. elim i [ inl u ↦ inr (inl u) | inr u ↦ elim (rest.of g u) [ inl v ↦ inl v | inr v ↦ inr (inr v) ] ];
  to = λ g i. elim i [ inl u ↦ inr (rest.to g (inl u)) | inr (inl u) ↦ inl u | inr (inr u) ↦ inr (rest.to g (inr u)) ];
  sorted = (
    every-of (Sooner f) (inserted e fs) (λ g i. elim (rest.of g i) [
      | inl u ↦ subst (λ (x : Event). Sooner f x) (sym u) before
      | inr u ↦ every-in (Sooner f) fs g order.0 u
    ]),
    rest.sorted,
  );
}

put-before : (e f : Event) (fs : List Event) → Sooner e f → InOrder Sooner (f ∷ fs) → PutIn e (f ∷ fs) (e ∷ f ∷ fs)
put-before e f fs before order = record {
  of = λ g i. i;
  to = λ g i. i;
  sorted = ((before, every-of (Sooner e) fs (λ g i. sooner-transitive e f g before (every-in (Sooner f) fs g order.0 i))), order);
}

put-there : (e f : Event) (fs : List Event) → f ≡ e → InOrder Sooner (f ∷ fs) → PutIn e (f ∷ fs) (f ∷ fs)
put-there e f fs same order = record {
  of = λ g i. inr i;
  to = λ g i. elim i [ inl u ↦ inl (u ∙ sym same) | inr u ↦ u ];
  sorted = order;
}

put : (S : State) (e : Event) (es : List Event) → WellFormed S.residual → Allowed S e → ((f : Event) → In f es → Allowed S f) → InOrder Sooner es → PutIn e es (inserted e es)
put S e [] w a all order = record { of = λ f i. i; to = λ f i. i; sorted = (tt, tt) }
put S e (f ∷ fs) w a all order = pick (is_sooner f e) refl (put S e fs w a (λ g i. all g (inr i)) order.1)
  where
    same : (c : Bool) → same_event f e ≡ c → is_sooner f e ≡ false → PutIn e (f ∷ fs) (cond c (f ∷ fs) (e ∷ f ∷ fs))
    same true is out = put-there e f fs ((same_event-decides f e).0 is) order
    same false is out =
        elim (sooner? S e f w a (all f (inl refl))) [
          | inl before ↦ put-before e f fs before order
          | inr (inl one) ↦ let told : same_event f e ≡ true = (same_event-decides f e).1 (sym one) in cc
          | inr (inr after) ↦ let told : is_sooner f e ≡ true = sooner-tested f e after in cc
        ]

    pick : (b : Bool) → is_sooner f e ≡ b → PutIn e fs (inserted e fs) → PutIn e (f ∷ fs) (cond b (f ∷ inserted e fs) (cond (same_event f e) (f ∷ fs) (e ∷ f ∷ fs)))
    pick true is rest = put-behind e f fs (sooner-true f e is) order rest
    pick false is rest = same (same_event f e) refl is

-- what is listed so far: the events are those that are left and those that are sorted
pub record Sorting (P : Event → Type 0) (left sorted : List Event) : Type 0 where
  pub sound : (e : Event) → In e left ⊎ In e sorted → P e
  pub complete : (e : Event) → P e → In e left ⊎ In e sorted
  pub in_order : InOrder Sooner sorted

sorting-more : (S : State) (P : Event → Type 0) (left sorted : List Event) (e : Event) → WellFormed S.residual → ((f : Event) → P f → Allowed S f) → Sorting P (left ++ e ∷ []) sorted →
    Sorting P left (inserted e sorted)
sorting-more S P left sorted e w allowed s =
    let more = put S e sorted w (allowed e (s.sound e (inl (in-right e left (e ∷ []) (inl refl))))) (λ f i. allowed f (s.sound f (inr i))) s.in_order in
    record {
      sound = λ f i. elim i [
        | inl u ↦ s.sound f (inl (in-left f left (e ∷ []) u))
        | inr u ↦ elim (more.of f u) [
          | inl v ↦ s.sound f (inl (in-right f left (e ∷ []) (inl v)))
          | inr v ↦ s.sound f (inr v)
        ]
      ];
      complete = λ f a. elim (s.complete f a) [
        | inl u ↦ elim (in-parts f left (e ∷ []) u) [ inl v ↦ inl v | inr (inl v) ↦ inr (more.to f (inl v)) | inr (inr v) ↦ absurd v ]
        | inr u ↦ inr (more.to f (inr u))
      ];
      in_order = more.sorted;
    }

-- an element of a list, by its place
contains-in : {X : Type 0} (xs : List X) (x : X) → Contains xs x → In x xs
contains-in {X = X} xs x h =
    subst (λ (k : List X). In x k) (sym (parts-at xs h.0 x (item-at xs h.0 x h.1 (sym h.2)))) (in-right x (take h.0 xs) (x ∷ drop (suc h.0) xs) (inl refl))

in-contains : {X : Type 0} (xs : List X) (x : X) → In x xs → Contains xs x
in-contains [] x i = absurd i
in-contains (y ∷ xs) x i = by-place (λ j. in-contains xs x j) i
  where
    by-place : (In x xs → Contains xs x) → (x ≡ y) ⊎ In x xs → Contains (y ∷ xs) x
    by-place on (inl same) = (0, omega arith, sym same)
    by-place on (inr later) = let h = on later in (suc h.0, lt-suc h.1, h.2)
      where
        lt-suc : {m n : ℕ} → m < n → suc m < suc n
        lt-suc less = omega arith

-- what is moved stays an element
in-moved : (xs ys : List Event) (e : Event) → IsPermutation xs ys → In e xs → In e ys
in-moved xs ys e moved i = contains-in ys e (Contains-permutation xs ys e moved (in-contains xs e i))

-- the same, of the lists of the loop
pub sorting-start : (listed first left sorted : List Event) → first ≡ listed → IsPermutation first left → sorted ≡ [] → Sorting (λ e. In e listed) left sorted
sorting-start listed first left sorted ef moved es = record {
  sound = λ e i. elim i [
    | inl u ↦ subst (λ (l : List Event). In e l) ef (in-moved left first e (IsPermutation-sym first left moved) u)
    | inr u ↦ absurd (subst (λ (l : List Event). In e l) es u)
  ];
  complete = λ e a. inl (in-moved first left e moved (subst (λ (l : List Event). In e l) (sym ef) a));
  in_order = subst (λ (l : List Event). InOrder Sooner l) (sym es) tt;
}

pub sorting-step : (S : State) (P : Event → Type 0) (left rest sorted new : List Event) (e : Event) → WellFormed S.residual → ((f : Event) → P f → Allowed S f) → Sorting P left sorted
    → left ≡ rest ++ e ∷ [] → new ≡ inserted e sorted → Sorting P rest new
sorting-step S P left rest sorted new e w allowed s el en =
    subst (λ (k : List Event). Sorting P rest k) (sym en) (sorting-more S P rest sorted e w allowed (subst (λ (l : List Event). Sorting P l sorted) el s))

pub sorting-stop : (listed left sorted list : List Event) → Sorting (λ e. In e listed) left sorted → left ≡ [] → list ≡ sorted → SortedOf listed list
sorting-stop listed left sorted list s el is =
    let none = subst (λ (l : List Event). Sorting (λ e. In e listed) l sorted) el s in
    subst (λ (k : List Event). SortedOf listed k) (sym is) (record {
      same = λ e. ((λ i. none.sound e (inr i)), (λ a. elim (none.complete e a) [ inl u ↦ absurd u | inr u ↦ u ]));
      in_order = none.in_order;
    })

-- nothing is left
pub left-none : {X : Type 0} (left : List X) (n : ℕ) → n ≡ length left → n ≡ 0 → left ≡ []
left-none [] n is none = refl
left-none (e ∷ left) n is none = absurd (omega arith)

-- one event at most is in order
pub few-in-order : (es : List Event) (n : ℕ) → length es ≤ suc n → InOrder Sooner (drop n es)
few-in-order [] zero few = tt
few-in-order [] (suc n) few = tt
few-in-order (e ∷ []) zero few = (tt, tt)
few-in-order (e ∷ f ∷ es) zero few = absurd (omega arith)
few-in-order (e ∷ es) (suc n) few = few-in-order es n (omega arith)

-- an event more before the next, and so before all behind it
pub order-more : (es : List Event) (e f : Event) (n : ℕ) → slice_get es n ≡ Some e → slice_get es (suc n) ≡ Some f → is_sooner e f ≡ true → InOrder Sooner (drop (suc n) es) →
    InOrder Sooner (drop n es)
order-more [] e f n at next before order = none-some e at
order-more (x ∷ []) e f zero at next before order = none-some f next
order-more (x ∷ y ∷ es) e f zero at next before order =
    let first : x ≡ e = some-injective x e at in
    let second : y ≡ f = some-injective y f next in
    let less : Sooner x y = subst (λ (z : Event). Sooner z y) (sym first) (subst (λ (z : Event). Sooner e z) (sym second) (sooner-true e f before)) in (
      (less, every-of (Sooner x) es (λ g i. sooner-transitive x y g less (every-in (Sooner y) es g order.0 i))),
      order,
    )
order-more (x ∷ es) e f (suc n) at next before order = order-more es e f n at next before order

-- events that are in order are what they are sorted
pub sorted-already : (es list : List Event) → list ≡ es → InOrder Sooner list → SortedOf es es
sorted-already es list is order = record { same = λ e. (λ i. i, λ i. i); in_order = subst (λ (k : List Event). InOrder Sooner k) is order }
