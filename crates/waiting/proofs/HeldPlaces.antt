-- The places that events have: what is put in, and what is then there.
use Rattle.std.proofs.Common.{◌≡◌, ◌≢◌, ◌⊎◌, inl, inr, ℕ, Bool, true, false, List, [], ◌∷◌, ◌||◌, cond, Vec, Option, Some, None, is_some, refl, sym, ap, subst, ◌∙◌, true≢false, Ordering, Less, Equal, Greater, Global}
use Rattle.std.specs.List.{filter}
use Rattle.std.specs.Ordering.{is_eq, eq_by_cmp}
use Rattle.std.specs.Cmp.Lexicographic.{slice_cmp}
use Rattle.std.specs.Map.{lookup, KeepsOthers, IsKeyTest, AreApart}
use Rattle.std.specs.BTreeMap.{UpdatesBy}
use Rattle.address.specs.declared.Entry.{Entry}
use Rattle.address.specs.contracts.EntryOrd.TheImpl.{cmp-value}
use Rattle.address.specs.Order.{order_of}
use Rattle.address.proofs.public.Entries.{entries_cmp-is}
use Rattle.address.proofs.public.Total.{order-ties, order-itself}
use Rattle.runs.specs.Moves.{Place}
use Rattle.runs.specs.Tests.{same_place}
use Rattle.runs.specs.declared.event.Event.{Event}
use Rattle.local_actions.specs.declared.action.LocalAction.{LocalAction}
use Rattle.local_actions.proofs.public.PlacedActions.{place-true, place-itself}
use Rattle.waiting.specs.internal.Among.{is_second, has_place, has_any, left_by, left_over}
use Rattle.waiting.specs.internal.Held.{is_there, PutAt}
use Rattle.waiting.specs.declared.places.Places.{Places}

-- ---- keys
-- whether a key is this place
abbrev is_key : List Entry → Vec Entry Global → Bool
is_key a k = is_eq (order_of a k.items)

-- as the map asks
abbrev is_asked : List Entry → Vec Entry Global → Bool
is_asked a k = is_eq (slice_cmp cmp-value.it a k.items)

asked-is : (a : List Entry) → is_asked a ≡ is_key a
asked-is a i k = is_eq (entries_cmp-is a k.items i)

pub looked : (a : List Entry) (es : List (Vec Entry Global × ℕ)) → lookup (is_asked a) es ≡ lookup (is_key a) es
looked a es = ap (λ (test : Vec Entry Global → Bool). lookup test es) (asked-is a)

eq-of : (o : Ordering) → is_eq o ≡ true → o ≡ Equal
eq-of Less h = absurd (true≢false (sym h))
eq-of Equal h = refl
eq-of Greater h = absurd (true≢false (sym h))

key-is : (a : List Entry) (k : Vec Entry Global) → is_key a k ≡ true → a ≡ k.items
key-is a k h = order-ties a k.items (eq-of (order_of a k.items) h)

abbrev cmp_keys : Vec Entry Global → Vec Entry Global → Ordering
cmp_keys x y = slice_cmp cmp-value.it x.items y.items

key-tests : (b : List Entry) → IsKeyTest (eq_by_cmp cmp_keys) (is_key b)
key-tests b x y h =
    let is : b ≡ x.items = key-is b x h in
    ap (λ (c : List Entry). is_eq (order_of c y.items)) is ∙ sym (ap is_eq (entries_cmp-is x.items y.items))

not-true : (b : Bool) → (b ≡ true → ⊥) → b ≡ false
not-true true h = absurd (h refl)
not-true false h = refl

keys-apart : (a b : List Entry) → b ≢ a → AreApart (is_asked a) (is_key b)
keys-apart a b differs k h =
    let here : is_key a k ≡ true = ap (λ (test : Vec Entry Global → Bool). test k) (sym (asked-is a)) ∙ h in
    not-true (is_key b k) (λ there. differs (key-is b k there ∙ sym (key-is a k here)))

-- at another place nothing has changed
others-stay : (a : List Entry) (old new : List (Vec Entry Global × ℕ)) → KeepsOthers (eq_by_cmp cmp_keys) (is_asked a) old new → (b : List Entry) → b ≢ a →
    lookup (is_key b) new ≡ lookup (is_key b) old
unfolding KeepsOthers
others-stay a old new keeps b differs = keeps (is_key b) (key-tests b) (keys-apart a b differs)

-- what an insert leaves
pub put-at : (old new : Places) (key : Vec Entry Global) (p : ℕ) (a : List Entry) → key.items ≡ a → UpdatesBy cmp_keys (cmp_keys key) old.map new.map (Some p) → PutAt old a new
put-at old new key p a is h =
    subst (λ (b : List Entry). PutAt old b new) is
    (record {
      here = ap is_some (sym (looked key.items new.map.entries) ∙ h.1);
      others = λ b differs. ap is_some (others-stay key.items old.map.entries new.map.entries h.3 b differs);
    })

-- ---- what is then there
same-or-not : (a b : List Entry) → (a ≡ b) ⊎ (a ≢ b)
same-or-not a b = pick (is_eq (order_of a b)) refl
  where
    pick : (t : Bool) → is_eq (order_of a b) ≡ t → (a ≡ b) ⊎ (a ≢ b)
    pick true h = inl (order-ties a b (eq-of (order_of a b) h))
    pick false h = inr (λ is. true≢false (sym (ap is_eq (order-itself a)) ∙ ap (λ (c : List Entry). is_eq (order_of a c)) is ∙ h))

or-true : (t : Bool) → true ≡ (t || true)
or-true true = refl
or-true false = refl

or-none : (t : Bool) → t ≡ (t || false)
or-none true = refl
or-none false = refl

or-assoc : (t u v : Bool) → ((t || u) || v) ≡ (t || (u || v))
or-assoc true u v = refl
or-assoc false u v = refl

put-more : (old new : Places) (b : Place) → PutAt old b new → (a : Place) → is_there new a ≡ (is_there old a || same_place a b)
put-more old new b h a = elim (same-or-not a b) [
  | inl is ↦
      ap (is_there new) is ∙ h.here ∙ or-true (is_there old a) ∙ ap (λ (t : Bool). is_there old a || t) (sym (ap (same_place a) (sym is) ∙ place-itself a))
  | inr differs ↦
      h.others a differs ∙ or-none (is_there old a) ∙ ap (λ (t : Bool). is_there old a || t) (sym (not-true (same_place a b) (λ k. differs (place-true a b k))))
]

-- an event with one place, and one with two
pub one-more : (old new : Places) (e : Event) → e.second ≡ None → PutAt old e.first new → (a : Place) → is_there new a ≡ (is_there old a || has_place a e)
one-more old new e none h a =
    put-more old new e.first h a
    ∙ ap (λ (t : Bool). is_there old a || t) (or-none (same_place a e.first) ∙ ap (λ (b : Option Place). same_place a e.first || is_second a b) (sym none))

pub two-more : (old mid new : Places) (e : Event) (b : Place) → e.second ≡ Some b → PutAt old e.first mid → PutAt mid b new → (a : Place) → is_there new a ≡ (is_there old a || has_place a e)
two-more old mid new e b some h g a =
    put-more mid new b g a ∙ ap (λ (t : Bool). t || same_place a b) (put-more old mid e.first h a) ∙ or-assoc (is_there old a) (same_place a e.first) (same_place a b)
    ∙ ap (λ (c : Option Place). is_there old a || (same_place a e.first || is_second a c)) (sym some)

-- ---- what is left over
cond-alike : (b c : Bool) (x : LocalAction) (xs ys : List LocalAction) → b ≡ c → xs ≡ ys → cond b xs (x ∷ xs) ≡ cond c ys (x ∷ ys)
cond-alike b c x xs ys e f = ap (λ (t : Bool). cond t xs (x ∷ xs)) e ∙ ap (λ (zs : List LocalAction). cond c zs (x ∷ zs)) f

pub left-alike : (test : Place → Bool) (es : List Event) (xs : List LocalAction) → ((a : Place) → test a ≡ has_any a es) → left_by test xs ≡ left_over es xs
left-alike test es [] h = refl
left-alike test es (x ∷ xs) h = cond-alike (test x.place) (has_any x.place es) x (left_by test xs) (left_over es xs) (h x.place) (left-alike test es xs h)

kept-or-left : (b : Bool) (y : LocalAction) (kept left : List LocalAction) → kept ≡ left → cond (cond b false true) (y ∷ kept) kept ≡ cond b left (y ∷ left)
kept-or-left true y kept left is = is
kept-or-left false y kept left is = ap (λ (l : List LocalAction). y ∷ l) is

pub left-filter : (test : Place → Bool) (xs : List LocalAction) → filter (λ (x : LocalAction). cond (test x.place) false true) xs ≡ left_by test xs
left-filter test [] = refl
left-filter test (y ∷ xs) = kept-or-left (test y.place) y _ _ (left-filter test xs)
