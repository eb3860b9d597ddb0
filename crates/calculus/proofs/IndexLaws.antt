-- The index of a list by acting addresses: what is put in, and what it then has.
use Rattle.std.proofs.Common.{◌≡◌, ◌≢◌, ◌⊎◌, inl, inr, ℕ, Bool, true, false, List, [], ◌∷◌, ◌++◌, length, Vec, Option, Some, None, MatchOption, refl, sym, ap, subst, ◌∙◌, true≢false, Ordering, Less, Equal, Greater, slice_get, Global}
use Rattle.std.specs.Ordering.{is_eq, eq_by_cmp}
use Rattle.std.specs.Cmp.Lexicographic.{slice_cmp}
use Rattle.std.specs.Map.{lookup, KeepsOthers, IsKeyTest, AreApart}
use Rattle.std.specs.BTreeMap.{UpdatesBy}
use Rattle.address.specs.declared.Entry.{Entry}
use Rattle.address.specs.contracts.EntryOrd.TheImpl.{cmp-value}
use Rattle.address.specs.Order.{order_of}
use Rattle.address.proofs.public.Entries.{entries_cmp-is}
use Rattle.address.proofs.public.Total.{order-ties, order-itself}
use Rattle.syntax.specs.Lists.{In}
use Rattle.runs.specs.Events.{acting}
use Rattle.runs.specs.declared.event.Event.{Event}
use Rattle.runs.proofs.public.Lists.{in-parts}
use Rattle.calculus.specs.declared.index.Index.{Index}
use Rattle.calculus.specs.internal.Comparing.{place_at, PutAt, Indexes}
use Rattle.calculus.proofs.ListPlaces.{get-left, get-last}

-- ---- keys
-- whether a key is this place
abbrev is_key : List Entry → Vec Entry Global → Bool
is_key a k = is_eq (order_of a k.items)

-- as the map asks
abbrev is_asked : List Entry → Vec Entry Global → Bool
is_asked a k = is_eq (slice_cmp cmp-value.it a k.items)

asked-is : (a : List Entry) → is_asked a ≡ is_key a
asked-is a i k = is_eq (entries_cmp-is a k.items i)

pub looked : (a : List Entry) (es : List (Vec Entry Global × ℕ)) → lookup (is_asked a) es ≡ lookup (is_key a) es
looked a es = ap (λ (test : Vec Entry Global → Bool). lookup test es) (asked-is a)

eq-of : (o : Ordering) → is_eq o ≡ true → o ≡ Equal
eq-of Less h = absurd (true≢false (sym h))
eq-of Equal h = refl
eq-of Greater h = absurd (true≢false (sym h))

key-is : (a : List Entry) (k : Vec Entry Global) → is_key a k ≡ true → a ≡ k.items
key-is a k h = order-ties a k.items (eq-of (order_of a k.items) h)

abbrev cmp_keys : Vec Entry Global → Vec Entry Global → Ordering
cmp_keys x y = slice_cmp cmp-value.it x.items y.items

key-tests : (b : List Entry) → IsKeyTest (eq_by_cmp cmp_keys) (is_key b)
key-tests b x y h =
    let is : b ≡ x.items = key-is b x h in
    ap (λ (c : List Entry). is_eq (order_of c y.items)) is ∙ sym (ap is_eq (entries_cmp-is x.items y.items))

not-true : (b : Bool) → (b ≡ true → ⊥) → b ≡ false
not-true true h = absurd (h refl)
not-true false h = refl

keys-apart : (a b : List Entry) → b ≢ a → AreApart (is_asked a) (is_key b)
keys-apart a b differs k h =
    let here : is_key a k ≡ true = ap (λ (test : Vec Entry Global → Bool). test k) (sym (asked-is a)) ∙ h in
    not-true (is_key b k) (λ there. differs (key-is b k there ∙ sym (key-is a k here)))

-- at another place nothing has changed
others-stay : (a : List Entry) (old new : List (Vec Entry Global × ℕ)) → KeepsOthers (eq_by_cmp cmp_keys) (is_asked a) old new → (b : List Entry) → b ≢ a →
    lookup (is_key b) new ≡ lookup (is_key b) old
unfolding KeepsOthers
others-stay a old new keeps b differs = keeps (is_key b) (key-tests b) (keys-apart a b differs)

-- what an insert leaves
pub put-at : (old new : Index) (key : Vec Entry Global) (p : ℕ) (a : List Entry) → key.items ≡ a → UpdatesBy cmp_keys (cmp_keys key) old.map new.map (Some p) → PutAt old a p new
put-at old new key p a is h =
    subst (λ (b : List Entry). PutAt old b p new) is
    (record {
      here = sym (looked key.items new.map.entries) ∙ h.1;
      others = λ b differs. others-stay key.items old.map.entries new.map.entries h.3 b differs;
    })

-- ---- the index of a list
-- two addresses are one or are not
same-or-not : (a b : List Entry) → (a ≡ b) ⊎ (a ≢ b)
same-or-not a b = pick (is_eq (order_of a b)) refl
  where
    pick : (t : Bool) → is_eq (order_of a b) ≡ t → (a ≡ b) ⊎ (a ≢ b)
    pick true h = inl (order-ties a b (eq-of (order_of a b) h))
    pick false h = inr (λ is. true≢false (sym (ap is_eq (order-itself a)) ∙ ap (λ (c : List Entry). is_eq (order_of a c)) is ∙ h))

-- what the answer for an address says of it
abbrev Says : List Event → List Entry → Option ℕ → Type 0
Says h a o = MatchOption o ((e : Event) → In e h → acting e ≡ a → ⊥) (λ p. (e : Event) × (slice_get h p ≡ Some e) × (acting e ≡ a))

says-more : (h : List Event) (x : Event) (a : List Entry) (o : Option ℕ) → (acting x ≡ a → ⊥) → Says h a o → Says (h ++ x ∷ []) a o
says-more h x a None other s = λ e i is. elim (in-parts e h (x ∷ []) i) [
  | inl u ↦ s e u is
  | inr (inl u) ↦ other (ap acting (sym u) ∙ is)
  | inr (inr u) ↦ absurd u
]
says-more h x a (Some p) other s = (s.0, get-left h (x ∷ []) p s.0 s.1, s.2)

-- one more event
pub indexes-more : (old new : Index) (h : List Event) (x : Event) (p : ℕ) → p ≡ length h → Indexes old h → PutAt old (acting x) p new → Indexes new (h ++ x ∷ [])
indexes-more old new h x p is held put a =
    elim (same-or-not a (acting x)) [
      | inl same ↦
          let here : place_at new a ≡ Some p = ap (λ (b : List Entry). place_at new b) same ∙ put.here in
          subst (λ (o : Option ℕ). Says (h ++ x ∷ []) a o) (sym here) (x, get-last h x p is, sym same)
      | inr other ↦
          subst (λ (o : Option ℕ). Says (h ++ x ∷ []) a o) (sym (put.others a other))
          (says-more h x a (place_at old a) (λ same. other (sym same)) (held a))
    ]

-- before the first event
pub indexes-none : (index : Index) → index.map.entries ≡ [] → Indexes index []
indexes-none index none a =
    subst (λ (o : Option ℕ). Says [] a o) (sym (ap (λ (es : List (Vec Entry Global × ℕ)). lookup (is_key a) es) none)) (λ e i is. i)

-- ---- what the index tells of an event
-- none acts at its address
pub not-there : (index : Index) (h : List Event) (e : Event) → Indexes index h → place_at index (acting e) ≡ None → In e h → ⊥
not-there index h e held none i = (subst (λ (o : Option ℕ). Says h (acting e) o) none (held (acting e))) e i refl

-- the event that acts at its address stands there
pub there : (index : Index) (h : List Event) (e : Event) (p : ℕ) → Indexes index h → place_at index (acting e) ≡ Some p →
    (f : Event) × (slice_get h p ≡ Some f) × (acting f ≡ acting e)
there index h e p held some = subst (λ (o : Option ℕ). Says h (acting e) o) some (held (acting e))
