-- Rows of places: what is put, and what stands there then.
use Rattle.std.proofs.Common.{◌≡◌, ◌≢◌, ◌⊎◌, inl, inr, ℕ, ◌+◌, ◌<◌, Bool, true, false, List, Vec, Some, None, refl, sym, ap, subst, ◌∙◌, true≢false, Ordering, Less, Equal, Greater, Global, arith}
use Rattle.std.specs.Prelude.{◌↔◌}
use Rattle.std.specs.Ordering.{is_eq, eq_by_cmp}
use Rattle.std.specs.Cmp.Lexicographic.{slice_cmp}
use Rattle.std.specs.Map.{lookup, KeepsOthers, IsKeyTest, AreApart}
use Rattle.std.specs.BTreeMap.{UpdatesBy}
use Rattle.address.specs.declared.Entry.{Entry}
use Rattle.address.specs.contracts.EntryOrd.TheImpl.{cmp-value}
use Rattle.address.specs.Order.{order_of}
use Rattle.address.proofs.public.Entries.{entries_cmp-is}
use Rattle.address.proofs.public.Total.{order-ties, order-itself}
use Rattle.dependence.specs.LastEvents.{Uses}
use Rattle.runs.proofs.public.Options.{none-some, some-injective}
use Rattle.runs.specs.Moves.{Place}
use Rattle.rings.specs.declared.place_uses.PlaceUses.{PlaceUses}
use Rattle.rings.specs.internal.Standing.{Sound, StandsAt, row_at}

-- ---- keys
-- whether a key is this place
abbrev is_key : List Entry → Vec Entry Global → Bool
is_key a k = is_eq (order_of a k.items)

-- as the map asks
abbrev is_asked : List Entry → Vec Entry Global → Bool
is_asked a k = is_eq (slice_cmp cmp-value.it a k.items)

asked-is : (a : List Entry) → is_asked a ≡ is_key a
asked-is a i k = is_eq (entries_cmp-is a k.items i)

pub looked : (a : List Entry) (es : List (Vec Entry Global × ℕ)) → lookup (is_asked a) es ≡ lookup (is_key a) es
looked a es = ap (λ (test : Vec Entry Global → Bool). lookup test es) (asked-is a)

eq-of : (o : Ordering) → is_eq o ≡ true → o ≡ Equal
eq-of Less h = absurd (true≢false (sym h))
eq-of Equal h = refl
eq-of Greater h = absurd (true≢false (sym h))

key-is : (a : List Entry) (k : Vec Entry Global) → is_key a k ≡ true → a ≡ k.items
key-is a k h = order-ties a k.items (eq-of (order_of a k.items) h)

abbrev cmp_keys : Vec Entry Global → Vec Entry Global → Ordering
cmp_keys x y = slice_cmp cmp-value.it x.items y.items

key-tests : (b : List Entry) → IsKeyTest (eq_by_cmp cmp_keys) (is_key b)
key-tests b x y h =
    let is : b ≡ x.items = key-is b x h in
    ap (λ (c : List Entry). is_eq (order_of c y.items)) is ∙ sym (ap is_eq (entries_cmp-is x.items y.items))

not-true : (b : Bool) → (b ≡ true → ⊥) → b ≡ false
not-true true h = absurd (h refl)
not-true false h = refl

keys-apart : (a b : List Entry) → b ≢ a → AreApart (is_asked a) (is_key b)
keys-apart a b differs k h =
    let here : is_key a k ≡ true = ap (λ (test : Vec Entry Global → Bool). test k) (sym (asked-is a)) ∙ h in
    not-true (is_key b k) (λ there. differs (key-is b k there ∙ sym (key-is a k here)))

-- at another place nothing has changed
others-stay : (a : List Entry) (old new : List (Vec Entry Global × ℕ)) → KeepsOthers (eq_by_cmp cmp_keys) (is_asked a) old new → (b : List Entry) → b ≢ a →
    lookup (is_key b) new ≡ lookup (is_key b) old
unfolding KeepsOthers
others-stay a old new keeps b differs = keeps (is_key b) (key-tests b) (keys-apart a b differs)

pub same-or-not : (a b : List Entry) → (a ≡ b) ⊎ (a ≢ b)
same-or-not a b = pick (is_eq (order_of a b)) refl
  where
    pick : (t : Bool) → is_eq (order_of a b) ≡ t → (a ≡ b) ⊎ (a ≢ b)
    pick true h = inl (order-ties a b (eq-of (order_of a b) h))
    pick false h = inr (λ is. true≢false (sym (ap is_eq (order-itself a)) ∙ ap (λ (c : List Entry). is_eq (order_of a c)) is ∙ h))

-- ---- a place that gets a row
record RowPut (old new : PlaceUses) (a : Place) (n : ℕ) : Type 0 where
  here : row_at new a ≡ Some n
  others : (b : Place) → b ≢ a → row_at new b ≡ row_at old b

row-put : (old new : PlaceUses) (key : Vec Entry Global) (n : ℕ) (a : Place) → key.items ≡ a → UpdatesBy cmp_keys (cmp_keys key) old.rows new.rows (Some n) → RowPut old new a n
row-put old new key n a is h =
    subst (λ (b : List Entry). RowPut old new b n) is
    (record {
      here = sym (looked key.items new.rows.entries) ∙ h.1;
      others = λ b differs. others-stay key.items old.rows.entries new.rows.entries h.3 b differs;
    })

-- ---- what is put
-- one number more at the place
abbrev pub PutMore : PlaceUses → PlaceUses → Place → ℕ → Type 0
PutMore old new a number = (b : Place) (i : ℕ) → StandsAt new b i ↔ (StandsAt old b i ⊎ ((b ≡ a) × (i ≡ number)))

-- a use of row n
abbrev pub UsesMore : PlaceUses → PlaceUses → ℕ → ℕ → Type 0
UsesMore old new n number = (x t : ℕ) → Uses new.uses x t ↔ (Uses old.uses x t ⊎ ((x ≡ n) × (t ≡ number)))

pub nothing-sound : (table : PlaceUses) → ((a : Place) → row_at table a ≡ None) → ((x t : ℕ) → Uses table.uses x t → ⊥) → Sound table
nothing-sound table none unused = record {
  below = λ a n h. none-some n (sym (none a) ∙ h);
  apart = λ a b n h g. none-some n (sym (none a) ∙ h);
  used = λ n i u. absurd (unused n i u);
}

pub nothing-stands : (table : PlaceUses) → ((x t : ℕ) → Uses table.uses x t → ⊥) → (a : Place) (i : ℕ) → StandsAt table a i → ⊥
nothing-stands table unused a i s = unused s.0 i s.2

-- where it has a row
module _ (old new : PlaceUses) (a : Place) (n number : ℕ) (rows : new.rows ≡ old.rows) (count : new.count ≡ old.count) (uses : UsesMore old new n number) (sound : Sound old)
    (at : row_at old a ≡ Some n) where
  as-before : (b : Place) → row_at new b ≡ row_at old b
  as-before b = ap (λ r. lookup (λ (k : Vec Entry Global). is_eq (order_of b k.items)) r.entries) rows

  pub again-sound : Sound new
  again-sound = record {
    below = λ b m h. subst (λ (k : ℕ). m < k) (sym count) (sound.below b m (sym (as-before b) ∙ h));
    apart = λ b c m h g. sound.apart b c m (sym (as-before b) ∙ h) (sym (as-before c) ∙ g);
    used = λ m i u. subst (λ (k : ℕ). m < k) (sym count) (elim ((uses m i).0 u) [
      | inl v ↦ sound.used m i v
      | inr v ↦ subst (λ (k : ℕ). k < old.count) (sym v.0) (sound.below a n at)
    ]);
  }

  pub again-put : PutMore old new a number
  again-put b i = (
    λ s. elim ((uses s.0 i).0 s.2) [
      | inl v ↦ inl (s.0, sym (as-before b) ∙ s.1, v)
      | inr v ↦ inr (sound.apart b a n (sym (as-before b) ∙ s.1 ∙ ap (λ (k : ℕ). Some k) v.0) at, v.1)
    ],
    λ h. elim h [
      | inl s ↦ (s.0, as-before b ∙ s.1, (uses s.0 i).1 (inl s.2))
      | inr both ↦ (n, as-before b ∙ ap (row_at old) both.0 ∙ at, (uses n i).1 (inr (refl, both.1)))
    ],
  )

-- where it gets one
module _ (old new : PlaceUses) (key : Vec Entry Global) (a : Place) (number : ℕ) (is : key.items ≡ a) (h : UpdatesBy cmp_keys (cmp_keys key) old.rows new.rows (Some old.count))
    (count : new.count ≡ old.count + 1) (uses : UsesMore old new old.count number) (sound : Sound old) (none : row_at old a ≡ None) where
  put : RowPut old new a old.count
  put = row-put old new key old.count a is h

  new-row : (b : Place) (m : ℕ) → row_at new b ≡ Some m → ((b ≡ a) × (m ≡ old.count)) ⊎ ((b ≢ a) × (row_at old b ≡ Some m))
  new-row b m e = elim (same-or-not b a) [
    | inl same ↦ inl (same, some-injective m old.count (sym e ∙ ap (row_at new) same ∙ put.here))
    | inr differs ↦ inr (differs, sym (put.others b differs) ∙ e)
  ]

  not-count : (m : ℕ) → m < old.count → m ≡ old.count → ⊥
  not-count m less e = omega (arith, less, e)

  pub first-sound : Sound new
  first-sound = record {
    below = λ b m e. elim (new-row b m e) [
      | inl both ↦ let same : m ≡ old.count = both.1 in omega (arith, same, count)
      | inr other ↦ let less : m < old.count = sound.below b m other.1 in omega (arith, less, count)
    ];
    apart = λ b c m e f. elim (new-row b m e) [
      | inl one ↦ elim (new-row c m f) [
        | inl two ↦ one.0 ∙ sym two.0
        | inr other ↦ absurd (not-count m (sound.below c m other.1) one.1)
      ]
      | inr one ↦ elim (new-row c m f) [
        | inl two ↦ absurd (not-count m (sound.below b m one.1) two.1)
        | inr other ↦ sound.apart b c m one.1 other.1
      ]
    ];
    used = λ m i u. elim ((uses m i).0 u) [
      | inl v ↦ let less : m < old.count = sound.used m i v in omega (arith, less, count)
      | inr v ↦ let same : m ≡ old.count = v.0 in omega (arith, same, count)
    ];
  }

  pub first-put : PutMore old new a number
  first-put b i = (
    λ s. elim (new-row b s.0 s.1) [
      | inl both ↦ elim ((uses s.0 i).0 s.2) [
        | inl v ↦ absurd (not-count s.0 (sound.used s.0 i v) both.1)
        | inr v ↦ inr (both.0, v.1)
      ]
      | inr other ↦ elim ((uses s.0 i).0 s.2) [
        | inl v ↦ inl (s.0, other.1, v)
        | inr v ↦ absurd (not-count s.0 (sound.below b s.0 other.1) v.0)
      ]
    ],
    λ g. elim g [
      | inl s ↦ elim (same-or-not b a) [
        | inl same ↦ none-some s.0 (sym none ∙ ap (row_at old) (sym same) ∙ s.1)
        | inr differs ↦ (s.0, put.others b differs ∙ s.1, (uses s.0 i).1 (inl s.2))
      ]
      | inr both ↦ (old.count, ap (row_at new) both.0 ∙ put.here, (uses old.count i).1 (inr (refl, both.1)))
    ],
  )
