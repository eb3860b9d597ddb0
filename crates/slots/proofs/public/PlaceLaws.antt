-- Items and their places: which item is where, and what an edit of one place leaves.
use Rattle.std.proofs.Common.{◌≡◌, Bool, true, false, cond, nat_eq, ℕ, zero, suc, ◌+◌, ◌-◌, ◌<◌, ◌≤◌, List, [], ◌∷◌, ◌++◌, length, take, Option, Some, None, refl, sym, ap, subst, ◌∙◌, inl, inr, arith}
use Rattle.std.proofs.lemmas.Bool.{cases_lt}
use Rattle.std.proofs.lemmas.Bool.Decides.{nat_tests}
use Rattle.std.specs.Map.{lookup, lookup_key, values_of}
use Rattle.std.specs.Prelude.{slice_get, slice_set, is_some, ◌⊎◌, Result, Ok, Err, OnOk}
use Rattle.std.specs.List.{remove}
use Rattle.indexmap.specs.IndexMap.{set_value_at}
use Rattle.syntax.specs.Lists.{In}
use Rattle.slots.specs.Places.{Places, put_before, filled, rank, RiseFrom}

pub none-some : {X : Type 0} {P : Type 0} (x : X) → None ≡ Some x → P
none-some x e = cc

pub some-is : {X : Type 0} (x y : X) → Some x ≡ Some y → x ≡ y
some-is x y e = cc

-- one more where there is an item
abbrev pub add_here : {X : Type 0} → Option X → ℕ → ℕ
add_here None n = n
add_here (Some x) n = suc n

-- ---- an item before others
pub length-put : {X : Type 0} (t : ℕ) (o : Option X) (rest : List (ℕ × X)) → length (put_before t o rest) ≡ add_here o (length rest)
length-put t None rest = refl
length-put t (Some x) rest = refl

pub get-put : {X : Type 0} (t : ℕ) (o : Option X) (rest : List (ℕ × X)) (i : ℕ) → slice_get (put_before t o rest) (add_here o i) ≡ slice_get rest i
get-put t None rest i = refl
get-put t (Some x) rest i = refl

pub set-put : {X : Type 0} (t : ℕ) (o : Option X) (rest : List (ℕ × X)) (i : ℕ) (v : ℕ × X) → slice_set (put_before t o rest) (add_here o i) v ≡ put_before t o (slice_set rest i v)
set-put t None rest i v = refl
set-put t (Some x) rest i v = refl

pub remove-put : {X : Type 0} (t : ℕ) (o : Option X) (rest : List (ℕ × X)) (i : ℕ) → remove (put_before t o rest) (add_here o i) ≡ put_before t o (remove rest i)
remove-put t None rest i = refl
remove-put t (Some x) rest i = refl

append-put : {X : Type 0} (t : ℕ) (o : Option X) (rest more : List (ℕ × X)) → put_before t o rest ++ more ≡ put_before t o (rest ++ more)
append-put t None rest more = refl
append-put t (Some x) rest more = refl

in-put : {X : Type 0} (t : ℕ) (o : Option X) (rest : List (ℕ × X)) (u : ℕ) (x : X) → In (u, x) (put_before t o rest) → ((u ≡ t) × (o ≡ Some x)) ⊎ In (u, x) rest
in-put t None rest u x i = inr i
in-put t (Some y) rest u x i =
    elim i [
      | inl is ↦ inl (ap (λ (q : ℕ × _). q.0) is, ap (λ (q : ℕ × _). Some q.1) (sym is))
      | inr later ↦ inr later
    ]

-- ---- how many there are
pub rank-cons : {X : Type 0} (p : ℕ × Option X) (ps : Places X) (i : ℕ) → rank (p ∷ ps) (suc i) ≡ add_here p.1 (rank ps i)
rank-cons p ps i = length-put p.0 p.1 (filled (take i ps))

here-low : {X : Type 0} (o : Option X) (n : ℕ) → n ≤ add_here o n
here-low None n = omega arith
here-low (Some x) n = omega arith

here-high : {X : Type 0} (o : Option X) (n : ℕ) → add_here o n ≤ suc n
here-high None n = omega arith
here-high (Some x) n = omega arith

here-more : {X : Type 0} (o : Option X) (n m : ℕ) → n ≤ m → add_here o n ≤ add_here o m
here-more None n m h = h
here-more (Some x) n m h = omega arith

pair-is : {X : Type 0} (p : ℕ × Option X) (t : ℕ) (x : X) → t ≡ p.0 → p.1 ≡ Some x → (t, Some x) ≡ p
pair-is p t x is item = ap (λ (u : ℕ). (u, Some x)) is ∙ ap (λ (o : Option _). (p.0, o)) (sym item)

here-swap : {X : Type 0} (a b : Option X) (n : ℕ) → add_here a (add_here b n) ≡ add_here b (add_here a n)
here-swap None b n = refl
here-swap (Some x) None n = refl
here-swap (Some x) (Some y) n = refl

here-up : {X : Type 0} (o : Option X) (n : ℕ) → add_here o (suc n) ≡ suc (add_here o n)
here-up None n = refl
here-up (Some x) n = refl

here-sum : {X : Type 0} (o : Option X) (n k : ℕ) → add_here o (n + k) ≡ add_here o n + k
here-sum None n k = refl
here-sum (Some x) n k = omega arith

pub filled-short : {X : Type 0} (ps : Places X) → length (filled ps) ≤ length ps
filled-short [] = omega arith
filled-short (p ∷ ps) =
    let put = length-put p.0 p.1 (filled ps) in
    let high = here-high p.1 (length (filled ps)) in
    let rest = filled-short ps in
    omega arith

pub rank-none : (X : Type 0) (i : ℕ) → rank {X = X} [] i ≡ 0
rank-none X zero = refl
rank-none X (suc i) = refl

pub rank-whole : {X : Type 0} (ps : Places X) (i : ℕ) → length ps ≤ i → rank ps i ≡ length (filled ps)
rank-whole {X = X} [] i h = rank-none X i
rank-whole (p ∷ ps) zero h = absurd (omega arith)
rank-whole (p ∷ ps) (suc i) h =
    let less : length ps ≤ i = omega arith in
    rank-cons p ps i ∙ ap (add_here p.1) (rank-whole ps i less) ∙ sym (length-put p.0 p.1 (filled ps))

-- one place further there is one more, or none
pub rank-next : {X : Type 0} (ps : Places X) (i : ℕ) (p : ℕ × Option X) → slice_get ps i ≡ Some p → rank ps (suc i) ≡ add_here p.1 (rank ps i)
rank-next [] i p h = none-some p h
rank-next (q ∷ ps) zero p h = rank-cons q ps zero ∙ ap (λ (z : ℕ × Option _). add_here z.1 0) (some-is q p h)
rank-next (q ∷ ps) (suc i) p h =
    rank-cons q ps (suc i) ∙ ap (add_here q.1) (rank-next ps i p h) ∙ here-swap q.1 p.1 (rank ps i) ∙ ap (add_here p.1) (sym (rank-cons q ps i))

pub rank-rises : {X : Type 0} (ps : Places X) (i j : ℕ) → i ≤ j → rank ps i ≤ rank ps j
rank-rises {X = X} [] i j h = let a = rank-none X i in let b = rank-none X j in omega arith
rank-rises (p ∷ ps) zero j h = omega arith
rank-rises (p ∷ ps) (suc i) zero h = absurd (omega arith)
rank-rises (p ∷ ps) (suc i) (suc j) h =
    let less : i ≤ j = omega arith in
    let rest = here-more p.1 (rank ps i) (rank ps j) (rank-rises ps i j less) in
    let a = rank-cons p ps i in
    let b = rank-cons p ps j in
    omega arith

pub rank-low : {X : Type 0} (ps : Places X) (i : ℕ) → rank ps i ≤ i
rank-low {X = X} [] i = let a = rank-none X i in omega arith
rank-low (p ∷ ps) zero = omega arith
rank-low (p ∷ ps) (suc i) =
    let a = rank-cons p ps i in
    let high = here-high p.1 (rank ps i) in
    let rest = rank-low ps i in
    omega arith

-- so many places hold at most so many items
pub rank-span : {X : Type 0} (ps : Places X) (i k : ℕ) → rank ps (i + k) ≤ rank ps i + k
rank-span {X = X} [] i k = let a = rank-none X (i + k) in omega arith
rank-span (p ∷ ps) zero k =
    let low = rank-low (p ∷ ps) k in
    let sum : 0 + k ≡ k = omega arith in
    let same : rank (p ∷ ps) (0 + k) ≡ rank (p ∷ ps) k = ap (λ (n : ℕ). rank (p ∷ ps) n) sum in
    omega arith
rank-span (p ∷ ps) (suc i) k =
    let next : suc i + k ≡ suc (i + k) = omega arith in
    let rest = here-more p.1 (rank ps (i + k)) (rank ps i + k) (rank-span ps i k) in
    let sum = here-sum p.1 (rank ps i) k in
    let a = rank-cons p ps i in
    let b : rank (p ∷ ps) (suc i + k) ≡ add_here p.1 (rank ps (i + k)) = ap (rank (p ∷ ps)) next ∙ rank-cons p ps (i + k) in
    omega arith

pub rank-within : {X : Type 0} (ps : Places X) (i : ℕ) → rank ps i ≤ length (filled ps)
rank-within ps i =
    let most : i ≤ i + length ps = omega arith in
    let more : length ps ≤ i + length ps = omega arith in
    let up = rank-rises ps i (i + length ps) most in
    let all = rank-whole ps (i + length ps) more in
    omega arith

-- where items are still to come, places are
pub place-left : {X : Type 0} (ps : Places X) (i : ℕ) → rank ps i < length (filled ps) → i < length ps
place-left ps i h = elim (cases_lt i (length ps)) [
  | inl less ↦ less
  | inr high ↦ let all = rank-whole ps i high in absurd (omega arith)
]

-- where no place is empty, the index is the place
pub rank-full : {X : Type 0} (ps : Places X) (i : ℕ) → length (filled ps) ≡ length ps → i ≤ length ps → rank ps i ≡ i
rank-full ps i full within =
    let low = rank-low ps i in
    let sum : i + (length ps - i) ≡ length ps = omega arith in
    let span = rank-span ps i (length ps - i) in
    let end : rank ps (i + (length ps - i)) ≡ length (filled ps) = ap (rank ps) sum ∙ rank-whole ps (length ps) (omega arith) in
    omega arith

-- ---- what stands where
pub filled-at : {X : Type 0} (ps : Places X) (i t : ℕ) (x : X) → slice_get ps i ≡ Some (t, Some x) → slice_get (filled ps) (rank ps i) ≡ Some (t, x)
filled-at [] i t x h = none-some (t, Some x) h
filled-at (p ∷ ps) zero t x h = ap (λ (q : ℕ × Option _). slice_get (put_before q.0 q.1 (filled ps)) 0) (some-is p (t, Some x) h)
filled-at (p ∷ ps) (suc i) t x h =
    ap (slice_get (put_before p.0 p.1 (filled ps))) (rank-cons p ps i) ∙ get-put p.0 p.1 (filled ps) (rank ps i) ∙ filled-at ps i t x h

pub filled-append : {X : Type 0} (ps qs : Places X) → filled (ps ++ qs) ≡ filled ps ++ filled qs
filled-append [] qs = refl
filled-append (p ∷ ps) qs = ap (put_before p.0 p.1) (filled-append ps qs) ∙ sym (append-put p.0 p.1 (filled ps) (filled qs))

pub filled-in : {X : Type 0} (ps : Places X) (t : ℕ) (x : X) → In (t, x) (filled ps) → In (t, Some x) ps
filled-in [] t x i = absurd i
filled-in (p ∷ ps) t x i =
    elim (in-put p.0 p.1 (filled ps) t x i) [
      | inl both ↦ inl (pair-is p t x both.0 both.1)
      | inr later ↦ inr (filled-in ps t x later)
    ]

-- ---- the order of tickets
pub rise-in : {X : Type 0} (low : ℕ) (ps : Places X) (t : ℕ) (o : Option X) → RiseFrom low ps → In (t, o) ps → low ≤ t
rise-in low [] t o r i = absurd i
rise-in low (p ∷ ps) t o r i =
    elim i [
      | inl is ↦ let same : t ≡ p.0 = ap (λ (q : ℕ × _). q.0) is in let first = r.0 in omega arith
      | inr later ↦ let rest = rise-in (suc p.0) ps t o r.1 later in let first = r.0 in omega arith
    ]

pub rise-at : {X : Type 0} (low : ℕ) (ps : Places X) (i t : ℕ) (o : Option X) → RiseFrom low ps → slice_get ps i ≡ Some (t, o) → low ≤ t
rise-at low [] i t o r h = none-some (t, o) h
rise-at low (p ∷ ps) zero t o r h = let same : p.0 ≡ t = ap (λ (q : ℕ × _). q.0) (some-is p (t, o) h) in let first = r.0 in omega arith
rise-at low (p ∷ ps) (suc i) t o r h = let rest = rise-at (suc p.0) ps i t o r.1 h in let first = r.0 in omega arith

-- a ticket whose place is empty is that of no item
pub empty-absent : {X : Type 0} (low : ℕ) (ps : Places X) (i t : ℕ) (x : X) → RiseFrom low ps → slice_get ps i ≡ Some (t, None) → In (t, x) (filled ps) → ⊥
empty-absent low [] i t x r h j = none-some (t, None) h
empty-absent low (p ∷ ps) zero t x r h j =
    let is = some-is p (t, None) h in
    let same : p.0 ≡ t = ap (λ (q : ℕ × _). q.0) is in
    elim (in-put p.0 p.1 (filled ps) t x j) [
      | inl both ↦ none-some x (sym (ap (λ (q : ℕ × _). q.1) is) ∙ both.1)
      | inr later ↦ let above = rise-in (suc p.0) ps t (Some x) r.1 (filled-in ps t x later) in absurd (omega arith)
    ]
empty-absent low (p ∷ ps) (suc i) t x r h j =
    let above = rise-at (suc p.0) ps i t None r.1 h in
    elim (in-put p.0 p.1 (filled ps) t x j) [
      | inl both ↦ let same = both.0 in absurd (omega arith)
      | inr later ↦ empty-absent (suc p.0) ps i t x r.1 h later
    ]

pub rise-more : {X : Type 0} (low : ℕ) (ps : Places X) (t : ℕ) (o : Option X) → RiseFrom low ps → ((u : ℕ) (b : Option X) → In (u, b) ps → u < t) → low ≤ t → RiseFrom low (ps ++ (t, o) ∷ [])
rise-more low [] t o r h least = (least, tt)
rise-more low (p ∷ ps) t o r h least =
    let first : p.0 < t = h p.0 p.1 (inl refl) in
    (r.0, rise-more (suc p.0) ps t o r.1 (λ u b i. h u b (inr i)) first)

pub rise-less : {X : Type 0} (low : ℕ) (ps qs : Places X) → RiseFrom low (ps ++ qs) → RiseFrom low ps
rise-less low [] qs r = tt
rise-less low (p ∷ ps) qs r = (r.0, rise-less (suc p.0) ps qs r.1)

pub rise-set : {X : Type 0} (low : ℕ) (ps : Places X) (i : ℕ) (o : Option X) → RiseFrom low ps → RiseFrom low (set_value_at ps i o)
rise-set low [] i o r = tt
rise-set low (p ∷ ps) zero o r = r
rise-set low (p ∷ ps) (suc i) o r = (r.0, rise-set (suc p.0) ps i o r.1)

-- ---- a look-up by ticket
pub absent-none : {X : Type 0} (t : ℕ) (ps : Places X) (x : X) → lookup (λ k. nat_eq t k) ps ≡ None → In (t, x) (filled ps) → ⊥
absent-none t [] x e i = absurd i
absent-none t (p ∷ ps) x e i = by (nat_eq t p.0) refl (λ f j. absent-none t ps x f j)
  where
    by : (b : Bool) → nat_eq t p.0 ≡ b → (lookup (λ k. nat_eq t k) ps ≡ None → In (t, x) (filled ps) → ⊥) → ⊥
    by true same rest = none-some p.1 (sym e ∙ ap (λ (b : Bool). cond b (Some p.1) (lookup (λ k. nat_eq t k) ps)) same)
    by false other rest =
        elim (in-put p.0 p.1 (filled ps) t x i) [
          | inl both ↦ let is = both.0 in absurd (grind (arith, nat_tests))
          | inr later ↦ rest (sym (ap (λ (b : Bool). cond b (Some p.1) (lookup (λ k. nat_eq t k) ps)) other) ∙ e) later
        ]

pub key-passes : {X : Type 0} (t : ℕ) (ps : Places X) (k : ℕ) → lookup_key (λ j. nat_eq t j) ps ≡ Some k → k ≡ t
key-passes t [] k e = none-some k e
key-passes t (p ∷ ps) k e = by (nat_eq t p.0) refl (λ f. key-passes t ps k f)
  where
    by : (b : Bool) → nat_eq t p.0 ≡ b → (lookup_key (λ j. nat_eq t j) ps ≡ Some k → k ≡ t) → k ≡ t
    by true same rest =
        let is : p.0 ≡ k = some-is p.0 k (sym (ap (λ (b : Bool). cond b (Some p.0) (lookup_key (λ j. nat_eq t j) ps)) same) ∙ e) in
        grind (arith, nat_tests)
    by false other rest = rest (sym (ap (λ (b : Bool). cond b (Some p.0) (lookup_key (λ j. nat_eq t j) ps)) other) ∙ e)

-- ---- an edit of one place
pub filled-changed : {X : Type 0} (ps : Places X) (i t : ℕ) (x y : X) → slice_get ps i ≡ Some (t, Some x) → filled (set_value_at ps i (Some y)) ≡ slice_set (filled ps) (rank ps i) (t, y)
filled-changed [] i t x y h = none-some (t, Some x) h
filled-changed (p ∷ ps) zero t x y h = here p (some-is p (t, Some x) h)
  where
    here : (p : ℕ × Option _) → p ≡ (t, Some x) → (p.0, y) ∷ filled ps ≡ slice_set (put_before p.0 p.1 (filled ps)) 0 (t, y)
    here p is = subst (λ (q : ℕ × Option _). (q.0, y) ∷ filled ps ≡ slice_set (put_before q.0 q.1 (filled ps)) 0 (t, y)) (sym is) refl
filled-changed (p ∷ ps) (suc i) t x y h =
    ap (put_before p.0 p.1) (filled-changed ps i t x y h) ∙ sym (set-put p.0 p.1 (filled ps) (rank ps i) (t, y))
    ∙ ap (λ (n : ℕ). slice_set (put_before p.0 p.1 (filled ps)) n (t, y)) (sym (rank-cons p ps i))

pub filled-taken : {X : Type 0} (ps : Places X) (i t : ℕ) (x : X) → slice_get ps i ≡ Some (t, Some x) → filled (set_value_at ps i None) ≡ remove (filled ps) (rank ps i)
filled-taken [] i t x h = none-some (t, Some x) h
filled-taken (p ∷ ps) zero t x h = here p (some-is p (t, Some x) h)
  where
    here : (p : ℕ × Option _) → p ≡ (t, Some x) → filled ps ≡ remove (put_before p.0 p.1 (filled ps)) 0
    here p is = subst (λ (q : ℕ × Option _). filled ps ≡ remove (put_before q.0 q.1 (filled ps)) 0) (sym is) refl
filled-taken (p ∷ ps) (suc i) t x h =
    ap (put_before p.0 p.1) (filled-taken ps i t x h) ∙ sym (remove-put p.0 p.1 (filled ps) (rank ps i))
    ∙ ap (λ (n : ℕ). remove (put_before p.0 p.1 (filled ps)) n) (sym (rank-cons p ps i))

pub length-edited : {X : Type 0} (ps : Places X) (i : ℕ) (o : Option X) → length (set_value_at ps i o) ≡ length ps
length-edited [] i o = refl
length-edited (p ∷ ps) zero o = refl
length-edited (p ∷ ps) (suc i) o = ap suc (length-edited ps i o)

-- another item at a place changes no index
pub rank-changed : {X : Type 0} (ps : Places X) (i t : ℕ) (x y : X) (j : ℕ) → slice_get ps i ≡ Some (t, Some x) → rank (set_value_at ps i (Some y)) j ≡ rank ps j
rank-changed [] i t x y j h = none-some (t, Some x) h
rank-changed (p ∷ ps) zero t x y zero h = refl
rank-changed (p ∷ ps) zero t x y (suc j) h =
    sym (rank-cons p ps j ∙ ap (λ (o : Option _). add_here o (rank ps j)) (ap (λ (q : ℕ × Option _). q.1) (some-is p (t, Some x) h)))
rank-changed (p ∷ ps) (suc i) t x y zero h = refl
rank-changed (p ∷ ps) (suc i) t x y (suc j) h =
    rank-cons p (set_value_at ps i (Some y)) j ∙ ap (add_here p.1) (rank-changed ps i t x y j h) ∙ sym (rank-cons p ps j)

-- an item that is taken out changes the indexes behind it
pub rank-taken-before : {X : Type 0} (ps : Places X) (i j : ℕ) → j ≤ i → rank (set_value_at ps i None) j ≡ rank ps j
rank-taken-before [] i j h = refl
rank-taken-before (p ∷ ps) i zero h = refl
rank-taken-before (p ∷ ps) zero (suc j) h = absurd (omega arith)
rank-taken-before (p ∷ ps) (suc i) (suc j) h =
    let less : j ≤ i = omega arith in
    rank-cons p (set_value_at ps i None) j ∙ ap (add_here p.1) (rank-taken-before ps i j less) ∙ sym (rank-cons p ps j)

pub rank-taken-behind : {X : Type 0} (ps : Places X) (i t : ℕ) (x : X) (j : ℕ) → slice_get ps i ≡ Some (t, Some x) → i < j → suc (rank (set_value_at ps i None) j) ≡ rank ps j
rank-taken-behind [] i t x j h less = none-some (t, Some x) h
rank-taken-behind (p ∷ ps) i t x zero h less = absurd (omega arith)
rank-taken-behind (p ∷ ps) zero t x (suc j) h less =
    sym (rank-cons p ps j ∙ ap (λ (o : Option _). add_here o (rank ps j)) (ap (λ (q : ℕ × Option _). q.1) (some-is p (t, Some x) h)))
rank-taken-behind (p ∷ ps) (suc i) t x (suc j) h less =
    let below : i < j = omega arith in
    ap suc (rank-cons p (set_value_at ps i None) j) ∙ sym (here-up p.1 (rank (set_value_at ps i None) j))
    ∙ ap (add_here p.1) (rank-taken-behind ps i t x j h below) ∙ sym (rank-cons p ps j)

-- one more behind all, and one less there
pub rank-pushed : {X : Type 0} (ps : Places X) (p : ℕ × Option X) (j : ℕ) → j ≤ length ps → rank (ps ++ p ∷ []) j ≡ rank ps j
rank-pushed [] p zero h = refl
rank-pushed [] p (suc j) h = absurd (omega arith)
rank-pushed (q ∷ ps) p zero h = refl
rank-pushed (q ∷ ps) p (suc j) h =
    let less : j ≤ length ps = omega arith in
    rank-cons q (ps ++ p ∷ []) j ∙ ap (add_here q.1) (rank-pushed ps p j less) ∙ sym (rank-cons q ps j)

pub rank-past : {X : Type 0} (ps : Places X) (p : ℕ × Option X) (j : ℕ) → length ps < j → rank (ps ++ p ∷ []) j ≡ add_here p.1 (length (filled ps))
rank-past [] p zero h = absurd (omega arith)
rank-past {X = X} [] p (suc j) h = rank-cons p [] j ∙ ap (add_here p.1) (rank-none X j)
rank-past (q ∷ ps) p zero h = absurd (omega arith)
rank-past (q ∷ ps) p (suc j) h =
    let less : length ps < j = omega arith in
    rank-cons q (ps ++ p ∷ []) j ∙ ap (add_here q.1) (rank-past ps p j less) ∙ here-swap q.1 p.1 (length (filled ps))
    ∙ ap (add_here p.1) (sym (length-put q.0 q.1 (filled ps)))

-- ---- whether a place is empty
pub held-some : {X : Type 0} (o : Option X) → is_some o ≡ true → (x : X) × (o ≡ Some x)
held-some None e = cc
held-some (Some x) e = (x, refl)

pub held-none : {X : Type 0} (o : Option X) → is_some o ≡ false → o ≡ None
held-none None e = refl
held-none (Some x) e = cc

pub at-within : {X : Type 0} (l : List X) (i : ℕ) → i < length l → (x : X) × (slice_get l i ≡ Some x)
at-within [] i h = absurd (omega arith)
at-within (y ∷ l) zero h = (y, refl)
at-within (y ∷ l) (suc i) h = let less : i < length l = omega arith in at-within l i less

-- the value at an index of a map is that of its entry
pub value-at : {X : Type 0} (ps : Places X) (i : ℕ) (o : Option X) → slice_get (values_of ps) i ≡ Some o → (t : ℕ) × (slice_get ps i ≡ Some (t, o))
value-at [] i o h = none-some o h
value-at (p ∷ ps) zero o h = (p.0, ap (λ (v : Option _). Some (p.0, v)) (some-is p.1 o h))
value-at (p ∷ ps) (suc i) o h = value-at ps i o h

-- a ticket behind all is not found
pub above-absent : {X : Type 0} (t : ℕ) (ps : Places X) → ((u : ℕ) (o : Option X) → In (u, o) ps → u < t) → lookup (λ k. nat_eq t k) ps ≡ None
above-absent t [] h = refl
above-absent t (p ∷ ps) h = by (nat_eq t p.0) refl (above-absent t ps (λ u o i. h u o (inr i)))
  where
    by : (b : Bool) → nat_eq t p.0 ≡ b → lookup (λ k. nat_eq t k) ps ≡ None → cond (nat_eq t p.0) (Some p.1) (lookup (λ k. nat_eq t k) ps) ≡ None
    by true same rest = let less : p.0 < t = h p.0 p.1 (inl refl) in absurd (grind (arith, nat_tests))
    by false other rest = ap (λ (b : Bool). cond b (Some p.1) (lookup (λ k. nat_eq t k) ps)) other ∙ rest

-- all but the last, and the last
pub last-cut : {X : Type 0} (ps : Places X) (i : ℕ) (p : ℕ × Option X) → suc i ≡ length ps → slice_get ps i ≡ Some p → ps ≡ take i ps ++ p ∷ []
last-cut [] i p last h = none-some p h
last-cut (q ∷ []) zero p last h = ap (λ (z : ℕ × Option _). z ∷ []) (some-is q p h)
last-cut (q ∷ (r ∷ ps)) zero p last h = absurd (omega arith)
last-cut (q ∷ ps) (suc i) p last h = let less : suc i ≡ length ps = omega arith in ap (λ k. q ∷ k) (last-cut ps i p less h)

pub value-is : {X : Type 0} (ps : Places X) (i t : ℕ) (x : X) (o : Option X) → slice_get ps i ≡ Some (t, Some x) → slice_get (values_of ps) i ≡ Some o → o ≡ Some x
value-is ps i t x o at h =
    let found = value-at ps i o h in
    ap (λ (q : ℕ × Option _). q.1) (some-is (found.0, o) (t, Some x) (sym found.1 ∙ at))

-- what holds where a call has succeeded
pub on-ok : {A E : Type 0} (r : Result A E) (a : A) (P : Type 0) → r ≡ Ok a → OnOk r P → P
on-ok (Ok x) a P is h = h
on-ok (Err e) a P is h = cc
