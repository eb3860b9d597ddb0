-- What a table has with more noted, and what two tables have together.
use Rattle.std.proofs.Common.{◌≡◌, ◌⊎◌, inl, inr, ⊎_elim, ℕ, [], ◌∷◌, Bool, true, false, cond, nat_eq, nat_lt, length, eqb-true, eq-eqb, Option, Some, unwrap_or, refl, sym, ap, ◌∙◌, subst}
use Rattle.std.specs.Map.{lookup}
use Rattle.indexmap.specs.IndexMap.{insert_entry}
use Rattle.syntax.specs.Lists.{In}
use Rattle.sharing_check.specs.declared.touched.Touched.{Touched}
use Rattle.sharing_check.specs.internal.Crossing.{Table, lesser, nowhere, together, touched_at, with_touched, noted_all}
use Rattle.sharing_check.specs.internal.Gathering.{in_one}
use Rattle.sharing_check.proofs.LeastOffsets.{Reaches, lesser_left, lesser_right, lesser_either}

-- the value at a key after an insertion
lookup_inserted : (k : ℕ) (v : Touched) (q : ℕ) (t : Table) → lookup (nat_eq q) (insert_entry nat_eq t k v) ≡ cond (nat_eq q k) (Some v) (lookup (nat_eq q) t)
lookup_inserted k v q [] = refl
lookup_inserted k v q (e ∷ es) = go (lookup_inserted k v q es) (nat_eq k e.0) refl (nat_eq q k) refl
  where
    go : lookup (nat_eq q) (insert_entry nat_eq es k v) ≡ cond (nat_eq q k) (Some v) (lookup (nat_eq q) es)
        → (b : Bool) → nat_eq k e.0 ≡ b → (d : Bool) → nat_eq q k ≡ d
        → lookup (nat_eq q) (insert_entry nat_eq (e ∷ es) k v) ≡ cond (nat_eq q k) (Some v) (lookup (nat_eq q) (e ∷ es))
    go rest true same true here = rw same (rw here (rw (subst (λ z. nat_eq q z ≡ true) (eqb-true k e.0 same) here) refl))
    go rest true same false other = rw same (rw other (rw (subst (λ z. nat_eq q z ≡ false) (eqb-true k e.0 same) other) refl))
    go rest false apart true here =
        rw apart (rw here (rw (subst (λ z. nat_eq z e.0 ≡ false) (sym (eqb-true q k here)) apart)
        (rest ∙ ap (λ d. cond d (Some v) (lookup (nat_eq q) es)) here)))
    go rest false apart false other =
        rw apart (rw other
        (ap (cond (nat_eq q e.0) (Some e.1)) (rest ∙ ap (λ d. cond d (Some v) (lookup (nat_eq q) es)) other)))

-- where a variable is touched after more is noted
pub touched_noted : (t : Table) (x : ℕ) (s : Touched) (y : ℕ) → touched_at (with_touched t x s) y ≡ cond (nat_eq y x) (together (touched_at t x) s) (touched_at t y)
touched_noted t x s y =
    ap (λ o. unwrap_or o nowhere) (lookup_inserted x (together (touched_at t x) s) y t)
    ∙ out (nat_eq y x) (together (touched_at t x) s) (lookup (nat_eq y) t)
  where
    out : (b : Bool) (v : Touched) (o : Option Touched) → unwrap_or (cond b (Some v) o) nowhere ≡ cond b v (unwrap_or o nowhere)
    out true v o = refl
    out false v o = refl

-- the variable is not in the table
abbrev pub Absent : ℕ → Table → Type 0
Absent x t = (e : ℕ × Touched) → In e t → nat_eq e.0 x ≡ false

-- no variable is there twice
abbrev pub Distinct : Table → Type 0
Distinct [] = Unit {0}
Distinct (e ∷ t) = Absent e.0 t × Distinct t

-- an entry after an insertion is new or was there
from_inserted : (k : ℕ) (v : Touched) (t : Table) (e : ℕ × Touched) → In e (insert_entry nat_eq t k v) → (e.0 ≡ k) ⊎ In e t
from_inserted k v [] e i = ⊎_elim (λ is. inl (ap (λ (z : ℕ × Touched). z.0) is)) (λ j. absurd j) i
from_inserted k v (d ∷ t) e i = go (λ j. from_inserted k v t e j) (nat_eq k d.0) refl i
  where
    go : (In e (insert_entry nat_eq t k v) → (e.0 ≡ k) ⊎ In e t) → (b : Bool) → nat_eq k d.0 ≡ b
        → In e (cond b ((d.0, v) ∷ t) (d ∷ insert_entry nat_eq t k v)) → (e.0 ≡ k) ⊎ In e (d ∷ t)
    go rest true same (inl is) = inl (ap (λ (z : ℕ × Touched). z.0) is ∙ sym (eqb-true k d.0 same))
    go rest true same (inr j) = inr (inr j)
    go rest false apart (inl is) = inr (inl is)
    go rest false apart (inr j) = ⊎_elim (λ f. inl f) (λ f. inr (inr f)) (rest j)

distinct_inserted : (k : ℕ) (v : Touched) (t : Table) → Distinct t → Distinct (insert_entry nat_eq t k v)
distinct_inserted k v [] h = (λ e i. absurd i, tt)
distinct_inserted k v (d ∷ t) h = go (distinct_inserted k v t h.1) (nat_eq k d.0) refl
  where
    go : Distinct (insert_entry nat_eq t k v) → (b : Bool) → nat_eq k d.0 ≡ b → Distinct (cond b ((d.0, v) ∷ t) (d ∷ insert_entry nat_eq t k v))
    go rest true same = (h.0, h.1)
    go rest false apart = (
      λ e i. ⊎_elim (λ is. subst (λ z. nat_eq z d.0 ≡ false) (sym is) apart) (λ j. h.0 e j) (from_inserted k v t e i),
      rest,
    )

pub distinct_noted : (t : Table) (x : ℕ) (s : Touched) → Distinct t → Distinct (with_touched t x s)
distinct_noted t x s h = distinct_inserted x (together (touched_at t x) s) t h

distinct_all : (es t : Table) → Distinct t → Distinct (noted_all es t)
distinct_all [] t h = h
distinct_all (e ∷ es) t h = distinct_all es (with_touched t e.0 e.1) (distinct_noted t e.0 e.1 h)

-- an entry has what the table has of its variable, where no other one has it
pub touched_entry : (t : Table) (e : ℕ × Touched) → Distinct t → In e t → touched_at t e.0 ≡ e.1
touched_entry [] e h i = absurd i
touched_entry (d ∷ t) e h (inl is) =
    subst (λ (z : ℕ × Touched). unwrap_or (cond (nat_eq e.0 z.0) (Some z.1) (lookup (nat_eq e.0) t)) nowhere ≡ e.1) is
    (ap (λ b. unwrap_or (cond b (Some e.1) (lookup (nat_eq e.0) t)) nowhere) (eq-eqb e.0 e.0 refl))
touched_entry (d ∷ t) e h (inr i) =
    ap (λ b. unwrap_or (cond b (Some d.1) (lookup (nat_eq e.0) t)) nowhere) (h.0 e i) ∙ touched_entry t e h.1 i

-- where a variable is written, or is read
abbrev pub side : Bool → Touched → Option ℕ
side true s = s.written
side false s = s.read

side_together : (w : Bool) (a b : Touched) → side w (together a b) ≡ lesser (side w a) (side w b)
side_together true a b = refl
side_together false a b = refl

-- by the table, the variable x is written at n or before, or read
abbrev pub Has : Table → ℕ → Bool → ℕ → Type 0
Has t x w n = Reaches (side w (touched_at t x)) n

-- an empty table has nothing
pub has_none : (x : ℕ) (w : Bool) (n : ℕ) → Has [] x w n → ⊥
has_none x true n h = h
has_none x false n h = h

-- a table has what it has in one of its entries
pub entry_in : (t : Table) (x : ℕ) (w : Bool) (n : ℕ) → Has t x w n → In (x, touched_at t x) t
entry_in [] x w n h = absurd (has_none x w n h)
entry_in (e ∷ t) x w n h = go (λ k. entry_in t x w n k) (nat_eq x e.0) refl h
  where
    go : (Has t x w n → In (x, touched_at t x) t) → (b : Bool) → nat_eq x e.0 ≡ b
        → Reaches (side w (unwrap_or (cond b (Some e.1) (lookup (nat_eq x) t)) nowhere)) n
        → In (x, unwrap_or (cond b (Some e.1) (lookup (nat_eq x) t)) nowhere) (e ∷ t)
    go rest true is k = inl (ap (λ z. (z, e.1)) (eqb-true x e.0 is))
    go rest false is k = inr (rest k)

module _ (t : Table) (x : ℕ) (s : Touched) (w : Bool) (n : ℕ) where
  pub noted_keeps : (y : ℕ) → Has t y w n → Has (with_touched t x s) y w n
  noted_keeps y h = subst (λ (z : Touched). Reaches (side w z) n) (sym (touched_noted t x s y)) (go (nat_eq y x) refl)
    where
      go : (b : Bool) → nat_eq y x ≡ b → Reaches (side w (cond b (together (touched_at t x) s) (touched_at t y))) n
      go true is =
          subst (λ o. Reaches o n) (sym (side_together w (touched_at t x) s))
          (lesser_left (side w (touched_at t x)) (side w s) n (subst (λ z. Has t z w n) (eqb-true y x is) h))
      go false is = h

  pub noted_finds : (y : ℕ) → y ≡ x → Reaches (side w s) n → Has (with_touched t x s) y w n
  noted_finds y is h =
      subst (λ (z : Touched). Reaches (side w z) n) (sym (touched_noted t x s y))
      (subst (λ b. Reaches (side w (cond b (together (touched_at t x) s) (touched_at t y))) n) (sym (eq-eqb y x is))
      (subst (λ o. Reaches o n) (sym (side_together w (touched_at t x) s)) (lesser_right (side w (touched_at t x)) (side w s) n h)))

  pub noted_from : (y : ℕ) → Has (with_touched t x s) y w n → Has t y w n ⊎ ((y ≡ x) × Reaches (side w s) n)
  noted_from y h = go (nat_eq y x) refl (subst (λ (z : Touched). Reaches (side w z) n) (touched_noted t x s y) h)
    where
      go : (b : Bool) → nat_eq y x ≡ b → Reaches (side w (cond b (together (touched_at t x) s) (touched_at t y))) n → Has t y w n ⊎ ((y ≡ x) × Reaches (side w s) n)
      go true is k =
          ⊎_elim
          (λ m. inl (subst (λ z. Has t z w n) (sym (eqb-true y x is)) m))
          (λ m. inr (eqb-true y x is, m))
          (lesser_either (side w (touched_at t x)) (side w s) n (subst (λ o. Reaches o n) (side_together w (touched_at t x) s) k))
      go false is k = inl k

module _ (y : ℕ) (w : Bool) (n : ℕ) where
  all_keeps : (es t : Table) → Has t y w n → Has (noted_all es t) y w n
  all_keeps [] t h = h
  all_keeps (e ∷ es) t h = all_keeps es (with_touched t e.0 e.1) (noted_keeps t e.0 e.1 w n y h)

  all_finds : (es t : Table) (s : Touched) → In (y, s) es → Reaches (side w s) n → Has (noted_all es t) y w n
  all_finds [] t s i h = absurd i
  all_finds (e ∷ es) t s (inl is) h =
      all_keeps es (with_touched t e.0 e.1)
      (subst (λ (z : ℕ × Touched). Has (with_touched t z.0 z.1) y w n) is (noted_finds t y s w n y refl h))
  all_finds (e ∷ es) t s (inr i) h = all_finds es (with_touched t e.0 e.1) s i h

  all_from : (es t : Table) → Distinct es → Has (noted_all es t) y w n → Has t y w n ⊎ Has es y w n
  all_from [] t d h = inl h
  all_from (e ∷ es) t d h =
      ⊎_elim
      (λ k. ⊎_elim (λ m. inl m) (λ m. inr (first m.0 m.1)) (noted_from t e.0 e.1 w n y k))
      (λ k. inr (later k))
      (all_from es (with_touched t e.0 e.1) d.1 h)
    where
      first : y ≡ e.0 → Reaches (side w e.1) n → Has (e ∷ es) y w n
      first is m = subst (λ b. Reaches (side w (unwrap_or (cond b (Some e.1) (lookup (nat_eq y) es)) nowhere)) n) (sym (eq-eqb y e.0 is)) m

      later : Has es y w n → Has (e ∷ es) y w n
      later m =
          subst (λ b. Reaches (side w (unwrap_or (cond b (Some e.1) (lookup (nat_eq y) es)) nowhere)) n)
          (sym (d.0 (y, touched_at es y) (entry_in es y w n m))) m

pub distinct_one : (a b : Table) → Distinct a → Distinct b → Distinct (in_one a b)
distinct_one a b h k = go (nat_lt (length a) (length b))
  where
    go : (less : Bool) → Distinct (noted_all (cond less a b) (cond less b a))
    go true = distinct_all a b k
    go false = distinct_all b a h

-- two tables as one have what either has
module _ (a b : Table) (y : ℕ) (w : Bool) (n : ℕ) where
  abbrev HasBy : Bool → Type 0
  HasBy less = Has (noted_all (cond less a b) (cond less b a)) y w n

  pub one_left : Has a y w n → Has (in_one a b) y w n
  one_left h = go (nat_lt (length a) (length b))
    where
      go : (less : Bool) → HasBy less
      go true = all_finds y w n a b (touched_at a y) (entry_in a y w n h) h
      go false = all_keeps y w n b a h

  pub one_right : Has b y w n → Has (in_one a b) y w n
  one_right h = go (nat_lt (length a) (length b))
    where
      go : (less : Bool) → HasBy less
      go true = all_keeps y w n a b h
      go false = all_finds y w n b a (touched_at b y) (entry_in b y w n h) h

  pub one_either : Distinct a → Distinct b → Has (in_one a b) y w n → Has a y w n ⊎ Has b y w n
  one_either d e = go (nat_lt (length a) (length b))
    where
      go : (less : Bool) → HasBy less → Has a y w n ⊎ Has b y w n
      go true h = ⊎_elim (λ k. inr k) (λ k. inl k) (all_from y w n a b d h)
      go false h = all_from y w n b a e h
