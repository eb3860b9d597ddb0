-- The least offset at which two tables clash.
use Rattle.std.proofs.Common.{◌≡◌, ◌⊎◌, inl, inr, ⊎_elim, ℕ, List, [], ◌∷◌, Bool, true, false, cond, nat_lt, length, Option, None, Some, is_some, slice_get, refl, sym, ap, ◌∙◌, subst, le_refl}
use Rattle.syntax.specs.Lists.{In}
use Rattle.system.specs.declared.system.Variable.{Variable}
use Rattle.sharing_check.specs.declared.touched.Touched.{Touched}
use Rattle.sharing_check.specs.internal.Crossing.{Table, lesser, together, clashing, clash, touched_at, with_touched, least_after, least_with}
use Rattle.sharing_check.specs.internal.Gathering.{Gathered, joined}
use Rattle.sharing_rule.specs.Rule.{is_shared_variable}
use Rattle.sharing_check.proofs.LeastOffsets.{Reaches, lesser_left, lesser_right, lesser_either}
use Rattle.sharing_check.proofs.TouchTables.{Distinct, side, entry_in, touched_entry, touched_noted}

-- a is touched at n or before, b is touched, and one of them is written
abbrev pub Meets : Touched → Touched → ℕ → Type 0
Meets a b n = (w v : Bool) × (m : ℕ) × ((w ≡ true) ⊎ (v ≡ true)) × Reaches (side w a) n × Reaches (side v b) m

module _ (a b : Touched) (n : ℕ) where
  abbrev By : Option ℕ → Option ℕ → Type 0
  By written read = Reaches (cond (is_some written) (lesser a.read a.written) (cond (is_some read) a.written None)) n

  clashing_finds : Meets a b n → Reaches (clashing a b) n
  clashing_finds h = go b.written refl b.read refl h.0 h.1 h.3 h.4 h.5
    where
      no : false ≡ true → ⊥
      no e = cc

      go : (written : Option ℕ) → b.written ≡ written → (read : Option ℕ) → b.read ≡ read → (w v : Bool)
          → (w ≡ true) ⊎ (v ≡ true) → Reaches (side w a) n → Reaches (side v b) h.2 → By written read
      go (Some k) e read f true v one r s = lesser_right a.read a.written n r
      go (Some k) e read f false v one r s = lesser_left a.read a.written n r
      go None e read f w true one r s = absurd (subst (λ o. Reaches o h.2) e s)
      go None e (Some k) f true false one r s = r
      go None e (Some k) f false false one r s = ⊎_elim (λ k. absurd (no k)) (λ k. absurd (no k)) one
      go None e None f w false one r s = absurd (subst (λ o. Reaches o h.2) f s)

  clashing_from : Reaches (clashing a b) n → Meets a b n
  clashing_from h = go b.written refl b.read refl h
    where
      go : (written : Option ℕ) → b.written ≡ written → (read : Option ℕ) → b.read ≡ read → By written read → Meets a b n
      go (Some k) e read f h =
          ⊎_elim
          (λ r. (false, true, k, inr refl, r, subst (λ o. Reaches o k) (sym e) (le_refl k)))
          (λ r. (true, true, k, inr refl, r, subst (λ o. Reaches o k) (sym e) (le_refl k)))
          (lesser_either a.read a.written n h)
      go None e (Some k) f h = (true, false, k, inl refl, h, subst (λ o. Reaches o k) (sym f) (le_refl k))
      go None e None f h = absurd h

-- one of the two is touched at n or before
abbrev pub Meet : Touched → Touched → ℕ → Type 0
Meet a b n = Meets a b n ⊎ Meets b a n

clash_finds : (a b : Touched) (n : ℕ) → Meet a b n → Reaches (clash a b) n
clash_finds a b n (inl h) = lesser_left (clashing a b) (clashing b a) n (clashing_finds a b n h)
clash_finds a b n (inr h) = lesser_right (clashing a b) (clashing b a) n (clashing_finds b a n h)

clash_from : (a b : Touched) (n : ℕ) → Reaches (clash a b) n → Meet a b n
clash_from a b n h =
    ⊎_elim (λ k. inl (clashing_from a b n k)) (λ k. inr (clashing_from b a n k)) (lesser_either (clashing a b) (clashing b a) n h)

module _ (variables : List Variable) where
  abbrev pub shared_in : ℕ → Bool
  shared_in x = is_shared_variable (slice_get variables x)

  -- the tables meet in a variable that is not shared
  abbrev pub TablesMeet : Table → Table → ℕ → Type 0
  TablesMeet a b n = (x : ℕ) × (shared_in x ≡ false) × Meet (touched_at a x) (touched_at b x) n

  -- entries meet a table
  abbrev EntriesMeet : Table → Table → ℕ → Type 0
  EntriesMeet es t n = (e : ℕ × Touched) × In e es × (shared_in e.0 ≡ false) × Meet (touched_at t e.0) e.1 n

  -- what another entry notes does not change what the table has of a variable
  meets_behind : (d e : ℕ × Touched) (es t : Table) (n : ℕ) → Distinct (d ∷ es) → In e es
      → touched_at (with_touched t d.0 d.1) e.0 ≡ touched_at t e.0
  meets_behind d e es t n h i =
      touched_noted t d.0 d.1 e.0 ∙ ap (λ b. cond b (together (touched_at t d.0) d.1) (touched_at t e.0)) (h.0 e i)

  module _ (n : ℕ) where
    abbrev After : Table → Option ℕ → ℕ × Touched → Bool → Type 0
    After t l e shared = Reaches (cond shared l (lesser l (clash (touched_at t e.0) e.1))) n

    least_keeps : (es t : Table) (l : Option ℕ) → Reaches l n → Reaches (least_with variables es t l) n
    least_keeps [] t l h = h
    least_keeps (e ∷ es) t l h = least_keeps es (with_touched t e.0 e.1) (least_after variables t l e) (go (shared_in e.0))
      where
        go : (shared : Bool) → After t l e shared
        go true = h
        go false = lesser_left l (clash (touched_at t e.0) e.1) n h

    least_finds : (es t : Table) (l : Option ℕ) → Distinct es → EntriesMeet es t n → Reaches (least_with variables es t l) n
    least_finds [] t l d h = absurd h.1
    least_finds (e ∷ es) t l d (f, inl is, clear, m) =
        least_keeps es (with_touched t e.0 e.1) (least_after variables t l e)
        (subst (λ (z : ℕ × Touched). Reaches (least_after variables t l z) n) is
        (subst (λ b. After t l f b) (sym clear)
        (lesser_right l (clash (touched_at t f.0) f.1) n (clash_finds (touched_at t f.0) f.1 n m))))
    least_finds (e ∷ es) t l d (f, inr i, clear, m) =
        least_finds es (with_touched t e.0 e.1) (least_after variables t l e) d.1
        (f, i, clear, subst (λ (z : Touched). Meet z f.1 n) (sym (meets_behind e f es t n d i)) m)

    least_from : (es t : Table) (l : Option ℕ) → Distinct es → Reaches (least_with variables es t l) n → Reaches l n ⊎ EntriesMeet es t n
    least_from [] t l d h = inl h
    least_from (e ∷ es) t l d h =
        ⊎_elim
        (λ k. go (shared_in e.0) refl k)
        (λ k. inr (k.0, inr k.1, k.2, subst (λ (z : Touched). Meet z k.0.1 n) (meets_behind e k.0 es t n d k.1) k.3))
        (least_from es (with_touched t e.0 e.1) (least_after variables t l e) d.1 h)
      where
        go : (shared : Bool) → shared_in e.0 ≡ shared → After t l e shared → Reaches l n ⊎ EntriesMeet (e ∷ es) t n
        go true is k = inl k
        go false is k =
            ⊎_elim
            (λ m. inl m)
            (λ m. inr (e, inl refl, is, clash_from (touched_at t e.0) e.1 n m))
            (lesser_either l (clash (touched_at t e.0) e.1) n k)

    -- entries meet a table where their table does
    entries_meet : (es t : Table) → Distinct es → TablesMeet t es n → EntriesMeet es t n
    entries_meet es t d (x, clear, inl k) = ((x, touched_at es x), entry_in es x k.1 k.2 k.5, clear, inl k)
    entries_meet es t d (x, clear, inr k) = ((x, touched_at es x), entry_in es x k.0 n k.4, clear, inr k)

    tables_meet : (es t : Table) → Distinct es → EntriesMeet es t n → TablesMeet t es n
    tables_meet es t d (e, i, clear, m) = (e.0, clear, subst (λ (z : Touched). Meet (touched_at t e.0) z n) (sym (touched_entry es e d i)) m)

  -- the tables of a branch and of those before it
  module _ (g : Gathered) (earlier : Table) (n : ℕ) where
    abbrev LeastBy : Bool → Type 0
    LeastBy less = Reaches (least_with variables (cond less g.touched earlier) (cond less earlier g.touched) g.least) n

    swapped : TablesMeet g.touched earlier n → TablesMeet earlier g.touched n
    swapped (x, clear, inl k) = (x, clear, inr k)
    swapped (x, clear, inr k) = (x, clear, inl k)

    back : TablesMeet earlier g.touched n → TablesMeet g.touched earlier n
    back (x, clear, inl k) = (x, clear, inr k)
    back (x, clear, inr k) = (x, clear, inl k)

    pub joined_keeps : Reaches g.least n → Reaches (joined variables earlier g).least n
    joined_keeps h = go (nat_lt (length g.touched) (length earlier))
      where
        go : (less : Bool) → LeastBy less
        go true = least_keeps n g.touched earlier g.least h
        go false = least_keeps n earlier g.touched g.least h

    pub joined_finds : Distinct g.touched → Distinct earlier → TablesMeet g.touched earlier n → Reaches (joined variables earlier g).least n
    joined_finds d e h = go (nat_lt (length g.touched) (length earlier))
      where
        go : (less : Bool) → LeastBy less
        go true = least_finds n g.touched earlier g.least d (entries_meet n g.touched earlier d (swapped h))
        go false = least_finds n earlier g.touched g.least e (entries_meet n earlier g.touched e h)

    pub joined_from : Distinct g.touched → Distinct earlier → Reaches (joined variables earlier g).least n → Reaches g.least n ⊎ TablesMeet g.touched earlier n
    joined_from d e = go (nat_lt (length g.touched) (length earlier))
      where
        go : (less : Bool) → LeastBy less → Reaches g.least n ⊎ TablesMeet g.touched earlier n
        go true h = ⊎_elim (λ k. inl k) (λ k. inr (back (tables_meet n g.touched earlier d k))) (least_from n g.touched earlier g.least d h)
        go false h = ⊎_elim (λ k. inl k) (λ k. inr (tables_meet n earlier g.touched e k)) (least_from n earlier g.touched g.least e h)
