-- What a parallel adds: the clashes in its branches, and those between them.
use Rattle.std.proofs.Common.{◌≡◌, ◌≢◌, ◌⊎◌, inl, inr, ⊎_elim, ℕ, suc, ◌≤◌, ◌<◌, List, [], ◌∷◌, ◌++◌, Bool, true, false, Option, refl, sym, ap, ◌∙◌, subst, append_assoc, arith, le_refl}
use Rattle.std.proofs.lemmas.List.{append-nil}
use Rattle.address.specs.declared.Entry.{Entry}
use Rattle.address.specs.declared.Entry.TheVariants.{Branch}
use Rattle.address.specs.Places.{Apart}
use Rattle.syntax.specs.Lists.{In}
use Rattle.system.specs.declared.system.Variable.{Variable}
use Rattle.sharing_check.specs.internal.Crossing.{Table}
use Rattle.sharing_check.specs.internal.Gathering.{Gathered, gathered, put_back, beside, all_beside, side_by_side}
use Rattle.sharing_check.specs.Uses.{VariableUse, behind, numbered}
use Rattle.sharing_check.proofs.Adds.{ClashIn, UsedAt, Touches, Adds, Good, adds_behind, adds_nothing, used_left, used_right, used_either, clash_left, clash_right}
use Rattle.sharing_check.proofs.AddsLists.{Part, gathers_of, uses_of_parts}
use Rattle.sharing_check.proofs.FitsParts.{in_left, in_right, in_either, from_behind}
use Rattle.sharing_check.proofs.TableClashes.{shared_in, TablesMeet, joined_keeps, joined_finds, joined_from}
use Rattle.sharing_check.proofs.TouchTables.{Distinct, distinct_one, Has, has_none, one_left, one_right, one_either}

-- the uses stand in branches before the n-th
abbrev Before : ℕ → List VariableUse → Type 0
Before n us = (u : VariableUse) → In u us → (m : ℕ) × (p : List Entry) × (m < n) × (u.place ≡ Branch m ∷ p)

-- each use of one list stands in another branch than each of the other
abbrev Beside : List VariableUse → List VariableUse → Type 0
Beside us vs = (u v : VariableUse) → In u us → In v vs → Apart u.place v.place × Apart v.place u.place

before_all : (n : ℕ) (us vs : List VariableUse) → Before n us → Before (suc n) (us ++ behind (Branch n) vs)
before_all n us vs before u i =
    ⊎_elim
    (λ k. let b = before u k in (b.0, b.1, later b.0 b.2, b.3))
    (λ k. let w = from_behind (Branch n) u vs k in (n, w.0.place, last n, ap (λ (z : VariableUse). z.place) w.2))
    (in_either u us (behind (Branch n) vs) i)
  where
    later : (m : ℕ) → m < n → m < suc n
    later m h = omega arith

    last : (n : ℕ) → n < suc n
    last n = omega arith

before_beside : (n : ℕ) (us vs : List VariableUse) → Before n us → Beside us (behind (Branch n) vs)
before_beside n us vs before u v i j =
    let b = before u i in
    let w = from_behind (Branch n) v vs j in
    let at : v.place ≡ Branch n ∷ w.0.place = ap (λ (z : VariableUse). z.place) w.2 in (
      apart u.place v.place b.0 n b.1 w.0.place (less b.0 b.2) b.3 at,
      apart v.place u.place n b.0 w.0.place b.1 (more b.0 b.2) at b.3,
    )
  where
    less : (m : ℕ) → m < n → m ≢ n
    less m h = λ e. absurd (omega arith)

    more : (m : ℕ) → m < n → n ≢ m
    more m h = λ e. absurd (omega arith)

    apart : (a b : List Entry) (i j : ℕ) (p q : List Entry) → i ≢ j → a ≡ Branch i ∷ p → b ≡ Branch j ∷ q → Apart a b
    apart a b i j p q differ e f = subst (λ z. Apart z b) (sym e) (subst (λ z. Apart (Branch i ∷ p) z) (sym f) (inl differ))

swapped : {A B : Type 0} → A ⊎ B → B ⊎ A
swapped (inl a) = inr a
swapped (inr b) = inl b

module _ (shared : ℕ → Bool) where
  -- a use of each list, one of which writes, and one of which is at this offset
  abbrev Crossing : List VariableUse → List VariableUse → ℕ → Type 0
  Crossing us vs o =
      (u v : VariableUse) × In u us × In v vs × (u.variable ≡ v.variable) × (shared u.variable ≡ false)
      × ((u.writes ≡ true) ⊎ (v.writes ≡ true)) × ((o ≡ u.offset) ⊎ (o ≡ v.offset))

  -- a clash in both lists is one in either, or crosses
  clash_parts : (us vs : List VariableUse) (o : ℕ) → ClashIn shared (us ++ vs) o → ClashIn shared us o ⊎ (ClashIn shared vs o ⊎ Crossing us vs o)
  clash_parts us vs o k = go (in_either k.0 us vs k.2) (in_either k.1 us vs k.3)
    where
      go : In k.0 us ⊎ In k.0 vs → In k.1 us ⊎ In k.1 vs → ClashIn shared us o ⊎ (ClashIn shared vs o ⊎ Crossing us vs o)
      go (inl i) (inl j) = inl (k.0, k.1, i, j, k.4, k.5)
      go (inr i) (inr j) = inr (inl (k.0, k.1, i, j, k.4, k.5))
      go (inl i) (inr j) = inr (inr (k.0, k.1, i, j, k.4.same, k.4.not_shared, k.4.one_writes, inl k.5))
      go (inr i) (inl j) =
          inr (inr (k.1, k.0, j, i, sym k.4.same, subst (λ x. shared x ≡ false) k.4.same k.4.not_shared, swapped k.4.one_writes, inr k.5))

  -- what crosses is a clash, where the lists stand beside one another
  crossing_clash : (us vs : List VariableUse) (o : ℕ) → Beside us vs → Crossing us vs o → ClashIn shared (us ++ vs) o
  crossing_clash us vs o apart (u, v, i, j, same, clear, one, inl e) =
      (u, v, in_left u us vs i, in_right v us vs j, record { apart = (apart u v i j).0; same = same; not_shared = clear; one_writes = one }, e)
  crossing_clash us vs o apart (u, v, i, j, same, clear, one, inr e) = (
    v,
    u,
    in_right v us vs j,
    in_left u us vs i,
    record { apart = (apart u v i j).1; same = sym same; not_shared = subst (λ x. shared x ≡ false) same clear; one_writes = swapped one },
    e,
  )

module _ (variables : List Variable) where
  abbrev shared : ℕ → Bool
  shared = shared_in variables

  -- what crosses is where the tables meet
  crossing_meets : (us vs : List VariableUse) (t s : Table) (o n : ℕ) → Touches us [] t → Touches vs [] s → Crossing shared us vs o → o ≤ n
      → TablesMeet variables s t n
  crossing_meets us vs t s o n a b (u, v, i, j, same, clear, one, inl e) h = (
    u.variable,
    clear,
    inr (
      u.writes,
      v.writes,
      v.offset,
      one,
      a.finds u.variable u.writes n (u, i, refl, refl, subst (λ z. z ≤ n) e h),
      b.finds u.variable v.writes v.offset (v, j, same, refl, le_refl v.offset),
    ),
  )
  crossing_meets us vs t s o n a b (u, v, i, j, same, clear, one, inr e) h = (
    u.variable,
    clear,
    inl (
      v.writes,
      u.writes,
      u.offset,
      swapped one,
      b.finds u.variable v.writes n (v, j, same, refl, subst (λ z. z ≤ n) e h),
      a.finds u.variable u.writes u.offset (u, i, refl, refl, le_refl u.offset),
    ),
  )

  used_by : (us : List VariableUse) (t : Table) (x : ℕ) (w : Bool) (n : ℕ) → Touches us [] t → Has t x w n → UsedAt us x w n
  used_by us t x w n a h = ⊎_elim (λ k. absurd (has_none x w n k)) (λ k. k) (a.from x w n h)

  -- and where the tables meet uses cross
  meets_crossing : (us vs : List VariableUse) (t s : Table) (n : ℕ) → Touches us [] t → Touches vs [] s → TablesMeet variables s t n
      → (o : ℕ) × Crossing shared us vs o × (o ≤ n)
  meets_crossing us vs t s n a b (x, clear, inl k) =
      let v = used_by vs s x k.0 n b k.4 in
      let u = used_by us t x k.1 k.2 a k.5 in (
        v.0.offset,
        (
          u.0,
          v.0,
          u.1,
          v.1,
          sym u.2 ∙ v.2,
          subst (λ z. shared z ≡ false) u.2 clear,
          ⊎_elim (λ e. inr (v.3 ∙ e)) (λ e. inl (u.3 ∙ e)) k.3,
          inr refl,
        ),
        v.4,
      )
  meets_crossing us vs t s n a b (x, clear, inr k) =
      let u = used_by us t x k.0 n a k.4 in
      let v = used_by vs s x k.1 k.2 b k.5 in (
        u.0.offset,
        (
          u.0,
          v.0,
          u.1,
          v.1,
          sym u.2 ∙ v.2,
          subst (λ z. shared z ≡ false) u.2 clear,
          ⊎_elim (λ e. inl (u.3 ∙ e)) (λ e. inr (v.3 ∙ e)) k.3,
          inl refl,
        ),
        u.4,
      )

  module _ (least : Option ℕ) where
    -- nothing is touched at first
    abbrev bare : Gathered
    bare = gathered [] least

    -- a branch behind those before it
    adds_branch : (n : ℕ) (us : List VariableUse) (g : Gathered) (p : Part shared) → Before n us → Adds shared us bare g →
        Adds shared (us ++ behind (Branch n) p.uses) bare (beside variables p.gathers g)
    adds_branch n us g p before a = record {
      touched = record {
        distinct = distinct_one h.touched g.touched b.touched.distinct a.touched.distinct;
        keeps = λ x w m k. absurd (has_none x w m k);
        finds = λ x w m k. ⊎_elim
            (λ c. one_right h.touched g.touched x w m (a.touched.finds x w m c))
            (λ c. one_left h.touched g.touched x w m (b.touched.finds x w m c))
            (used_either us vs x w m k);
        from = λ x w m k. ⊎_elim
            (λ c. inr (used_right us vs x w m (used_by vs h.touched x w m b.touched c)))
            (λ c. inr (used_left us vs x w m (used_by us g.touched x w m a.touched c)))
            (one_either h.touched g.touched x w m b.touched.distinct a.touched.distinct k);
      };
      keeps = λ m k. joined_keeps variables h g.touched m (b.keeps m (a.keeps m k));
      finds = λ o k. ⊎_elim
          (λ c. joined_keeps variables h g.touched o (b.keeps o (a.finds o c)))
          (⊎_elim
          (λ c. joined_keeps variables h g.touched o (b.finds o c))
          (λ c. joined_finds variables h g.touched o b.touched.distinct a.touched.distinct (crossing_meets us vs g.touched h.touched o o a.touched b.touched c (le_refl o))))
          (clash_parts shared us vs o k);
      sound = λ m k. ⊎_elim
          (λ c. ⊎_elim
          (λ d. ⊎_elim (λ e. inl e) (λ e. inr (e.0, clash_left shared us vs e.0 e.1, e.2)) (a.sound m d))
          (λ d. inr (d.0, clash_right shared us vs d.0 d.1, d.2))
          (b.sound m c))
          (λ c. let d = meets_crossing us vs g.touched h.touched m a.touched b.touched c in
          inr (d.0, crossing_clash shared us vs d.0 (before_beside n us p.uses before) d.1, d.2))
          (joined_from variables h g.touched m b.touched.distinct a.touched.distinct k);
    }
      where
        vs : List VariableUse
        vs = behind (Branch n) p.uses

        h : Gathered
        h = p.gathers (gathered [] g.least)

        b : Adds shared vs (gathered [] g.least) h
        b = adds_behind shared (Branch n) p.uses (gathered [] g.least) h (p.good (gathered [] g.least) tt)

    -- the branches from the n-th on
    adds_branches : (n : ℕ) (us : List VariableUse) (g : Gathered) (ps : List (Part shared)) → Before n us → Adds shared us bare g →
        Adds shared (us ++ numbered Branch n (uses_of_parts shared ps)) bare (all_beside variables (gathers_of shared ps) g)
    adds_branches n us g [] before a = subst (λ z. Adds shared z bare g) (sym (append-nil us)) a
    adds_branches n us g (p ∷ ps) before a =
        let vs = behind (Branch n) p.uses in
        let rest = numbered Branch (suc n) (uses_of_parts shared ps) in
        subst (λ z. Adds shared z bare (all_beside variables (gathers_of shared ps) (beside variables p.gathers g))) (append_assoc us vs rest)
        (adds_branches (suc n) (us ++ vs) (beside variables p.gathers g) ps (before_all n us p.uses before) (adds_branch n us g p before a))

  -- with what was touched before
  adds_put_back : (us : List VariableUse) (g h : Gathered) → Distinct g.touched → Adds shared us (gathered [] g.least) h → Adds shared us g (put_back g.touched h)
  adds_put_back us g h d a = record {
    touched = record {
      distinct = distinct_one h.touched g.touched a.touched.distinct d;
      keeps = λ x w n k. one_right h.touched g.touched x w n k;
      finds = λ x w n k. one_left h.touched g.touched x w n (a.touched.finds x w n k);
      from = λ x w n k. ⊎_elim
          (λ c. inr (used_by us h.touched x w n a.touched c))
          (λ c. inl c)
          (one_either h.touched g.touched x w n a.touched.distinct d k);
    };
    keeps = λ n k. a.keeps n k;
    finds = λ o k. a.finds o k;
    sound = λ n k. a.sound n k;
  }

  -- the branches of a parallel
  pub adds_parallel : (ps : List (Part shared)) → Good shared (numbered Branch 0 (uses_of_parts shared ps)) (side_by_side variables (gathers_of shared ps))
  adds_parallel ps g d =
      adds_put_back (numbered Branch 0 (uses_of_parts shared ps)) g (all_beside variables (gathers_of shared ps) (gathered [] g.least)) d
      (adds_branches g.least 0 [] (gathered [] g.least) ps (λ u i. absurd i) (adds_nothing shared (gathered [] g.least) tt))
