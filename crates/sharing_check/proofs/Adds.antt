-- What a part adds to what is found: where its uses touch variables, and the least of the offsets at which they clash.
use Rattle.std.proofs.Common.{◌≡◌, ◌⊎◌, inl, inr, ⊎_elim, ℕ, ◌≤◌, List, [], ◌∷◌, ◌++◌, Bool, true, false, refl, sym, ap, ◌∙◌, subst}
use Rattle.address.specs.declared.Entry.{Entry}
use Rattle.address.specs.declared.Entry.TheVariants.{Ordered, Branch}
use Rattle.address.specs.Places.{Apart}
use Rattle.syntax.specs.Lists.{In}
use Rattle.sharing_check.specs.internal.Crossing.{Table, touched_here, with_touched}
use Rattle.sharing_check.specs.internal.Gathering.{Gathered, gathered, Gathers}
use Rattle.sharing_check.specs.Uses.{VariableUse, farther, behind}
use Rattle.sharing_check.proofs.FitsParts.{in_left, in_right, in_either, in_behind, from_behind, apart_behind}
use Rattle.sharing_check.proofs.LeastOffsets.{Reaches}
use Rattle.sharing_check.proofs.TouchTables.{Distinct, distinct_noted, side, Has, noted_keeps, noted_finds, noted_from}

-- two uses in two branches of a parallel, one of which writes
pub record Pair (shared : ℕ → Bool) (u v : VariableUse) : Type 0 where
  pub apart : Apart u.place v.place
  pub same : u.variable ≡ v.variable
  pub not_shared : shared u.variable ≡ false
  pub one_writes : (u.writes ≡ true) ⊎ (v.writes ≡ true)

-- a use at this offset is one of two
abbrev pub ClashIn : (ℕ → Bool) → List VariableUse → ℕ → Type 0
ClashIn shared us o = (u v : VariableUse) × In u us × In v us × Pair shared u v × (o ≡ u.offset)

-- one of the uses writes the variable x at n or before, or reads it
abbrev pub UsedAt : List VariableUse → ℕ → Bool → ℕ → Type 0
UsedAt us x w n = (u : VariableUse) × In u us × (x ≡ u.variable) × (u.writes ≡ w) × (u.offset ≤ n)

-- s is t with these uses, and has no variable twice
pub record Touches (us : List VariableUse) (t s : Table) : Type 0 where
  pub distinct : Distinct s
  pub keeps : (x : ℕ) (w : Bool) (n : ℕ) → Has t x w n → Has s x w n
  pub finds : (x : ℕ) (w : Bool) (n : ℕ) → UsedAt us x w n → Has s x w n
  pub from : (x : ℕ) (w : Bool) (n : ℕ) → Has s x w n → Has t x w n ⊎ UsedAt us x w n

-- h is g with these uses and their clashes
pub record Adds (shared : ℕ → Bool) (us : List VariableUse) (g h : Gathered) : Type 0 where
  pub touched : Touches us g.touched h.touched
  pub keeps : (n : ℕ) → Reaches g.least n → Reaches h.least n
  pub finds : (o : ℕ) → ClashIn shared us o → Reaches h.least o
  pub sound : (n : ℕ) → Reaches h.least n → Reaches g.least n ⊎ ((o : ℕ) × ClashIn shared us o × (o ≤ n))

-- a part adds these uses and their clashes
abbrev pub Good : (ℕ → Bool) → List VariableUse → Gathers → Type 0
Good shared us f = (g : Gathered) → Distinct g.touched → Adds shared us g (f g)

-- no use in `us` stands in another branch than one in `vs`
abbrev pub Unrelated : List VariableUse → List VariableUse → Type 0
Unrelated us vs = (u v : VariableUse) → In u us → In v vs → (Apart u.place v.place → ⊥) × (Apart v.place u.place → ⊥)

-- an equal result
pub adds_equal : (shared : ℕ → Bool) (us vs : List VariableUse) (g h k : Gathered) → us ≡ vs → h ≡ k → Adds shared vs g k → Adds shared us g h
adds_equal shared us vs g h k e f a = subst (λ z. Adds shared us g z) (sym f) (subst (λ z. Adds shared z g k) (sym e) a)

-- nothing
pub adds_nothing : (shared : ℕ → Bool) (g : Gathered) → Distinct g.touched → Adds shared [] g g
adds_nothing shared g d = record {
  touched = record { distinct = d; keeps = λ x w n h. h; finds = λ x w n u. absurd u.1; from = λ x w n h. inl h };
  keeps = λ n k. k;
  finds = λ o k. absurd k.2;
  sound = λ n k. inl k;
}

-- a use at the place itself
pub adds_use : (shared : ℕ → Bool) (u : VariableUse) (g : Gathered) → u.place ≡ [] → Distinct g.touched →
    Adds shared (u ∷ []) g (gathered (with_touched g.touched u.variable (touched_here u.offset u.writes)) g.least)
adds_use shared u g here d = record {
  touched = record {
    distinct = distinct_noted g.touched u.variable (touched_here u.offset u.writes) d;
    keeps = λ x w n h. noted_keeps g.touched u.variable (touched_here u.offset u.writes) w n x h;
    finds = λ x w n k. ⊎_elim (λ is. found x w n k.0 is k.2 k.3 k.4) (λ i. absurd i) k.1;
    from = λ x w n h. ⊎_elim
        (λ k. inl k)
        (λ k. let s = shown u.writes w u.offset n k.1 in inr (u, inl refl, k.0, s.0, s.1))
        (noted_from g.touched u.variable (touched_here u.offset u.writes) w n x h);
  };
  keeps = λ n k. k;
  finds = λ o k. ⊎_elim (λ is. absurd (alone k.0 k.1 is k.4.apart)) (λ i. absurd i) k.2;
  sound = λ n k. inl k;
}
  where
    reached : (b : Bool) (o n : ℕ) → o ≤ n → Reaches (side b (touched_here o b)) n
    reached true o n h = h
    reached false o n h = h

    shown : (b w : Bool) (o n : ℕ) → Reaches (side w (touched_here o b)) n → (b ≡ w) × (o ≤ n)
    shown true true o n h = (refl, h)
    shown true false o n h = absurd h
    shown false true o n h = absurd h
    shown false false o n h = (refl, h)

    found : (x : ℕ) (w : Bool) (n : ℕ) (v : VariableUse) → v ≡ u → x ≡ v.variable → v.writes ≡ w → v.offset ≤ n
        → Has (with_touched g.touched u.variable (touched_here u.offset u.writes)) x w n
    found x w n v is e f h =
        noted_finds g.touched u.variable (touched_here u.offset u.writes) w n x (e ∙ ap (λ (z : VariableUse). z.variable) is)
        (subst (λ b. Reaches (side b (touched_here u.offset u.writes)) n) (sym (ap (λ (z : VariableUse). z.writes) is) ∙ f)
        (reached u.writes u.offset n (subst (λ (z : VariableUse). z.offset ≤ n) is h)))

    alone : (v z : VariableUse) → v ≡ u → Apart v.place z.place → ⊥
    alone v z is h = absurd (subst (λ (p : List Entry). Apart p z.place) (ap (λ (y : VariableUse). y.place) is ∙ here) h)

pub used_left : (us vs : List VariableUse) (x : ℕ) (w : Bool) (n : ℕ) → UsedAt us x w n → UsedAt (us ++ vs) x w n
used_left us vs x w n k = (k.0, in_left k.0 us vs k.1, k.2, k.3, k.4)

pub used_right : (us vs : List VariableUse) (x : ℕ) (w : Bool) (n : ℕ) → UsedAt vs x w n → UsedAt (us ++ vs) x w n
used_right us vs x w n k = (k.0, in_right k.0 us vs k.1, k.2, k.3, k.4)

pub used_either : (us vs : List VariableUse) (x : ℕ) (w : Bool) (n : ℕ) → UsedAt (us ++ vs) x w n → UsedAt us x w n ⊎ UsedAt vs x w n
used_either us vs x w n k = ⊎_elim (λ i. inl (k.0, i, k.2, k.3, k.4)) (λ i. inr (k.0, i, k.2, k.3, k.4)) (in_either k.0 us vs k.1)

pub clash_left : (shared : ℕ → Bool) (us vs : List VariableUse) (o : ℕ) → ClashIn shared us o → ClashIn shared (us ++ vs) o
clash_left shared us vs o k = (k.0, k.1, in_left k.0 us vs k.2, in_left k.1 us vs k.3, k.4, k.5)

pub clash_right : (shared : ℕ → Bool) (us vs : List VariableUse) (o : ℕ) → ClashIn shared vs o → ClashIn shared (us ++ vs) o
clash_right shared us vs o k = (k.0, k.1, in_right k.0 us vs k.2, in_right k.1 us vs k.3, k.4, k.5)

-- where none of one list stands in another branch than one of the other, a clash is in one of them
clash_either : (shared : ℕ → Bool) (us vs : List VariableUse) (o : ℕ) → Unrelated us vs → ClashIn shared (us ++ vs) o → ClashIn shared us o ⊎ ClashIn shared vs o
clash_either shared us vs o free k = go (in_either k.0 us vs k.2) (in_either k.1 us vs k.3)
  where
    go : In k.0 us ⊎ In k.0 vs → In k.1 us ⊎ In k.1 vs → ClashIn shared us o ⊎ ClashIn shared vs o
    go (inl i) (inl j) = inl (k.0, k.1, i, j, k.4, k.5)
    go (inr i) (inr j) = inr (k.0, k.1, i, j, k.4, k.5)
    go (inl i) (inr j) = absurd ((free k.0 k.1 i j).0 k.4.apart)
    go (inr i) (inl j) = absurd ((free k.1 k.0 j i).1 k.4.apart)

-- one part after another
pub adds_both : (shared : ℕ → Bool) (us vs : List VariableUse) (g h k : Gathered) → Adds shared us g h → Adds shared vs h k → Unrelated us vs →
    Adds shared (us ++ vs) g k
adds_both shared us vs g h k a b free = record {
  touched = record {
    distinct = b.touched.distinct;
    keeps = λ x w n q. b.touched.keeps x w n (a.touched.keeps x w n q);
    finds = λ x w n q. ⊎_elim
        (λ c. b.touched.keeps x w n (a.touched.finds x w n c))
        (λ c. b.touched.finds x w n c)
        (used_either us vs x w n q);
    from = λ x w n q. ⊎_elim
        (λ r. ⊎_elim (λ s. inl s) (λ c. inr (used_left us vs x w n c)) (a.touched.from x w n r))
        (λ c. inr (used_right us vs x w n c))
        (b.touched.from x w n q);
  };
  keeps = λ n q. b.keeps n (a.keeps n q);
  finds = λ o q. ⊎_elim (λ c. b.keeps o (a.finds o c)) (λ c. b.finds o c) (clash_either shared us vs o free q);
  sound = λ n q. ⊎_elim
      (λ r. ⊎_elim (λ s. inl s) (λ c. inr (c.0, clash_left shared us vs c.0 c.1, c.2)) (a.sound n r))
      (λ c. inr (c.0, clash_right shared us vs c.0 c.1, c.2))
      (b.sound n q);
}

-- places behind one entry are apart only if they were so before
apart_within : (e : Entry) (a b : List Entry) → Apart (e ∷ a) (e ∷ b) → Apart a b
apart_within (Ordered i) a b h = h.1
apart_within (Branch i) a b (inl differ) = absurd (differ refl)
apart_within (Branch i) a b (inr h) = h.1

-- behind an entry
pub adds_behind : (shared : ℕ → Bool) (e : Entry) (us : List VariableUse) (g h : Gathered) → Adds shared us g h → Adds shared (behind e us) g h
adds_behind shared e us g h a = record {
  touched = record {
    distinct = a.touched.distinct;
    keeps = λ x w n k. a.touched.keeps x w n k;
    finds = λ x w n k. a.touched.finds x w n (used_before x w n k);
    from = λ x w n k. ⊎_elim
        (λ r. inl r)
        (λ c. inr (farther e c.0, in_behind e c.0 us c.1, c.2, c.3, c.4))
        (a.touched.from x w n k);
  };
  keeps = λ n k. a.keeps n k;
  finds = λ o k. a.finds o (before o k);
  sound = λ n k. ⊎_elim (λ r. inl r) (λ c. inr (c.0, after c.0 c.1, c.2)) (a.sound n k);
}
  where
    used_before : (x : ℕ) (w : Bool) (n : ℕ) → UsedAt (behind e us) x w n → UsedAt us x w n
    used_before x w n k =
        let i = from_behind e k.0 us k.1 in (
          i.0,
          i.1,
          k.2 ∙ ap (λ (u : VariableUse). u.variable) i.2,
          sym (ap (λ (u : VariableUse). u.writes) i.2) ∙ k.3,
          subst (λ (u : VariableUse). u.offset ≤ n) i.2 k.4,
        )

    moved : (u v : VariableUse) → Pair shared (farther e u) (farther e v) → Pair shared u v
    moved u v p = record { apart = apart_within e u.place v.place p.apart; same = p.same; not_shared = p.not_shared; one_writes = p.one_writes }

    before : (o : ℕ) → ClashIn shared (behind e us) o → ClashIn shared us o
    before o k =
        let i = from_behind e k.0 us k.2 in
        let j = from_behind e k.1 us k.3 in
        let p : Pair shared (farther e i.0) (farther e j.0) =
        subst (λ (v : VariableUse). Pair shared (farther e i.0) v) j.2 (subst (λ (u : VariableUse). Pair shared u k.1) i.2 k.4) in
        (i.0, j.0, i.1, j.1, moved i.0 j.0 p, k.5 ∙ ap (λ (u : VariableUse). u.offset) i.2)

    after : (o : ℕ) → ClashIn shared us o → ClashIn shared (behind e us) o
    after o k = (
      farther e k.0,
      farther e k.1,
      in_behind e k.0 us k.2,
      in_behind e k.1 us k.3,
      record { apart = apart_behind e k.0.place k.1.place k.4.apart; same = k.4.same; not_shared = k.4.not_shared; one_writes = k.4.one_writes },
      k.5,
    )
