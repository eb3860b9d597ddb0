-- Who gives on each channel, gathered branch by branch.
use Rattle.std.proofs.Common.{◌≡◌, ◌⊎◌, inl, inr, ℕ, zero, suc, ◌+◌, ◌<◌, ◌≤◌, List, [], ◌∷◌, length, drop, get_or, Some, slice_get, sym, ◌∙◌, subst, arith}
use Rattle.std.specs.Prelude.{slice_set}
use Rattle.std.proofs.lemmas.Bool.{cases_lt}
use Rattle.std.proofs.lemmas.List.{drop_all, drop_more}
use Rattle.syntax.specs.Lists.{In}
use Rattle.idle_branches.specs.declared.givers.Giver.{Giver}
use Rattle.idle_branches.specs.internal.Known.{GivesOn, KnowsGivers, MayBe, list_at}

-- ---- one channel
-- another giver is put at one
pub set-kept : (givers : List Giver) (c j k : ℕ) (g : Giver) → (MayBe (slice_get givers c) k → MayBe (Some g) k)
    → MayBe (slice_get givers j) k → MayBe (slice_get (slice_set givers c g) j) k
set-kept [] c j k g keeps h = h
set-kept (x ∷ xs) zero zero k g keeps h = keeps h
set-kept (x ∷ xs) zero (suc j) k g keeps h = h
set-kept (x ∷ xs) (suc c) zero k g keeps h = h
set-kept (x ∷ xs) (suc c) (suc j) k g keeps h = set-kept xs c j k g keeps h

pub set-own : (givers : List Giver) (c k : ℕ) (g : Giver) → MayBe (Some g) k → MayBe (slice_get (slice_set givers c g) c) k
set-own [] c k g h = tt
set-own (x ∷ xs) zero k g h = h
set-own (x ∷ xs) (suc c) k g h = set-own xs c k g h

-- of others nothing is known
pub past-own : (givers : List Giver) (c k : ℕ) → length givers ≤ c → MayBe (slice_get givers c) k
past-own [] c k past = tt
past-own (x ∷ xs) zero k past = absurd (omega (arith, past))
past-own (x ∷ xs) (suc c) k past = past-own xs c k (omega (arith, past))

-- ---- the channels of a branch
-- whoever may give, still may; and of the channels those are left that are still to be looked at
pub record Given (channels rest : List ℕ) (branch : ℕ) (before after : List Giver) : Type 0 where
  pub others : (c k : ℕ) → MayBe (slice_get before c) k → MayBe (slice_get after c) k
  pub own : (c : ℕ) → In c channels → In c rest ⊎ MayBe (slice_get after c) branch

pub given-begins : (channels : List ℕ) (branch : ℕ) (givers : List Giver) → Given channels (drop 0 channels) branch givers givers
given-begins channels branch givers = record { others = λ c k h. h; own = λ c among. inl among }

pub given-more : (channels : List ℕ) (i x branch : ℕ) (before between after : List Giver) → i < length channels → x ≡ get_or channels i 0
    → Given channels (drop i channels) branch before between → MayBe (slice_get after x) branch
    → ((c k : ℕ) → MayBe (slice_get between c) k → MayBe (slice_get after c) k)
    → Given channels (drop (i + 1) channels) branch before after
given-more channels i x branch before between after less is given here kept = record {
  others = λ c k h. kept c k (given.others c k h);
  own = λ c among. elim (given.own c among) [
    | inl left ↦ elim (subst (λ (ys : List ℕ). In c ys) (drop_more channels i 0 less) left) [
      | inl same ↦ inr (subst (λ (d : ℕ). MayBe (slice_get after d) branch) (is ∙ sym same) here)
      | inr more ↦ inl more
    ]
    | inr done ↦ inr (kept c branch done)
  ];
}

pub given-ends : (channels : List ℕ) (i branch : ℕ) (before after : List Giver) → length channels ≤ i
    → Given channels (drop i channels) branch before after → (c : ℕ) → In c channels → MayBe (slice_get after c) branch
given-ends channels i branch before after past given c among = elim (given.own c among) [
  | inl left ↦ absurd (subst (λ (ys : List ℕ). In c ys) (drop_all i channels past) left)
  | inr done ↦ done
]

-- ---- all branches
-- what is known of the first so many branches
abbrev pub KnowsFirst : ℕ → List Giver → List (List ℕ) → Type 0
KnowsFirst n givers giving = (k c : ℕ) → k < n → GivesOn giving k c → MayBe (slice_get givers c) k

pub first-none : (givers : List Giver) (giving : List (List ℕ)) → KnowsFirst 0 givers giving
first-none givers giving k c less gives = absurd (omega (arith, less))

list-of : (giving : List (List ℕ)) (n : ℕ) (list : List ℕ) → n < length giving → list ≡ get_or giving n list → list_at giving n ≡ list
list-of [] n list less is = absurd (omega (arith, less))
list-of (x ∷ xs) zero list less is = sym is
list-of (x ∷ xs) (suc n) list less is = list-of xs n list (omega (arith, less)) is

pub first-more : (giving : List (List ℕ)) (n branch : ℕ) (list : List ℕ) (before after : List Giver) → n < length giving
    → list ≡ get_or giving n list → branch ≡ n → KnowsFirst n before giving
    → ((c : ℕ) → In c list → MayBe (slice_get after c) branch)
    → ((c k : ℕ) → MayBe (slice_get before c) k → MayBe (slice_get after c) k)
    → KnowsFirst (n + 1) after giving
first-more giving n branch list before after less is number knows own others k c low gives = elim (cases_lt k n) [
  | inl first ↦ others c k (knows k c first gives)
  | inr not ↦
      let same : n ≡ k = omega arith in
      let at : In c (list_at giving n) = subst (λ (m : ℕ). In c (list_at giving m)) (sym same) gives in
      let mine : MayBe (slice_get after c) branch = own c (subst (λ (ys : List ℕ). In c ys) (list-of giving n list less is) at) in
      let to : branch ≡ k = omega (arith, number, same) in
      subst (λ (m : ℕ). MayBe (slice_get after c) m) to mine
]

none-past : (giving : List (List ℕ)) (k c : ℕ) → length giving ≤ k → GivesOn giving k c → ⊥
none-past [] k c past gives = absurd gives
none-past (x ∷ xs) zero c past gives = absurd (omega (arith, past))
none-past (x ∷ xs) (suc k) c past gives = none-past xs k c (omega (arith, past)) gives

pub first-all : (giving : List (List ℕ)) (n : ℕ) (givers : List Giver) → length giving ≤ n → KnowsFirst n givers giving → KnowsGivers givers giving
first-all giving n givers past knows k c gives = elim (cases_lt k n) [
  | inl first ↦ knows k c first gives
  | inr not ↦ absurd (none-past giving k c (omega (arith, past, not)) gives)
]
