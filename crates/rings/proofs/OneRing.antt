-- A search finds one ring.
use Rattle.std.proofs.Common.{◌≡◌, inl, inr, ℕ, ◌≤◌, List, [], ◌∷◌, ◌++◌, drop, refl, sym, ◌∙◌, ap, subst, arith}
use Rattle.std.proofs.lemmas.Bool.{cases_lt}
use Rattle.syntax.specs.Lists.{In}
use Rattle.rings.specs.FirstRing.{Between, IsFirstOpen, IsLastOpen, IsPartFrom, Finds, begins, ends, goes_on, goes_back, comes_back}
use Rattle.rings.proofs.FirstFound.{number-in}

-- ---- the last of a way
no-last : (rest : List ℕ) (i : ℕ) → [] ≡ rest ++ i ∷ [] → ⊥
no-last [] i h = cc
no-last (x ∷ rest) i h = cc

one-last : (rest more : List ℕ) (i k : ℕ) → rest ++ i ∷ [] ≡ more ++ k ∷ [] → i ≡ k
one-last [] [] i k h = cc
one-last [] (y ∷ more) i k h = absurd (no-last more k (let e : [] ≡ more ++ k ∷ [] = cc in e))
one-last (x ∷ rest) [] i k h = absurd (no-last rest i (let e : rest ++ i ∷ [] ≡ [] = cc in sym e))
one-last (x ∷ rest) (y ∷ more) i k h = one-last rest more i k (let e : rest ++ i ∷ [] ≡ more ++ k ∷ [] = cc in e)

one-rest : (rest more : List ℕ) (i k : ℕ) → rest ++ i ∷ [] ≡ more ++ k ∷ [] → rest ≡ more
one-rest [] [] i k h = refl
one-rest [] (y ∷ more) i k h = absurd (no-last more k (let e : [] ≡ more ++ k ∷ [] = cc in e))
one-rest (x ∷ rest) [] i k h = absurd (no-last rest i (let e : rest ++ i ∷ [] ≡ [] = cc in sym e))
one-rest (x ∷ rest) (y ∷ more) i k h =
    let same : x ≡ y = cc in
    let e : rest ++ i ∷ [] ≡ more ++ k ∷ [] = cc in
    ap (λ (z : ℕ). z ∷ rest) same ∙ ap (λ (zs : List ℕ). y ∷ zs) (one-rest rest more i k e)

-- ---- each step is one
module _ (n : ℕ) (W A : Between) where
  one-begin : (done : List ℕ) (i k : ℕ) → IsFirstOpen n done i → IsFirstOpen n done k → i ≡ k
  one-begin done i k one other = elim (cases_lt i k) [
    | inl less ↦ absurd (one.undone (other.first i less))
    | inr more ↦ elim (cases_lt k i) [
      | inl less ↦ absurd (other.undone (one.first k less))
      | inr same ↦ omega (arith, more, same)
    ]
  ]

  one-next : (done : List ℕ) (i j k : ℕ) → IsLastOpen W done i j → IsLastOpen W done i k → j ≡ k
  one-next done i j k one other =
      let up : j ≤ k = other.last j one.waits one.undone in
      let down : k ≤ j = one.last k other.waits other.undone in
      omega (arith, up, down)

  one-part : (way : List ℕ) (j : ℕ) (part other : List ℕ) → IsPartFrom A way j part → IsPartFrom A way j other → part ≡ other
  one-part way j part other f g = elim (cases_lt f.index g.index) [
    | inl less ↦ absurd (g.first f.index f.met less f.at f.there)
    | inr more ↦ elim (cases_lt g.index f.index) [
      | inl less ↦ absurd (f.first g.index g.met less g.at g.there)
      | inr same ↦ f.is ∙ ap (λ (i : ℕ). drop i way) (omega (arith, more, same)) ∙ sym g.is
    ]
  ]

  -- it goes on from the last of a way, however that is told
  next-too : (done way rest more : List ℕ) (i k j : ℕ) → way ≡ rest ++ i ∷ [] → way ≡ more ++ k ∷ [] → IsLastOpen W done k j → IsLastOpen W done i j
  next-too done way rest more i k j here there = subst (λ (t : ℕ). IsLastOpen W done t j) (one-last more rest k i (sym there ∙ here))

  none-too : (done way rest more : List ℕ) (i k : ℕ) → way ≡ rest ++ i ∷ [] → way ≡ more ++ k ∷ [] → ((j : ℕ) → W k j → In j done) → (j : ℕ) → W i j → In j done
  none-too done way rest more i k here there = subst (λ (t : ℕ). (j : ℕ) → W t j → In j done) (one-last more rest k i (sym there ∙ here))

  pub one-ring : (done way ring other : List ℕ) → Finds n W A done way ring → Finds n W A done way other → ring ≡ other
  one-ring done way ring other (begins d i r first f) (begins e k q first2 g) =
      one-ring done (i ∷ []) ring other f (subst (λ (t : ℕ). Finds n W A done (t ∷ []) other) (one-begin done k i first2 first) g)
  one-ring done way ring other (begins d i r first f) (ends e all) = absurd (first.undone (all i first.within))
  one-ring done way ring other (begins d i r first f) (goes_on e w more k j q is next off g) = absurd (no-last more k is)
  one-ring done way ring other (begins d i r first f) (goes_back e w more k q is none g) = absurd (no-last more k is)
  one-ring done way ring other (begins d i r first f) (comes_back e w more k j q is next from) = absurd (no-last more k is)
  one-ring done way ring other (ends d all) (begins e k q first2 g) = absurd (first2.undone (all k first2.within))
  one-ring done way ring other (ends d all) (ends e all2) = refl
  one-ring done way ring other (ends d all) (goes_on e w more k j q is next off g) = absurd (no-last more k is)
  one-ring done way ring other (ends d all) (goes_back e w more k q is none g) = absurd (no-last more k is)
  one-ring done way ring other (ends d all) (comes_back e w more k j q is next from) = absurd (no-last more k is)
  one-ring done way ring other (goes_on d v rest i j r at next off f) (begins e k q first2 g) = absurd (no-last rest i at)
  one-ring done way ring other (goes_on d v rest i j r at next off f) (ends e all2) = absurd (no-last rest i at)
  one-ring done way ring other (goes_on d v rest i j r at next off f) (goes_on e w more k m q is next2 off2 g) =
      one-ring done (way ++ j ∷ []) ring other f
      (subst (λ (t : ℕ). Finds n W A done (way ++ t ∷ []) other) (one-next done i m j (next-too done way rest more i k m at is next2) next) g)
  one-ring done way ring other (goes_on d v rest i j r at next off f) (goes_back e w more k q is none g) =
      absurd (next.undone (none-too done way rest more i k at is none j next.waits))
  one-ring done way ring other (goes_on d v rest i j r at next off f) (comes_back e w more k m q is next2 from) =
      absurd (off from.met (number-in way from.index from.met from.at)
      (subst (λ (t : ℕ). A from.met t) (one-next done i m j (next-too done way rest more i k m at is next2) next) from.there))
  one-ring done way ring other (goes_back d v rest i r at none f) (begins e k q first2 g) = absurd (no-last rest i at)
  one-ring done way ring other (goes_back d v rest i r at none f) (ends e all2) = absurd (no-last rest i at)
  one-ring done way ring other (goes_back d v rest i r at none f) (goes_on e w more k m q is next2 off2 g) =
      absurd (next2.undone (none-too done way more rest k i is at none m next2.waits))
  one-ring done way ring other (goes_back d v rest i r at none f) (goes_back e w more k q is none2 g) =
      one-ring (i ∷ done) rest ring other f
      (subst (λ (t : ℕ). Finds n W A (t ∷ done) rest other) (one-last more rest k i (sym is ∙ at))
      (subst (λ (z : List ℕ). Finds n W A (k ∷ done) z other) (one-rest more rest k i (sym is ∙ at)) g))
  one-ring done way ring other (goes_back d v rest i r at none f) (comes_back e w more k m q is next2 from) =
      absurd (next2.undone (none-too done way more rest k i is at none m next2.waits))
  one-ring done way ring other (comes_back d v rest i j r at next from) (begins e k q first2 g) = absurd (no-last rest i at)
  one-ring done way ring other (comes_back d v rest i j r at next from) (ends e all2) = absurd (no-last rest i at)
  one-ring done way ring other (comes_back d v rest i j r at next from) (goes_on e w more k m q is next2 off g) =
      absurd (off from.met (number-in way from.index from.met from.at)
      (subst (λ (t : ℕ). A from.met t) (one-next done k j m (next-too done way more rest k i j is at next) next2) from.there))
  one-ring done way ring other (comes_back d v rest i j r at next from) (goes_back e w more k q is none g) =
      absurd (next.undone (none-too done way rest more i k at is none j next.waits))
  one-ring done way ring other (comes_back d v rest i j r at next from) (comes_back e w more k m q is next2 from2) =
      one-part way j ring other from (subst (λ (t : ℕ). IsPartFrom A way t other) (one-next done i m j (next-too done way rest more i k m at is next2) next) from2)
