-- Some live events of which none depends on another, and their tickets, falling.
use Rattle.std.proofs.Common.{◌≡◌, ◌↔◌, inl, inr, ℕ, zero, suc, ◌<◌, ◌≤◌, ◌+◌, ◌-◌, List, [], ◌∷◌, ◌++◌, Bool, true, false, cond, ◌&&◌, length, get_or, drop, refl, sym, subst, arith}
use Rattle.std.specs.List.Sorted.{IsNonDecreasing}
use Rattle.std.proofs.lemmas.Bool.{cases_eq}
use Rattle.std.proofs.lemmas.Option.{slice_get-get_or, slice_get_within}
use Rattle.syntax.specs.Lists.{In}
use Rattle.runs.specs.Live.{Live, IsLive, NoDependent, FirstDependent}
use Rattle.runs.proofs.public.Lists.{in-left, in-right, in-parts}
use Rattle.dependence.specs.Followers.{ListsFollowers}
use Rattle.dependence.specs.internal.Sweeping.{IsUnreached}
use Rattle.dependence.specs.internal.Tables.{Falling, Topmost}
use Rattle.dependence.proofs.public.FollowerLaws.{direct-follows}
use Rattle.dependence.proofs.public.ListPlaces.{index-in, got-here, drop-next, in-order-more}

-- an element behind an index stands at one
at-dropped : (n : ℕ) (xs : List ℕ) (t : ℕ) → In t (drop n xs) → (j : ℕ) × (n ≤ j) × (j < length xs) × (get_or xs j 0 ≡ t)
at-dropped zero xs t i = let at = index-in xs t i in (at.0, omega arith, slice_get_within xs at.0 t at.1, got-here xs at.0 t 0 at.1)
at-dropped (suc n) [] t i = absurd i
at-dropped (suc n) (x ∷ xs) t i = let rest = at-dropped n xs t i in (suc rest.0, omega (arith, rest.1), omega (arith, rest.2), rest.3)

-- what differs from the next is less than the rest
pub below-rest : (xs : List ℕ) (index next : ℕ) → IsNonDecreasing xs → next ≡ suc index → get_or xs index 0 < get_or xs next 0 → (t : ℕ) → In t (drop (suc index) xs) →
    get_or xs index 0 < t
below-rest xs index next rise is less t i =
    let at = at-dropped (suc index) xs t i in
    let up : get_or xs next 0 ≤ get_or xs at.0 0 = rise next at.0 0 (omega (arith, at.1)) at.2 in
    let here = at.3 in
    omega arith

pub none-behind-last : (xs : List ℕ) (index : ℕ) → length xs ≤ suc index → (t : ℕ) → In t (drop (suc index) xs) → ⊥
none-behind-last xs index past t i = let at = at-dropped (suc index) xs t i in omega (arith, at.1, at.2)

-- else it is the next
pub among-rest : (xs : List ℕ) (index next : ℕ) → IsNonDecreasing xs → next ≡ suc index → next < length xs → get_or xs next 0 ≤ get_or xs index 0 →
    In (get_or xs index 0) (drop (suc index) xs)
among-rest xs index next rise is less le =
    let up : get_or xs index 0 ≤ get_or xs next 0 = rise index next 0 (omega arith) less in
    let same : get_or xs next 0 ≡ get_or xs index 0 = omega arith in
    let there : drop next xs ≡ get_or xs next 0 ∷ drop (suc next) xs = drop-next xs next (get_or xs next 0) (slice_get-get_or xs next 0 less) in
    subst (λ (v : ℕ). In v (drop (suc index) xs)) same
    (subst (λ (n : ℕ). In (get_or xs next 0) (drop n xs)) is (subst (λ (ys : List ℕ). In (get_or xs next 0) ys) (sym there) (inl refl)))

-- one more, of those of which P holds
pub told-next : (P : ℕ → Type 0) (xs kept : List ℕ) (p : ℕ) (s b : Bool) → p < length xs → (s ≡ true → P (get_or xs p 0)) → (s ≡ false → P (get_or xs p 0) → ⊥) →
    (b ≡ true → (t : ℕ) → In t (drop (suc p) xs) → get_or xs p 0 < t) → (b ≡ false → In (get_or xs p 0) (drop (suc p) xs)) → Falling kept →
    ((t : ℕ) → In t kept ↔ (In t (drop (suc p) xs) × P t)) →
    Falling (cond (s && b) (kept ++ get_or xs p 0 ∷ []) kept) × ((t : ℕ) → In t (cond (s && b) (kept ++ get_or xs p 0 ∷ []) kept) ↔ (In t (drop p xs) × P t))
told-next P xs kept p true true less holds fails below among fall same =
    let x : ℕ = get_or xs p 0 in
    let there : drop p xs ≡ x ∷ drop (suc p) xs = drop-next xs p x (slice_get-get_or xs p 0 less) in (
      in-order-more (λ (a : ℕ) (b : ℕ). b < a) kept x fall (λ y i. below refl y ((same y).0 i).0),
      λ t. subst (λ (ys : List ℕ). In t (kept ++ x ∷ []) ↔ (In t ys × P t)) (sym there) (
        (λ i. elim (in-parts t kept (x ∷ []) i) [
          | inl a ↦ (inr ((same t).0 a).0, ((same t).0 a).1)
          | inr (inl is) ↦ (inl is, subst P (sym is) (holds refl))
          | inr (inr a) ↦ absurd a
        ]),
        (λ k. elim k.0 [
          | inl is ↦ in-right t kept (x ∷ []) (inl is)
          | inr a ↦ in-left t kept (x ∷ []) ((same t).1 (a, k.1))
        ]),
      ),
    )
told-next P xs kept p true false less holds fails below among fall same =
    let x : ℕ = get_or xs p 0 in
    let there : drop p xs ≡ x ∷ drop (suc p) xs = drop-next xs p x (slice_get-get_or xs p 0 less) in (
      fall,
      λ t. subst (λ (ys : List ℕ). In t kept ↔ (In t ys × P t)) (sym there) (
        (λ i. (inr ((same t).0 i).0, ((same t).0 i).1)),
        (λ k. elim k.0 [
          | inl is ↦ subst (λ (v : ℕ). In v kept) (sym is) ((same x).1 (among refl, holds refl))
          | inr a ↦ (same t).1 (a, k.1)
        ]),
      ),
    )
told-next P xs kept p false b less holds fails below among fall same =
    let x : ℕ = get_or xs p 0 in
    let there : drop p xs ≡ x ∷ drop (suc p) xs = drop-next xs p x (slice_get-get_or xs p 0 less) in (
      fall,
      λ t. subst (λ (ys : List ℕ). In t kept ↔ (In t ys × P t)) (sym there) (
        (λ i. (inr ((same t).0 i).0, ((same t).0 i).1)),
        (λ k. elim k.0 [
          | inl is ↦ absurd (fails refl (subst P is k.1))
          | inr a ↦ (same t).1 (a, k.1)
        ]),
      ),
    )

-- ---- reached or not
pub unreached-none : (l : Live) (last t : ℕ) → NoDependent l t → IsUnreached l last t
unreached-none l last t none c live le on = none c live.0 live.1 on

pub unreached-past : (l : Live) (last t first : ℕ) → FirstDependent l t first → last < first → IsUnreached l last t
unreached-past l last t first f more c live le on = elim (cases_eq c t) [
  | inl is ↦ is
  | inr differs ↦ let low : first ≤ c = f.least c live.0 live.1 differs on in absurd (omega arith)
]

-- one of them that is not reached is topmost
pub one-topmost : (l : Live) (ts : List ℕ) (last t : ℕ) → IsNonDecreasing ts → last ≡ get_or ts (length ts - 1) 0 → ((u : ℕ) → In u ts → IsLive l u) → In t ts →
    IsUnreached l last t → Topmost l ts t
one-topmost l ts last t rise is live i none = (
  i,
  λ c j on.
      let k = index-in ts c j in
      let within : k.0 < length ts = slice_get_within ts k.0 c k.1 in
      let here : get_or ts k.0 0 ≡ c = got-here ts k.0 c 0 k.1 in
      let high : get_or ts k.0 0 ≤ get_or ts (length ts - 1) 0 = rise k.0 (length ts - 1) 0 (omega arith) (omega arith) in
      none c (live c j) (omega arith) on,
)

-- one that another follows is not
pub followed-not : (l : Live) (ts fs : List ℕ) (t : ℕ) → ListsFollowers l t fs → (u : ℕ) × In u fs × In u ts → Topmost l ts t → ⊥
followed-not l ts fs t lists u top =
    let d = ((lists.exactly u.0).0 u.1).dependent in
    let less : t < u.0 = d.less in
    let is : u.0 ≡ t = top.1 u.0 u.2 (direct-follows l t u.0 d) in
    omega arith

-- the last is the greatest
pub below-last : (ts : List ℕ) (last : ℕ) → IsNonDecreasing ts → last ≡ get_or ts (length ts - 1) 0 → (t : ℕ) → In t ts → t ≤ last
below-last ts last rise is t i =
    let k = index-in ts t i in
    let within : k.0 < length ts = slice_get_within ts k.0 t k.1 in
    let here : get_or ts k.0 0 ≡ t = got-here ts k.0 t 0 k.1 in
    let high : get_or ts k.0 0 ≤ get_or ts (length ts - 1) 0 = rise k.0 (length ts - 1) 0 (omega arith) (omega arith) in
    omega arith
