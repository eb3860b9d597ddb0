-- Lanes in order of their paths: where one is to be looked for, and that one more that is put there keeps the order.
use Rattle.std.proofs.Common.{◌≡◌, ℕ, zero, suc, ◌+◌, ◌≤◌, ◌<◌, List, [], ◌∷◌, length, get_or, Bool, true, false, true≢false, cond, Option, refl, sym, ◌∙◌, ap, subst, arith}
use Rattle.std.proofs.lemmas.Cmp.{tied_itself}
use Rattle.std.specs.Cmp.Lexicographic.{nat_list_cmp_total, slice_cmp, texts_ties}
use Rattle.std.specs.List.{insert}
use Rattle.std.specs.List.Sorted.{IsPartitionPoint, IsPartitionedBy}
use Rattle.std.specs.Ordering.{is_eq, is_lt, nat_cmp, ordering_reverse}
use Rattle.std.specs.declared.cmp.Ordering.{Ordering}
use Rattle.std.specs.declared.cmp.Ordering.TheVariants.{Less, Equal, Greater}
use Rattle.std.specs.Prelude.{slice_get}
use Rattle.picture_lanes.specs.Lanes.{is_before, leading, same_path}
use Rattle.picture_lanes.specs.declared.lane.Lane.{Lane}
use Rattle.picture_lanes.specs.internal.Order.{InOrder, IsBeforeAll, is_along}
use Rattle.picture_lanes.specs.internal.Placing.{NoneHas}
use Rattle.picture_lanes.proofs.Paths.{is-one}

-- ---- two paths

is-less : (p q : List ℕ) → is_before p q ≡ true → slice_cmp nat_cmp p q ≡ Less
is-less p q on = by (slice_cmp nat_cmp p q) refl
  where
    by : (o : Ordering) → slice_cmp nat_cmp p q ≡ o → slice_cmp nat_cmp p q ≡ Less
    by Less is = is
    by Equal is = absurd (true≢false (sym on ∙ ap (λ (r : Ordering). is_lt r) is))
    by Greater is = absurd (true≢false (sym on ∙ ap (λ (r : Ordering). is_lt r) is))

is-before : (p q : List ℕ) → slice_cmp nat_cmp p q ≡ Less → is_before p q ≡ true
is-before p q less = ap (λ (r : Ordering). is_lt r) less

differs : (p q : List ℕ) → is_before p q ≡ true → p ≡ q → ⊥
differs p q on is =
    let itself : is_before q q ≡ false = ap (λ (r : Ordering). is_lt r) (tied_itself nat_list_cmp_total q) in
    true≢false (sym on ∙ ap (λ (r : List ℕ). is_before r q) is ∙ itself)

through : (p q r : List ℕ) → slice_cmp nat_cmp p q ≡ Less → slice_cmp nat_cmp q r ≡ Less → slice_cmp nat_cmp p r ≡ Less
through p q r one two = nat_list_cmp_total.trans p q r one two

-- of two paths that differ one is before the other
other-way : (p q : List ℕ) → is_before p q ≡ false → (p ≡ q → ⊥) → slice_cmp nat_cmp q p ≡ Less
other-way p q off not = by (slice_cmp nat_cmp p q) refl
  where
    by : (o : Ordering) → slice_cmp nat_cmp p q ≡ o → slice_cmp nat_cmp q p ≡ Less
    by Less is = absurd (true≢false (sym (is-before p q is) ∙ off))
    by Equal is = absurd (not (is-one p q (texts_ties p q ∙ ap (λ (r : Ordering). is_eq r) is)))
    by Greater is = nat_list_cmp_total.antisymm q p ∙ ap (λ (r : Ordering). ordering_reverse r) is

-- ---- where a lane is not

none-behind : (p path : List ℕ) (lanes : List Lane) → IsBeforeAll p lanes → is_before p path ≡ false → NoneHas lanes path
none-behind p path [] all off = tt
none-behind p path (x ∷ lanes) all off = (
  λ is. true≢false (sym (is-before p path (subst (λ (r : List ℕ). slice_cmp nat_cmp p r ≡ Less) is all.0)) ∙ off),
  none-behind p path lanes all.1 off,
)

next : (x : Lane) (lanes : List Lane) (n : ℕ) → slice_get (x ∷ lanes) (n + 1) ≡ slice_get lanes n
next x lanes n = let e : n + 1 ≡ suc n = omega arith in ap (λ (k : ℕ). slice_get (x ∷ lanes) k) e

itself : (p : List ℕ) → same_path p p ≡ true
itself p = texts_ties p p ∙ ap (λ (r : Ordering). is_eq r) (tied_itself nat_list_cmp_total p)

-- where the lane behind all that are before the path has not the path, none has
pub none_there : (lanes : List Lane) (path : List ℕ) → InOrder lanes → is_along (slice_get lanes (leading path lanes)) path ≡ false → NoneHas lanes path
none_there [] path order off = tt
none_there (x ∷ lanes) path order off = by (is_before x.path path) refl (λ h. none_there lanes path order.1 h)
  where
    at : (t : Bool) → is_before x.path path ≡ t → is_along (slice_get (x ∷ lanes) (cond t (leading path lanes + 1) 0)) path ≡ false
    at t is = subst (λ (b : Bool). is_along (slice_get (x ∷ lanes) (cond b (leading path lanes + 1) 0)) path ≡ false) is off

    by : (t : Bool) → is_before x.path path ≡ t → (is_along (slice_get lanes (leading path lanes)) path ≡ false → NoneHas lanes path) → NoneHas (x ∷ lanes) path
    by true less rest = (
      differs x.path path less,
      rest (sym (ap (λ (o : Option Lane). is_along o path) (next x lanes (leading path lanes))) ∙ at true less),
    )
    by false more rest = (
      λ is. true≢false (sym (ap (λ (p : List ℕ). same_path p path) is ∙ itself path) ∙ at false more),
      none-behind x.path path lanes order.0 more,
    )

-- ---- one more

before-all : (p : List ℕ) (lanes : List Lane) (n : ℕ) (lane : Lane) → IsBeforeAll p lanes → slice_cmp nat_cmp p lane.path ≡ Less → IsBeforeAll p (insert lanes n lane)
before-all p lanes zero lane all less = (less, all)
before-all p [] (suc n) lane all less = (less, tt)
before-all p (x ∷ lanes) (suc n) lane all less = (all.0, before-all p lanes n lane all.1 less)

all-through : (p q : List ℕ) (lanes : List Lane) → slice_cmp nat_cmp p q ≡ Less → IsBeforeAll q lanes → IsBeforeAll p lanes
all-through p q [] less all = tt
all-through p q (x ∷ lanes) less all = (through p q x.path less all.0, all-through p q lanes less all.1)

pub put_in_order : (lanes : List Lane) (lane : Lane) → InOrder lanes → NoneHas lanes lane.path → InOrder (insert lanes (leading lane.path lanes) lane)
put_in_order [] lane order none = (tt, tt)
put_in_order (x ∷ lanes) lane order none = by (is_before x.path lane.path) refl (put_in_order lanes lane order.1 none.1)
  where
    to : (t : Bool) → is_before x.path lane.path ≡ t → InOrder (insert (x ∷ lanes) (cond t (leading lane.path lanes + 1) 0) lane) →
        InOrder (insert (x ∷ lanes) (leading lane.path (x ∷ lanes)) lane)
    to t is holds = subst (λ (b : Bool). InOrder (insert (x ∷ lanes) (cond b (leading lane.path lanes + 1) 0) lane)) (sym is) holds

    by : (t : Bool) → is_before x.path lane.path ≡ t → InOrder (insert lanes (leading lane.path lanes) lane) →
        InOrder (insert (x ∷ lanes) (leading lane.path (x ∷ lanes)) lane)
    by true less rest =
        let e : suc (leading lane.path lanes) ≡ leading lane.path lanes + 1 = omega arith in
        to true less
        (subst (λ (k : ℕ). InOrder (insert (x ∷ lanes) k lane)) e (
          before-all x.path lanes (leading lane.path lanes) lane order.0 (is-less x.path lane.path less),
          rest,
        ))
    by false more rest =
        let less = other-way x.path lane.path more none.0 in
        to false more ((less, all-through lane.path x.path lanes less order.0), order)

-- ---- a search by halves

before-at : (p : List ℕ) (lanes : List Lane) (k : ℕ) (d : Lane) → IsBeforeAll p lanes → k < length lanes → slice_cmp nat_cmp p (get_or lanes k d).path ≡ Less
before-at p [] k d all less = absurd (omega arith)
before-at p (x ∷ lanes) zero d all less = all.0
before-at p (x ∷ lanes) (suc k) d all less = before-at p lanes k d all.1 (omega arith)

pub in_parts : (path : List ℕ) (lanes : List Lane) → InOrder lanes → IsPartitionedBy (λ (y : Lane). is_before y.path path) lanes
in_parts path [] order i j d up within on = absurd (omega arith)
in_parts path (x ∷ lanes) order zero zero d up within on = on
in_parts path (x ∷ lanes) order zero (suc j) d up within on =
    let here = before-at x.path lanes j d order.0 (omega arith) in
    let there = is-less (get_or lanes j d).path path on in
    is-before x.path path (through x.path (get_or lanes j d).path path here there)
in_parts path (x ∷ lanes) order (suc i) zero d up within on = absurd (omega arith)
in_parts path (x ∷ lanes) order (suc i) (suc j) d up within on = in_parts path lanes order.1 i j d (omega arith) (omega arith) on

pub leads_to : (path : List ℕ) (lanes : List Lane) (i : ℕ) → i ≤ length lanes →
    IsPartitionPoint (λ (y : Lane). is_before y.path path ≡ true) (λ (y : Lane). is_before y.path path ≡ false) lanes i → i ≡ leading path lanes
leads_to path [] i within point = omega arith
leads_to path (x ∷ lanes) zero within point =
    let off : is_before x.path path ≡ false = point.1 0 x (omega arith) (omega arith) in
    sym (ap (λ (b : Bool). cond b (leading path lanes + 1) 0) off)
leads_to path (x ∷ lanes) (suc i) within point =
    let on : is_before x.path path ≡ true = point.0 0 x (omega arith) (omega arith) in
    let rest : i ≡ leading path lanes =
    leads_to path lanes i (omega arith) (λ k d low high. point.0 (suc k) d (omega arith) (omega arith), λ k d low high. point.1 (suc k) d (omega arith) (omega arith)) in
    let e : suc i ≡ leading path lanes + 1 = omega arith in
    e ∙ sym (ap (λ (b : Bool). cond b (leading path lanes + 1) 0) on)
