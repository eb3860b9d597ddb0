-- Rows as one list: what stands where, and what an edit of a row leaves.
use Rattle.std.proofs.Common.{◌≡◌, ℕ, zero, suc, ◌+◌, ◌<◌, ◌≤◌, List, [], ◌∷◌, ◌++◌, length, take, drop, Some, None, refl, sym, ap, subst, ◌∙◌, arith, append_assoc, length-append, get_or, true≢false, false}
use Rattle.std.specs.Prelude.{slice_get, slice_set, is_some}
use Rattle.std.specs.List.{remove}
use Rattle.std.proofs.lemmas.Option.{slice_get_within, slice_get_read}
use Rattle.rows.specs.Flat.{flat, HoldsIndex}
use Rattle.rows.specs.declared.row.Row.{Row}

some-is : {X : Type 0} (x y : X) → Some x ≡ Some y → x ≡ y
some-is x y e = cc

none-some : {X : Type 0} (x : X) → None ≡ Some x → ⊥
none-some x e = true≢false (sym (subst (λ o. false ≡ is_some o) e refl))

-- ---- one list in three parts
get-left : {X : Type 0} (ms ys : List X) (j : ℕ) → j < length ms → slice_get (ms ++ ys) j ≡ slice_get ms j
get-left [] ys j h = absurd (omega arith)
get-left (x ∷ ms) ys zero h = refl
get-left (x ∷ ms) ys (suc j) h = let less : j < length ms = omega arith in get-left ms ys j less

set-left : {X : Type 0} (ms ys : List X) (j : ℕ) (v : X) → j < length ms → slice_set (ms ++ ys) j v ≡ slice_set ms j v ++ ys
set-left [] ys j v h = absurd (omega arith)
set-left (x ∷ ms) ys zero v h = refl
set-left (x ∷ ms) ys (suc j) v h = let less : j < length ms = omega arith in ap (λ k. x ∷ k) (set-left ms ys j v less)

remove-left : {X : Type 0} (ms ys : List X) (j : ℕ) → j < length ms → remove (ms ++ ys) j ≡ remove ms j ++ ys
remove-left [] ys j h = absurd (omega arith)
remove-left (x ∷ ms) ys zero h = refl
remove-left (x ∷ ms) ys (suc j) h = let less : j < length ms = omega arith in ap (λ k. x ∷ k) (remove-left ms ys j less)

get-parts : {X : Type 0} (xs ms ys : List X) (k j : ℕ) → k ≡ length xs + j → j < length ms → slice_get (xs ++ (ms ++ ys)) k ≡ slice_get ms j
get-parts [] ms ys k j is h = let same : k ≡ j = omega arith in ap (slice_get (ms ++ ys)) same ∙ get-left ms ys j h
get-parts (x ∷ xs) ms ys zero j is h = absurd (omega arith)
get-parts (x ∷ xs) ms ys (suc k) j is h = let less : k ≡ length xs + j = omega arith in get-parts xs ms ys k j less h

set-parts : {X : Type 0} (xs ms ys : List X) (k j : ℕ) (v : X) → k ≡ length xs + j → j < length ms → slice_set (xs ++ (ms ++ ys)) k v ≡ xs ++ (slice_set ms j v ++ ys)
set-parts [] ms ys k j v is h = let same : k ≡ j = omega arith in ap (λ i. slice_set (ms ++ ys) i v) same ∙ set-left ms ys j v h
set-parts (x ∷ xs) ms ys zero j v is h = absurd (omega arith)
set-parts (x ∷ xs) ms ys (suc k) j v is h = let less : k ≡ length xs + j = omega arith in ap (λ zs. x ∷ zs) (set-parts xs ms ys k j v less h)

remove-parts : {X : Type 0} (xs ms ys : List X) (k j : ℕ) → k ≡ length xs + j → j < length ms → remove (xs ++ (ms ++ ys)) k ≡ xs ++ (remove ms j ++ ys)
remove-parts [] ms ys k j is h = let same : k ≡ j = omega arith in ap (λ i. remove (ms ++ ys) i) same ∙ remove-left ms ys j h
remove-parts (x ∷ xs) ms ys zero j is h = absurd (omega arith)
remove-parts (x ∷ xs) ms ys (suc k) j is h = let less : k ≡ length xs + j = omega arith in ap (λ zs. x ∷ zs) (remove-parts xs ms ys k j less h)

-- ---- rows
pub flat-join : {X : Type 0} (xs ys : List (Row X)) → flat (xs ++ ys) ≡ flat xs ++ flat ys
flat-join [] ys = refl
flat-join (a ∷ xs) ys = ap (λ k. a.items.items ++ k) (flat-join xs ys) ∙ sym (append_assoc a.items.items (flat xs) (flat ys))

pub flat-parts : {X : Type 0} (rows : List (Row X)) (i : ℕ) (r : Row X) → slice_get rows i ≡ Some r →
    flat rows ≡ flat (take i rows) ++ (r.items.items ++ flat (drop (suc i) rows))
flat-parts [] i r at = absurd (none-some r at)
flat-parts (x ∷ rows) zero r at = ap (λ (q : Row _). q.items.items ++ flat rows) (some-is x r at)
flat-parts (x ∷ rows) (suc i) r at =
    ap (λ k. x.items.items ++ k) (flat-parts rows i r at)
    ∙ sym (append_assoc x.items.items (flat (take i rows)) (r.items.items ++ flat (drop (suc i) rows)))

pub flat-set : {X : Type 0} (rows : List (Row X)) (i : ℕ) (r : Row X) → i < length rows →
    flat (slice_set rows i r) ≡ flat (take i rows) ++ (r.items.items ++ flat (drop (suc i) rows))
flat-set [] i r h = absurd (omega arith)
flat-set (x ∷ rows) zero r h = refl
flat-set (x ∷ rows) (suc i) r h =
    let less : i < length rows = omega arith in
    ap (λ k. x.items.items ++ k) (flat-set rows i r less)
    ∙ sym (append_assoc x.items.items (flat (take i rows)) (r.items.items ++ flat (drop (suc i) rows)))

-- one row further
pub taken-more : {X : Type 0} (rows : List (Row X)) (i : ℕ) (r : Row X) → slice_get rows i ≡ Some r →
    length (flat (take (suc i) rows)) ≡ length (flat (take i rows)) + length r.items.items
taken-more [] i r at = absurd (none-some r at)
taken-more (x ∷ rows) zero r at =
    let size : length x.items.items ≡ length r.items.items = ap (λ (q : Row _). length q.items.items) (some-is x r at) in
    let both = length-append x.items.items [] in
    omega arith
taken-more (x ∷ rows) (suc i) r at =
    let rest = taken-more rows i r at in
    let one = length-append x.items.items (flat (take (suc i) rows)) in
    let other = length-append x.items.items (flat (take i rows)) in
    omega arith

within : {X : Type 0} (rows : List (Row X)) (i : ℕ) (r : Row X) → slice_get rows i ≡ Some r → i < length rows
within rows i r at = slice_get_within rows i r at

-- ---- another row at a number
take-set : {X : Type 0} (rows : List (Row X)) (i : ℕ) (q : Row X) → take i (slice_set rows i q) ≡ take i rows
take-set [] zero q = refl
take-set [] (suc i) q = refl
take-set (x ∷ rows) zero q = refl
take-set (x ∷ rows) (suc i) q = ap (λ k. x ∷ k) (take-set rows i q)

drop-set : {X : Type 0} (rows : List (Row X)) (i : ℕ) (q : Row X) → i < length rows → drop i (slice_set rows i q) ≡ q ∷ drop (suc i) rows
drop-set [] i q h = absurd (omega arith)
drop-set (x ∷ rows) zero q h = refl
drop-set (x ∷ rows) (suc i) q h = let less : i < length rows = omega arith in drop-set rows i q less

append-nil : {X : Type 0} (xs : List X) → xs ++ [] ≡ xs
append-nil [] = refl
append-nil (x ∷ xs) = ap (λ k. x ∷ k) (append-nil xs)

pub flat-pushed : {X : Type 0} (rows : List (Row X)) (i : ℕ) (r q : Row X) (v : X) → slice_get rows i ≡ Some r → suc i ≡ length rows →
    q.items.items ≡ r.items.items ++ v ∷ [] → flat (slice_set rows i q) ≡ flat rows ++ v ∷ []
flat-pushed [] i r q v at last more = absurd (none-some r at)
flat-pushed (x ∷ []) zero r q v at last more =
    append-nil q.items.items ∙ more
    ∙ ap (λ k. k ++ v ∷ []) (ap (λ (k : Row _). k.items.items) (sym (some-is x r at)) ∙ sym (append-nil x.items.items))
flat-pushed (x ∷ (y ∷ rows)) zero r q v at last more = absurd (omega arith)
flat-pushed (x ∷ rows) (suc i) r q v at last more =
    let less : suc i ≡ length rows = omega arith in
    ap (λ k. x.items.items ++ k) (flat-pushed rows i r q v at less more) ∙ sym (append_assoc x.items.items (flat rows) (v ∷ []))

pub flat-same : {X : Type 0} (rows : List (Row X)) (i : ℕ) (r q : Row X) → slice_get rows i ≡ Some r → q.items.items ≡ r.items.items →
    flat (slice_set rows i q) ≡ flat rows
flat-same rows i r q at same =
    flat-set rows i q (within rows i r at)
    ∙ ap (λ k. flat (take i rows) ++ (k ++ flat (drop (suc i) rows))) same
    ∙ sym (flat-parts rows i r at)

-- one row more
pub flat-more : {X : Type 0} (rows : List (Row X)) (q : Row X) (v : X) → q.items.items ≡ v ∷ [] → flat (rows ++ q ∷ []) ≡ flat rows ++ v ∷ []
flat-more rows q v is = flat-join rows (q ∷ []) ∙ ap (λ k. flat rows ++ k) (append-nil q.items.items ∙ is)

-- what is left behind the number, where one item of its row is gone
pub left-behind : {X : Type 0} (rows : List (Row X)) (number : ℕ) (r q : Row X) → slice_get rows number ≡ Some r →
    flat (drop number (slice_set rows number q)) ≡ q.items.items ++ flat (drop (suc number) rows)
left-behind rows number r q at = ap flat (drop-set rows number q (within rows number r at))

-- a row without items, closed up
pub closed-take : {X : Type 0} (rows : List (Row X)) (i : ℕ) → take i (remove rows i) ≡ take i rows
closed-take [] zero = refl
closed-take [] (suc i) = refl
closed-take (x ∷ rows) zero = refl
closed-take (x ∷ rows) (suc i) = ap (λ k. x ∷ k) (closed-take rows i)

pub closed-drop : {X : Type 0} (rows : List (Row X)) (i : ℕ) (r : Row X) → slice_get rows i ≡ Some r → r.items.items ≡ [] → flat (drop i (remove rows i)) ≡ flat (drop i rows)
closed-drop [] i r at none = absurd (none-some r at)
closed-drop (x ∷ rows) zero r at none =
    let gone : x.items.items ≡ [] = ap (λ (k : Row _). k.items.items) (some-is x r at) ∙ none in
    ap (λ k. k ++ flat rows) (sym gone)
closed-drop (x ∷ rows) (suc i) r at none = closed-drop rows i r at none

-- ---- reading
pub read-at : {X : Type 0} (xs : List X) (i : ℕ) (x : X) → i < length xs → x ≡ get_or xs i x → slice_get xs i ≡ Some x
read-at xs i x h is = slice_get_read xs (length xs) i x refl h is

pub same-at : {X : Type 0} (xs : List X) (i : ℕ) (x y : X) → slice_get xs i ≡ Some x → slice_get xs i ≡ Some y → x ≡ y
same-at xs i x y a b = some-is x y (sym a ∙ b)

rejoin : {X : Type 0} (xs : List X) (i : ℕ) → take i xs ++ drop i xs ≡ xs
rejoin xs zero = refl
rejoin [] (suc i) = refl
rejoin (x ∷ xs) (suc i) = ap (λ k. x ∷ k) (rejoin xs i)

pub take-all : {X : Type 0} (xs : List X) (i : ℕ) → length xs ≤ i → take i xs ≡ xs
take-all [] zero h = refl
take-all [] (suc i) h = refl
take-all (x ∷ xs) zero h = absurd (omega arith)
take-all (x ∷ xs) (suc i) h = let less : length xs ≤ i = omega arith in ap (λ k. x ∷ k) (take-all xs i less)

pub length-changed : {X : Type 0} (xs : List X) (i : ℕ) (v : X) → length (slice_set xs i v) ≡ length xs
length-changed [] zero v = refl
length-changed [] (suc i) v = refl
length-changed (x ∷ xs) zero v = refl
length-changed (x ∷ xs) (suc i) v = ap suc (length-changed xs i v)

pub length-removed : {X : Type 0} (xs : List X) (i : ℕ) → i < length xs → suc (length (remove xs i)) ≡ length xs
length-removed [] i h = absurd (omega arith)
length-removed (x ∷ xs) zero h = refl
length-removed (x ∷ xs) (suc i) h = let less : i < length xs = omega arith in ap suc (length-removed xs i less)

-- ---- the item at an index
pub item-at : {X : Type 0} (rows : List (Row X)) (index number place : ℕ) (h : HoldsIndex rows index number place) →
    slice_get (flat rows) index ≡ slice_get h.row.items.items place
item-at rows index number place h =
    ap (λ k. slice_get k index) (flat-parts rows number h.row h.at)
    ∙ get-parts (flat (take number rows)) h.row.items.items (flat (drop (suc number) rows)) index place (sym h.sum) h.less

-- the row that was read is the one of the number
pub row-is : {X : Type 0} (rows : List (Row X)) (index number place : ℕ) (r : Row X) → (h : HoldsIndex rows index number place) → r ≡ get_or rows number r → h.row ≡ r
row-is rows index number place r h is = same-at rows number h.row r h.at (read-at rows number r (within rows number h.row h.at) is)

pub place-within : {X : Type 0} (rows : List (Row X)) (index number place : ℕ) (r : Row X) → HoldsIndex rows index number place → r ≡ get_or rows number r →
    place < length r.items.items
place-within rows index number place r h is = subst (λ (q : Row _). place < length q.items.items) (row-is rows index number place r h is) h.less

pub got : {X : Type 0} (rows : List (Row X)) (index number place : ℕ) (r : Row X) (v : X) → HoldsIndex rows index number place → r ≡ get_or rows number r →
    v ≡ get_or r.items.items place v → slice_get (flat rows) index ≡ Some v
got rows index number place r v h is here =
    item-at rows index number place h
    ∙ ap (λ (q : Row _). slice_get q.items.items place) (row-is rows index number place r h is)
    ∙ read-at r.items.items place v (place-within rows index number place r h is) here

pub changed : {X : Type 0} (rows : List (Row X)) (index number place : ℕ) (r q : Row X) (v : X) → HoldsIndex rows index number place → r ≡ get_or rows number r →
    q.items.items ≡ slice_set r.items.items place v → flat (slice_set rows number q) ≡ slice_set (flat rows) index v
changed rows index number place r q v h is set =
    let row = row-is rows index number place r h is in
    flat-set rows number q (within rows number h.row h.at)
    ∙ ap (λ k. flat (take number rows) ++ (k ++ flat (drop (suc number) rows))) (set ∙ ap (λ (p : Row _). slice_set p.items.items place v) (sym row))
    ∙ sym (set-parts (flat (take number rows)) h.row.items.items (flat (drop (suc number) rows)) index place v (sym h.sum) h.less)
    ∙ ap (λ k. slice_set k index v) (sym (flat-parts rows number h.row h.at))

-- what is left when an item was taken out of a row and the row closed up
pub taken-out : {X : Type 0} (rows new : List (Row X)) (index number place : ℕ) (r q : Row X) → HoldsIndex rows index number place → r ≡ get_or rows number r →
    q.items.items ≡ remove r.items.items place → take number new ≡ take number (slice_set rows number q) →
    flat (drop number new) ≡ flat (drop number (slice_set rows number q)) → flat new ≡ remove (flat rows) index
taken-out rows new index number place r q h is less before behind =
    let row = row-is rows index number place r h is in
    let front : take number new ≡ take number rows = before ∙ take-set rows number q in
    ap flat (sym (rejoin new number)) ∙ ap (λ (k : List (Row _)). flat (k ++ drop number new)) front
    ∙ flat-join (take number rows) (drop number new)
    ∙ ap (λ k. flat (take number rows) ++ k)
    (behind ∙ left-behind rows number h.row q h.at
    ∙ ap (λ k. k ++ flat (drop (suc number) rows)) (less ∙ ap (λ (p : Row _). remove p.items.items place) (sym row)))
    ∙ sym (remove-parts (flat (take number rows)) h.row.items.items (flat (drop (suc number) rows)) index place (sym h.sum) h.less)
    ∙ ap (λ k. remove k index) (sym (flat-parts rows number h.row h.at))
