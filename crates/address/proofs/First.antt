-- `Before` by the entries that stand after the common beginning.
use Rattle.std.proofs.Common.{◌≡◌, ℕ, ◌<◌, ◌↔◌, List, [], ◌∷◌, ◌++◌, Bool, Option, Some, None, suc, ◌∙◌, sym, ap, subst, inl, inr, IsTrue, false, nat_lt, true≢false, take, drop, get_or, length, ◌≤◌, ◌-◌, drop-cons, drop_of_length-le}
use Rattle.std.proofs.lemmas.Bool.Decides.{Decides-ltb}
use Rattle.std.proofs.lemmas.List.{take-append-drop, take_rest}
use Rattle.address.specs.declared.Entry.{Entry}
use Rattle.address.specs.declared.Entry.TheVariants.{Ordered, Branch}
use Rattle.address.specs.Places.{Before}
use Rattle.address.specs.internal.Common.{FirstsDiffer, AfterCommon, first_number_of}
use Rattle.address.specs.contracts.EntryPartialEq.TheImpl.{eq-value}
use Rattle.address.proofs.public.Places.{before-left}
use Rattle.address.proofs.public.Entries.{entry_eq-Decides}

-- there are two numbers, and the first is less
abbrev pub NumbersBelow : Option ℕ → Option ℕ → Type 0
NumbersBelow None _ = ⊥
NumbersBelow (Some _) None = ⊥
NumbersBelow (Some i) (Some j) = i < j

-- no number is below none
not-below-none : (o : Option ℕ) → NumbersBelow o None → ⊥
not-below-none None h = h
not-below-none (Some i) h = h

-- where the first entries differ they alone decide
first-decides : (c d : List Entry) → FirstsDiffer c d → Before c d ↔ NumbersBelow (first_number_of c) (first_number_of d)
first-decides [] d n = (λ h. h, λ h. h)
first-decides (Ordered i ∷ c) [] n = (λ h. h, λ h. h)
first-decides (Branch i ∷ c) [] n = (λ h. h, λ h. h)
first-decides (Ordered i ∷ c) (Ordered j ∷ d) n =
    (λ h. elim h [ inl l ↦ l | inr m ↦ absurd (n (ap Ordered m.0)) ], λ l. inl l)
first-decides (Branch i ∷ c) (Branch j ∷ d) n = (λ h. n (ap Branch h.0), λ h. absurd h)
first-decides (Ordered i ∷ c) (Branch j ∷ d) n = (λ h. h, λ h. h)
first-decides (Branch i ∷ c) (Ordered j ∷ d) n = (λ h. h, λ h. h)

-- the entries after the common beginning decide
pub rest-decides : (a b c d : List Entry) → AfterCommon a b c d
    → Before a b ↔ NumbersBelow (first_number_of c) (first_number_of d)
rest-decides a b c d h =
    let below : Before (h.0 ++ c) (h.0 ++ d) ↔ Before c d = before-left h.0 c d in
    let firsts : Before c d ↔ NumbersBelow (first_number_of c) (first_number_of d) = first-decides c d h.3 in (
      λ k. firsts.0 (below.0 (subst (λ x. Before x (h.0 ++ d)) h.1 (subst (λ y. Before a y) h.2 k))),
      λ k. subst (λ x. Before x b) (sym h.1) (subst (λ y. Before (h.0 ++ c) y) (sym h.2) (below.1 (firsts.1 k))),
    )

-- two ordered numbers are compared
pub before-some : (a b c d : List Entry) (i j : ℕ) → AfterCommon a b c d
    → Some i ≡ first_number_of c → Some j ≡ first_number_of d → IsTrue (nat_lt i j) ↔ Before a b
before-some a b c d i j h x y =
    let rest : Before a b ↔ NumbersBelow (Some i) (Some j) =
    subst (λ o. Before a b ↔ NumbersBelow o (Some j)) (sym x)
    (subst (λ o. Before a b ↔ NumbersBelow (first_number_of c) o) (sym y) (rest-decides a b c d h)) in
    (λ t. rest.1 ((Decides-ltb i j).0 t), λ k. (Decides-ltb i j).1 (rest.0 k))

-- where the first is not ordered `a` is not before `b`
pub before-first_none : (a b c d : List Entry) → AfterCommon a b c d
    → None ≡ first_number_of c → IsTrue false ↔ Before a b
before-first_none a b c d h x =
    let rest : Before a b ↔ ⊥ = subst (λ o. Before a b ↔ NumbersBelow o (first_number_of d)) (sym x) (rest-decides a b c d h) in
    (λ t. absurd (true≢false (sym t)), λ k. absurd (rest.0 k))

-- where the second is not ordered `a` is not before `b`
pub before-second_none : (a b c d : List Entry) → AfterCommon a b c d
    → None ≡ first_number_of d → IsTrue false ↔ Before a b
before-second_none a b c d h y =
    let rest : Before a b ↔ NumbersBelow (first_number_of c) None =
    subst (λ o. Before a b ↔ NumbersBelow (first_number_of c) o) (sym y) (rest-decides a b c d h) in
    (λ t. absurd (true≢false (sym t)), λ k. absurd (not-below-none (first_number_of c) (rest.0 k)))

-- both lists are cut at k, up to which they are the same, and what follows differs
cut-at : (a b : List Entry) (k : ℕ) → take k a ≡ take k b → FirstsDiffer (drop k a) (drop k b)
    → AfterCommon a b (take (length a - k) (drop k a)) (take (length b - k) (drop k b))
cut-at a b k same n =
    rw (take_rest a k, take_rest b k)
    (let whole_b : b ≡ take k a ++ drop k b = sym (subst (λ p. p ++ drop k b ≡ b) (sym same) (take-append-drop k b)) in
    (take k a, sym (take-append-drop k a), whole_b, n))

-- the first list ends where they are cut
pub cut-at_first_end : (a b : List Entry) (k : ℕ) → take k a ≡ take k b → length a ≤ k
    → AfterCommon a b (take (length a - k) (drop k a)) (take (length b - k) (drop k b))
cut-at_first_end a b k same short =
    cut-at a b k same (subst (λ c. FirstsDiffer c (drop k b)) (sym (drop_of_length-le a short)) tt)

-- an empty list has no first entry
no-first : (c : List Entry) → FirstsDiffer c []
no-first [] = tt
no-first (x ∷ c) = tt

-- the second list ends where they are cut
pub cut-at_second_end : (a b : List Entry) (k : ℕ) → take k a ≡ take k b → length b ≤ k
    → AfterCommon a b (take (length a - k) (drop k a)) (take (length b - k) (drop k b))
cut-at_second_end a b k same short =
    cut-at a b k same (subst (λ d. FirstsDiffer (drop k a) d) (sym (drop_of_length-le b short)) (no-first (drop k a)))

-- the entries where they are cut differ
pub cut-at_differ : (a b : List Entry) (k : ℕ) (d : Entry) (r : Bool) → take k a ≡ take k b → k < length a → k < length b
    → r ≡ eq-value.it (get_or a k d) (get_or b k d) → r ≡ false
    → AfterCommon a b (take (length a - k) (drop k a)) (take (length b - k) (drop k b))
cut-at_differ a b k d r same in_a in_b test fails =
    let differ : get_or a k d ≡ get_or b k d → ⊥ =
    λ e. true≢false (sym ((entry_eq-Decides (get_or a k d) (get_or b k d)).1 e) ∙ (sym test ∙ fails)) in
    cut-at a b k same
    (subst (λ c. FirstsDiffer c (drop k b)) (sym (drop-cons a k d in_a))
    (subst (λ c. FirstsDiffer (get_or a k d ∷ drop (suc k) a) c) (sym (drop-cons b k d in_b)) differ))
