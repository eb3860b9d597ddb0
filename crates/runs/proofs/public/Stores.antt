-- Writes to different variables, and reads of others.
use Rattle.runs.proofs.public.Lists.{in-left, in-right}
use Rattle.std.proofs.Common.{◌≡◌, ◌≢◌, ◌⊎◌, inl, inr, ℕ, ◌==◌, List, [], ◌∷◌, Bool, true, false, cond, Option, Some, None, refl, sym, ◌∙◌, ap, set, eqb, ltb}
use borrow.Author.Tests.{eqb-true}
use Rattle.std.proofs.lemmas.List.{get_or-set_other, set_comm}
use Rattle.syntax.specs.Lists.{In}
use Rattle.value.specs.Word.{Word, resized}
use Rattle.system.specs.Expression.{word, Expression, constant, variable, received, binary, complement, cast, Decision, by_guards, by_labels, Store, get, put, value, variables, variables_of_all, decide, decision_variables, guards_hold, labels_hold, first_of_tests, combined, inserted, ascending}
use Rattle.runs.specs.Events.{written_by, store_after}
use Rattle.runs.specs.declared.event.Event.{Event}

-- s and t have the same values at these variables
abbrev pub Agree : Store → Store → List ℕ → Type 0
Agree s t xs = (x : ℕ) → In x xs → get s x ≡ get t x

-- an expression has one value over stores that agree on its variables
pub value-agree : (s t : Store) (e : Expression) → Agree s t (variables e) → value s e ≡ value t e
value-agree s t (constant v) h = refl
value-agree s t (variable x w) h = ap (λ v. resized v w) (h x (inl refl))
value-agree s t (received c w) h = refl
value-agree s t (binary op a b) h =
    ap (λ v. combined op v (value s b)) (value-agree s t a (λ x i. h x (in-left x (variables a) (variables b) i)))
    ∙ ap (λ v. combined op (value t a) v) (value-agree s t b (λ x i. h x (in-right x (variables a) (variables b) i)))
value-agree s t (complement a) h = ap (λ v. Rattle.value.specs.Word.complement_of v) (value-agree s t a h)
value-agree s t (cast a w) h = ap (λ v. resized v w) (value-agree s t a h)

-- and so have guards
pub guards-agree : (s t : Store) (gs : List Expression) → Agree s t (variables_of_all gs) → guards_hold s gs ≡ guards_hold t gs
guards-agree s t [] h = refl
guards-agree s t (g ∷ gs) h =
    ap (λ v. (v.bits == 1) ∷ guards_hold s gs) (value-agree s t g (λ x i. h x (in-left x (variables g) (variables_of_all gs) i)))
    ∙ ap (λ bs. ((value t g).bits == 1) ∷ bs) (guards-agree s t gs (λ x i. h x (in-right x (variables g) (variables_of_all gs) i)))

-- and so is a test decided
pub decide-agree : (s t : Store) (d : Decision) → Agree s t (decision_variables d) → decide s d ≡ decide t d
decide-agree s t (by_guards gs otherwise) h = ap (λ bs. first_of_tests 0 bs otherwise) (guards-agree s t gs h)
decide-agree s t (by_labels e labels otherwise) h = ap (λ v. first_of_tests 0 (labels_hold v.bits labels) otherwise) (value-agree s t e h)

-- a number stands in the list that it is put into, by the tests made
same-branch : (x y : ℕ) (ys rest : List ℕ) (b c : Bool) → eqb x y ≡ b → In x rest → In x (cond b (y ∷ ys) (cond c (x ∷ y ∷ ys) (y ∷ rest)))
same-branch x y ys rest true c e h = inl (eqb-true x y e)
same-branch x y ys rest false true e h = inl refl
same-branch x y ys rest false false e h = inr h

-- a number stands in the list that it is put into
pub in-inserted-same : (x : ℕ) (ys : List ℕ) → In x (inserted x ys)
in-inserted-same x [] = inl refl
in-inserted-same x (y ∷ ys) = same-branch x y ys (inserted x ys) (eqb x y) (ltb x y) refl (in-inserted-same x ys)

-- the other numbers stay in it, by the tests made
other-branch : (x y z : ℕ) (ys rest : List ℕ) (b c : Bool) → (x ≡ z) ⊎ In x ys → (In x ys → In x rest) → In x (cond b (z ∷ ys) (cond c (y ∷ z ∷ ys) (z ∷ rest)))
other-branch x y z ys rest true c h f = h
other-branch x y z ys rest false true h f = inr h
other-branch x y z ys rest false false h f = elim h [ inl e ↦ inl e | inr u ↦ inr (f u) ]

-- the other numbers stay in it
pub in-inserted : (x y : ℕ) (ys : List ℕ) → In x ys → In x (inserted y ys)
in-inserted x y [] h = absurd h
in-inserted x y (z ∷ ys) h = other-branch x y z ys (inserted y ys) (eqb y z) (ltb y z) h (in-inserted x y ys)

-- a number of a list is one of its ascending list
pub in-ascending : (x : ℕ) (xs : List ℕ) → In x xs → In x (ascending xs)
in-ascending x [] h = absurd h
in-ascending x (y ∷ xs) h = elim h [ inl e ↦ rw e (in-inserted-same y (ascending xs)) | inr u ↦ in-inserted x y (ascending xs) (in-ascending x xs u) ]

-- a write leaves the other variables
pub get-put-other : (s : Store) (x y : ℕ) (v : Word) → y ≢ x → get (put s x v) y ≡ get s y
get-put-other s x y v h = get_or-set_other s x y (resized v (get s x).width) (word 0 1) h

-- writes to two variables can be made in either order
pub put-other : (s : Store) (x y : ℕ) (v u : Word) → x ≢ y → put (put s x v) y u ≡ put (put s y u) x v
put-other s x y v u h =
    ap (λ o. set (set s x (resized v (get s x).width)) y (resized u o.width)) (get-put-other s x y v (λ e. h (sym e)))
    ∙ set_comm s x y (resized v (get s x).width) (resized u (get s y).width) h
    ∙ ap (λ o. set (set s y (resized u (get s y).width)) x (resized v o.width)) (sym (get-put-other s y x u h))

-- an event leaves the variables that it does not write
get-written : (s : Store) (w : Option ℕ) (v : Option Word) (x : ℕ) → (w ≡ Some x → ⊥) → get (written_by w v s) x ≡ get s x
get-written s None v x h = refl
get-written s (Some y) None x h = refl
get-written s (Some y) (Some v) x h = get-put-other s y x v (λ e. h (ap Some (sym e)))

-- an event leaves the variables that it does not write
pub get-after : (s : Store) (e : Event) (x : ℕ) → (e.written ≡ Some x → ⊥) → get (store_after e s) x ≡ get s x
get-after s e x h = get-written s e.written e.value x h

-- writes of two events to two variables can be made in either order
written-other : (s : Store) (w z : Option ℕ) (v u : Option Word) → ((x : ℕ) → w ≡ Some x → z ≡ Some x → ⊥) →
    written_by z u (written_by w v s) ≡ written_by w v (written_by z u s)
written-other s None z v u h = refl
written-other s (Some x) None v u h = refl
written-other s (Some x) (Some y) None u h = refl
written-other s (Some x) (Some y) (Some v) None h = refl
written-other s (Some x) (Some y) (Some v) (Some u) h = put-other s x y v u (λ e. h x refl (ap Some (sym e)))

-- two events that write no variable both leave one store in either order
pub after-other : (s : Store) (e f : Event) → ((x : ℕ) → e.written ≡ Some x → f.written ≡ Some x → ⊥) →
    store_after f (store_after e s) ≡ store_after e (store_after f s)
after-other s e f h = written-other s e.written f.written e.value f.value h
