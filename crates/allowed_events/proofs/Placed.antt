-- Putting an event behind those that come before it is the insertion at their number.
use Rattle.std.proofs.Common.{◌≡◌, inl, ℕ, zero, suc, ◌<◌, ◌≤◌, List, [], ◌∷◌, ◌++◌, length, take, drop, Bool, true, false, cond, Some, get_or, refl, sym, ◌∙◌, ap, subst, arith, slice_get, IsTrue}
use Rattle.runs.specs.Tests.{same_event}
use Rattle.runs.specs.declared.event.Event.{Event}
use Rattle.syntax.specs.Lists.{Every}
use Rattle.runs.specs.InOrder.{InOrder}
use Rattle.runs.specs.Ready.{Sooner}
use Rattle.runs.proofs.public.Lists.{every-in, every-map, in-right}
use Rattle.runs.proofs.public.ReadyLists.{sooner-transitive}
use Rattle.allowed_events.proofs.Entries.{parts-at, item-at, drop-next}
use Rattle.allowed_events.proofs.Sooner.{sooner-true, sooner-tested}
use Rattle.allowed_events.specs.internal.Sorting.{is_sooner, sooner_count, inserted}

-- they are no more than there are
pub count-within : (e : Event) (l : List Event) → sooner_count e l ≤ length l
count-within e [] = omega arith
count-within e (f ∷ l) = pick (is_sooner f e) (count-within e l)
  where
    pick : (b : Bool) → sooner_count e l ≤ length l → cond b (suc (sooner_count e l)) 0 ≤ length (f ∷ l)
    pick true h = omega arith
    pick false h = omega arith

-- where the event stands there, nothing changes
pub placed-there : (e f : Event) (l : List Event) → slice_get l (sooner_count e l) ≡ Some f → same_event f e ≡ true → inserted e l ≡ l
placed-there e f [] at is = cc
placed-there e f (g ∷ l) at is = pick (is_sooner g e) (λ h. placed-there e f l h is) at
  where
    pick : (b : Bool) → (slice_get l (sooner_count e l) ≡ Some f → inserted e l ≡ l) → slice_get (g ∷ l) (cond b (suc (sooner_count e l)) 0) ≡ Some f →
        cond b (g ∷ inserted e l) (cond (same_event g e) (g ∷ l) (e ∷ g ∷ l)) ≡ g ∷ l
    pick true on h = ap (λ k. g ∷ k) (on h)
    pick false on h = let one : g ≡ f = cc in
        ap (λ c. cond c (g ∷ l) (e ∷ g ∷ l)) (ap (λ (x : Event). same_event x e) one ∙ is)

-- elsewhere it is put there
pub placed-new : (e : Event) (l : List Event) → ((f : Event) → slice_get l (sooner_count e l) ≡ Some f → same_event f e ≡ false) →
    inserted e l ≡ take (sooner_count e l) l ++ e ∷ drop (sooner_count e l) l
placed-new e [] differs = refl
placed-new e (g ∷ l) differs = pick (is_sooner g e) (λ h. placed-new e l h) differs
  where
    pick : (b : Bool) → (((f : Event) → slice_get l (sooner_count e l) ≡ Some f → same_event f e ≡ false) →
        inserted e l ≡ take (sooner_count e l) l ++ e ∷ drop (sooner_count e l) l) → ((f : Event) → slice_get (g ∷ l) (cond b (suc (sooner_count e l)) 0) ≡ Some f → same_event f e ≡ false) →
        cond b (g ∷ inserted e l) (cond (same_event g e) (g ∷ l) (e ∷ g ∷ l))
        ≡ take (cond b (suc (sooner_count e l)) 0) (g ∷ l) ++ e ∷ drop (cond b (suc (sooner_count e l)) 0) (g ∷ l)
    pick true on h = ap (λ k. g ∷ k) (on (λ f at. h f at))
    pick false on h = ap (λ c. cond c (g ∷ l) (e ∷ g ∷ l)) (h g refl)

-- the event was found there
pub there-already : (e : Event) (l k m : List Event) (n : ℕ) (b : Bool) → k ≡ l → m ≡ l → n ≡ sooner_count e k →
    (IsTrue b → (f : Event) × (slice_get m n ≡ Some f) × (same_event f e ≡ true)) → b ≡ true → l ≡ inserted e l
there-already e l k m n b ek em en there on =
    let found = there on in
    let place : n ≡ sooner_count e l = en ∙ ap (sooner_count e) ek in
    sym (placed-there e found.0 l (sym (λ i. slice_get (em i) (place i)) ∙ found.1) found.2)

-- it was not, and is put there
pub put-new : (e : Event) (l k m new : List Event) (n : ℕ) (b : Bool) → k ≡ l → m ≡ l → n ≡ sooner_count e k →
    (b ≡ false → (f : Event) → slice_get m n ≡ Some f → same_event f e ≡ false) → b ≡ false → new ≡ take n l ++ e ∷ drop n l → new ≡ inserted e l
put-new e l k m new n b ek em en elsewhere off is =
    let place : n ≡ sooner_count e l = en ∙ ap (sooner_count e) ek in
    is ∙ (λ i. take (place i) l ++ e ∷ drop (place i) l)
    ∙ sym (placed-new e l (λ f at. elsewhere off f ((λ i. slice_get (em i) (place i)) ∙ at)))

-- where the first ones come before the event and no other does, they are counted
count-split : (e : Event) (before after : List Event) → Every (λ f. is_sooner f e ≡ true) before → Every (λ f. is_sooner f e ≡ false) after →
    sooner_count e (before ++ after) ≡ length before
count-split e [] [] all none = refl
count-split e [] (f ∷ after) all none = ap (λ (b : Bool). cond b (suc (sooner_count e after)) 0) none.0
count-split e (f ∷ before) after all none =
    ap (λ (b : Bool). cond b (suc (sooner_count e (before ++ after))) 0) all.0 ∙ ap suc (count-split e before after all.1 none)

-- all that stand before one come before it
all-before : (x : Event) (before after : List Event) → InOrder Sooner (before ++ x ∷ after) → Every (λ g. Sooner g x) before
all-before x [] after order = tt
all-before x (g ∷ before) after order =
    (every-in (Sooner g) (before ++ x ∷ after) x order.0 (in-right x before (x ∷ after) (inl refl)), all-before x before after order.1)

-- the last that comes before the event is found
pub count-here : (e x : Event) (l : List Event) (n p : ℕ) (b : Bool) → InOrder Sooner l → suc n ≡ p → n < length l → x ≡ get_or l n x → b ≡ is_sooner x e →
    b ≡ true → Every (λ f. is_sooner f e ≡ false) (drop p l) → p ≡ sooner_count e l
count-here e x l n p b order next less is told on none =
    let at : slice_get l n ≡ Some x = item-at l n x less is in
    let parts : l ≡ take n l ++ x ∷ drop (suc n) l = parts-at l n x at in
    let sooner : Sooner x e = sooner-true x e (sym told ∙ on) in
    let first : Every (λ g. Sooner g x) (take n l) =
    all-before x (take n l) (drop (suc n) l) (subst (λ (k : List Event). InOrder Sooner k) parts order) in
    let tested : Every (λ g. is_sooner g e ≡ true) (take n l) =
    every-map (λ g. Sooner g x) (λ g. is_sooner g e ≡ true) (take n l) (λ g h. sooner-tested g e (sooner-transitive g x e h sooner)) first in
    let rest : Every (λ f. is_sooner f e ≡ false) (drop (suc n) l) = subst (λ (k : ℕ). Every (λ f. is_sooner f e ≡ false) (drop k l)) (sym next) none in
    sym (
    ap (sooner_count e) (parts ∙ join-one (take n l) x (drop (suc n) l))
    ∙ count-split e (take n l ++ x ∷ []) (drop (suc n) l) (every-one (take n l) x tested (sym told ∙ on)) rest
    ∙ length-one (take n l) x ∙ ap suc (length-taken n l less) ∙ next
    )
  where
    join-one : (xs : List Event) (y : Event) (ys : List Event) → xs ++ y ∷ ys ≡ (xs ++ y ∷ []) ++ ys
    join-one [] y ys = refl
    join-one (z ∷ xs) y ys = ap (λ k. z ∷ k) (join-one xs y ys)

    every-one : (xs : List Event) (y : Event) → Every (λ g. is_sooner g e ≡ true) xs → is_sooner y e ≡ true → Every (λ g. is_sooner g e ≡ true) (xs ++ y ∷ [])
    every-one [] y all one = (one, tt)
    every-one (z ∷ xs) y all one = (all.0, every-one xs y all.1 one)

    length-one : (xs : List Event) (y : Event) → length (xs ++ y ∷ []) ≡ suc (length xs)
    length-one [] y = refl
    length-one (z ∷ xs) y = ap suc (length-one xs y)

    length-taken : (m : ℕ) (k : List Event) → m < length k → length (take m k) ≡ m
    length-taken zero k h = refl
    length-taken (suc m) [] h = absurd (omega arith)
    length-taken (suc m) (z ∷ k) h = let within : m < length k = omega arith in ap suc (length-taken m k within)

-- no event comes before it
pub count-none : (e : Event) (l : List Event) (p : ℕ) → p ≤ 0 → Every (λ f. is_sooner f e ≡ false) (drop p l) → 0 ≡ sooner_count e l
count-none e l zero past none = sym (count-split e [] l tt none)
count-none e l (suc p) past none = absurd (omega arith)

-- one more that does not
pub past-more : (e x : Event) (l : List Event) (n p : ℕ) (b : Bool) → suc n ≡ p → n < length l → x ≡ get_or l n x → b ≡ is_sooner x e → b ≡ false →
    Every (λ f. is_sooner f e ≡ false) (drop p l) → Every (λ f. is_sooner f e ≡ false) (drop n l)
past-more e x l n p b next less is told off none =
    subst (λ (k : List Event). Every (λ f. is_sooner f e ≡ false) k) (sym (drop-next l n x (item-at l n x less is)))
    (sym told ∙ off, subst (λ (k : ℕ). Every (λ f. is_sooner f e ≡ false) (drop k l)) (sym next) none)
