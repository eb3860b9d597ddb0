-- The two steps of the lock keep its rule.
use Rattle.std.proofs.Common.{◌≡◌, ◌≢◌, inl, inr, ℕ, ◌==◌, List, [], ◌∷◌, ◌++◌, length, set, refl, ap, sym, ◌∙◌, subst, ⊎_elim, arith}
use mathlib.Core.Option.{some}
use lib.ListN.{get_elem?}
use prog.Atomic.{either}
use Rattle.atomic_table.proofs.Lists.{at_set, set_again}
use Rattle.atomic_table.specs.Marked.{Keeps, Comes}
use Rattle.recorded_calls.proofs.public.Seating.{all_more}
use Rattle.locked_object.specs.Lock.{OneHolds, Locked, Unlocked}
use Rattle.locked_object.specs.declared.lock.Hold.{Hold}
use Rattle.locked_object.specs.declared.lock.Hold.TheVariants.{Free, Held}

abbrev IsFree : Hold → Type 0
IsFree Free = Unit {0}
IsFree Held = ⊥

free-not-held : Free ≡ Held → ⊥
free-not-held e = subst IsFree e tt

-- whoever comes while the word is 0 holds nothing
comes-late : (n : ℕ) (views : List Hold) → OneHolds n views → n ≡ 0 → (w : Hold) × OneHolds 0 (views ++ w ∷ []) × Locked n w
comes-late n views h e =
    let old : (j : ℕ) (u : Hold) → get_elem? (views ++ Free ∷ []) j ≡ some u → u ≡ Held → get_elem? views j ≡ some Held =
    all_more (λ j u. u ≡ Held → get_elem? views j ≡ some Held) views Free (λ j u at is. at ∙ ap some is) (λ is. absurd (free-not-held is)) in
    (Free, record { one = λ i j p q. h.one i j (old i Held p refl) (old j Held q refl); rests = inl refl }, λ two. absurd (omega arith))

comes-first : (n : ℕ) (views : List Hold) → ((i : ℕ) → get_elem? views i ≡ some Held → ⊥) → (w : Hold) × OneHolds 0 (views ++ w ∷ []) × Locked n w
comes-first n views none =
    let last : (j : ℕ) (u : Hold) → get_elem? (views ++ Held ∷ []) j ≡ some u → u ≡ Held → j ≡ length views =
    all_more (λ j u. u ≡ Held → j ≡ length views) views Held (λ j u at is. absurd (none j (at ∙ ap some is))) (λ _. refl) in
    (Held, record { one = λ i j p q. last i Held p refl ∙ sym (last j Held q refl); rests = inl refl }, λ _. refl)

pub locks : Comes OneHolds 0 Locked
locks n views h small = elim h.rests [ inl e ↦ comes-late n views h e | inr r ↦ comes-first n views r.1 ]

-- who looks changes nothing
pub looks : (id : ℕ) (v : Hold) → Keeps OneHolds id v (λ n. n) (λ n _. Unit {0})
looks id v n views h at small = (v, subst (OneHolds n) (sym (set_again views id v at)) h, tt)

-- whoever takes the lock while the word is 0 holds nothing, of those who held nothing
takes-late : (id n : ℕ) (views : List Hold) → OneHolds n views → n ≡ 0 → (w : Hold) × OneHolds 0 (set views id w) × Locked n w
takes-late id n views h e =
    let old : (j : ℕ) → get_elem? (set views id Free) j ≡ some Held → get_elem? views j ≡ some Held =
    λ j p. ⊎_elim (λ (x : (j ≡ id) × (Free ≡ Held)). absurd (free-not-held x.1)) (λ (x : (j ≢ id) × (get_elem? views j ≡ some Held)). x.1) (at_set views id j Free Held p) in
    (Free, record { one = λ i j p q. h.one i j (old i p) (old j q); rests = inl refl }, λ two. absurd (omega arith))

takes-first : (id n : ℕ) (views : List Hold) → ((i : ℕ) → get_elem? views i ≡ some Held → ⊥) → (w : Hold) × OneHolds 0 (set views id w) × Locked n w
takes-first id n views none =
    let only : (j : ℕ) → get_elem? (set views id Held) j ≡ some Held → j ≡ id =
    λ j p. ⊎_elim (λ (x : (j ≡ id) × (Held ≡ Held)). x.0) (λ (x : (j ≢ id) × (get_elem? views j ≡ some Held)). absurd (none j x.1)) (at_set views id j Held Held p) in
    (Held, record { one = λ i j p q. only i p ∙ sym (only j q); rests = inl refl }, λ _. refl)

pub takes : (id : ℕ) (v : Hold) → Keeps OneHolds id v (λ _. 0) Locked
takes id v n views h at small = elim h.rests [ inl e ↦ takes-late id n views h e | inr r ↦ takes-first id n views r.1 ]

-- whoever has the lock finds the word 0
lets-rest : (id n : ℕ) (views : List Hold) → OneHolds n views → get_elem? views id ≡ some Held → n ≡ 0 → (w : Hold) × OneHolds (either (n == 0) 2 n) (set views id w) × Unlocked n
lets-rest id n views h mine e =
    let none : (i : ℕ) → get_elem? (set views id Free) i ≡ some Held → ⊥ =
    λ i p. ⊎_elim (λ (x : (i ≡ id) × (Free ≡ Held)). free-not-held x.1) (λ (x : (i ≢ id) × (get_elem? views i ≡ some Held)). x.0 (h.one i id x.1 mine)) (at_set views id i Free Held p) in
    (Free, record { one = λ i j p q. absurd (none i p); rests = inr (ap (λ (k : ℕ). either (k == 0) 2 k) e, none) }, e)

pub unlocks : (id : ℕ) (v : Hold) → v ≡ Held → Keeps OneHolds id v (λ n. either (n == 0) 2 n) (λ n _. Unlocked n)
unlocks id v held n views h at small =
    let mine = at ∙ ap some held in
    elim h.rests [ inl e ↦ lets-rest id n views h mine e | inr r ↦ absurd (r.1 id mine) ]
