-- The calls of a history, counted pass by pass.
use Rattle.std.proofs.Common.{◌≡◌, ◌≢◌, inl, inr, ℕ, zero, suc, ◌+◌, ◌<◌, ◌≤◌, if◌then◌else◌, Bool, true, false, eqb, eq-eqb, ne_eqb, List, [], ◌∷◌, length, refl, sym, ap, ◌∙◌, subst, arith}
use mathlib.Core.Logic.{dite}
use native.Mathlib.Decide.{ℕ_discrete}
use Rattle.std.proofs.lemmas.Bool.{cases_lt}
use Rattle.syntax.specs.Lists.{Every}
use Rattle.recorded_calls.specs.declared.entry.Entry.{Entry}
use Rattle.recorded_calls.specs.History.{kept_if, calls_by, NoCallsFrom}
use Rattle.object_workers.specs.Dealt.{total}
use Rattle.object_workers.specs.Runs.{steps_in}

rest_empty : {X : Type 0} (b : Bool) (x : X) (xs : List X) → kept_if b x xs ≡ [] → xs ≡ []
rest_empty true x xs is = absurd (cc is)
rest_empty false x xs is = is

rest_every : {X : Type 0} (P : X → Type 0) (b : Bool) (x : X) (xs : List X) → Every P (kept_if b x xs) → Every P xs
rest_every P true x xs all = all.1
rest_every P false x xs all = all

module _ {C R : Type 0} where
  call_here : (n : ℕ) (e : Entry C R) (es : List (Entry C R)) → n ≡ e.pass → calls_by n (e ∷ es) ≡ e ∷ calls_by n es
  call_here n e es is = ap (λ (b : Bool). kept_if b e (calls_by n es)) (eq-eqb n e.pass is)

  call_else : (n : ℕ) (e : Entry C R) (es : List (Entry C R)) → n ≢ e.pass → calls_by n (e ∷ es) ≡ calls_by n es
  call_else n e es not = ap (λ (b : Bool). kept_if b e (calls_by n es)) (ne_eqb n e.pass not)

  -- what holds of the calls of each pass holds of all calls
  pub by_passes : (P : Entry C R → Type 0) (log : List (Entry C R)) → ((n : ℕ) → Every P (calls_by n log)) → Every P log
  by_passes P [] each = tt
  by_passes P (e ∷ es) each =
      let here : Every P (e ∷ calls_by e.pass es) = subst (Every P) (call_here e.pass e es refl) (each e.pass) in
      (here.0, by_passes P es (λ n. rest_every P (eqb n e.pass) e (calls_by n es) (each n)))

  -- where no call is of a pass of this number or a greater one, the first is of a lesser one
  first_below : (count : ℕ) (e : Entry C R) (es : List (Entry C R)) → NoCallsFrom count (e ∷ es) → e.pass < count
  first_below count e es none = elim (cases_lt e.pass count) [ inl less ↦ less | inr past ↦ absurd (cc (sym (call_here e.pass e es refl) ∙ none e.pass past)) ]

  -- the calls of one pass after the other, from this number on
  abbrev pub CallsAre : ℕ → List (Entry C R) → List (List (Entry C R)) → Type 0
  CallsAre first log [] = Unit {0}
  CallsAre first log (calls ∷ rest) = (calls_by first log ≡ calls) × CallsAre (suc first) log rest

  -- what holds of each of these holds of the calls of a pass among them
  pub one_of_them : (P : Entry C R → Type 0) (first n : ℕ) (log : List (Entry C R)) (lists : List (List (Entry C R))) → CallsAre first log lists → Every (Every P) lists → first ≤ n → n < first + length lists
      → Every P (calls_by n log)
  one_of_them P first n log [] are all low high = absurd (omega arith)
  one_of_them P first n log (calls ∷ rest) are all low high =
      dite (ℕ_discrete n first)
      (λ is. subst (λ (m : ℕ). Every P (calls_by m log)) (sym is) (subst (Every P) (sym are.0) all.0))
      (λ ne. one_of_them P (suc first) n log rest are.1 all.1 (omega arith) (omega arith))

  module _ (steps : R → Bool) where
    -- how many calls of so many passes, from this number on, were steps
    abbrev pub steps_from : ℕ → ℕ → List (Entry C R) → ℕ
    steps_from first zero log = 0
    steps_from first (suc count) log = steps_in steps (calls_by first log) + steps_from (suc first) count log

    pub steps_are : (first : ℕ) (log : List (Entry C R)) (lists : List (List (Entry C R))) → CallsAre first log lists → total (steps_in steps) lists ≡ steps_from first (length lists) log
    steps_are first log [] are = refl
    steps_are first log (calls ∷ rest) are =
        let here : steps_in steps (calls_by first log) ≡ steps_in steps calls = ap (steps_in steps) are.0 in
        let others = steps_are (suc first) log rest are.1 in
        λ i. sym here i + others i

    none_there : (first count : ℕ) (log : List (Entry C R)) → log ≡ [] → steps_from first count log ≡ 0
    none_there first zero log is = refl
    none_there first (suc count) log is =
        let here : steps_in steps (calls_by first log) ≡ 0 = ap (λ (l : List (Entry C R)). steps_in steps (calls_by first l)) is in
        let others = none_there (suc first) count log is in
        omega (arith, here, others)

    -- a call of an earlier pass does not count
    call_before : (first count : ℕ) (e : Entry C R) (es : List (Entry C R)) → e.pass < first → steps_from first count (e ∷ es) ≡ steps_from first count es
    call_before first zero e es less = refl
    call_before first (suc count) e es less =
        let here : steps_in steps (calls_by first (e ∷ es)) ≡ steps_in steps (calls_by first es) = ap (steps_in steps) (call_else first e es (omega arith)) in
        let others = call_before (suc first) count e es (omega arith) in
        λ i. here i + others i

    -- one of these counts once
    call_among : (first count : ℕ) (e : Entry C R) (es : List (Entry C R)) → first ≤ e.pass → e.pass < first + count
        → steps_from first count (e ∷ es) ≡ (if steps e.reply then 1 else 0) + steps_from first count es
    call_among first zero e es low high = absurd (omega arith)
    call_among first (suc count) e es low high =
        dite (ℕ_discrete first e.pass)
        (λ is.
        let here : steps_in steps (calls_by first (e ∷ es)) ≡ (if steps e.reply then 1 else 0) + steps_in steps (calls_by first es) = ap (steps_in steps) (call_here first e es is) in
        let others = call_before (suc first) count e es (omega arith) in
        omega (arith, here, others))
        (λ ne.
        let here : steps_in steps (calls_by first (e ∷ es)) ≡ steps_in steps (calls_by first es) = ap (steps_in steps) (call_else first e es ne) in
        let others = call_among (suc first) count e es (omega arith) (omega arith) in
        omega (arith, here, others))

    -- where nobody else made a call the steps of the passes are all
    pub all_counted : (count : ℕ) (log : List (Entry C R)) → NoCallsFrom count log → steps_in steps log ≡ steps_from 0 count log
    all_counted count [] none = sym (none_there 0 count [] refl)
    all_counted count (e ∷ es) none =
        let less = first_below count e es none in
        let rest = all_counted count es (λ n past. rest_empty (eqb n e.pass) e (calls_by n es) (none n past)) in
        let here = call_among 0 count e es (omega arith) (omega arith) in
        ap (λ (n : ℕ). (if steps e.reply then 1 else 0) + n) rest ∙ sym here
