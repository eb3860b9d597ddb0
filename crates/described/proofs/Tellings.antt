-- What procedures tell, by their numbers.
use Rattle.std.proofs.Common.{◌≡◌, ℕ, zero, suc, ◌+◌, ◌<◌, ◌≤◌, List, [], ◌∷◌, ◌++◌, Option, None, Some, length, take, refl, ap, sym, ◌∙◌, arith, length-append, get_or, reverse, slice_get}
use Rattle.std.proofs.lemmas.List.{get_or_push, get_or_append_left, get_or_past, reverse-append}
use Rattle.std.proofs.lemmas.Option.{slice_get_within}
use Rattle.types.specs.declared.tree.Procedure.{Procedure}
use Rattle.described.specs.Telling.{Found, Telling, missing, told_by, entered_by, with_call, tell_calls, tell_body, telling_of, tellings_onto, tellings}
use Rattle.described.specs.declared.body_calls.BodyCall.{BodyCall}
use Rattle.described.specs.declared.walk.Entered.{Entered}
use Rattle.described.specs.declared.walk.Pending.{Pending}
use Rattle.described.specs.internal.Pendings.{pending_of, tell_pending, leads}

-- ---- lists

value_or : {A : Type 0} → A → Option A → A
value_or x None = x
value_or x (Some y) = y

same_if_some : {A : Type 0} (x y : A) → Some x ≡ Some y → x ≡ y
unfolding value_or
same_if_some x y h = ap (value_or x) h

-- where there is no element of a number, there are not so many
none_past : {A : Type 0} (xs : List A) (k : ℕ) → slice_get xs k ≡ None → length xs ≤ k
none_past [] k h = omega arith
none_past (x ∷ xs) zero h = cc
none_past (x ∷ xs) (suc k) h = let m : length xs ≤ k = none_past xs k h in omega (arith, m)

take_take : {A : Type 0} (n k : ℕ) (xs : List A) → k ≤ n → take k (take n xs) ≡ take k xs
take_take n zero xs le = refl
take_take zero (suc k) xs le = absurd (omega (arith, le))
take_take (suc n) (suc k) [] le = refl
take_take {A} (suc n) (suc k) (x ∷ xs) le = ap (λ (ys : List A). x ∷ ys) (take_take n k xs (omega (arith, le)))

take_short : {A : Type 0} (n : ℕ) (xs : List A) → length (take n xs) ≤ n
take_short zero xs = omega arith
take_short (suc n) [] = omega arith
take_short (suc n) (x ∷ xs) = let m : length (take n xs) ≤ n = take_short n xs in omega (arith, m)

-- the last one pushed is the first one back
pub last_first : {A : Type 0} (xs ys : List A) (x : A) → ys ≡ xs ++ x ∷ [] → reverse ys ≡ x ∷ reverse xs
last_first xs ys x e = ap reverse e ∙ reverse-append xs (x ∷ [])

-- ---- tellings

-- those before stay what they are
front_kept : (es : List Telling) (ps : List Procedure) (k : ℕ) → k < length es → get_or (tellings_onto es ps) k missing ≡ get_or es k missing
front_kept es [] k lt = refl
front_kept es (p ∷ ps) k lt =
    let more : k < length (es ++ telling_of es p ∷ []) = omega (arith, lt, length-append es (telling_of es p ∷ [])) in
    front_kept (es ++ telling_of es p ∷ []) ps k more ∙ get_or_append_left es (telling_of es p ∷ []) missing k lt

-- as many as the procedures
many : (es : List Telling) (ps : List Procedure) → length (tellings_onto es ps) ≡ length es + length ps
many es [] = omega arith
many es (p ∷ ps) =
    let rest : length (tellings_onto (es ++ telling_of es p ∷ []) ps) ≡ length (es ++ telling_of es p ∷ []) + length ps = many (es ++ telling_of es p ∷ []) ps in
    omega (arith, rest, length-append es (telling_of es p ∷ []))

-- each procedure tells over those before it
told_onto : (es : List Telling) (ps : List Procedure) (k i : ℕ) (p : Procedure) → i ≡ length es + k → slice_get ps k ≡ Some p
    → get_or (tellings_onto es ps) i missing ≡ telling_of (tellings_onto es (take k ps)) p
told_onto es [] k i p at h = cc
told_onto es (q ∷ ps) zero i p at h =
    let here : length es ≡ i = omega (arith, at) in
    let within : i < length (es ++ telling_of es q ∷ []) = omega (arith, here, length-append es (telling_of es q ∷ [])) in
    front_kept (es ++ telling_of es q ∷ []) ps i within
    ∙ (get_or_push es (telling_of es q) missing i here ∙ ap (telling_of es) (same_if_some q p h))
told_onto es (q ∷ ps) (suc k) i p at h =
    let next : i ≡ length (es ++ telling_of es q ∷ []) + k = omega (arith, at, length-append es (telling_of es q ∷ [])) in
    told_onto (es ++ telling_of es q ∷ []) ps k i p next h

told_of : (ps : List Procedure) (k : ℕ) (p : Procedure) → slice_get ps k ≡ Some p → told_by (tellings ps) k ≡ telling_of (tellings (take k ps)) p
told_of ps k p h = told_onto [] ps k k p (omega arith) h

told_none : (ps : List Procedure) (k : ℕ) → slice_get ps k ≡ None → told_by (tellings ps) k ≡ missing
told_none ps k h =
    let past : length (tellings ps) ≤ k = omega (arith, many [] ps, none_past ps k h) in
    get_or_past (tellings ps) k missing past

-- ---- calls that are still to be told

-- one tells its call, and what is in the body of its procedure
pub pending_told : (ps : List Procedure) (w : Pending) (p : Procedure) (f : Found) → slice_get (take w.earlier ps) w.procedure ≡ Some p
    → tell_pending ps w f ≡ tell_body (tellings (take w.procedure ps)) p w.entered (with_call w.entered p.name w.line f)
pending_told ps w p f h =
    let within : w.procedure < length (take w.earlier ps) = slice_get_within (take w.earlier ps) w.procedure p h in
    let few : w.procedure ≤ w.earlier = omega (arith, within, take_short w.earlier ps) in
    ap (λ (t : Telling). t w.entered w.line f) (told_of (take w.earlier ps) w.procedure p h)
    ∙ ap (λ (before : List Procedure). tell_body (tellings before) p w.entered (with_call w.entered p.name w.line f)) (take_take w.earlier w.procedure ps few)

pub pending_none : (ps : List Procedure) (w : Pending) (f : Found) → slice_get (take w.earlier ps) w.procedure ≡ None → tell_pending ps w f ≡ f
pending_none ps w f h = ap (λ (t : Telling). t w.entered w.line f) (told_none (take w.earlier ps) w.procedure h)

-- the last of the calls of a body
calls_pushed : (es : List Telling) (e : Entered) (passed n : ℕ) (cs : List BodyCall) (c : BodyCall) (f : Found) → n ≡ passed + length cs + 1
    → tell_calls es e passed (cs ++ c ∷ []) f ≡ told_by es c.procedure (entered_by e n c) c.line (tell_calls es e passed cs f)
calls_pushed es e passed n [] c f at =
    let same : passed + 1 ≡ n = omega (arith, at) in
    ap (λ k. told_by es c.procedure (entered_by e k c) c.line f) same
calls_pushed es e passed n (d ∷ cs) c f at =
    calls_pushed es e (passed + 1) n cs c (told_by es d.procedure (entered_by e (passed + 1) d) d.line f) (omega (arith, at))

-- a call that goes from the end of a body's calls onto the work tells the same
pub one_put : (ps : List Procedure) (earlier n : ℕ) (e : Entered) (old rest : List BodyCall) (c : BodyCall) (work more : List Pending) (f : Found)
    → old ≡ rest ++ c ∷ [] → n ≡ length old → more ≡ work ++ pending_of e earlier n c ∷ []
    → leads ps (reverse more) (tell_calls (tellings (take earlier ps)) e 0 rest f) ≡ leads ps (reverse work) (tell_calls (tellings (take earlier ps)) e 0 old f)
one_put ps earlier n e old rest c work more f is number put =
    let es = tellings (take earlier ps) in
    let at : n ≡ 0 + length rest + 1 = omega (arith, number, ap length is, length-append rest (c ∷ [])) in
    ap (λ (ws : List Pending). leads ps ws (tell_calls es e 0 rest f)) (last_first work more (pending_of e earlier n c) put)
    ∙ ap (leads ps (reverse work)) (sym (ap (λ (cs : List BodyCall). tell_calls es e 0 cs f) is ∙ calls_pushed es e 0 n rest c f at))
