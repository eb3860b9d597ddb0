-- Beginnings of one list, and the calls of one pass in it.
use Rattle.std.proofs.Common.{◌≡◌, ◌≢◌, ◌⊎◌, inl, inr, ℕ, ◌≤◌, List, [], ◌∷◌, ◌++◌, length, Bool, true, false, eqb, eq-eqb, ne_eqb, refl, ap, sym, ◌∙◌, arith, append_assoc, append-nil, length-append}
use mathlib.Core.List.{IsPrefix}
use Rattle.recorded_calls.specs.declared.entry.Entry.{Entry}
use Rattle.recorded_calls.specs.History.{kept_if, calls_by}

pub prefix_same : {A : Type 0} (xs ys : List A) → xs ≡ ys → IsPrefix xs ys
prefix_same xs ys e = ([], append-nil xs ∙ e)

pub prefix_trans : {A : Type 0} (xs ys zs : List A) → IsPrefix xs ys → IsPrefix ys zs → IsPrefix xs zs
prefix_trans xs ys zs p q = (p.0 ++ q.0, sym (append_assoc xs p.0 q.0) ∙ (ap (λ w. w ++ q.0) p.1 ∙ q.1))

pub prefix_more : {A : Type 0} (xs ys zs : List A) → IsPrefix xs ys → IsPrefix xs (ys ++ zs)
prefix_more xs ys zs p = prefix_trans xs ys (ys ++ zs) p (zs, refl)

-- of two beginnings of one list the shorter begins the longer
pub prefix_shorter : {A : Type 0} (xs ys zs : List A) → IsPrefix xs zs → IsPrefix ys zs → length xs ≤ length ys → IsPrefix xs ys
prefix_shorter [] ys zs p q le = (ys, refl)
prefix_shorter (x ∷ xs) [] zs p q le = absurd (omega arith)
prefix_shorter (x ∷ xs) (y ∷ ys) [] p q le = absurd (cc (p.1))
prefix_shorter (x ∷ xs) (y ∷ ys) (z ∷ zs) p q le =
    let heads : x ≡ y = cc (p.1, q.1) in
    let rest = prefix_shorter xs ys zs (p.0, cc (p.1)) (q.0, cc (q.1)) (omega arith) in
    (rest.0, cc (heads, rest.1))

-- a beginning as long as the whole is the whole
pub prefix_whole : {A : Type 0} (xs ys : List A) → IsPrefix xs ys → length ys ≤ length xs → xs ≡ ys
prefix_whole [] [] p le = refl
prefix_whole [] (y ∷ ys) p le = absurd (omega arith)
prefix_whole (x ∷ xs) [] p le = absurd (cc (p.1))
prefix_whole (x ∷ xs) (y ∷ ys) p le =
    let rest = prefix_whole xs ys (p.0, cc (p.1)) (omega arith) in cc (p.1, rest)

pub prefix_length : {A : Type 0} (xs ys : List A) → IsPrefix xs ys → length xs ≤ length ys
prefix_length xs ys p = omega (arith, sym (ap length p.1) ∙ length-append xs p.0)

-- two lists that begin one another are one
pub prefix_both : {A : Type 0} (xs ys : List A) → IsPrefix xs ys → IsPrefix ys xs → xs ≡ ys
prefix_both xs ys p q = prefix_whole xs ys p (prefix_length ys xs q)

kept_append : {X : Type 0} (b : Bool) (x : X) (xs ys : List X) → kept_if b x (xs ++ ys) ≡ kept_if b x xs ++ ys
kept_append true x xs ys = refl
kept_append false x xs ys = refl

module _ {C R : Type 0} where
  pub calls_append : (n : ℕ) (xs ys : List (Entry C R)) → calls_by n (xs ++ ys) ≡ calls_by n xs ++ calls_by n ys
  calls_append n [] ys = refl
  calls_append n (x ∷ xs) ys = ap (kept_if (eqb n x.pass) x) (calls_append n xs ys) ∙ kept_append (eqb n x.pass) x (calls_by n xs) (calls_by n ys)

  pub calls_prefix : (n : ℕ) (xs ys : List (Entry C R)) → IsPrefix xs ys → IsPrefix (calls_by n xs) (calls_by n ys)
  calls_prefix n xs ys p = (calls_by n p.0, sym (calls_append n xs p.0) ∙ ap (calls_by n) p.1)

  pub calls_here : (n : ℕ) (xs : List (Entry C R)) (e : Entry C R) → n ≡ e.pass → calls_by n (xs ++ e ∷ []) ≡ calls_by n xs ++ e ∷ []
  calls_here n xs e is = calls_append n xs (e ∷ []) ∙ ap (λ (b : Bool). calls_by n xs ++ kept_if b e []) (eq-eqb n e.pass is)

  pub calls_else : (n : ℕ) (xs : List (Entry C R)) (e : Entry C R) → n ≢ e.pass → calls_by n (xs ++ e ∷ []) ≡ calls_by n xs
  calls_else n xs e not = calls_append n xs (e ∷ []) ∙ ap (λ (b : Bool). calls_by n xs ++ kept_if b e []) (ne_eqb n e.pass not) ∙ append-nil (calls_by n xs)

-- a function changed at one place
abbrev pub chosen : {A : Type 0} → Bool → A → A → A
chosen true a b = a
chosen false a b = b

abbrev pub changed : {A : Type 0} → (ℕ → A) → ℕ → A → ℕ → A
changed f n a k = chosen (eqb k n) a (f k)

module _ {A : Type 0} (f : ℕ → A) (n : ℕ) (a : A) where
  pub changed_here : (k : ℕ) → k ≡ n → changed f n a k ≡ a
  changed_here k is = ap (λ (b : Bool). chosen b a (f k)) (eq-eqb k n is)

  pub changed_else : (k : ℕ) → k ≢ n → changed f n a k ≡ f k
  changed_else k not = ap (λ (b : Bool). chosen b a (f k)) (ne_eqb k n not)

-- A pass has made `own` and then says e. Of the longer list that stands for it now, the history has the calls before e or all of
-- them, and no more than `own` by what the pass was told: so it has `own`, and the list is that and e
module _ {A : Type 0} (own says own' says' calls : List A) (e : A) where
  pub next_said : says ≡ e ∷ [] → IsPrefix (own ++ says) (own' ++ says') → length says' ≤ 1 → (calls ≡ own') ⊎ (calls ≡ own' ++ says') → IsPrefix calls own
      → (calls ≡ own) × (own' ≡ own) × (own' ++ says' ≡ own ++ says)
  next_said is p few (inl c) q =
      let long = prefix_length (own ++ says) (own' ++ says') p in
      let short = prefix_length calls own q in
      let one : length says ≡ 1 = ap length is in
      let l = length-append own says in
      let l' = length-append own' says' in
      let lc : length calls ≡ length own' = ap length c in
      let whole : calls ≡ own = prefix_whole calls own q (omega arith) in
      (whole, sym c ∙ whole, sym (prefix_whole (own ++ says) (own' ++ says') p (omega arith)))
  next_said is p few (inr c) q =
      let long = prefix_length (own ++ says) (own' ++ says') p in
      let short = prefix_length calls own q in
      let one : length says ≡ 1 = ap length is in
      let l = length-append own says in
      let lc : length calls ≡ length (own' ++ says') = ap length c in
      absurd (omega arith)
