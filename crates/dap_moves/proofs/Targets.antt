-- The elements of a list that pass a test, one after another.
use Rattle.std.proofs.Common.{◌≡◌, ℕ, zero, suc, ◌+◌, ◌-◌, ◌<◌, List, ◌∷◌, ◌++◌, length, drop, get_or, cond, Bool, true, false, Some, sym, ap, ◌∙◌, arith}
use Rattle.std.specs.List.{filter}
use Rattle.std.specs.Prelude.{slice_get}
use Rattle.std.proofs.lemmas.List.{drop_more}

-- the next element stands before the rest
at-element : {X : Type 0} (xs : List X) (i : ℕ) (x : X) → i < length xs → x ≡ get_or xs i x → drop i xs ≡ x ∷ drop (i + 1) xs
at-element xs i x less is = drop_more xs i x less ∙ ap (λ y. y ∷ drop (i + 1) xs) (sym is)

-- one that does not pass
pub passed-over : {X : Type 0} (p : X → Bool) (xs more : List X) (i n : ℕ) (x : X) → i < length xs → x ≡ get_or xs i x → p x ≡ false →
    slice_get (filter p (drop i xs) ++ more) n ≡ slice_get (filter p (drop (i + 1) xs) ++ more) n
passed-over {X} p xs more i n x less is e =
    let rest = drop (i + 1) xs in
    ap (λ (ys : List X). slice_get (filter p ys ++ more) n) (at-element xs i x less is)
    ∙ ap (λ (b : Bool). slice_get (cond b (x ∷ filter p rest) (filter p rest) ++ more) n) e

behind-first : {X : Type 0} (x : X) (xs : List X) (n : ℕ) → 0 < n → slice_get (x ∷ xs) n ≡ slice_get xs (n - 1)
behind-first x xs zero some = absurd (omega arith)
behind-first {X} x xs (suc n) some = let e : n ≡ suc n - 1 = omega arith in ap (λ (m : ℕ). slice_get {X = X} xs m) e

-- one that passes, and is not the one that is looked for
pub counted : {X : Type 0} (p : X → Bool) (xs more : List X) (i n : ℕ) (x : X) → i < length xs → x ≡ get_or xs i x → p x ≡ true → 0 < n →
    slice_get (filter p (drop i xs) ++ more) n ≡ slice_get (filter p (drop (i + 1) xs) ++ more) (n - 1)
counted {X} p xs more i n x less is e some =
    let rest = drop (i + 1) xs in
    ap (λ (ys : List X). slice_get (filter p ys ++ more) n) (at-element xs i x less is)
    ∙ ap (λ (b : Bool). slice_get (cond b (x ∷ filter p rest) (filter p rest) ++ more) n) e
    ∙ behind-first x (filter p rest ++ more) n some

-- the one that is looked for
pub is-here : {X : Type 0} (p : X → Bool) (xs more : List X) (i n : ℕ) (x : X) → i < length xs → x ≡ get_or xs i x → p x ≡ true → n ≡ 0 →
    slice_get (filter p (drop i xs) ++ more) n ≡ Some x
is-here {X} p xs more i n x less is e first =
    let rest = drop (i + 1) xs in
    ap (λ (ys : List X). slice_get (filter p ys ++ more) n) (at-element xs i x less is)
    ∙ ap (λ (b : Bool). slice_get (cond b (x ∷ filter p rest) (filter p rest) ++ more) n) e
    ∙ ap (λ (m : ℕ). slice_get (x ∷ (filter p rest ++ more)) m) first

-- the same where nothing stands behind
pub passed-alone : {X : Type 0} (p : X → Bool) (xs : List X) (i n : ℕ) (x : X) → i < length xs → x ≡ get_or xs i x → p x ≡ false →
    slice_get (filter p (drop i xs)) n ≡ slice_get (filter p (drop (i + 1) xs)) n
passed-alone {X} p xs i n x less is e =
    let rest = drop (i + 1) xs in
    ap (λ (ys : List X). slice_get (filter p ys) n) (at-element xs i x less is)
    ∙ ap (λ (b : Bool). slice_get (cond b (x ∷ filter p rest) (filter p rest)) n) e

pub counted-alone : {X : Type 0} (p : X → Bool) (xs : List X) (i n : ℕ) (x : X) → i < length xs → x ≡ get_or xs i x → p x ≡ true → 0 < n →
    slice_get (filter p (drop i xs)) n ≡ slice_get (filter p (drop (i + 1) xs)) (n - 1)
counted-alone {X} p xs i n x less is e some =
    let rest = drop (i + 1) xs in
    ap (λ (ys : List X). slice_get (filter p ys) n) (at-element xs i x less is)
    ∙ ap (λ (b : Bool). slice_get (cond b (x ∷ filter p rest) (filter p rest)) n) e
    ∙ behind-first x (filter p rest) n some

pub here-alone : {X : Type 0} (p : X → Bool) (xs : List X) (i n : ℕ) (x : X) → i < length xs → x ≡ get_or xs i x → p x ≡ true → n ≡ 0 →
    slice_get (filter p (drop i xs)) n ≡ Some x
here-alone {X} p xs i n x less is e first =
    let rest = drop (i + 1) xs in
    ap (λ (ys : List X). slice_get (filter p ys) n) (at-element xs i x less is)
    ∙ ap (λ (b : Bool). slice_get (cond b (x ∷ filter p rest) (filter p rest)) n) e
    ∙ ap (λ (m : ℕ). slice_get (x ∷ filter p rest) m) first
