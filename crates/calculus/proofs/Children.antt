-- Children of a sequence or a parallel, put together from the last on.
use Rattle.std.proofs.Common.{◌≡◌, ℕ, suc, ◌+◌, List, [], ◌∷◌, ◌++◌, length, map, refl, sym, ap, ◌∙◌, zero-add, arith}
use Rattle.std.proofs.lemmas.List.{map-append, length-map}
use Rattle.system.specs.Residual.{Residual, done, within, along}
use Rattle.system.specs.Translation.{in_sequence, in_parallel}
use Rattle.calculus.specs.declared.residual_tree.ResidualTree.{ResidualTree}
use Rattle.calculus.specs.ResidualTree.{residual_of_tree}

-- children of a sequence from place n on, and then `next`
abbrev pub sequence_onto : ℕ → List Residual → Residual → Residual
sequence_onto n [] next = next
sequence_onto n (r ∷ rs) next = within n r (sequence_onto (suc n) rs next)

-- children of a parallel from branch n on, beside `rest`
abbrev pub parallel_onto : ℕ → List Residual → Residual → Residual
parallel_onto n [] rest = rest
parallel_onto n (r ∷ rs) rest = along n r (parallel_onto (suc n) rs rest)

-- with nothing after the last, it is the sequence
sequence_onto_done : (n : ℕ) (rs : List Residual) → sequence_onto n rs done ≡ in_sequence n rs
sequence_onto_done n [] = refl
sequence_onto_done n (r ∷ rs) = ap (within n r) (sequence_onto_done (suc n) rs)

-- before the first step nothing is put together
pub sequence_begins : (n : ℕ) (rs : List Residual) (next : Residual) → next ≡ done → sequence_onto n rs next ≡ in_sequence n rs
sequence_begins n rs next h = ap (sequence_onto n rs) h ∙ sequence_onto_done n rs

-- the last child from n on stands at n and the number of those before it
sequence_onto_last : (n : ℕ) (rs : List Residual) (r next : Residual)
    → sequence_onto n (rs ++ r ∷ []) next ≡ sequence_onto n rs (within (n + length rs) r next)
sequence_onto_last n [] r next = ap (λ k. within k r next) (let e : n ≡ n + 0 = omega arith in e)
sequence_onto_last n (a ∷ rs) r next =
    ap (within n a) (sequence_onto_last (suc n) rs r next
    ∙ ap (λ k. sequence_onto (suc n) rs (within k r next)) (let e : suc n + length rs ≡ n + suc (length rs) = omega arith in e))

-- one step: the last of the children that are left is put before what is made so far
pub sequence_goes_on : (whole : Residual) (old rest : List ResidualTree) (child left made : ResidualTree) (n : ℕ) → old ≡ rest ++ child ∷ [] → n ≡ length rest
    → residual_of_tree made ≡ within n (residual_of_tree child) (residual_of_tree left)
    → sequence_onto 0 (map residual_of_tree old) (residual_of_tree left) ≡ whole
    → sequence_onto 0 (map residual_of_tree rest) (residual_of_tree made) ≡ whole
sequence_goes_on whole old rest child left made n h k g w =
    let f : ResidualTree → Residual = residual_of_tree in
    ap (sequence_onto 0 (map f rest)) (g ∙ ap (λ m. within m (f child) (f left)) (k ∙ sym (length-map rest f) ∙ sym (zero-add (length (map f rest)))))
    ∙ sym (sequence_onto_last 0 (map f rest) (f child) (f left))
    ∙ ap (λ xs. sequence_onto 0 xs (f left)) (sym (map-append f rest (child ∷ [])))
    ∙ ap (λ xs. sequence_onto 0 (map f xs) (f left)) (sym h)
    ∙ w

-- with nothing after the last, it is the parallel
parallel_onto_done : (n : ℕ) (rs : List Residual) → parallel_onto n rs done ≡ in_parallel n rs
parallel_onto_done n [] = refl
parallel_onto_done n (r ∷ rs) = ap (along n r) (parallel_onto_done (suc n) rs)

-- before the first step nothing is put together
pub parallel_begins : (n : ℕ) (rs : List Residual) (rest_of : Residual) → rest_of ≡ done → parallel_onto n rs rest_of ≡ in_parallel n rs
parallel_begins n rs rest_of h = ap (parallel_onto n rs) h ∙ parallel_onto_done n rs

-- the last child from n on stands at n and the number of those before it
parallel_onto_last : (n : ℕ) (rs : List Residual) (r rest_of : Residual)
    → parallel_onto n (rs ++ r ∷ []) rest_of ≡ parallel_onto n rs (along (n + length rs) r rest_of)
parallel_onto_last n [] r rest_of = ap (λ k. along k r rest_of) (let e : n ≡ n + 0 = omega arith in e)
parallel_onto_last n (a ∷ rs) r rest_of =
    ap (along n a) (parallel_onto_last (suc n) rs r rest_of
    ∙ ap (λ k. parallel_onto (suc n) rs (along k r rest_of)) (let e : suc n + length rs ≡ n + suc (length rs) = omega arith in e))

-- one step: the last of the children that are left is put before what is made so far
pub parallel_goes_on : (whole : Residual) (old rest : List ResidualTree) (child left made : ResidualTree) (n : ℕ) → old ≡ rest ++ child ∷ [] → n ≡ length rest
    → residual_of_tree made ≡ along n (residual_of_tree child) (residual_of_tree left)
    → parallel_onto 0 (map residual_of_tree old) (residual_of_tree left) ≡ whole
    → parallel_onto 0 (map residual_of_tree rest) (residual_of_tree made) ≡ whole
parallel_goes_on whole old rest child left made n h k g w =
    let f : ResidualTree → Residual = residual_of_tree in
    ap (parallel_onto 0 (map f rest)) (g ∙ ap (λ m. along m (f child) (f left)) (k ∙ sym (length-map rest f) ∙ sym (zero-add (length (map f rest)))))
    ∙ sym (parallel_onto_last 0 (map f rest) (f child) (f left))
    ∙ ap (λ xs. parallel_onto 0 xs (f left)) (sym (map-append f rest (child ∷ [])))
    ∙ ap (λ xs. parallel_onto 0 (map f xs) (f left)) (sym h)
    ∙ w
