-- Commands and processes in a row, one by one.
use Rattle.std.proofs.Common.{◌≡◌, ℕ, zero, suc, ◌+◌, min, List, [], ◌∷◌, ◌++◌, length, map, take, drop, None, get_or, ◌<◌, refl, sym, ap, ap₂, ◌∙◌, append_assoc, arith, rules}
use Rattle.value.specs.Word.{Word}
use Rattle.std.proofs.lemmas.List.{map-append}
use Rattle.system.specs.Residual.{Residual, within, along, arm, test, choose, put_residual}
use Rattle.system.specs.Translation.{in_sequence, in_parallel, arms_of, decision_of}
use Rattle.calculus.specs.ResidualTree.{residual_of_tree}
use Rattle.calculus.specs.declared.residual_tree.ResidualTree.{ResidualTree}
use Rattle.process_tree.specs.Remaining.{Received, puts, residual, residual_arms, residual_sequence, residual_parallel, remaining, remaining_sequence, remaining_parallel}
use Rattle.process_tree.specs.Proc.{all_started}
use Rattle.process_tree.specs.Translation.{row_of}
use Rattle.process_tree.specs.View.{code_view, proc_view, row_view, decide_view, await_view, procs_of, begun_of}
use Rattle.process_tree.specs.declared.code.Await.{Await}
use Rattle.process_tree.specs.declared.code.Code.{Code}
use Rattle.process_tree.specs.declared.code.Code.TheFolds.{the_lemmas}
use Rattle.process_tree.specs.declared.code.Decide.{Decide}
use Rattle.process_tree.specs.declared.code.Row.{Row}
use Rattle.process_tree.specs.declared.proc.Proc.{Proc}
use Rattle.process_tree.proofs.public.Puts.{left-started}
use Rattle.process_tree.proofs.public.Views.{row_codes}

next : (n : ℕ) → n + 1 ≡ suc n
next n = omega arith

-- what a command in memory is to do
abbrev pub to_do : Code → Residual
to_do c = residual (code_view c)

-- the same with the received values put
abbrev pub to_do_with : Received → Code → Residual
to_do_with env c = puts env (to_do c)

-- what a process in memory still has to do
abbrev pub still_to_do : Received → Proc → Residual
still_to_do env p = remaining env (proc_view p)

-- ---- commands
arms_listed : (cs : List Code) → residual_arms (row_of (map code_view cs)) ≡ arms_of (map to_do cs) None
arms_listed [] = refl
arms_listed (c ∷ cs) = ap (arm (to_do c)) (arms_listed cs)

sequence_listed : (cs : List Code) (n : ℕ) → residual_sequence n (row_of (map code_view cs)) ≡ in_sequence n (map to_do cs)
sequence_listed [] n = refl
sequence_listed (c ∷ cs) n = ap (within n (to_do c)) (sequence_listed cs (n + 1) ∙ ap (λ m. in_sequence m (map to_do cs)) (next n))

parallel_listed : (cs : List Code) (n : ℕ) → residual_parallel n (row_of (map code_view cs)) ≡ in_parallel n (map to_do cs)
parallel_listed [] n = refl
parallel_listed (c ∷ cs) n = ap (along n (to_do c)) (parallel_listed cs (n + 1) ∙ ap (λ m. in_parallel m (map to_do cs)) (next n))

-- children one after another
pub sequence_made : (row : Row) (codes : List Code) (lefts : List ResidualTree) (made : ResidualTree) → codes ≡ row.codes → map residual_of_tree lefts ≡ map to_do codes
    → residual_of_tree made ≡ in_sequence 0 (map residual_of_tree lefts) → residual_of_tree made ≡ residual_sequence 0 (row_view row)
sequence_made row codes lefts made is same h =
    h ∙ ap (in_sequence 0) (same ∙ ap (map to_do) is) ∙ sym (sequence_listed row.codes 0) ∙ ap (residual_sequence 0) (sym (row_codes row))

-- children side by side
pub parallel_made : (row : Row) (codes : List Code) (lefts : List ResidualTree) (made : ResidualTree) → codes ≡ row.codes → map residual_of_tree lefts ≡ map to_do codes
    → residual_of_tree made ≡ in_parallel 0 (map residual_of_tree lefts) → residual_of_tree made ≡ residual_parallel 0 (row_view row)
parallel_made row codes lefts made is same h =
    h ∙ ap (in_parallel 0) (same ∙ ap (map to_do) is) ∙ sym (parallel_listed row.codes 0) ∙ ap (residual_parallel 0) (sym (row_codes row))

-- a test, by its parts
test_parts : (d : Decide) → decide_view d ≡ (decision_of d.decision, row_of (map code_view d.arms))
test_parts d = search (rules, the_lemmas)

-- arms that wait, by theirs
await_parts : (a : Await) → await_view a ≡ (a.channels, row_of (map code_view a.arms))
await_parts a = search (rules, the_lemmas)

-- an `if` or `case`
pub test_made : (d : Decide) (codes : List Code) (lefts : List ResidualTree) (made : ResidualTree) → codes ≡ d.arms → map residual_of_tree lefts ≡ map to_do codes
    → residual_of_tree made ≡ test (decision_of d.decision) (arms_of (map residual_of_tree lefts) None)
    → residual_of_tree made ≡ test (decide_view d).0 (residual_arms (decide_view d).1)
test_made d codes lefts made is same h =
    h ∙ ap (λ rs. test (decision_of d.decision) (arms_of rs None)) (same ∙ ap (map to_do) is)
    ∙ ap (test (decision_of d.decision)) (sym (arms_listed d.arms))
    ∙ ap (λ p. test p.0 (residual_arms p.1)) (sym (test_parts d))

-- arms that wait
pub await_made : (a : Await) (codes : List Code) (lefts : List ResidualTree) (made : ResidualTree) → codes ≡ a.arms → map residual_of_tree lefts ≡ map to_do codes
    → residual_of_tree made ≡ choose a.channels (arms_of (map residual_of_tree lefts) None)
    → residual_of_tree made ≡ choose (await_view a).0 (residual_arms (await_view a).1)
await_made a codes lefts made is same h =
    h ∙ ap (λ rs. choose a.channels (arms_of rs None)) (same ∙ ap (map to_do) is)
    ∙ ap (choose a.channels) (sym (arms_listed a.arms))
    ∙ ap (λ p. choose p.0 (residual_arms p.1)) (sym (await_parts a))

-- ---- processes
procs_listed : (env : Received) (ps : List Proc) (n : ℕ) → remaining_parallel env n (procs_of (map proc_view ps)) ≡ in_parallel n (map (still_to_do env) ps)
procs_listed env [] n = refl
procs_listed env (p ∷ ps) n =
    ap (along n (still_to_do env p)) (procs_listed env ps (n + 1) ∙ ap (λ m. in_parallel m (map (still_to_do env) ps)) (next n))

all_taken : (ps : List Proc) → take (length ps) ps ≡ ps
all_taken [] = refl
all_taken (p ∷ ps) = ap (λ qs. p ∷ qs) (all_taken ps)

-- children side by side
pub procs_made : (env : Received) (ps : List Proc) (lefts : List ResidualTree) (made : ResidualTree) → map residual_of_tree lefts ≡ map (still_to_do env) (take (length ps) ps)
    → residual_of_tree made ≡ in_parallel 0 (map residual_of_tree lefts) → residual_of_tree made ≡ remaining_parallel env 0 (procs_of (map proc_view ps))
procs_made env ps lefts made same h =
    h ∙ ap (in_parallel 0) (same ∙ ap (map (still_to_do env)) (all_taken ps)) ∙ sym (procs_listed env ps 0)

-- children one after another of which none has begun
none_begun : (env : Received) (cs : List Code) (n : ℕ) → remaining_sequence env n (all_started (row_of (map code_view cs))) ≡ in_sequence n (map (to_do_with env) cs)
none_begun env [] n = refl
none_begun env (c ∷ cs) n =
    ap₂ (within n) (left-started (code_view c) env) (none_begun env cs (n + 1) ∙ ap (λ m. in_sequence m (map (to_do_with env) cs)) (next n))

-- of which so many have
begun_listed : (env : Received) (ps : List Proc) (cs : List Code) (k n : ℕ) → k ≡ min (length ps) (length cs)
    → remaining_sequence env n (begun_of (map proc_view ps) (row_of (map code_view cs))) ≡ in_sequence n (map (still_to_do env) (take k ps) ++ map (to_do_with env) (drop k cs))
begun_listed env [] cs zero n e = none_begun env cs n
begun_listed env [] cs (suc k) n e = absurd (omega (arith, e))
begun_listed env (p ∷ ps) [] zero n e = refl
begun_listed env (p ∷ ps) [] (suc k) n e = absurd (omega (arith, e))
begun_listed env (p ∷ ps) (c ∷ cs) zero n e = absurd (omega (arith, e))
begun_listed env (p ∷ ps) (c ∷ cs) (suc k) n e =
    ap (within n (still_to_do env p))
    (begun_listed env ps cs k (n + 1) (let f : k ≡ min (length ps) (length cs) = omega (arith, e) in f)
    ∙ ap (λ m. in_sequence m (map (still_to_do env) (take k ps) ++ map (to_do_with env) (drop k cs))) (next n))

none_taken : {A : Type 0} (n : ℕ) → take {A = A} n [] ≡ []
none_taken zero = refl
none_taken (suc n) = refl

all_dropped : {A : Type 0} (xs : List A) (k n : ℕ) → n + k ≡ length xs → take n (drop k xs) ≡ drop k xs
all_dropped [] zero n e = none_taken n
all_dropped [] (suc k) n e = none_taken n
all_dropped (x ∷ xs) zero zero e = absurd (omega (arith, e))
all_dropped (x ∷ xs) zero (suc n) e = ap (λ ys. x ∷ ys) (all_dropped xs zero n (let f : n + 0 ≡ length xs = omega (arith, e) in f))
all_dropped (x ∷ xs) (suc k) n e = all_dropped xs k n (let f : n + k ≡ length xs = omega (arith, e) in f)

-- and so they are put together
pub begun_made : (env : Received) (ps : List Proc) (row : Row) (codes : List Code) (k n : ℕ) (lefts all : List ResidualTree) (made : ResidualTree) → codes ≡ row.codes → k ≡ min (length ps) (length row.codes)
    → n + k ≡ length codes → map residual_of_tree lefts ≡ map (still_to_do env) (take k ps) → map residual_of_tree all ≡ map residual_of_tree lefts ++ map (to_do_with env) (take n (drop k codes))
    → residual_of_tree made ≡ in_sequence 0 (map residual_of_tree all) → residual_of_tree made ≡ remaining_sequence env 0 (begun_of (map proc_view ps) (row_view row))
begun_made env ps row codes k n lefts all made is e count begun more h =
    h ∙ ap (in_sequence 0) (more ∙ ap₂ (λ xs cs. xs ++ map (to_do_with env) cs) begun (all_dropped codes k n count ∙ ap (drop k) is))
    ∙ sym (begun_listed env ps row.codes k 0 e)
    ∙ ap (λ cs. remaining_sequence env 0 (begun_of (map proc_view ps) cs)) (sym (row_codes row))

-- ---- received values
-- the outermost that is left is put first
pub one_put : (xs : Received) (i : ℕ) (c d : ℕ × Word) (r : Residual) → i < length xs → puts (take i xs) (put_residual (get_or xs i c).0 (get_or xs i d).1 r) ≡ puts (take (suc i) xs) r
one_put [] i c d r l = absurd (omega (arith, l))
one_put (y ∷ xs) zero c d r l = refl
one_put (y ∷ xs) (suc i) c d r l = ap (put_residual y.0 y.1) (one_put xs i c d r (omega (arith, l)))

-- ---- what a loop has listed
-- with one more
pub one_listed : {A : Type 0} (f : A → Residual) (xs : List A) (i : ℕ) (x d : A) (before : List Residual) (old new : List ResidualTree) (made : ResidualTree) → i < length xs → x ≡ get_or xs i d
    → new ≡ old ++ made ∷ [] → residual_of_tree made ≡ f x → map residual_of_tree old ≡ before ++ map f (take i xs) → map residual_of_tree new ≡ before ++ map f (take (suc i) xs)
one_listed f xs i x d before old new made l is n e h =
    ap (map residual_of_tree) n ∙ map-append residual_of_tree old (made ∷ [])
    ∙ ap₂ (λ rs r. rs ++ r ∷ []) h (e ∙ ap f is)
    ∙ append_assoc before (map f (take i xs)) (f (get_or xs i d) ∷ [])
    ∙ ap (λ rs. before ++ rs) (last_mapped f xs i d l)
  where
    last_mapped : {A : Type 0} (f : A → Residual) (xs : List A) (i : ℕ) (d : A) → i < length xs → map f (take i xs) ++ f (get_or xs i d) ∷ [] ≡ map f (take (suc i) xs)
    last_mapped f [] i d l = absurd (omega (arith, l))
    last_mapped f (x ∷ xs) zero d l = refl
    last_mapped f (x ∷ xs) (suc i) d l = ap (λ rs. f x ∷ rs) (last_mapped f xs i d (omega (arith, l)))
