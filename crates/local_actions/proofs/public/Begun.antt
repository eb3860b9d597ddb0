-- The children of a row that the code holds, by their numbers.
use Rattle.std.proofs.Common.{◌≡◌, ℕ, zero, suc, ◌+◌, ◌<◌, ◌≤◌, min, List, [], ◌∷◌, map, length, Bool, true, false, ◌||◌, cond, Some, slice_index_or, refl, sym, ap, ap₂, ◌∙◌, arith, ◌==◌, ◌≢◌, eqb-true, eq-eqb, true≢false}
use Rattle.runs.proofs.public.Options.{none-some, some-injective}
use Rattle.system.specs.Expression.{Store}
use Rattle.process_tree.specs.Code.{Codes, no_code, code}
use Rattle.process_tree.specs.Children.{proc_at}
use Rattle.process_tree.specs.Remaining.{Received}
use Rattle.process_tree.specs.Proc.{Proc, Procs, no_procs, proc, started, all_started}
use Rattle.process_tree.specs.Tidy.{has_moved, any_moved, last_moved}
use Rattle.process_tree.specs.Translation.{row_of}
use Rattle.process_tree.specs.View.{code_view, row_view, proc_view, begun_of}
use Rattle.process_tree.specs.declared.code.Code.{Code}
use Rattle.process_tree.specs.declared.code.Row.{Row}
use Rattle.process_tree.specs.declared.proc.Proc as made
use Rattle.process_tree.proofs.public.Tidy.{started-unmoved}
use Rattle.process_tree.proofs.public.Views.{row_codes}
use Rattle.local_actions.specs.internal.Listed.{listed_sequence}

-- no child from this number on has made a move
abbrev pub Still : ℕ → Procs → Type 0
Still n ps = (i : ℕ) (p : Proc) → n ≤ i → proc_at ps i ≡ Some p → has_moved p ≡ false

-- without the first
still-rest : (n : ℕ) (p : Proc) (ps : Procs) → Still (suc n) (proc p ps) → Still n ps
still-rest n p ps h = λ i q l e. h (suc i) q (omega (arith, l)) e

pub none-moved : (ps : Procs) → Still 0 ps → any_moved ps ≡ false
none-moved no_procs h = refl
none-moved (proc p ps) h = ap₂ (λ b d. b || d) (h 0 p (omega arith) refl) (none-moved ps (λ i q l e. h (suc i) q (omega arith) e))

-- one that has made a move
one-of : (b d : Bool) → d ≡ true → (b || d) ≡ true
one-of true d e = refl
one-of false d e = e

pub moved-at : (ps : Procs) (i : ℕ) (p : Proc) → proc_at ps i ≡ Some p → has_moved p ≡ true → any_moved ps ≡ true
moved-at no_procs i p h m = none-some p h
moved-at (proc q ps) zero p h m = ap (λ b. b || any_moved ps) (ap has_moved (some-injective q p h) ∙ m)
moved-at (proc q ps) (suc i) p h m = one-of (has_moved q) (any_moved ps) (moved-at ps i p h m)

-- the last that has
pub last-at : (ps : Procs) (i : ℕ) (p : Proc) → proc_at ps i ≡ Some p → has_moved p ≡ true → Still (suc i) ps → last_moved ps ≡ i
last-at no_procs i p h m st = none-some p h
last-at (proc q ps) zero p h m st = ap (λ b. cond b (suc (last_moved ps)) 0) (none-moved ps (still-rest 0 q ps st))
last-at (proc q ps) (suc i) p h m st =
    ap (λ b. cond b (suc (last_moved ps)) 0) (moved-at ps i p h m) ∙ ap suc (last-at ps i p h m (still-rest (suc i) q ps st))

pub last-none : (ps : Procs) → Still 0 ps → last_moved ps ≡ 0
last-none no_procs h = refl
last-none (proc q ps) h = ap (λ b. cond b (suc (last_moved ps)) 0) (none-moved ps (λ i p l e. h (suc i) p (omega arith) e))

-- commands that have not begun have made no move
started-still : (cs : Codes) → Still 0 (all_started cs)
started-still no_code i p l e = none-some p e
started-still (code c cs) zero p l e = ap has_moved (sym (some-injective (started c) p e)) ∙ started-unmoved c
started-still (code c cs) (suc i) p l e = started-still cs i p (omega arith) e

-- nor have children past those that the code holds
pub begun-still : (xs : List made.Proc) (cs : List Code) → Still (min (length xs) (length cs)) (begun_of (map proc_view xs) (row_of (map code_view cs)))
begun-still [] cs i p l e = started-still (row_of (map code_view cs)) i p (omega arith) e
begun-still (x ∷ xs) [] i p l e = none-some p e
begun-still (x ∷ xs) (c ∷ cs) zero p l e = absurd (omega (arith, l))
begun-still (x ∷ xs) (c ∷ cs) (suc i) p l e = begun-still xs cs i p (omega (arith, l)) e

-- a child that the code holds
pub begun-is : (xs : List made.Proc) (cs : List Code) (i : ℕ) (x : made.Proc) → i < length xs → i < length cs → x ≡ slice_index_or xs i x
    → proc_at (begun_of (map proc_view xs) (row_of (map code_view cs))) i ≡ Some (proc_view x)
begun-is [] cs i x l m e = absurd (omega (arith, l))
begun-is (y ∷ xs) [] i x l m e = absurd (omega (arith, m))
begun-is (y ∷ xs) (c ∷ cs) zero x l m e = ap (λ (z : made.Proc). Some (proc_view z)) (sym e)
begun-is (y ∷ xs) (c ∷ cs) (suc i) x l m e = begun-is xs cs i x (omega (arith, l)) (omega (arith, m)) e

-- behind them stand commands that have not begun
pub past-begun : (s : Store) (env : Received) (xs : List made.Proc) (cs : List Code) (k n : ℕ) → min (length xs) (length cs) ≤ k
    → listed_sequence s env k n (begun_of (map proc_view xs) (row_of (map code_view cs))) ≡ listed_sequence s env k n (all_started (row_of (map code_view cs)))
past-begun s env [] cs k n l = refl
past-begun s env (x ∷ xs) [] zero n l = refl
past-begun s env (x ∷ xs) [] (suc k) n l = refl
past-begun s env (x ∷ xs) (c ∷ cs) zero n l = absurd (omega (arith, l))
past-begun s env (x ∷ xs) (c ∷ cs) (suc k) n l = past-begun s env xs cs k (n + 1) (omega (arith, l))

-- the same with the row in memory
abbrev pub begun-row : List made.Proc → Row → Procs
begun-row xs row = begun_of (map proc_view xs) (row_view row)

pub row-is : (xs : List made.Proc) (row : Row) → begun_of (map proc_view xs) (row_of (map code_view row.codes)) ≡ begun-row xs row
row-is xs row = ap (begun_of (map proc_view xs)) (sym (row_codes row))

pub row-still : (xs : List made.Proc) (row : Row) (n : ℕ) → n ≡ min (length xs) (length row.codes) → Still n (begun-row xs row)
row-still xs row n e = λ i p l h. begun-still xs row.codes i p (omega (arith, e, l)) (ap (λ ps. proc_at ps i) (row-is xs row) ∙ h)

pub row-at : (xs : List made.Proc) (row : Row) (i : ℕ) (x : made.Proc) → i < length xs → i < length row.codes → x ≡ slice_index_or xs i x
    → proc_at (begun-row xs row) i ≡ Some (proc_view x)
row-at xs row i x l m e = ap (λ ps. proc_at ps i) (sym (row-is xs row)) ∙ begun-is xs row.codes i x l m e

pub row-past : (s : Store) (env : Received) (xs : List made.Proc) (row : Row) (k : ℕ) → min (length xs) (length row.codes) ≤ k
    → listed_sequence s env k 0 (begun-row xs row) ≡ listed_sequence s env k 0 (all_started (row_of (map code_view row.codes)))
row-past s env xs row k l = ap (listed_sequence s env k 0) (sym (row-is xs row)) ∙ past-begun s env xs row.codes k 0 l

-- one child more that has made no move
pub still-more : (ps : Procs) (n m : ℕ) (p : Proc) → n ≡ suc m → Still n ps → proc_at ps m ≡ Some p → has_moved p ≡ false → Still m ps
still-more ps n m p e h at f = λ i q l is. pick i q l is (i == m) refl
  where
    pick : (i : ℕ) (q : Proc) → m ≤ i → proc_at ps i ≡ Some q → (b : Bool) → (i == m) ≡ b → has_moved q ≡ false
    pick i q l is true t = ap has_moved (some-injective q p (sym is ∙ ap (proc_at ps) (eqb-true i m t) ∙ at)) ∙ f
    pick i q l is false t = let apart : i ≢ m = λ d. true≢false (sym (eq-eqb i m d) ∙ t) in h i q (omega (arith, e, l, apart)) is
