-- What is listed of commands that have made no move, and of children one by one.
use Rattle.std.proofs.Common.{◌≡◌, ℕ, zero, suc, ◌+◌, ◌*◌, ◌<◌, ◌≤◌, min, List, [], ◌∷◌, ◌++◌, map, length, Bool, true, false, cond, Some, slice_index_or, refl, sym, ap, ap₂, ◌∙◌, arith}
use Rattle.std.proofs.lemmas.Bool.{and_parts}
use Rattle.address.specs.declared.Entry.TheVariants.{Ordered, Branch}
use Rattle.runs.proofs.public.Options.{none-some, some-injective}
use Rattle.process_tree.specs.Code.{Codes, no_code, code}
use Rattle.process_tree.specs.Children.{proc_at}
use Rattle.process_tree.specs.Proc.{waiting, holding, past, Proc, idle, stopped, once, sender, fresh, turn, ended_at_once, ended, untested, skipped, took, unopened, entered, closed, sequence, parallel, drained, Procs, no_procs, proc, started, all_started}
use Rattle.process_tree.specs.Translation.{row_of}
use Rattle.process_tree.specs.View.{code_view, row_view, proc_view, begun_of}
use Rattle.process_tree.specs.declared.code.Code.{Code}
use Rattle.process_tree.specs.declared.code.Row.{Row}
use Rattle.process_tree.specs.declared.offer.Offer.{Offer}
use Rattle.process_tree.specs.declared.proc.Proc as made
use Rattle.process_tree.specs.internal.Listed.{behind, Listing, nothing, at_work, one_after, both, listed, listed_sequence, listed_parallel}
use Rattle.process_tree.proofs.public.Views.{row_codes}

-- what is not finished is not finished
not-over : {A : Type 0} → false ≡ true → A
not-over e = cc

after-nothing : (i : ℕ) (x rest : Listing) → (rest.over ≡ true → rest.offers ≡ []) → (one_after i x rest).over ≡ true → (one_after i x rest).offers ≡ []
after-nothing i x rest h e = pick x.over h e
  where
    pick : (b : Bool) → (rest.over ≡ true → rest.offers ≡ []) → (cond b rest (at_work (behind (Ordered i) x.offers))).over ≡ true
        → (cond b rest (at_work (behind (Ordered i) x.offers))).offers ≡ []
    pick true h e = h e
    pick false h e = not-over e

both-nothing : (k : ℕ) (x rest : Listing) → (x.over ≡ true → x.offers ≡ []) → (rest.over ≡ true → rest.offers ≡ []) → (both k x rest).over ≡ true → (both k x rest).offers ≡ []
both-nothing k x rest h g e =
    let parts = and_parts x.over rest.over e in
    ap₂ (λ (a b : List Offer). behind (Branch k) a ++ b) (h parts.0) (g parts.1)

mutual
  -- nothing is listed of what is finished
  pub over-nothing : (p : Proc) → (listed p).over ≡ true → (listed p).offers ≡ []
  over-nothing idle e = refl
  over-nothing stopped e = not-over e
  over-nothing (once o true) e = refl
  over-nothing (once o false) e = not-over e
  over-nothing (sender x waiting) e = not-over e
  over-nothing (sender x holding) e = not-over e
  over-nothing (sender x past) e = refl
  over-nothing (fresh g c) e = not-over e
  over-nothing (turn g c n q) e = after-nothing (2 * n + 1) (listed q) _ (λ h. not-over h) e
  over-nothing (ended_at_once g c) e = refl
  over-nothing (ended g c n q) e = refl
  over-nothing (untested d cs) e = not-over e
  over-nothing (skipped d cs) e = refl
  over-nothing (took d cs j q) e = after-nothing 1 (listed q) nothing (λ h. refl) e
  over-nothing (unopened ds cs) e = not-over e
  over-nothing (entered ds cs c v q) e = after-nothing 1 (listed q) _ (λ h. not-over h) e
  over-nothing (closed ds cs c v q) e = refl
  over-nothing (sequence ps) e = sequence-nothing ps 0 0 e
  over-nothing (parallel ps) e = parallel-nothing ps 0 e
  over-nothing (drained c n) e = not-over e

  sequence-nothing : (ps : Procs) (k n : ℕ) → (listed_sequence k n ps).over ≡ true → (listed_sequence k n ps).offers ≡ []
  sequence-nothing no_procs zero n e = refl
  sequence-nothing no_procs (suc k) n e = refl
  sequence-nothing (proc p ps) zero n e =
      after-nothing n (listed p) (listed_sequence zero (n + 1) ps) (λ h. sequence-nothing ps zero (n + 1) h) e
  sequence-nothing (proc p ps) (suc k) n e = sequence-nothing ps k (n + 1) e

  parallel-nothing : (ps : Procs) (n : ℕ) → (listed_parallel n ps).over ≡ true → (listed_parallel n ps).offers ≡ []
  parallel-nothing no_procs n e = refl
  parallel-nothing (proc p ps) n e =
      both-nothing n (listed p) (listed_parallel (n + 1) ps) (over-nothing p) (parallel-nothing ps (n + 1)) e

-- child k of a sequence, or what comes after it
pub listed-step : (ps : Procs) (k n m : ℕ) (p : Proc) → proc_at ps k ≡ Some p → m ≡ n + k
    → listed_sequence k n ps ≡ one_after m (listed p) (listed_sequence (suc k) n ps)
listed-step no_procs k n m p h e = none-some p h
listed-step (proc q ps) zero n m p h e =
    ap₂ (λ j (x : Proc). one_after j (listed x) (listed_sequence zero (n + 1) ps)) (sym (let i : m ≡ n = omega arith in i)) (some-injective q p h)
listed-step (proc q ps) (suc k) n m p h e = listed-step ps k (n + 1) m p h (omega arith)

-- a child that is finished is passed
pub step-over : (ps : Procs) (k m : ℕ) (p : Proc) → proc_at ps k ≡ Some p → m ≡ suc k → (listed p).over ≡ true
    → listed_sequence m 0 ps ≡ listed_sequence k 0 ps
step-over ps k m p h n e =
    ap (λ j. listed_sequence j 0 ps) n
    ∙ sym (listed-step ps k 0 k p h (omega arith)
    ∙ ap (λ b. cond b (listed_sequence (suc k) 0 ps) (at_work (behind (Ordered k) (listed p).offers))) e)

-- one that is not is at work
pub step-here : (ps : Procs) (k : ℕ) (p : Proc) → proc_at ps k ≡ Some p → (listed p).over ≡ false
    → listed_sequence k 0 ps ≡ at_work (behind (Ordered k) (listed p).offers)
step-here ps k p h e =
    listed-step ps k 0 k p h (omega arith)
    ∙ ap (λ b. cond b (listed_sequence (suc k) 0 ps) (at_work (behind (Ordered k) (listed p).offers))) e

-- the child of a row of commands
pub fresh-at : (cs : List Code) (i : ℕ) (c : Code) → i < length cs → c ≡ slice_index_or cs i c → proc_at (all_started (row_of (map code_view cs))) i ≡ Some (started (code_view c))
fresh-at [] i c l e = absurd (omega (arith, l))
fresh-at (d ∷ cs) zero c l e = ap (λ (x : Code). Some (started (code_view x))) (sym e)
fresh-at (d ∷ cs) (suc i) c l e = fresh-at cs i c (omega (arith, l)) e

-- there is none past the last
pub fresh-past : (cs : List Code) (k n : ℕ) → length cs ≤ k → listed_sequence k n (all_started (row_of (map code_view cs))) ≡ nothing
fresh-past [] zero n l = refl
fresh-past [] (suc k) n l = refl
fresh-past (c ∷ cs) zero n l = absurd (omega (arith, l))
fresh-past (c ∷ cs) (suc k) n l = fresh-past cs k (n + 1) (omega (arith, l))

-- a child that the code holds
begun-is : (xs : List made.Proc) (cs : List Code) (i : ℕ) (x : made.Proc) → i < length xs → i < length cs → x ≡ slice_index_or xs i x
    → proc_at (begun_of (map proc_view xs) (row_of (map code_view cs))) i ≡ Some (proc_view x)
begun-is [] cs i x l m e = absurd (omega (arith, l))
begun-is (y ∷ xs) [] i x l m e = absurd (omega (arith, m))
begun-is (y ∷ xs) (c ∷ cs) zero x l m e = ap (λ (z : made.Proc). Some (proc_view z)) (sym e)
begun-is (y ∷ xs) (c ∷ cs) (suc i) x l m e = begun-is xs cs i x (omega (arith, l)) (omega (arith, m)) e

-- behind them stand commands that have not begun
past-begun : (xs : List made.Proc) (cs : List Code) (k n : ℕ) → min (length xs) (length cs) ≤ k
    → listed_sequence k n (begun_of (map proc_view xs) (row_of (map code_view cs))) ≡ listed_sequence k n (all_started (row_of (map code_view cs)))
past-begun [] cs k n l = refl
past-begun (x ∷ xs) [] zero n l = refl
past-begun (x ∷ xs) [] (suc k) n l = refl
past-begun (x ∷ xs) (c ∷ cs) zero n l = absurd (omega (arith, l))
past-begun (x ∷ xs) (c ∷ cs) (suc k) n l = past-begun xs cs k (n + 1) (omega (arith, l))

-- the same with the row in memory
abbrev pub begun-row : List made.Proc → Row → Procs
begun-row xs row = begun_of (map proc_view xs) (row_view row)

pub row-is : (xs : List made.Proc) (row : Row) → begun_of (map proc_view xs) (row_of (map code_view row.codes)) ≡ begun-row xs row
row-is xs row = ap (begun_of (map proc_view xs)) (sym (row_codes row))

pub row-at : (xs : List made.Proc) (row : Row) (i : ℕ) (x : made.Proc) → i < length xs → i < length row.codes → x ≡ slice_index_or xs i x
    → proc_at (begun-row xs row) i ≡ Some (proc_view x)
row-at xs row i x l m e = ap (λ ps. proc_at ps i) (sym (row-is xs row)) ∙ begun-is xs row.codes i x l m e

pub row-past : (xs : List made.Proc) (row : Row) (k : ℕ) → min (length xs) (length row.codes) ≤ k
    → listed_sequence k 0 (begun-row xs row) ≡ listed_sequence k 0 (all_started (row_of (map code_view row.codes)))
row-past xs row k l = ap (listed_sequence k 0) (sym (row-is xs row)) ∙ past-begun xs row.codes k 0 l
