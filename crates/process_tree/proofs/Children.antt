-- A move of children in a row is one of the child at its number, and the others stay.
use Rattle.std.proofs.Common.{◌≡◌, ℕ, zero, suc, ◌+◌, ◌<◌, ◌==◌, [], ◌∷◌, true, false, Option, Some, option_map, refl, sym, ◌∙◌, true≢false, eqb-true, eq-eqb, inl, inr, arith}
use Rattle.address.specs.declared.Entry.TheVariants.{Ordered, Branch}
use Rattle.runs.specs.Moves.{Place}
use Rattle.runs.specs.declared.ask.Ask.{Ask}
use Rattle.runs.proofs.public.Options.{none-some, cond-some}
use Rattle.process_tree.specs.Proc.{Proc, Procs, no_procs, proc, finished}
use Rattle.runs.specs.ByPlace.{if_child}
use Rattle.process_tree.specs.Places.{wrap}
use Rattle.process_tree.specs.Advanced.{MovedIn, advanced, advanced_sequence, advanced_parallel}
use Rattle.process_tree.specs.Retreated.{retreated, retreated_sequence, retreated_parallel}
use Rattle.process_tree.specs.Children.{proc_at, MovedChild, BackChild}
use Rattle.process_tree.proofs.public.Asking.{some-elim, cond-elim, wrap-elim, map-elim}
use Rattle.process_tree.proofs.public.Swap.{sequence-behind}

-- every process before this one is finished
abbrev pub FinishedBefore : Procs → ℕ → Type 0
FinishedBefore row i = (j : ℕ) (p : Proc) → j < i → proc_at row j ≡ Some p → finished p ≡ true

-- one finished process more in front
more-finished : (p q : Proc) (row : Procs) (i : ℕ) → finished p ≡ true → FinishedBefore row i → (j : ℕ) → j < suc i → proc_at (proc p row) j ≡ Some q → finished q ≡ true
more-finished p q row i t f zero l e = some-elim p q (λ q. finished q ≡ true) e t
more-finished p q row i t f (suc j) l e = f j q (omega arith) e

-- a child that moved, with one more in front
later-child : (p : Proc) (row : Procs) (i : ℕ) (b : Place) (k : Ask) (y : MovedIn) → MovedChild row i b k y → MovedChild (proc p row) (suc i) b k (proc p y.0, y.1)
later-child p row i b k y c =
    record { child = c.child; moved = c.moved; is = c.is; moves = c.moves; row_is = λ j. (proc p (c.row_is j).0, (c.row_is j).1) }

-- a sequence after number n, asked at a lesser one
not-before : (n m : ℕ) (ps : Procs) (b : Place) (k : Ask) (y : MovedIn) → advanced_sequence (n + 1) ps (Ordered m ∷ b) k ≡ Some y → m ≡ n → ⊥
not-before n m ps b k y h e =
    elim (sequence-behind n (n + 1) [] ps (Ordered m ∷ b) k y (omega arith) h) [
      | inl l ↦ omega (arith, l, e)
      | inr d ↦ d.1
    ]

-- of children one after another
pub in-sequence : (ps : Procs) (n m i : ℕ) (b : Place) (k : Ask) (x : MovedIn) → m ≡ n + i → advanced_sequence n ps (Ordered m ∷ b) k ≡ Some x
    → MovedChild ps i b k x × FinishedBefore ps i
in-sequence no_procs n m i b k x e h = none-some x h
in-sequence (proc p ps) n m zero b k x e h =
    cond-elim (finished p) (wrap (proc p) (advanced_sequence (n + 1) ps (Ordered m ∷ b) k)) (if_child n (Ordered m ∷ b) (λ b. wrap (λ q. proc q ps) (advanced p b k))) x
    (MovedChild (proc p ps) zero b k x × FinishedBefore (proc p ps) zero) h
    (λ t g. wrap-elim (proc p) (advanced_sequence (n + 1) ps (Ordered m ∷ b) k) x (λ x. MovedChild (proc p ps) zero b k x × FinishedBefore (proc p ps) zero) g
    (λ y d. absurd (not-before n m ps b k y d (omega arith))))
    (λ t g. wrap-elim (λ q. proc q ps) (advanced p b k) x (λ x. MovedChild (proc p ps) zero b k x × FinishedBefore (proc p ps) zero)
    (cond-some (m == n) (wrap (λ q. proc q ps) (advanced p b k)) x g).1
    (λ y d. (record { child = p; moved = y; is = refl; moves = d; row_is = refl }, λ j q l. absurd (none-less j l))))
  where
    none-less : (j : ℕ) → j < zero → ⊥
    none-less j l = omega (arith, l)
in-sequence (proc p ps) n m (suc i) b k x e h =
    cond-elim (finished p) (wrap (proc p) (advanced_sequence (n + 1) ps (Ordered m ∷ b) k)) (if_child n (Ordered m ∷ b) (λ b. wrap (λ q. proc q ps) (advanced p b k))) x
    (MovedChild (proc p ps) (suc i) b k x × FinishedBefore (proc p ps) (suc i)) h
    (λ t g. wrap-elim (proc p) (advanced_sequence (n + 1) ps (Ordered m ∷ b) k) x (λ x. MovedChild (proc p ps) (suc i) b k x × FinishedBefore (proc p ps) (suc i)) g
    (λ y d. let rest = in-sequence ps (n + 1) m i b k y (omega arith) d in
    (later-child p ps i b k y rest.0, λ j q. more-finished p q ps i t rest.1 j)))
    (λ t g. absurd (beyond (eqb-true m n (cond-some (m == n) (wrap (λ q. proc q ps) (advanced p b k)) x g).0)))
  where
    beyond : m ≡ n → ⊥
    beyond d = omega (arith, d, e)

-- the number is that of the branch, or is not
same-number : (n m : ℕ) → m ≡ n → (m == n) ≡ false → ⊥
same-number n m e f = true≢false (sym (eq-eqb m n e) ∙ f)

-- of children side by side
pub in-parallel : (ps : Procs) (n m i : ℕ) (b : Place) (k : Ask) (x : MovedIn) → m ≡ n + i → advanced_parallel n ps (Branch m ∷ b) k ≡ Some x → MovedChild ps i b k x
in-parallel no_procs n m i b k x e h = none-some x h
in-parallel (proc p ps) n m zero b k x e h =
    cond-elim (m == n) (wrap (λ q. proc q ps) (advanced p b k)) (wrap (proc p) (advanced_parallel (n + 1) ps (Branch m ∷ b) k)) x (MovedChild (proc p ps) zero b k x) h
    (λ t g. wrap-elim (λ q. proc q ps) (advanced p b k) x (MovedChild (proc p ps) zero b k) g
    (λ y d. record { child = p; moved = y; is = refl; moves = d; row_is = refl }))
    (λ t g. absurd (same-number n m (omega arith) t))
in-parallel (proc p ps) n m (suc i) b k x e h =
    cond-elim (m == n) (wrap (λ q. proc q ps) (advanced p b k)) (wrap (proc p) (advanced_parallel (n + 1) ps (Branch m ∷ b) k)) x (MovedChild (proc p ps) (suc i) b k x) h
    (λ t g. absurd (beyond (eqb-true m n t)))
    (λ t g. wrap-elim (proc p) (advanced_parallel (n + 1) ps (Branch m ∷ b) k) x (MovedChild (proc p ps) (suc i) b k) g
    (λ y d. later-child p ps i b k y (in-parallel ps (n + 1) m i b k y (omega arith) d)))
  where
    beyond : m ≡ n → ⊥
    beyond d = omega (arith, d, e)

-- a child that was taken back, with one more in front
later-back : (p : Proc) (row : Procs) (i : ℕ) (b : Place) (old : Option Proc) (y : Procs) → BackChild row i b old y → BackChild (proc p row) (suc i) b old (proc p y)
later-back p row i b old y c = record { child = c.child; before = c.before; is = c.is; goes_back = c.goes_back; row_is = λ j. proc p (c.row_is j) }

-- a move of children one after another taken back
pub back-in-sequence : (ps : Procs) (n m i : ℕ) (b : Place) (old : Option Proc) (x : Procs) → m ≡ n + i → retreated_sequence n ps (Ordered m ∷ b) old ≡ Some x
    → BackChild ps i b old x
back-in-sequence no_procs n m i b old x e h = none-some x h
back-in-sequence (proc p ps) n m zero b old x e h =
    cond-elim (m == n) (option_map (λ q. proc q ps) (retreated p b old)) (option_map (proc p) (retreated_sequence (n + 1) ps (Ordered m ∷ b) old)) x
    (BackChild (proc p ps) zero b old x) h
    (λ t g. map-elim (λ q. proc q ps) (retreated p b old) x (BackChild (proc p ps) zero b old) g
    (λ y d. record { child = p; before = y; is = refl; goes_back = d; row_is = refl }))
    (λ t g. absurd (same-number n m (omega arith) t))
back-in-sequence (proc p ps) n m (suc i) b old x e h =
    cond-elim (m == n) (option_map (λ q. proc q ps) (retreated p b old)) (option_map (proc p) (retreated_sequence (n + 1) ps (Ordered m ∷ b) old)) x
    (BackChild (proc p ps) (suc i) b old x) h
    (λ t g. absurd (beyond (eqb-true m n t)))
    (λ t g. map-elim (proc p) (retreated_sequence (n + 1) ps (Ordered m ∷ b) old) x (BackChild (proc p ps) (suc i) b old) g
    (λ y d. later-back p ps i b old y (back-in-sequence ps (n + 1) m i b old y (omega arith) d)))
  where
    beyond : m ≡ n → ⊥
    beyond d = omega (arith, d, e)

-- and of children side by side
pub back-in-parallel : (ps : Procs) (n m i : ℕ) (b : Place) (old : Option Proc) (x : Procs) → m ≡ n + i → retreated_parallel n ps (Branch m ∷ b) old ≡ Some x
    → BackChild ps i b old x
back-in-parallel no_procs n m i b old x e h = none-some x h
back-in-parallel (proc p ps) n m zero b old x e h =
    cond-elim (m == n) (option_map (λ q. proc q ps) (retreated p b old)) (option_map (proc p) (retreated_parallel (n + 1) ps (Branch m ∷ b) old)) x
    (BackChild (proc p ps) zero b old x) h
    (λ t g. map-elim (λ q. proc q ps) (retreated p b old) x (BackChild (proc p ps) zero b old) g
    (λ y d. record { child = p; before = y; is = refl; goes_back = d; row_is = refl }))
    (λ t g. absurd (same-number n m (omega arith) t))
back-in-parallel (proc p ps) n m (suc i) b old x e h =
    cond-elim (m == n) (option_map (λ q. proc q ps) (retreated p b old)) (option_map (proc p) (retreated_parallel (n + 1) ps (Branch m ∷ b) old)) x
    (BackChild (proc p ps) (suc i) b old x) h
    (λ t g. absurd (beyond (eqb-true m n t)))
    (λ t g. map-elim (proc p) (retreated_parallel (n + 1) ps (Branch m ∷ b) old) x (BackChild (proc p ps) (suc i) b old) g
    (λ y d. later-back p ps i b old y (back-in-parallel ps (n + 1) m i b old y (omega arith) d)))
  where
    beyond : m ≡ n → ⊥
    beyond d = omega (arith, d, e)

-- counted from 0
pub from-0 : (i : ℕ) → i ≡ 0 + i
from-0 i = omega arith
