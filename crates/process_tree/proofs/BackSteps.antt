-- A move of a row taken back, by the child that the code holds; and a child that has made no move stays as it is.
use Rattle.std.proofs.Common.{◌≡◌, ℕ, zero, suc, ◌+◌, ◌≤◌, ◌==◌, List, [], ◌∷◌, map, length, false, Option, Some, None, IsSome, option_map, refl, sym, ap, ◌∙◌, subst, arith}
use Rattle.address.specs.declared.Entry.TheVariants.{Ordered, Branch}
use Rattle.runs.specs.Moves.{Place}
use Rattle.runs.proofs.public.Options.{none-some, some-injective}
use Rattle.process_tree.specs.Code.{Code, continues, halts, moves_once, may_be_held, repeats, decides, awaits, in_turn, side_by_side, drains, Codes, no_code, code}
use Rattle.process_tree.specs.Proc.{Proc, once, Procs, no_procs, proc, sequence, parallel, started, all_started}
use Rattle.process_tree.specs.View.{proc_view, begun_of}
use Rattle.process_tree.specs.declared.proc.Proc as made
use Rattle.process_tree.specs.Children.{proc_at, with_proc, BackChild}
use Rattle.process_tree.specs.Retreated.{retreated, retreated_sequence, retreated_parallel}
use Rattle.process_tree.specs.internal.Steps.{ordered_step, branch_step}
use Rattle.process_tree.proofs.public.Asking.{cond-elim, here-elim, map-elim}
use Rattle.process_tree.proofs.Children.{back-in-sequence, back-in-parallel, from-0}
use Rattle.process_tree.proofs.public.Steps.{some-of, is-some, ordered_is, branch_is, IsChild}

-- what was changed on its way was there
pub mapped : {X Y : Type 0} (f : X → Y) (o : Option X) → IsSome (option_map f o) → IsSome o
mapped f None h = h
mapped f (Some x) h = refl

-- a row goes back at places in a sequence only
pub sequence-back-steps : (n : ℕ) (ps : Procs) (a : Place) (out : Option Proc) (x : Procs) → ordered_step a ≡ None → retreated_sequence n ps a out ≡ Some x → ⊥
sequence-back-steps n no_procs a out x e h = none-some x h
sequence-back-steps n (proc p ps) (Ordered j ∷ a) out x e h = none-some (j, a) (sym e)
sequence-back-steps n (proc p ps) [] out x e h = map-elim (proc p) (retreated_sequence (n + 1) ps [] out) x (λ _. ⊥) h (λ y d. sequence-back-steps (n + 1) ps [] out y e d)
sequence-back-steps n (proc p ps) (Branch j ∷ a) out x e h =
    map-elim (proc p) (retreated_sequence (n + 1) ps (Branch j ∷ a) out) x (λ _. ⊥) h (λ y d. sequence-back-steps (n + 1) ps (Branch j ∷ a) out y e d)

pub parallel-back-steps : (n : ℕ) (ps : Procs) (a : Place) (out : Option Proc) (x : Procs) → branch_step a ≡ None → retreated_parallel n ps a out ≡ Some x → ⊥
parallel-back-steps n no_procs a out x e h = none-some x h
parallel-back-steps n (proc p ps) (Branch j ∷ a) out x e h = none-some (j, a) (sym e)
parallel-back-steps n (proc p ps) [] out x e h = map-elim (proc p) (retreated_parallel (n + 1) ps [] out) x (λ _. ⊥) h (λ y d. parallel-back-steps (n + 1) ps [] out y e d)
parallel-back-steps n (proc p ps) (Ordered j ∷ a) out x e h =
    map-elim (proc p) (retreated_parallel (n + 1) ps (Ordered j ∷ a) out) x (λ _. ⊥) h (λ y d. parallel-back-steps (n + 1) ps (Ordered j ∷ a) out y e d)

pub sequence-back-somewhere : (row : Procs) (a : Place) (out : Option Proc) → ordered_step a ≡ None → IsSome (retreated (sequence row) a out) → ⊥
sequence-back-somewhere row a out e h =
    let x = some-of (retreated_sequence 0 row a out) (mapped sequence (retreated_sequence 0 row a out) h) in
    sequence-back-steps 0 row a out x.0 e x.1

pub parallel-back-somewhere : (row : Procs) (a : Place) (out : Option Proc) → branch_step a ≡ None → IsSome (retreated (parallel row) a out) → ⊥
parallel-back-somewhere row a out e h =
    let x = some-of (retreated_parallel 0 row a out) (mapped parallel (retreated_parallel 0 row a out) h) in
    parallel-back-steps 0 row a out x.0 e x.1

-- a row that goes back at a place in child i has that child, which goes back
pub record GoesBack (row : Procs) (i : ℕ) (b : Place) (out : Option Proc) (answer : Option Procs) : Type 0 where
  pub x : Procs
  pub is : answer ≡ Some x
  pub child : BackChild row i b out x

pub sequence-back : (row : Procs) (a : Place) (i : ℕ) (b : Place) (out : Option Proc) → ordered_step a ≡ Some (i, b) → IsSome (retreated (sequence row) a out)
    → GoesBack row i b out (retreated_sequence 0 row a out)
sequence-back row a i b out e h =
    let x = some-of (retreated_sequence 0 row a out) (mapped sequence (retreated_sequence 0 row a out) h) in
    record { x = x.0; is = x.1; child = back-in-sequence row 0 i i b out x.0 (from-0 i) (subst (λ a. retreated_sequence 0 row a out ≡ Some x.0) (ordered_is a i b e) x.1) }

pub parallel-back : (row : Procs) (a : Place) (i : ℕ) (b : Place) (out : Option Proc) → branch_step a ≡ Some (i, b) → IsSome (retreated (parallel row) a out)
    → GoesBack row i b out (retreated_parallel 0 row a out)
parallel-back row a i b out e h =
    let x = some-of (retreated_parallel 0 row a out) (mapped parallel (retreated_parallel 0 row a out) h) in
    record { x = x.0; is = x.1; child = back-in-parallel row 0 i i b out x.0 (from-0 i) (subst (λ a. retreated_parallel 0 row a out ≡ Some x.0) (branch_is a i b e) x.1) }

-- what goes back is the child
pub back-asked : (row : Procs) (i : ℕ) (b : Place) (out : Option Proc) (o : Option Procs) (child : Proc) → GoesBack row i b out o → IsChild row i child → IsSome (retreated child b out)
back-asked row i b out o child m c =
    is-some (retreated child b out) m.child.before (subst (λ p. retreated p b out ≡ Some m.child.before) (c m.child.child m.child.is) m.child.goes_back)

-- and the row is that with the child before its move
pub back-moved : (row : Procs) (i : ℕ) (b : Place) (out : Option Proc) (o : Option Procs) (child before : Proc) → GoesBack row i b out o → IsChild row i child
    → retreated child b out ≡ Some before → o ≡ Some (with_proc row i before)
back-moved row i b out o child before m c d =
    let same = subst (λ p. retreated p b out ≡ Some m.child.before) (c m.child.child m.child.is) m.child.goes_back in
    m.is ∙ ap Some m.child.row_is ∙ ap (λ y. Some (with_proc row i y)) (some-injective m.child.before before (sym same ∙ d))

-- the row with a child as it is
with-same : (row : Procs) (i : ℕ) (p : Proc) → proc_at row i ≡ Some p → with_proc row i p ≡ row
with-same no_procs i p h = refl
with-same (proc q ps) zero p h = ap (λ p. proc p ps) (sym (some-injective q p h))
with-same (proc q ps) (suc i) p h = ap (proc q) (with-same ps i p h)

mutual
  -- what has made no move stays as it is
  stays : (c : Code) (a : Place) (out : Option Proc) (x : Proc) → retreated (started c) a out ≡ Some x → x ≡ started c
  stays continues a out x h = none-some x h
  stays halts a out x h = none-some x h
  stays (moves_once o) a out x h = here-elim a (Some (once o false)) x (λ _. x ≡ once o false) h (λ e. sym (some-injective (once o false) x e))
  stays (may_be_held s) a out x h = none-some x h
  stays (repeats g c) a out x h = none-some x h
  stays (decides d cs) a out x h = none-some x h
  stays (awaits ds cs) a out x h = none-some x h
  stays (in_turn cs) a out x h = map-elim sequence (retreated_sequence 0 (all_started cs) a out) x (λ x. x ≡ sequence (all_started cs)) h (λ y d. ap sequence (stay-in-turn cs 0 a out y d))
  stays (side_by_side cs) a out x h = map-elim parallel (retreated_parallel 0 (all_started cs) a out) x (λ x. x ≡ parallel (all_started cs)) h (λ y d. ap parallel (stay-together cs 0 a out y d))
  stays (drains c) a out x h = none-some x h

  stay-in-turn : (cs : Codes) (n : ℕ) (a : Place) (out : Option Proc) (y : Procs) → retreated_sequence n (all_started cs) a out ≡ Some y → y ≡ all_started cs
  stay-in-turn no_code n a out y h = none-some y h
  stay-in-turn (code c cs) n [] out y h =
      map-elim (proc (started c)) (retreated_sequence (n + 1) (all_started cs) [] out) y (λ y. y ≡ proc (started c) (all_started cs)) h (λ z d. ap (proc (started c)) (stay-in-turn cs (n + 1) [] out z d))
  stay-in-turn (code c cs) n (Branch j ∷ a) out y h =
      map-elim (proc (started c)) (retreated_sequence (n + 1) (all_started cs) (Branch j ∷ a) out) y (λ y. y ≡ proc (started c) (all_started cs)) h
      (λ z d. ap (proc (started c)) (stay-in-turn cs (n + 1) (Branch j ∷ a) out z d))
  stay-in-turn (code c cs) n (Ordered j ∷ a) out y h =
      cond-elim (j == n) (option_map (λ q. proc q (all_started cs)) (retreated (started c) a out)) (option_map (proc (started c)) (retreated_sequence (n + 1) (all_started cs) (Ordered j ∷ a) out)) y
      (y ≡ proc (started c) (all_started cs)) h
      (λ t g. map-elim (λ q. proc q (all_started cs)) (retreated (started c) a out) y (λ y. y ≡ proc (started c) (all_started cs)) g (λ z d. ap (λ q. proc q (all_started cs)) (stays c a out z d)))
      (λ t g. map-elim (proc (started c)) (retreated_sequence (n + 1) (all_started cs) (Ordered j ∷ a) out) y (λ y. y ≡ proc (started c) (all_started cs)) g
      (λ z d. ap (proc (started c)) (stay-in-turn cs (n + 1) (Ordered j ∷ a) out z d)))

  stay-together : (cs : Codes) (n : ℕ) (a : Place) (out : Option Proc) (y : Procs) → retreated_parallel n (all_started cs) a out ≡ Some y → y ≡ all_started cs
  stay-together no_code n a out y h = none-some y h
  stay-together (code c cs) n [] out y h =
      map-elim (proc (started c)) (retreated_parallel (n + 1) (all_started cs) [] out) y (λ y. y ≡ proc (started c) (all_started cs)) h (λ z d. ap (proc (started c)) (stay-together cs (n + 1) [] out z d))
  stay-together (code c cs) n (Ordered j ∷ a) out y h =
      map-elim (proc (started c)) (retreated_parallel (n + 1) (all_started cs) (Ordered j ∷ a) out) y (λ y. y ≡ proc (started c) (all_started cs)) h
      (λ z d. ap (proc (started c)) (stay-together cs (n + 1) (Ordered j ∷ a) out z d))
  stay-together (code c cs) n (Branch j ∷ a) out y h =
      cond-elim (j == n) (option_map (λ q. proc q (all_started cs)) (retreated (started c) a out)) (option_map (proc (started c)) (retreated_parallel (n + 1) (all_started cs) (Branch j ∷ a) out)) y
      (y ≡ proc (started c) (all_started cs)) h
      (λ t g. map-elim (λ q. proc q (all_started cs)) (retreated (started c) a out) y (λ y. y ≡ proc (started c) (all_started cs)) g (λ z d. ap (λ q. proc q (all_started cs)) (stays c a out z d)))
      (λ t g. map-elim (proc (started c)) (retreated_parallel (n + 1) (all_started cs) (Branch j ∷ a) out) y (λ y. y ≡ proc (started c) (all_started cs)) g
      (λ z d. ap (proc (started c)) (stay-together cs (n + 1) (Branch j ∷ a) out z d)))

-- a child that has not begun
pub started-at : (cs : Codes) (i : ℕ) (p : Proc) → proc_at (all_started cs) i ≡ Some p → (c : Code) × (p ≡ started c)
started-at no_code i p h = none-some p h
started-at (code c cs) zero p h = (c, sym (some-injective (started c) p h))
started-at (code c cs) (suc i) p h = started-at cs i p h

pub unbegun : (xs : List made.Proc) (cs : Codes) (i : ℕ) (p : Proc) → length xs ≤ i → proc_at (begun_of (map proc_view xs) cs) i ≡ Some p → (c : Code) × (p ≡ started c)
unbegun [] cs i p l h = started-at cs i p h
unbegun (x ∷ xs) no_code i p l h = none-some p h
unbegun (x ∷ xs) (code c cs) zero p l h = absurd (omega (arith, l))
unbegun (x ∷ xs) (code c cs) (suc i) p l h = unbegun xs cs i p (omega (arith, l)) h

-- stays as it is
pub unbegun-stays : (xs : List made.Proc) (cs : Codes) (i : ℕ) (b : Place) (out : Option Proc) (o : Option Procs) → length xs ≤ i → GoesBack (begun_of (map proc_view xs) cs) i b out o
    → o ≡ Some (begun_of (map proc_view xs) cs)
unbegun-stays xs cs i b out o l m =
    let c = unbegun xs cs i m.child.child l m.child.is in
    let same = stays c.0 b out m.child.before (subst (λ p. retreated p b out ≡ Some m.child.before) c.1 m.child.goes_back) ∙ sym c.1 in
    m.is ∙ ap Some (m.child.row_is ∙ ap (with_proc (begun_of (map proc_view xs) cs) i) same ∙ with-same (begun_of (map proc_view xs) cs) i m.child.child m.child.is)
