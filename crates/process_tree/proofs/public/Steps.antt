-- What a move at a place says of the place, as the code takes it apart, and of the children that the code holds.
use Rattle.std.proofs.Common.{◌≡◌, ℕ, zero, suc, ◌+◌, ◌*◌, ◌/◌, ◌%◌, ◌<◌, ◌≤◌, ◌==◌, List, [], ◌∷◌, ◌++◌, map, length, Bool, true, false, cond, Option, Some, None, IsSome, is_some, slice_get, slice_index_or, slice_set, refl, sym, ap, ◌∙◌, subst, eqb-true, arith}
use Rattle.value.specs.Word.{Word}
use Rattle.address.specs.declared.Entry.TheVariants.{Ordered, Branch}
use Rattle.system.specs.Expression.{Expression, Decision}
use Rattle.runs.specs.Moves.{Place}
use Rattle.runs.specs.declared.ask.Ask.{Ask}
use Rattle.runs.specs.declared.ask.Ask.TheVariants as ask
use Rattle.runs.proofs.public.Options.{none-some, some-injective, cond-some}
use Rattle.process_tree.specs.Advanced.{Moved, MovedIn, again_after, close_after, advanced, advanced_sequence, advanced_parallel}
use Rattle.process_tree.specs.Code.{Code as MCode, Codes, no_code, code, code_at, continues}
use Rattle.process_tree.specs.Proc.{Proc, turn, ended, entered, closed, took, Procs, no_procs, proc, sequence, parallel, started, all_started, finished}
use Rattle.runs.specs.ByPlace.{if_act, if_child}
use Rattle.process_tree.specs.Places.{wrap}
use Rattle.process_tree.specs.Translation.{row_of}
use Rattle.process_tree.specs.View.{code_view, row_view, proc_view, procs_of, begun_of, turn_of, opened_of}
use Rattle.process_tree.specs.declared.code.Code.{Code}
use Rattle.process_tree.specs.declared.code.Row.{Row}
use Rattle.process_tree.specs.declared.proc.Proc as made
use Rattle.process_tree.specs.Children.{proc_at, with_proc, MovedChild}
use Rattle.process_tree.specs.internal.Steps.{ordered_step, branch_step, takes_none}
use Rattle.process_tree.proofs.public.Asking.{some-elim, wrap-elim}
use Rattle.process_tree.proofs.public.Views.{row_codes}
use Rattle.process_tree.proofs.Children.{in-sequence, in-parallel, from-0}

-- nothing is not something
pub none-is : false ≡ true → ⊥
none-is h = cc

-- what there is
pub some-of : {X : Type 0} (o : Option X) → IsSome o → (x : X) × (o ≡ Some x)
some-of None h = absurd (none-is h)
some-of (Some x) h = (x, refl)

-- and so there is something
pub is-some : {X : Type 0} (o : Option X) (x : X) → o ≡ Some x → IsSome o
is-some o x e = ap is_some e

-- a place by its first step in a sequence
pub ordered_is : (a : Place) (i : ℕ) (b : Place) → ordered_step a ≡ Some (i, b) → a ≡ Ordered i ∷ b
ordered_is [] i b e = none-some (i, b) e
ordered_is (Ordered j ∷ a) i b e = some-elim (j, a) (i, b) (λ s. Ordered j ∷ a ≡ Ordered s.0 ∷ s.1) e refl
ordered_is (Branch j ∷ a) i b e = none-some (i, b) e

-- and in a parallel
pub branch_is : (a : Place) (i : ℕ) (b : Place) → branch_step a ≡ Some (i, b) → a ≡ Branch i ∷ b
branch_is [] i b e = none-some (i, b) e
branch_is (Ordered j ∷ a) i b e = none-some (i, b) e
branch_is (Branch j ∷ a) i b e = some-elim (j, a) (i, b) (λ s. Branch j ∷ a ≡ Branch s.0 ∷ s.1) e refl

-- an answer in a child is that of the child, unless another is due there
pub inside : {X : Type 0} (t : Bool) (rest : Option X) (n : ℕ) (a : Place) (f : Place → Option X) (i : ℕ) (b : Place) → ordered_step a ≡ Some (i, b) → (IsSome rest → ⊥)
    → IsSome (cond t rest (if_child n a f)) → cond t rest (if_child n a f) ≡ f b
inside true rest n a f i b e un h = absurd (un h)
inside false rest n a f i b e un h =
    subst (λ a. IsSome (if_child n a f) → if_child n a f ≡ f b) (sym (ordered_is a i b e)) (at-child (i == n) (f b)) h
  where
    at-child : {X : Type 0} (t : Bool) (o : Option X) → IsSome (cond t o None) → cond t o None ≡ o
    at-child true o h = refl
    at-child false o h = absurd (none-is h)

-- an answer at an act is there
pub at-act : {X : Type 0} (m : ℕ) (a : Place) (o : Option X) → IsSome (if_act m a o) → if_act m a o ≡ o
at-act m [] o h = absurd (none-is h)
at-act m (Ordered i ∷ []) o h = here (i == m) o h
  where
    here : {X : Type 0} (t : Bool) (o : Option X) → IsSome (cond t o None) → cond t o None ≡ o
    here true o h = refl
    here false o h = absurd (none-is h)
at-act m (Ordered i ∷ x ∷ a) o h = absurd (none-is h)
at-act m (Branch i ∷ a) o h = absurd (none-is h)

-- at that act
pub act-number : {X : Type 0} (m : ℕ) (a : Place) (o : Option X) (i : ℕ) (b : Place) → ordered_step a ≡ Some (i, b) → IsSome (if_act m a o) → i ≡ m
act-number m [] o i b e h = absurd (none-is h)
act-number m (Ordered j ∷ []) o i b e h =
    some-elim (j, []) (i, b) (λ s. s.0 ≡ j) e refl ∙ eqb-true j m (cond-some (j == m) o (some-of (cond (j == m) o None) h).0 (some-of (cond (j == m) o None) h).1).0
act-number m (Ordered j ∷ x ∷ a) o i b e h = absurd (none-is h)
act-number m (Branch j ∷ a) o i b e h = absurd (none-is h)

-- and in that child
pub child-number : {X : Type 0} (n : ℕ) (a : Place) (f : Place → Option X) (i : ℕ) (b : Place) → ordered_step a ≡ Some (i, b) → IsSome (if_child n a f) → i ≡ n
child-number n [] f i b e h = absurd (none-is h)
child-number n (Ordered j ∷ a) f i b e h =
    some-elim (j, a) (i, b) (λ s. s.0 ≡ j) e refl ∙ eqb-true j n (cond-some (j == n) (f a) (some-of (cond (j == n) (f a) None) h).0 (some-of (cond (j == n) (f a) None) h).1).0
child-number n (Branch j ∷ a) f i b e h = absurd (none-is h)

-- what has something put around it was there
pub wrapped : {X Y : Type 0} (w : X → Y) (o : Option (X × Option Proc)) → IsSome (wrap w o) → IsSome o
wrapped w None h = h
wrapped w (Some x) h = refl

-- a move in the arm that a test took
pub took-inside : (d : Decision) (cs : Codes) (j : ℕ) (q : Proc) (a : Place) (k : Ask) (i : ℕ) (b : Place) → ordered_step a ≡ Some (i, b) → IsSome (advanced (took d cs j q) a k)
    → advanced (took d cs j q) a k ≡ wrap (took d cs j) (advanced q b k)
took-inside d cs j q a k i b e h = inside (finished q) None 1 a (λ b. wrap (took d cs j) (advanced q b k)) i b e none-is h

-- a move in an arm that opened
pub opened-inside : (over : Bool) (ds : List ℕ) (cs : Codes) (c : ℕ) (v : Option Word) (q : Proc) (a : Place) (k : Ask) (i : ℕ) (b : Place) → ordered_step a ≡ Some (i, b) → i ≡ 1
    → IsSome (advanced (opened_of over ds cs c v q) a k) → (over ≡ false) × (advanced (opened_of over ds cs c v q) a k ≡ wrap (entered ds cs c v) (advanced q b k))
opened-inside true ds cs c v q a k i b e one h = absurd (none-is h)
opened-inside false ds cs c v q a k i b e one h = (
  refl,
  inside (finished q) (if_act 2 a (close_after ds cs c v q k)) 1 a (λ b. wrap (entered ds cs c v) (advanced q b k)) i b e
      (λ r. not-2 i one (act-number 2 a (close_after ds cs c v q k) i b e r)) h,
)
  where
    not-2 : (i : ℕ) → i ≡ 1 → i ≡ 2 → ⊥
    not-2 i d e = omega (arith, d, e)

-- the close of an arm
closes : (ds : List ℕ) (cs : Codes) (c : ℕ) (v : Option Word) (q : Proc) (k : Ask) → IsSome (close_after ds cs c v q k) → close_after ds cs c v q k ≡ Some (closed ds cs c v q, None)
closes ds cs c v q ask.Close h = refl
closes ds cs c v q _ h = absurd (none-is h)

pub opened-closes : (over : Bool) (ds : List ℕ) (cs : Codes) (c : ℕ) (v : Option Word) (q : Proc) (a : Place) (k : Ask) (i : ℕ) (b : Place) → ordered_step a ≡ Some (i, b)
    → (i ≡ 1 → ⊥) → IsSome (advanced (opened_of over ds cs c v q) a k) → advanced (opened_of over ds cs c v q) a k ≡ Some (closed ds cs c v q, None)
opened-closes true ds cs c v q a k i b e un h = absurd (none-is h)
opened-closes false ds cs c v q a k i b e un h =
    elim (finished q) as (λ t. IsSome (cond t (if_act 2 a (close_after ds cs c v q k)) (if_child 1 a (λ b. wrap (entered ds cs c v) (advanced q b k))))
    → cond t (if_act 2 a (close_after ds cs c v q k)) (if_child 1 a (λ b. wrap (entered ds cs c v) (advanced q b k))) ≡ Some (closed ds cs c v q, None)) [
      | true ↦ λ h. let same = at-act 2 a (close_after ds cs c v q k) h in
          same ∙ closes ds cs c v q k (subst (λ o. IsSome o) same h)
      | false ↦ λ h. absurd (un (child-number 1 a (λ b. wrap (entered ds cs c v) (advanced q b k)) i b e h))
    ] h

-- another turn of a loop
again-next : (g : Option Expression) (c : MCode) (n : ℕ) (over : Proc) (out : Option Proc) (k : Ask) → takes_none k ≡ false → IsSome (again_after g c n over out k)
    → again_after g c n over out k ≡ Some (turn g c n (started c), out)
again-next None c n over out ask.Turn t h = refl
again-next (Some e) c n over out (ask.Test None) t h = absurd (not-both t)
  where
    not-both : true ≡ false → ⊥
    not-both e = cc
again-next (Some e) c n over out (ask.Test (Some j)) t h = first (j == 0) (Some (turn (Some e) c n (started c), out)) h
  where
    first : {X : Type 0} (t : Bool) (o : Option X) → IsSome (cond t o None) → cond t o None ≡ o
    first true o h = refl
    first false o h = absurd (none-is h)
again-next _ c n over out _ t h = absurd (none-is h)

pub turn-next : (over : Bool) (g : Option Expression) (c : MCode) (n : ℕ) (q : Proc) (a : Place) (k : Ask) (i : ℕ) (b : Place) → ordered_step a ≡ Some (i, b)
    → (i % 2 ≡ 1 → ⊥) → takes_none k ≡ false → IsSome (advanced (turn_of over g c n q) a k)
    → (over ≡ false) × (i / 2 ≡ n + 1) × (advanced (turn_of over g c n q) a k ≡ Some (turn g c (n + 1) (started c), Some q))
turn-next true g c n q a k i b e un t h = absurd (none-is h)
turn-next false g c n q a k i b e un t h =
    elim (finished q) as (λ t. IsSome (cond t (if_act (2 * (n + 1)) a (again_after g c (n + 1) (ended g c n q) (Some q) k)) (if_child (2 * n + 1) a (λ b. wrap (turn g c n) (advanced q b k))))
    → (false ≡ false) × (i / 2 ≡ n + 1)
    × (cond t (if_act (2 * (n + 1)) a (again_after g c (n + 1) (ended g c n q) (Some q) k)) (if_child (2 * n + 1) a (λ b. wrap (turn g c n) (advanced q b k)))
    ≡ Some (turn g c (n + 1) (started c), Some q))) [
      | true ↦ λ h. let same = at-act (2 * (n + 1)) a (again_after g c (n + 1) (ended g c n q) (Some q) k) h in (
        refl,
        half i n (act-number (2 * (n + 1)) a (again_after g c (n + 1) (ended g c n q) (Some q) k) i b e h),
        same ∙ again-next g c (n + 1) (ended g c n q) (Some q) k t (subst (λ o. IsSome o) same h),
      )
      | false ↦ λ h. absurd (un (odd i n (child-number (2 * n + 1) a (λ b. wrap (turn g c n) (advanced q b k)) i b e h)))
    ] h
  where
    half : (i n : ℕ) → i ≡ 2 * (n + 1) → i / 2 ≡ n + 1
    half i n e = omega (arith, e)

    odd : (i n : ℕ) → i ≡ 2 * n + 1 → i % 2 ≡ 1
    odd i n e = omega (arith, e)

-- a sequence moves at places in a sequence only
pub sequence-steps : (n : ℕ) (ps : Procs) (a : Place) (k : Ask) (x : MovedIn) → ordered_step a ≡ None → advanced_sequence n ps a k ≡ Some x → ⊥
sequence-steps n no_procs a k x e h = none-some x h
sequence-steps n (proc p ps) (Ordered j ∷ a) k x e h = none-some (j, a) (sym e)
sequence-steps n (proc p ps) [] k x e h =
    elim (finished p) as (λ t. cond t (wrap (proc p) (advanced_sequence (n + 1) ps [] k)) None ≡ Some x → ⊥) [
      | true ↦ λ h. wrap-elim (proc p) (advanced_sequence (n + 1) ps [] k) x (λ _. ⊥) h (λ y d. sequence-steps (n + 1) ps [] k y e d)
      | false ↦ λ h. none-some x h
    ] h
sequence-steps n (proc p ps) (Branch j ∷ a) k x e h =
    elim (finished p) as (λ t. cond t (wrap (proc p) (advanced_sequence (n + 1) ps (Branch j ∷ a) k)) None ≡ Some x → ⊥) [
      | true ↦ λ h. wrap-elim (proc p) (advanced_sequence (n + 1) ps (Branch j ∷ a) k) x (λ _. ⊥) h (λ y d. sequence-steps (n + 1) ps (Branch j ∷ a) k y e d)
      | false ↦ λ h. none-some x h
    ] h

-- a parallel moves at places in a parallel only
pub parallel-steps : (n : ℕ) (ps : Procs) (a : Place) (k : Ask) (x : MovedIn) → branch_step a ≡ None → advanced_parallel n ps a k ≡ Some x → ⊥
parallel-steps n no_procs a k x e h = none-some x h
parallel-steps n (proc p ps) (Branch j ∷ a) k x e h = none-some (j, a) (sym e)
parallel-steps n (proc p ps) [] k x e h = wrap-elim (proc p) (advanced_parallel (n + 1) ps [] k) x (λ _. ⊥) h (λ y d. parallel-steps (n + 1) ps [] k y e d)
parallel-steps n (proc p ps) (Ordered j ∷ a) k x e h =
    wrap-elim (proc p) (advanced_parallel (n + 1) ps (Ordered j ∷ a) k) x (λ _. ⊥) h (λ y d. parallel-steps (n + 1) ps (Ordered j ∷ a) k y e d)

-- the child of a row at this number, if there are so many
abbrev pub IsChild : Procs → ℕ → Proc → Type 0
IsChild row i child = (p : Proc) → proc_at row i ≡ Some p → p ≡ child

-- a sequence that moves at a place in child i has that child, which moves
pub record Moves (row : Procs) (i : ℕ) (b : Place) (k : Ask) (answer : Option MovedIn) : Type 0 where
  pub x : MovedIn
  pub is : answer ≡ Some x
  pub child : MovedChild row i b k x

pub sequence-moves : (row : Procs) (a : Place) (i : ℕ) (b : Place) (k : Ask) → ordered_step a ≡ Some (i, b) → IsSome (advanced (sequence row) a k)
    → Moves row i b k (advanced_sequence 0 row a k)
sequence-moves row a i b k e h =
    let x = some-of (wrap sequence (advanced_sequence 0 row a k)) h in
    wrap-elim sequence (advanced_sequence 0 row a k) x.0 (λ _. Moves row i b k (advanced_sequence 0 row a k)) x.1
    (λ y d. record { x = y; is = d; child = (in-sequence row 0 i i b k y (from-0 i) (subst (λ a. advanced_sequence 0 row a k ≡ Some y) (ordered_is a i b e) d)).0 })

pub parallel-moves : (row : Procs) (a : Place) (i : ℕ) (b : Place) (k : Ask) → branch_step a ≡ Some (i, b) → IsSome (advanced (parallel row) a k)
    → Moves row i b k (advanced_parallel 0 row a k)
parallel-moves row a i b k e h =
    let x = some-of (wrap parallel (advanced_parallel 0 row a k)) h in
    wrap-elim parallel (advanced_parallel 0 row a k) x.0 (λ _. Moves row i b k (advanced_parallel 0 row a k)) x.1
    (λ y d. record { x = y; is = d; child = in-parallel row 0 i i b k y (from-0 i) (subst (λ a. advanced_parallel 0 row a k ≡ Some y) (branch_is a i b e) d) })

-- it is somewhere
pub sequence-somewhere : (row : Procs) (a : Place) (k : Ask) → ordered_step a ≡ None → IsSome (advanced (sequence row) a k) → ⊥
sequence-somewhere row a k e h =
    let x = some-of (wrap sequence (advanced_sequence 0 row a k)) h in
    wrap-elim sequence (advanced_sequence 0 row a k) x.0 (λ _. ⊥) x.1 (λ y d. sequence-steps 0 row a k y e d)

pub parallel-somewhere : (row : Procs) (a : Place) (k : Ask) → branch_step a ≡ None → IsSome (advanced (parallel row) a k) → ⊥
parallel-somewhere row a k e h =
    let x = some-of (wrap parallel (advanced_parallel 0 row a k)) h in
    wrap-elim parallel (advanced_parallel 0 row a k) x.0 (λ _. ⊥) x.1 (λ y d. parallel-steps 0 row a k y e d)

-- what moves is the child
pub child-asked : (row : Procs) (i : ℕ) (b : Place) (k : Ask) (o : Option MovedIn) (child : Proc) → Moves row i b k o → IsChild row i child → IsSome (advanced child b k)
child-asked row i b k o child m c =
    is-some (advanced child b k) m.child.moved (subst (λ p. advanced p b k ≡ Some m.child.moved) (c m.child.child m.child.is) m.child.moves)

-- and the row is that with the child moved
pub child-moved : (row : Procs) (i : ℕ) (b : Place) (k : Ask) (o : Option MovedIn) (child next : Proc) (out : Option Proc) → Moves row i b k o → IsChild row i child
    → advanced child b k ≡ Some (next, out) → o ≡ Some (with_proc row i next, out)
child-moved row i b k o child next out m c d =
    let same = subst (λ p. advanced p b k ≡ Some m.child.moved) (c m.child.child m.child.is) m.child.moves in
    m.is ∙ ap Some (m.child.row_is)
    ∙ ap (λ y. Some (with_proc row i y.0, y.1)) (some-injective m.child.moved (next, out) (sym same ∙ d))

-- the children of a parallel in memory
pub branch-at : (xs : List made.Proc) (i : ℕ) (x : made.Proc) → i < length xs → x ≡ slice_index_or xs i x → IsChild (procs_of (map proc_view xs)) i (proc_view x)
branch-at [] i x l e p h = none-some p h
branch-at (y ∷ xs) zero x l e p h = sym (some-injective (proc_view y) p h) ∙ sym (ap proc_view e)
branch-at (y ∷ xs) (suc i) x l e p h = branch-at xs i x (omega (arith, l)) e p h

pub branch-set : (xs : List made.Proc) (i : ℕ) (w : made.Proc) → with_proc (procs_of (map proc_view xs)) i (proc_view w) ≡ procs_of (map proc_view (slice_set xs i w))
branch-set [] i w = refl
branch-set (x ∷ xs) zero w = refl
branch-set (x ∷ xs) (suc i) w = ap (proc (proc_view x)) (branch-set xs i w)

pub branch-within : (xs : List made.Proc) (i : ℕ) (p : Proc) → proc_at (procs_of (map proc_view xs)) i ≡ Some p → i < length xs
branch-within [] i p h = none-some p h
branch-within (x ∷ xs) zero p h = omega arith
branch-within (x ∷ xs) (suc i) p h = let l = branch-within xs i p h in omega arith

-- the children of a sequence in memory that have begun
pub begun-at : (xs : List made.Proc) (cs : Codes) (i : ℕ) (x : made.Proc) → i < length xs → x ≡ slice_index_or xs i x → IsChild (begun_of (map proc_view xs) cs) i (proc_view x)
begun-at [] cs i x l e p h = absurd (omega (arith, l))
begun-at (y ∷ xs) no_code i x l e p h = none-some p h
begun-at (y ∷ xs) (code c cs) zero x l e p h = sym (some-injective (proc_view y) p h) ∙ sym (ap proc_view e)
begun-at (y ∷ xs) (code c cs) (suc i) x l e p h = begun-at xs cs i x (omega (arith, l)) e p h

pub begun-set : (xs : List made.Proc) (cs : Codes) (i : ℕ) (w : made.Proc) → i < length xs → with_proc (begun_of (map proc_view xs) cs) i (proc_view w) ≡ begun_of (map proc_view (slice_set xs i w)) cs
begun-set [] cs i w l = absurd (omega (arith, l))
begun-set (x ∷ xs) no_code zero w l = refl
begun-set (x ∷ xs) no_code (suc i) w l = refl
begun-set (x ∷ xs) (code c cs) zero w l = refl
begun-set (x ∷ xs) (code c cs) (suc i) w l = ap (proc (proc_view x)) (begun-set xs cs i w (omega (arith, l)))

-- a child that there is has its command
started-within : (cs : List Code) (i : ℕ) (p : Proc) → proc_at (all_started (row_of (map code_view cs))) i ≡ Some p → i < length cs
started-within [] i p h = none-some p h
started-within (c ∷ cs) zero p h = omega arith
started-within (c ∷ cs) (suc i) p h = let l = started-within cs i p h in omega arith

pub begun-within : (xs : List made.Proc) (cs : List Code) (i : ℕ) (p : Proc) → proc_at (begun_of (map proc_view xs) (row_of (map code_view cs))) i ≡ Some p → i < length cs
begun-within [] cs i p h = started-within cs i p h
begun-within (x ∷ xs) [] i p h = none-some p h
begun-within (x ∷ xs) (c ∷ cs) zero p h = omega arith
begun-within (x ∷ xs) (c ∷ cs) (suc i) p h = let l = begun-within xs cs i p h in omega arith

-- one child more has begun, and made no move
one-more : (xs : List made.Proc) (cs : List Code) (x : made.Proc) (c : Code) → slice_get cs (length xs) ≡ Some c → proc_view x ≡ started (code_view c)
    → begun_of (map proc_view (xs ++ x ∷ [])) (row_of (map code_view cs)) ≡ begun_of (map proc_view xs) (row_of (map code_view cs))
one-more xs [] x c h e = none-some c h
one-more [] (d ∷ cs) x c h e =
    ap (λ p. proc p (all_started (row_of (map code_view cs)))) (e ∙ ap (λ (c : Code). started (code_view c)) (sym (some-injective d c h)))
one-more (y ∷ xs) (d ∷ cs) x c h e = ap (proc (proc_view y)) (one-more xs cs x c h e)

pub begun-more : (xs : List made.Proc) (row : Row) (x : made.Proc) (c : Code) → slice_get row.codes (length xs) ≡ Some c → proc_view x ≡ started (code_view c)
    → begun_of (map proc_view (xs ++ x ∷ [])) (row_view row) ≡ begun_of (map proc_view xs) (row_view row)
begun-more xs row x c h e =
    ap (begun_of (map proc_view (xs ++ x ∷ []))) (row_codes row) ∙ one-more xs row.codes x c h e ∙ sym (ap (begun_of (map proc_view xs)) (row_codes row))

pub begun-in-row : (xs : List made.Proc) (row : Row) (i : ℕ) → IsSome (proc_at (begun_of (map proc_view xs) (row_view row)) i) → i < length row.codes
begun-in-row xs row i h =
    let p = some-of (proc_at (begun_of (map proc_view xs) (row_view row)) i) h in
    begun-within xs row.codes i p.0 (subst (λ cs. proc_at (begun_of (map proc_view xs) cs) i ≡ Some p.0) (row_codes row) p.1)

-- a list of children with one that is seen as before
pub view-same : (xs : List made.Proc) (i : ℕ) (x w : made.Proc) → x ≡ slice_index_or xs i x → proc_view w ≡ proc_view x → map proc_view (slice_set xs i w) ≡ map proc_view xs
view-same [] i x w e h = refl
view-same (y ∷ xs) zero x w e h = ap (λ p. p ∷ map proc_view xs) (h ∙ ap proc_view e)
view-same (y ∷ xs) (suc i) x w e h = ap (λ ps. proc_view y ∷ ps) (view-same xs i x w e h)

-- an arm by its number
pub arm-at : (cs : List Code) (j : ℕ) (c : Code) → slice_get cs j ≡ Some c → code_at (row_of (map code_view cs)) j ≡ code_view c
arm-at [] j c h = none-some c h
arm-at (d ∷ cs) zero c h = ap code_view (some-injective d c h)
arm-at (d ∷ cs) (suc j) c h = arm-at cs j c h

pub arm-past : (cs : List Code) (j : ℕ) → slice_get cs j ≡ None → code_at (row_of (map code_view cs)) j ≡ continues
arm-past [] j h = refl
arm-past (d ∷ cs) zero h = none-some d (sym h)
arm-past (d ∷ cs) (suc j) h = arm-past cs j h

-- there is no command behind the last
pub get-past : (cs : List Code) (n : ℕ) → slice_get cs n ≡ None → length cs ≤ n
get-past [] n h = omega arith
get-past (c ∷ cs) zero h = none-some c (sym h)
get-past (c ∷ cs) (suc n) h = let l = get-past cs n h in omega arith

-- the next turn, as it stands in memory
pub turn-is : (over : Bool) (g : Option Expression) (c : MCode) (n m : ℕ) (q old new : Proc) → over ≡ false → m ≡ n + 1 → new ≡ started c → old ≡ q
    → ◌≡◌ {A = Option Moved} (Some (turn g c (n + 1) (started c), Some q)) (Some (turn_of over g c m new, Some old))
turn-is true g c n m q old new o d e f = absurd (none-is (sym o))
turn-is false g c n m q old new o d e f = λ i. Some (turn g c (sym d i) (sym e i), Some (sym f i))
