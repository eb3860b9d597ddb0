-- What has made no move is tidy, and a move keeps a process so.
use Rattle.std.proofs.Common.{◌≡◌, ℕ, ◌+◌, ◌*◌, ◌==◌, List, [], ◌∷◌, Bool, true, false, ◌||◌, cond, Option, Some, None, slice_get, refl, sym, ap₂, ◌∙◌, subst, true≢false}
use Rattle.address.specs.declared.Entry.TheVariants.{Ordered, Branch}
use Rattle.value.specs.Word.{Word}
use Rattle.system.specs.Expression.{Expression, Decision}
use Rattle.runs.specs.Moves.{Place}
use Rattle.runs.specs.ByPlace.{if_here, if_act, if_child, if_branch}
use Rattle.runs.specs.declared.ask.Ask.{Ask}
use Rattle.runs.specs.declared.ask.Ask.TheVariants as ask
use Rattle.process_tree.specs.Code.{Once, assigning, receiving, Sender, sending, syncing, Code, continues, halts, moves_once, may_be_held, repeats, decides, awaits, in_turn, side_by_side, drains, Codes, no_code, code, code_at}
use Rattle.process_tree.specs.Proc.{waiting, holding, past, Proc, idle, stopped, once, sender, fresh, turn, ended_at_once, ended, untested, skipped, took, unopened, entered, closed, sequence, parallel, drained, Procs, no_procs, proc, started, all_started, finished}
use Rattle.process_tree.specs.Places.{wrap}
use Rattle.process_tree.specs.Advanced.{once_after, sender_after, holding_after, again_after, test_after, open_on, open_after, close_after, drain_after, advanced, advanced_sequence, advanced_parallel}
use Rattle.process_tree.specs.Tidy.{has_moved, any_moved, Tidy, TidyInTurn, TidySideBySide, StartedIsTidy, MovesKeepTidy}

mutual
  -- what has made no move has not moved
  pub started-unmoved : (c : Code) → has_moved (started c) ≡ false
  started-unmoved continues = refl
  started-unmoved halts = refl
  started-unmoved (moves_once o) = refl
  started-unmoved (may_be_held s) = refl
  started-unmoved (repeats g c) = refl
  started-unmoved (decides d cs) = refl
  started-unmoved (awaits ds cs) = refl
  started-unmoved (in_turn cs) = all-unmoved cs
  started-unmoved (side_by_side cs) = all-unmoved cs
  started-unmoved (drains c) = refl

  pub all-unmoved : (cs : Codes) → any_moved (all_started cs) ≡ false
  all-unmoved no_code = refl
  all-unmoved (code c cs) = ap₂ (λ b d. b || d) (started-unmoved c) (all-unmoved cs)

mutual
  pub started-tidy : StartedIsTidy
  started-tidy continues = tt
  started-tidy halts = tt
  started-tidy (moves_once o) = tt
  started-tidy (may_be_held s) = tt
  started-tidy (repeats g c) = tt
  started-tidy (decides d cs) = tt
  started-tidy (awaits ds cs) = tt
  started-tidy (in_turn cs) = in-turn-tidy cs
  started-tidy (side_by_side cs) = side-by-side-tidy cs
  started-tidy (drains c) = tt

  in-turn-tidy : (cs : Codes) → TidyInTurn (all_started cs)
  in-turn-tidy no_code = tt
  in-turn-tidy (code c cs) = (started-tidy c, in-turn-tidy cs, λ h. all-unmoved cs)

  side-by-side-tidy : (cs : Codes) → TidySideBySide (all_started cs)
  side-by-side-tidy no_code = tt
  side-by-side-tidy (code c cs) = (started-tidy c, side-by-side-tidy cs)

-- what a move leads to, if it is made
abbrev After : {X : Type 0} → (X → Type 0) → Option (X × Option Proc) → Type 0
After Q None = Unit {0}
After Q (Some x) = Q x.0

-- by one test
cond-after : {X : Type 0} (Q : X → Type 0) (b : Bool) (o u : Option (X × Option Proc)) → (b ≡ true → After Q o) → (b ≡ false → After Q u) → After Q (cond b o u)
cond-after Q true o u h k = h refl
cond-after Q false o u h k = k refl

here-after : {X : Type 0} (Q : X → Type 0) (a : Place) (o : Option (X × Option Proc)) → After Q o → After Q (if_here a o)
here-after Q [] o h = h
here-after Q (x ∷ a) o h = tt

act-after : {X : Type 0} (Q : X → Type 0) (n : ℕ) (a : Place) (o : Option (X × Option Proc)) → After Q o → After Q (if_act n a o)
act-after Q n [] o h = tt
act-after Q n (Ordered i ∷ []) o h = cond-after Q (i == n) o None (λ e. h) (λ e. tt)
act-after Q n (Ordered i ∷ x ∷ a) o h = tt
act-after Q n (Branch i ∷ a) o h = tt

child-after : {X : Type 0} (Q : X → Type 0) (n : ℕ) (a : Place) (f : Place → Option (X × Option Proc)) → ((b : Place) → After Q (f b)) → After Q (if_child n a f)
child-after Q n [] f h = tt
child-after Q n (Ordered i ∷ a) f h = cond-after Q (i == n) (f a) None (λ e. h a) (λ e. tt)
child-after Q n (Branch i ∷ a) f h = tt

branch-after : {X : Type 0} (Q : X → Type 0) (n : ℕ) (a : Place) (f : Place → Option (X × Option Proc)) (o : Option (X × Option Proc)) → ((b : Place) → After Q (f b)) → After Q o
    → After Q (if_branch n a f o)
branch-after Q n [] f o h k = k
branch-after Q n (Ordered i ∷ a) f o h k = k
branch-after Q n (Branch i ∷ a) f o h k = cond-after Q (i == n) (f a) o (λ e. h a) (λ e. k)

wrap-after : {X Y : Type 0} (P : X → Type 0) (Q : Y → Type 0) (w : X → Y) (o : Option (X × Option Proc)) → ((x : X) → P x → Q (w x)) → After P o → After Q (wrap w o)
wrap-after P Q w None f h = tt
wrap-after P Q w (Some x) f h = f x.0 h

once-after-tidy : (o : Once) (made : Bool) (k : Ask) → After Tidy (once_after o made k)
once-after-tidy (assigning x w e) true k = tt
once-after-tidy (receiving c x) true k = tt
once-after-tidy (assigning x w e) false k = leaf k
  where
    leaf : (k : Ask) → After Tidy (once_after (assigning x w e) false k)
    leaf ask.Assign = tt
    leaf _ = tt
once-after-tidy (receiving c x) false k = leaf k
  where
    leaf : (k : Ask) → After Tidy (once_after (receiving c x) false k)
    leaf ask.Receive = tt
    leaf _ = tt

sender-after-tidy : (s : Sender) (k : Ask) → After Tidy (sender_after s k)
sender-after-tidy (sending c w e) k = leaf k
  where
    leaf : (k : Ask) → After Tidy (sender_after (sending c w e) k)
    leaf ask.Send = tt
    leaf ask.Hold = tt
    leaf _ = tt
sender-after-tidy (syncing c) k = leaf k
  where
    leaf : (k : Ask) → After Tidy (sender_after (syncing c) k)
    leaf ask.Sync = tt
    leaf ask.Hold = tt
    leaf _ = tt

holding-after-tidy : (s : Sender) (k : Ask) → After Tidy (holding_after s k)
holding-after-tidy s ask.Release = tt
holding-after-tidy s _ = tt

again-after-tidy : (g : Option Expression) (c : Code) (n : ℕ) (over : Proc) (out : Option Proc) (k : Ask) → Tidy over → After Tidy (again_after g c n over out k)
again-after-tidy None c n over out k t = leaf k
  where
    leaf : (k : Ask) → After Tidy (again_after None c n over out k)
    leaf ask.Turn = started-tidy c
    leaf _ = tt
again-after-tidy (Some e) c n over out k t = leaf k
  where
    leaf : (k : Ask) → After Tidy (again_after (Some e) c n over out k)
    leaf (ask.Test None) = t
    leaf (ask.Test (Some j)) = cond-after Tidy (j == 0) (Some (turn (Some e) c n (started c), out)) None (λ e. started-tidy c) (λ e. tt)
    leaf _ = tt

test-after-tidy : (d : Decision) (cs : Codes) (k : Ask) → After Tidy (test_after d cs k)
test-after-tidy d cs (ask.Test None) = tt
test-after-tidy d cs (ask.Test (Some j)) = started-tidy (code_at cs j)
test-after-tidy d cs _ = tt

open-on-tidy : (ds : List ℕ) (cs : Codes) (o : Option ℕ) (j : ℕ) (v : Option Word) → After Tidy (open_on ds cs o j v)
open-on-tidy ds cs None j v = tt
open-on-tidy ds cs (Some c) j v = started-tidy (code_at cs j)

open-after-tidy : (ds : List ℕ) (cs : Codes) (k : Ask) → After Tidy (open_after ds cs k)
open-after-tidy ds cs (ask.Open j v) = open-on-tidy ds cs (slice_get ds j) j v
open-after-tidy ds cs _ = tt

close-after-tidy : (ds : List ℕ) (cs : Codes) (c : ℕ) (v : Option Word) (q : Proc) (k : Ask) → Tidy q → After Tidy (close_after ds cs c v q k)
close-after-tidy ds cs c v q ask.Close t = t
close-after-tidy ds cs c v q _ t = tt

drain-after-tidy : (c n : ℕ) (k : Ask) → After Tidy (drain_after c n k)
drain-after-tidy c n ask.Receive = tt
drain-after-tidy c n _ = tt

mutual
  after-tidy : (p : Proc) → Tidy p → (a : Place) (k : Ask) → After Tidy (advanced p a k)
  after-tidy idle t a k = tt
  after-tidy stopped t a k = tt
  after-tidy (once o made) t a k = here-after Tidy a (once_after o made k) (once-after-tidy o made k)
  after-tidy (sender s waiting) t a k = act-after Tidy 0 a (sender_after s k) (sender-after-tidy s k)
  after-tidy (sender s holding) t a k = act-after Tidy 1 a (holding_after s k) (holding-after-tidy s k)
  after-tidy (sender s past) t a k = tt
  after-tidy (fresh g c) t a k = act-after Tidy 0 a (again_after g c 0 (ended_at_once g c) None k) (again-after-tidy g c 0 (ended_at_once g c) None k tt)
  after-tidy (turn g c n q) t a k =
      cond-after Tidy (finished q) (if_act (2 * (n + 1)) a (again_after g c (n + 1) (ended g c n q) (Some q) k)) (if_child (2 * n + 1) a (λ b. wrap (turn g c n) (advanced q b k)))
      (λ e. act-after Tidy (2 * (n + 1)) a (again_after g c (n + 1) (ended g c n q) (Some q) k) (again-after-tidy g c (n + 1) (ended g c n q) (Some q) k t))
      (λ e. child-after Tidy (2 * n + 1) a (λ b. wrap (turn g c n) (advanced q b k)) (λ b. wrap-after Tidy Tidy (turn g c n) (advanced q b k) (λ z h. h) (after-tidy q t b k)))
  after-tidy (ended_at_once g c) t a k = tt
  after-tidy (ended g c n q) t a k = tt
  after-tidy (untested d cs) t a k = act-after Tidy 0 a (test_after d cs k) (test-after-tidy d cs k)
  after-tidy (skipped d cs) t a k = tt
  after-tidy (took d cs j q) t a k =
      cond-after Tidy (finished q) None (if_child 1 a (λ b. wrap (took d cs j) (advanced q b k))) (λ e. tt)
      (λ e. child-after Tidy 1 a (λ b. wrap (took d cs j) (advanced q b k)) (λ b. wrap-after Tidy Tidy (took d cs j) (advanced q b k) (λ z h. h) (after-tidy q t b k)))
  after-tidy (unopened ds cs) t a k = act-after Tidy 0 a (open_after ds cs k) (open-after-tidy ds cs k)
  after-tidy (entered ds cs c v q) t a k =
      cond-after Tidy (finished q) (if_act 2 a (close_after ds cs c v q k)) (if_child 1 a (λ b. wrap (entered ds cs c v) (advanced q b k)))
      (λ e. act-after Tidy 2 a (close_after ds cs c v q k) (close-after-tidy ds cs c v q k t))
      (λ e. child-after Tidy 1 a (λ b. wrap (entered ds cs c v) (advanced q b k)) (λ b. wrap-after Tidy Tidy (entered ds cs c v) (advanced q b k) (λ z h. h) (after-tidy q t b k)))
  after-tidy (closed ds cs c v q) t a k = tt
  after-tidy (sequence ps) t a k = wrap-after TidyInTurn Tidy sequence (advanced_sequence 0 ps a k) (λ z h. h) (sequence-after ps 0 t a k)
  after-tidy (parallel ps) t a k = wrap-after TidySideBySide Tidy parallel (advanced_parallel 0 ps a k) (λ z h. h) (parallel-after ps 0 t a k)
  after-tidy (drained c n) t a k = act-after Tidy n a (drain_after c n k) (drain-after-tidy c n k)

  sequence-after : (ps : Procs) (n : ℕ) → TidyInTurn ps → (a : Place) (k : Ask) → After TidyInTurn (advanced_sequence n ps a k)
  sequence-after no_procs n t a k = tt
  sequence-after (proc p ps) n t a k =
      cond-after TidyInTurn (finished p) (wrap (proc p) (advanced_sequence (n + 1) ps a k)) (if_child n a (λ b. wrap (λ q. proc q ps) (advanced p b k)))
      (λ e. wrap-after TidyInTurn TidyInTurn (proc p) (advanced_sequence (n + 1) ps a k) (λ z h. (t.0, h, λ f. absurd (true≢false (sym e ∙ f)))) (sequence-after ps (n + 1) t.1 a k))
      (λ e. child-after TidyInTurn n a (λ b. wrap (λ q. proc q ps) (advanced p b k))
      (λ b. wrap-after Tidy TidyInTurn (λ q. proc q ps) (advanced p b k) (λ z h. (h, t.1, λ f. t.2 e)) (after-tidy p t.0 b k)))

  parallel-after : (ps : Procs) (n : ℕ) → TidySideBySide ps → (a : Place) (k : Ask) → After TidySideBySide (advanced_parallel n ps a k)
  parallel-after no_procs n t a k = tt
  parallel-after (proc p ps) n t a k =
      branch-after TidySideBySide n a (λ b. wrap (λ q. proc q ps) (advanced p b k)) (wrap (proc p) (advanced_parallel (n + 1) ps a k))
      (λ b. wrap-after Tidy TidySideBySide (λ q. proc q ps) (advanced p b k) (λ z h. (h, t.1)) (after-tidy p t.0 b k))
      (wrap-after TidySideBySide TidySideBySide (proc p) (advanced_parallel (n + 1) ps a k) (λ z h. (t.0, h)) (parallel-after ps (n + 1) t.1 a k))

pub moves-keep-tidy : MovesKeepTidy
moves-keep-tidy p a k x t e = subst (After Tidy) e (after-tidy p t a k)
