-- A move that is taken back leaves the process as it was, finished processes included.
use Rattle.std.proofs.Common.{◌≡◌, ◌≢◌, ℕ, suc, ◌+◌, ◌*◌, ◌<◌, ◌==◌, List, [], ◌∷◌, Bool, true, false, Option, Some, None, option_map, slice_get, refl, ap, ◌∙◌, arith}
use Rattle.address.specs.declared.Entry.TheVariants.{Ordered, Branch}
use Rattle.value.specs.Word.{Word}
use Rattle.system.specs.Expression.{Expression, Decision}
use Rattle.runs.specs.Moves.{Place}
use Rattle.runs.specs.declared.ask.Ask.{Ask}
use Rattle.runs.specs.declared.ask.Ask.TheVariants as ask
use Rattle.runs.proofs.public.Options.{none-some, cond-some}
use Rattle.process_tree.specs.Code.{Once, assigning, receiving, Sender, sending, syncing, Code, Codes, code_at}
use Rattle.process_tree.specs.Proc.{waiting, holding, past, Proc, idle, stopped, once, sender, fresh, turn, ended_at_once, ended, untested, skipped, took, unopened, entered, closed, sequence, parallel, drained, Procs, no_procs, proc, started, finished}
use Rattle.runs.specs.ByPlace.{if_act, if_child}
use Rattle.process_tree.specs.Places.{if_child_or, wrap}
use Rattle.process_tree.specs.Advanced.{Moved, MovedIn, once_after, sender_after, holding_after, again_after, test_after, open_on, open_after, close_after, drain_after, advanced, advanced_sequence, advanced_parallel}
use Rattle.process_tree.specs.Retreated.{before_turn, before_drain, retreated, retreated_sequence, retreated_parallel}
use Rattle.process_tree.proofs.public.Asking.{some-elim, cond-elim, here-elim, act-elim, child-elim, branch-elim, wrap-elim, act-at, child-at, child_or-at, child_or-other, branch-at}

-- what makes one move
once-back : (o : Once) (made : Bool) (k : Ask) (x : Moved) → once_after o made k ≡ Some x → retreated x.0 [] x.1 ≡ Some (once o made)
once-back (assigning v w e) false ask.Assign x h = some-elim (once (assigning v w e) true, None) x (λ x. retreated x.0 [] x.1 ≡ Some (once (assigning v w e) false)) h refl
once-back (receiving c v) false ask.Receive x h = some-elim (once (receiving c v) true, None) x (λ x. retreated x.0 [] x.1 ≡ Some (once (receiving c v) false)) h refl
once-back _ _ _ x h = none-some x h

-- what a send or sync that waits becomes goes back to it
abbrev BackToWaiting : Sender → Moved → Type 0
BackToWaiting s x = retreated x.0 (Ordered 0 ∷ []) x.1 ≡ Some (sender s waiting)

-- a send or sync that waits
sender-back : (s : Sender) (k : Ask) (x : Moved) → sender_after s k ≡ Some x → BackToWaiting s x
sender-back (sending c w e) ask.Send x h = some-elim (sender (sending c w e) past, None) x (BackToWaiting (sending c w e)) h refl
sender-back (sending c w e) ask.Hold x h = some-elim (sender (sending c w e) holding, None) x (BackToWaiting (sending c w e)) h refl
sender-back (syncing c) ask.Sync x h = some-elim (sender (syncing c) past, None) x (BackToWaiting (syncing c)) h refl
sender-back (syncing c) ask.Hold x h = some-elim (sender (syncing c) holding, None) x (BackToWaiting (syncing c)) h refl
sender-back _ _ x h = none-some x h

-- one that is held
holding-back : (s : Sender) (k : Ask) (x : Moved) → holding_after s k ≡ Some x → retreated x.0 (Ordered 1 ∷ []) x.1 ≡ Some (sender s holding)
holding-back s ask.Release x h = some-elim (sender s past, None) x (λ x. retreated x.0 (Ordered 1 ∷ []) x.1 ≡ Some (sender s holding)) h refl
holding-back s _ x h = none-some x h

-- a loop that goes on or ends: back to the process p before it
again-back : (g : Option Expression) (c : Code) (n : ℕ) (over : Proc) (out : Option Proc) (p : Proc) (k : Ask) (x : Moved) → again_after g c n over out k ≡ Some x
    → retreated over (Ordered (2 * n) ∷ []) None ≡ Some p → before_turn g c n out ≡ Some p → retreated x.0 (Ordered (2 * n) ∷ []) x.1 ≡ Some p
again-back None c n over out p ask.Turn x h i j =
    some-elim (turn None c n (started c), out) x (λ x. retreated x.0 (Ordered (2 * n) ∷ []) x.1 ≡ Some p) h
    (child_or-at (2 * n) [] (λ b. before_turn None c n out) (if_child (2 * n + 1) (Ordered (2 * n) ∷ []) (λ b. option_map (turn None c n) (retreated (started c) b out))) ∙ j)
again-back (Some e) c n over out p (ask.Test None) x h i j = some-elim (over, None) x (λ x. retreated x.0 (Ordered (2 * n) ∷ []) x.1 ≡ Some p) h i
again-back (Some e) c n over out p (ask.Test (Some m)) x h i j =
    some-elim (turn (Some e) c n (started c), out) x (λ x. retreated x.0 (Ordered (2 * n) ∷ []) x.1 ≡ Some p) (cond-some (m == 0) (Some (turn (Some e) c n (started c), out)) x h).1
    (child_or-at (2 * n) [] (λ b. before_turn (Some e) c n out) (if_child (2 * n + 1) (Ordered (2 * n) ∷ []) (λ b. option_map (turn (Some e) c n) (retreated (started c) b out))) ∙ j)
again-back _ c n over out p _ x h i j = none-some x h

-- one more
next : (n : ℕ) → n + 1 ≡ suc n
next n = omega arith

-- the turn before the next
turn-before : (g : Option Expression) (c : Code) (n : ℕ) (q : Proc) → before_turn g c (n + 1) (Some q) ≡ Some (turn g c n q)
turn-before g c n q = ap (λ m. before_turn g c m (Some q)) (next n)

-- an `if` or `case`
test-back : (d : Decision) (cs : Codes) (k : Ask) (x : Moved) → test_after d cs k ≡ Some x → retreated x.0 (Ordered 0 ∷ []) x.1 ≡ Some (untested d cs)
test-back d cs (ask.Test None) x h = some-elim (skipped d cs, None) x (λ x. retreated x.0 (Ordered 0 ∷ []) x.1 ≡ Some (untested d cs)) h refl
test-back d cs (ask.Test (Some j)) x h =
    some-elim (took d cs j (started (code_at cs j)), None) x (λ x. retreated x.0 (Ordered 0 ∷ []) x.1 ≡ Some (untested d cs)) h refl
test-back d cs _ x h = none-some x h

-- an arm that opens
on-back : (ds : List ℕ) (cs : Codes) (o : Option ℕ) (j : ℕ) (v : Option Word) (x : Moved) → open_on ds cs o j v ≡ Some x
    → retreated x.0 (Ordered 0 ∷ []) x.1 ≡ Some (unopened ds cs)
on-back ds cs None j v x h = none-some x h
on-back ds cs (Some c) j v x h =
    some-elim (entered ds cs c v (started (code_at cs j)), None) x (λ x. retreated x.0 (Ordered 0 ∷ []) x.1 ≡ Some (unopened ds cs)) h refl

-- arms that wait
open-back : (ds : List ℕ) (cs : Codes) (k : Ask) (x : Moved) → open_after ds cs k ≡ Some x → retreated x.0 (Ordered 0 ∷ []) x.1 ≡ Some (unopened ds cs)
open-back ds cs (ask.Open j v) x h = on-back ds cs (slice_get ds j) j v x h
open-back ds cs _ x h = none-some x h

-- the close
close-back : (ds : List ℕ) (cs : Codes) (c : ℕ) (v : Option Word) (q : Proc) (k : Ask) (x : Moved) → close_after ds cs c v q k ≡ Some x
    → retreated x.0 (Ordered 2 ∷ []) x.1 ≡ Some (entered ds cs c v q)
close-back ds cs c v q ask.Close x h = some-elim (closed ds cs c v q, None) x (λ x. retreated x.0 (Ordered 2 ∷ []) x.1 ≡ Some (entered ds cs c v q)) h refl
close-back ds cs c v q _ x h = none-some x h

-- the receives on an output port
drain-back : (c n : ℕ) (k : Ask) (x : Moved) → drain_after c n k ≡ Some x → retreated x.0 (Ordered n ∷ []) x.1 ≡ Some (drained c n)
drain-back c n ask.Receive x h =
    some-elim (drained c (n + 1), None) x (λ x. retreated x.0 (Ordered n ∷ []) x.1 ≡ Some (drained c n)) h
    (ap (λ m. before_drain c m (Ordered n ∷ [])) (next n) ∙ act-at n (Some (drained c n)))
drain-back c n _ x h = none-some x h

-- a place in a sequence is at its first child or later
abbrev pub NotInChild : ℕ → Place → Type 1
NotInChild n a = (Y : Type 0) (g : Place → Option Y) (r : Option Y) → if_child_or n a g r ≡ r

pub sequence-later : (n m : ℕ) (ps : Procs) (a : Place) (k : Ask) (x : MovedIn) → n < m → advanced_sequence m ps a k ≡ Some x → NotInChild n a
sequence-later n m no_procs a k x l h = λ Y g r. none-some x h
sequence-later n m (proc p ps) a k x l h =
    λ Y g r. cond-elim (finished p) (wrap (proc p) (advanced_sequence (m + 1) ps a k)) (if_child m a (λ b. wrap (λ q. proc q ps) (advanced p b k))) x
    (if_child_or n a g r ≡ r) h
    (λ t e. wrap-elim (proc p) (advanced_sequence (m + 1) ps a k) x (λ x. if_child_or n a g r ≡ r) e (λ y i. sequence-later n (m + 1) ps a k y (omega arith) i Y g r))
    (λ t e. child-elim m a (λ b. wrap (λ q. proc q ps) (advanced p b k)) x (λ a. if_child_or n a g r ≡ r) e
    (λ b i. child_or-other n m b g r (λ d. omega arith)))

-- a node that moved in child i goes back there
in_child-back : (i : ℕ) (b : Place) (w : Proc → Proc) (p q : Proc) (out : Option Proc) (rest : Option Proc) (j : ℕ) (f : Place → Option Proc) → i ≢ j
    → retreated q b out ≡ Some p → if_child_or j (Ordered i ∷ b) f (if_child i (Ordered i ∷ b) (λ b. option_map w (retreated q b out))) ≡ Some (w p)
in_child-back i b w p q out rest j f d e =
    child_or-other j i b f (if_child i (Ordered i ∷ b) (λ b. option_map w (retreated q b out))) d
    ∙ child-at i b (λ b. option_map w (retreated q b out)) ∙ ap (option_map w) e

mutual
  -- a move and its undo leave the process as it was
  pub back : (p : Proc) (a : Place) (k : Ask) (x : Moved) → advanced p a k ≡ Some x → retreated x.0 a x.1 ≡ Some p
  back idle a k x h = none-some x h
  back stopped a k x h = none-some x h
  back (once o made) a k x h = here-elim a (once_after o made k) x (λ a. retreated x.0 a x.1 ≡ Some (once o made)) h (once-back o made k x)
  back (sender s waiting) a k x h = act-elim 0 a (sender_after s k) x (λ a. retreated x.0 a x.1 ≡ Some (sender s waiting)) h (sender-back s k x)
  back (sender s holding) a k x h = act-elim 1 a (holding_after s k) x (λ a. retreated x.0 a x.1 ≡ Some (sender s holding)) h (holding-back s k x)
  back (sender s past) a k x h = none-some x h
  back (fresh g c) a k x h =
      act-elim 0 a (again_after g c 0 (ended_at_once g c) None k) x (λ a. retreated x.0 a x.1 ≡ Some (fresh g c)) h
      (λ e. again-back g c 0 (ended_at_once g c) None (fresh g c) k x e refl refl)
  back (turn g c n q) a k x h =
      cond-elim (finished q) (if_act (2 * (n + 1)) a (again_after g c (n + 1) (ended g c n q) (Some q) k)) (if_child (2 * n + 1) a (λ b. wrap (turn g c n) (advanced q b k))) x
      (retreated x.0 a x.1 ≡ Some (turn g c n q)) h
      (λ t e. act-elim (2 * (n + 1)) a (again_after g c (n + 1) (ended g c n q) (Some q) k) x (λ a. retreated x.0 a x.1 ≡ Some (turn g c n q)) e
      (λ i. again-back g c (n + 1) (ended g c n q) (Some q) (turn g c n q) k x i refl (turn-before g c n q)))
      (λ t e. child-elim (2 * n + 1) a (λ b. wrap (turn g c n) (advanced q b k)) x (λ a. retreated x.0 a x.1 ≡ Some (turn g c n q)) e
      (λ b i. wrap-elim (turn g c n) (advanced q b k) x (λ x. retreated x.0 (Ordered (2 * n + 1) ∷ b) x.1 ≡ Some (turn g c n q)) i
      (λ y j. in_child-back (2 * n + 1) b (turn g c n) q y.0 y.1 None (2 * n) (λ b. before_turn g c n y.1) (λ d. omega arith) (back q b k y j))))
  back (ended_at_once g c) a k x h = none-some x h
  back (ended g c n q) a k x h = none-some x h
  back (untested d cs) a k x h = act-elim 0 a (test_after d cs k) x (λ a. retreated x.0 a x.1 ≡ Some (untested d cs)) h (test-back d cs k x)
  back (skipped d cs) a k x h = none-some x h
  back (took d cs j q) a k x h =
      cond-elim (finished q) None (if_child 1 a (λ b. wrap (took d cs j) (advanced q b k))) x (retreated x.0 a x.1 ≡ Some (took d cs j q)) h
      (λ t e. none-some x e)
      (λ t e. child-elim 1 a (λ b. wrap (took d cs j) (advanced q b k)) x (λ a. retreated x.0 a x.1 ≡ Some (took d cs j q)) e
      (λ b i. wrap-elim (took d cs j) (advanced q b k) x (λ x. retreated x.0 (Ordered 1 ∷ b) x.1 ≡ Some (took d cs j q)) i
      (λ y z. in_child-back 1 b (took d cs j) q y.0 y.1 None 0 (λ b. Some (untested d cs)) (λ d. omega arith) (back q b k y z))))
  back (unopened ds cs) a k x h = act-elim 0 a (open_after ds cs k) x (λ a. retreated x.0 a x.1 ≡ Some (unopened ds cs)) h (open-back ds cs k x)
  back (entered ds cs c v q) a k x h =
      cond-elim (finished q) (if_act 2 a (close_after ds cs c v q k)) (if_child 1 a (λ b. wrap (entered ds cs c v) (advanced q b k))) x
      (retreated x.0 a x.1 ≡ Some (entered ds cs c v q)) h
      (λ t e. act-elim 2 a (close_after ds cs c v q k) x (λ a. retreated x.0 a x.1 ≡ Some (entered ds cs c v q)) e (close-back ds cs c v q k x))
      (λ t e. child-elim 1 a (λ b. wrap (entered ds cs c v) (advanced q b k)) x (λ a. retreated x.0 a x.1 ≡ Some (entered ds cs c v q)) e
      (λ b i. wrap-elim (entered ds cs c v) (advanced q b k) x (λ x. retreated x.0 (Ordered 1 ∷ b) x.1 ≡ Some (entered ds cs c v q)) i
      (λ y z. in_child-back 1 b (entered ds cs c v) q y.0 y.1 None 0 (λ b. Some (unopened ds cs)) (λ d. omega arith) (back q b k y z))))
  back (closed ds cs c v q) a k x h = none-some x h
  back (sequence ps) a k x h =
      wrap-elim sequence (advanced_sequence 0 ps a k) x (λ x. retreated x.0 a x.1 ≡ Some (sequence ps)) h
      (λ y i. ap (option_map sequence) (back_sequence ps 0 a k y i))
  back (parallel ps) a k x h =
      wrap-elim parallel (advanced_parallel 0 ps a k) x (λ x. retreated x.0 a x.1 ≡ Some (parallel ps)) h
      (λ y i. ap (option_map parallel) (back_parallel ps 0 a k y i))
  back (drained c n) a k x h = act-elim n a (drain_after c n k) x (λ a. retreated x.0 a x.1 ≡ Some (drained c n)) h (drain-back c n k x)

  back_sequence : (ps : Procs) (n : ℕ) (a : Place) (k : Ask) (x : MovedIn) → advanced_sequence n ps a k ≡ Some x → retreated_sequence n x.0 a x.1 ≡ Some ps
  back_sequence no_procs n a k x h = none-some x h
  back_sequence (proc p ps) n a k x h =
      cond-elim (finished p) (wrap (proc p) (advanced_sequence (n + 1) ps a k)) (if_child n a (λ b. wrap (λ q. proc q ps) (advanced p b k))) x
      (retreated_sequence n x.0 a x.1 ≡ Some (proc p ps)) h
      (λ t e. wrap-elim (proc p) (advanced_sequence (n + 1) ps a k) x (λ x. retreated_sequence n x.0 a x.1 ≡ Some (proc p ps)) e
      (λ y i. sequence-later n (n + 1) ps a k y (omega arith) i Procs (λ b. option_map (λ q. proc q y.0) (retreated p b y.1))
      (option_map (proc p) (retreated_sequence (n + 1) y.0 a y.1))
      ∙ ap (option_map (proc p)) (back_sequence ps (n + 1) a k y i)))
      (λ t e. child-elim n a (λ b. wrap (λ q. proc q ps) (advanced p b k)) x (λ a. retreated_sequence n x.0 a x.1 ≡ Some (proc p ps)) e
      (λ b i. wrap-elim (λ q. proc q ps) (advanced p b k) x (λ x. retreated_sequence n x.0 (Ordered n ∷ b) x.1 ≡ Some (proc p ps)) i
      (λ y j. child_or-at n b (λ b. option_map (λ q. proc q ps) (retreated y.0 b y.1)) (option_map (proc y.0) (retreated_sequence (n + 1) ps (Ordered n ∷ b) y.1))
      ∙ ap (option_map (λ q. proc q ps)) (back p b k y j))))

  back_parallel : (ps : Procs) (n : ℕ) (a : Place) (k : Ask) (x : MovedIn) → advanced_parallel n ps a k ≡ Some x → retreated_parallel n x.0 a x.1 ≡ Some ps
  back_parallel no_procs n a k x h = none-some x h
  back_parallel (proc p ps) n a k x h =
      branch-elim n a (λ b. wrap (λ q. proc q ps) (advanced p b k)) (wrap (proc p) (advanced_parallel (n + 1) ps a k)) x
      (λ a. retreated_parallel n x.0 a x.1 ≡ Some (proc p ps)) h
      (λ b i. wrap-elim (λ q. proc q ps) (advanced p b k) x (λ x. retreated_parallel n x.0 (Branch n ∷ b) x.1 ≡ Some (proc p ps)) i
      (λ y j. branch-at n b (λ b. option_map (λ q. proc q ps) (retreated y.0 b y.1)) (option_map (proc y.0) (retreated_parallel (n + 1) ps (Branch n ∷ b) y.1))
      ∙ ap (option_map (λ q. proc q ps)) (back p b k y j)))
      (λ i other. wrap-elim (proc p) (advanced_parallel (n + 1) ps a k) x (λ x. retreated_parallel n x.0 a x.1 ≡ Some (proc p ps)) i
      (λ y j. other Procs (λ b. option_map (λ q. proc q y.0) (retreated p b y.1)) (option_map (proc p) (retreated_parallel (n + 1) y.0 a y.1))
      ∙ ap (option_map (proc p)) (back_parallel ps (n + 1) a k y j)))
