-- Two moves of which the second does not come after the first can be made the other way round, with the same processes taken out.
use Rattle.std.proofs.Common.{◌≡◌, ℕ, ◌+◌, ◌*◌, ◌<◌, ◌==◌, List, [], ◌∷◌, Bool, true, false, cond, Option, Some, None, slice_get, inl, inr, refl, sym, ap, ◌∙◌, arith}
use Rattle.address.specs.declared.Entry.TheVariants.{Ordered, Branch}
use Rattle.address.specs.Places.{Before}
use Rattle.value.specs.Word.{Word}
use Rattle.system.specs.Expression.{Expression, Decision}
use Rattle.runs.specs.Moves.{Place}
use Rattle.runs.specs.declared.ask.Ask.{Ask}
use Rattle.runs.specs.declared.ask.Ask.TheVariants as ask
use Rattle.runs.proofs.public.Options.{none-some, cond-some}
use Rattle.process_tree.specs.Code.{Once, assigning, receiving, Sender, sending, syncing, Code, Codes, code_at}
use Rattle.process_tree.specs.Proc.{waiting, holding, past, Proc, idle, stopped, once, sender, fresh, turn, ended_at_once, ended, untested, skipped, took, unopened, entered, closed, sequence, parallel, drained, Procs, no_procs, proc, started, finished}
use Rattle.runs.specs.ByPlace.{if_act, if_child}
use Rattle.process_tree.specs.Places.{wrap}
use Rattle.process_tree.specs.Advanced.{Moved, MovedIn, once_after, sender_after, holding_after, again_after, test_after, open_on, open_after, close_after, drain_after, advanced, advanced_sequence, advanced_parallel}
use Rattle.process_tree.specs.Laws.{Swapped}
use Rattle.process_tree.proofs.public.Asking.{some-elim, cond-elim, cond-true, cond-false, here-elim, act-elim, child-elim, NotIn, branch-elim, wrap-elim, child-at, branch-at}
use Rattle.process_tree.proofs.public.Simulation.{unfinished}

-- each two moves of p swap
abbrev Swaps : {Y : Type 0} → (Y → Place → Ask → Option (Y × Option Proc)) → Y → Type 0
Swaps {Y = Y} step p =
    (a : Place) (k : Ask) (x : Y × Option Proc) (b : Place) (l : Ask) (y : Y × Option Proc) →
    step p a k ≡ Some x → step x.0 b l ≡ Some y → (Before a b → ⊥) → Swapped step p a k x b l y

-- a process that moves at places behind a only
abbrev MovesBehind : Place → Proc → Type 0
MovesBehind a p = (b : Place) (l : Ask) (y : Moved) → advanced p b l ≡ Some y → Before a b

-- what has made its one move makes no other
once-never : (o : Once) (a b : Place) (l : Ask) (y : Moved) → advanced (once o true) b l ≡ Some y → Before a b
once-never (assigning v w e) a [] l y h = none-some y h
once-never (receiving c v) a [] l y h = none-some y h
once-never o a (z ∷ b) l y h = none-some y h

once-behind : (o : Once) (made : Bool) (k : Ask) (x : Moved) → once_after o made k ≡ Some x → (a : Place) → MovesBehind a x.0
once-behind (assigning v w e) false ask.Assign x h a = some-elim (once (assigning v w e) true, None) x (λ x. MovesBehind a x.0) h (once-never (assigning v w e) a)
once-behind (receiving c v) false ask.Receive x h a = some-elim (once (receiving c v) true, None) x (λ x. MovesBehind a x.0) h (once-never (receiving c v) a)
once-behind _ _ _ x h a = none-some x h

-- a send or sync that is held moves at its act 1
holding-place : (s : Sender) → MovesBehind (Ordered 0 ∷ []) (sender s holding)
holding-place s b l y h = act-elim 1 b (holding_after s l) y (λ b. Before (Ordered 0 ∷ []) b) h (λ e. inl (omega arith))

sender-behind : (s : Sender) (k : Ask) (x : Moved) → sender_after s k ≡ Some x → MovesBehind (Ordered 0 ∷ []) x.0
sender-behind (sending c w e) ask.Send x h = some-elim (sender (sending c w e) past, None) x (λ x. MovesBehind (Ordered 0 ∷ []) x.0) h (λ b l y i. none-some y i)
sender-behind (sending c w e) ask.Hold x h = some-elim (sender (sending c w e) holding, None) x (λ x. MovesBehind (Ordered 0 ∷ []) x.0) h (holding-place (sending c w e))
sender-behind (syncing c) ask.Sync x h = some-elim (sender (syncing c) past, None) x (λ x. MovesBehind (Ordered 0 ∷ []) x.0) h (λ b l y i. none-some y i)
sender-behind (syncing c) ask.Hold x h = some-elim (sender (syncing c) holding, None) x (λ x. MovesBehind (Ordered 0 ∷ []) x.0) h (holding-place (syncing c))
sender-behind _ _ x h = none-some x h

holding-behind : (s : Sender) (k : Ask) (x : Moved) → holding_after s k ≡ Some x → (a : Place) → MovesBehind a x.0
holding-behind s ask.Release x h a = some-elim (sender s past, None) x (λ x. MovesBehind a x.0) h (λ b l y i. none-some y i)
holding-behind s _ x h a = none-some x h

-- a loop in turn n moves behind that turn
turn-behind : (g : Option Expression) (c : Code) (n : ℕ) (q : Proc) → MovesBehind (Ordered (2 * n) ∷ []) (turn g c n q)
turn-behind g c n q b l y h =
    cond-elim (finished q) (if_act (2 * (n + 1)) b (again_after g c (n + 1) (ended g c n q) (Some q) l)) (if_child (2 * n + 1) b (λ b. wrap (turn g c n) (advanced q b l))) y
    (Before (Ordered (2 * n) ∷ []) b) h
    (λ t e. act-elim (2 * (n + 1)) b (again_after g c (n + 1) (ended g c n q) (Some q) l) y (λ b. Before (Ordered (2 * n) ∷ []) b) e (λ i. inl (omega arith)))
    (λ t e. child-elim (2 * n + 1) b (λ b. wrap (turn g c n) (advanced q b l)) y (λ b. Before (Ordered (2 * n) ∷ []) b) e (λ b i. inl (omega arith)))

again-behind : (g : Option Expression) (c : Code) (n : ℕ) (over : Proc) (out : Option Proc) (k : Ask) (x : Moved) → again_after g c n over out k ≡ Some x
    → MovesBehind (Ordered (2 * n) ∷ []) over → MovesBehind (Ordered (2 * n) ∷ []) x.0
again-behind None c n over out ask.Turn x h i =
    some-elim (turn None c n (started c), out) x (λ x. MovesBehind (Ordered (2 * n) ∷ []) x.0) h (turn-behind None c n (started c))
again-behind (Some e) c n over out (ask.Test None) x h i = some-elim (over, None) x (λ x. MovesBehind (Ordered (2 * n) ∷ []) x.0) h i
again-behind (Some e) c n over out (ask.Test (Some m)) x h i =
    some-elim (turn (Some e) c n (started c), out) x (λ x. MovesBehind (Ordered (2 * n) ∷ []) x.0)
    (cond-some (m == 0) (Some (turn (Some e) c n (started c), out)) x h).1 (turn-behind (Some e) c n (started c))
again-behind _ c n over out _ x h i = none-some x h

-- an arm that a test took moves behind the test
took-behind : (d : Decision) (cs : Codes) (j : ℕ) (q : Proc) → MovesBehind (Ordered 0 ∷ []) (took d cs j q)
took-behind d cs j q b l y h =
    cond-elim (finished q) None (if_child 1 b (λ b. wrap (took d cs j) (advanced q b l))) y (Before (Ordered 0 ∷ []) b) h (λ t e. none-some y e)
    (λ t e. child-elim 1 b (λ b. wrap (took d cs j) (advanced q b l)) y (λ b. Before (Ordered 0 ∷ []) b) e (λ b i. inl (omega arith)))

test-behind : (d : Decision) (cs : Codes) (k : Ask) (x : Moved) → test_after d cs k ≡ Some x → MovesBehind (Ordered 0 ∷ []) x.0
test-behind d cs (ask.Test None) x h = some-elim (skipped d cs, None) x (λ x. MovesBehind (Ordered 0 ∷ []) x.0) h (λ b l y i. none-some y i)
test-behind d cs (ask.Test (Some j)) x h =
    some-elim (took d cs j (started (code_at cs j)), None) x (λ x. MovesBehind (Ordered 0 ∷ []) x.0) h (took-behind d cs j (started (code_at cs j)))
test-behind d cs _ x h = none-some x h

-- an arm that opened moves behind the open
entered-behind : (ds : List ℕ) (cs : Codes) (c : ℕ) (v : Option Word) (q : Proc) → MovesBehind (Ordered 0 ∷ []) (entered ds cs c v q)
entered-behind ds cs c v q b l y h =
    cond-elim (finished q) (if_act 2 b (close_after ds cs c v q l)) (if_child 1 b (λ b. wrap (entered ds cs c v) (advanced q b l))) y (Before (Ordered 0 ∷ []) b) h
    (λ t e. act-elim 2 b (close_after ds cs c v q l) y (λ b. Before (Ordered 0 ∷ []) b) e (λ i. inl (omega arith)))
    (λ t e. child-elim 1 b (λ b. wrap (entered ds cs c v) (advanced q b l)) y (λ b. Before (Ordered 0 ∷ []) b) e (λ b i. inl (omega arith)))

on-behind : (ds : List ℕ) (cs : Codes) (o : Option ℕ) (j : ℕ) (v : Option Word) (x : Moved) → open_on ds cs o j v ≡ Some x → MovesBehind (Ordered 0 ∷ []) x.0
on-behind ds cs None j v x h = none-some x h
on-behind ds cs (Some c) j v x h =
    some-elim (entered ds cs c v (started (code_at cs j)), None) x (λ x. MovesBehind (Ordered 0 ∷ []) x.0) h (entered-behind ds cs c v (started (code_at cs j)))

open-behind : (ds : List ℕ) (cs : Codes) (k : Ask) (x : Moved) → open_after ds cs k ≡ Some x → MovesBehind (Ordered 0 ∷ []) x.0
open-behind ds cs (ask.Open j v) x h = on-behind ds cs (slice_get ds j) j v x h
open-behind ds cs _ x h = none-some x h

close-behind : (ds : List ℕ) (cs : Codes) (c : ℕ) (v : Option Word) (q : Proc) (k : Ask) (x : Moved) → close_after ds cs c v q k ≡ Some x → (a : Place) → MovesBehind a x.0
close-behind ds cs c v q ask.Close x h a = some-elim (closed ds cs c v q, None) x (λ x. MovesBehind a x.0) h (λ b l y i. none-some y i)
close-behind ds cs c v q _ x h a = none-some x h

drain-behind : (c n : ℕ) (k : Ask) (x : Moved) → drain_after c n k ≡ Some x → MovesBehind (Ordered n ∷ []) x.0
drain-behind c n ask.Receive x h =
    some-elim (drained c (n + 1), None) x (λ x. MovesBehind (Ordered n ∷ []) x.0) h
    (λ b l y i. act-elim (n + 1) b (drain_after c (n + 1) l) y (λ b. Before (Ordered n ∷ []) b) i (λ e. inl (omega arith)))
drain-behind c n _ x h = none-some x h

-- a sequence moves at its first child or later
pub sequence-behind : (n m : ℕ) (c : Place) (ps : Procs) (b : Place) (l : Ask) (y : MovedIn) → n < m → advanced_sequence m ps b l ≡ Some y → Before (Ordered n ∷ c) b
sequence-behind n m c no_procs b l y i h = none-some y h
sequence-behind n m c (proc p ps) b l y i h =
    cond-elim (finished p) (wrap (proc p) (advanced_sequence (m + 1) ps b l)) (if_child m b (λ b. wrap (λ q. proc q ps) (advanced p b l))) y
    (Before (Ordered n ∷ c) b) h
    (λ t e. wrap-elim (proc p) (advanced_sequence (m + 1) ps b l) y (λ y. Before (Ordered n ∷ c) b) e (λ z j. sequence-behind n (m + 1) c ps b l z (omega arith) j))
    (λ t e. child-elim m b (λ b. wrap (λ q. proc q ps) (advanced p b l)) y (λ b. Before (Ordered n ∷ c) b) e (λ b j. inl i))

-- a node w q that moves in its child i until that is finished, and then by `rest`, behind it
module _ {Y : Type 0} (step : Y → Place → Ask → Option (Y × Option Proc)) (w : Proc → Y) (i : ℕ) (rest : Proc → Place → Ask → Option (Y × Option Proc))
    (is : (q : Proc) (a : Place) (k : Ask) → step (w q) a k ≡ cond (finished q) (rest q a k) (if_child i a (λ b. wrap w (advanced q b k))))
    (later : (q : Proc) (b : Place) (l : Ask) (y : Y × Option Proc) → rest q b l ≡ Some y → (c : Place) → Before (Ordered i ∷ c) b)
  where
    -- a move of the child is one of the node
    node-at : (q : Proc) (b : Place) (l : Ask) (z : Moved) → advanced q b l ≡ Some z → step (w q) (Ordered i ∷ b) l ≡ Some (w z.0, z.1)
    node-at q b l z e =
        is q (Ordered i ∷ b) l ∙ cond-false (finished q) (rest q (Ordered i ∷ b) l) (if_child i (Ordered i ∷ b) (λ b. wrap w (advanced q b l))) (unfinished q b l z e)
        ∙ child-at i b (λ b. wrap w (advanced q b l)) ∙ ap (wrap w) e

    -- two moves of the node swap where those of the child do
    in_node : (q : Proc) → Swaps advanced q → (a : Place) (k : Ask) (x : Y × Option Proc) (b : Place) (l : Ask) (y : Y × Option Proc) →
        if_child i a (λ b. wrap w (advanced q b k)) ≡ Some x → step x.0 b l ≡ Some y → (Before a b → ⊥) → Swapped step (w q) a k x b l y
    in_node q ih a k x b l y h g n =
        child-elim i a (λ b. wrap w (advanced q b k)) x (λ a. (Before a b → ⊥) → Swapped step (w q) a k x b l y) h
        (λ a e n. wrap-elim w (advanced q a k) x (λ x. step x.0 b l ≡ Some y → Swapped step (w q) (Ordered i ∷ a) k x b l y) e
        (λ x d g. cond-elim (finished x.0) (rest x.0 b l) (if_child i b (λ b. wrap w (advanced x.0 b l))) y (Swapped step (w q) (Ordered i ∷ a) k (w x.0, x.1) b l y)
        (sym (is x.0 b l) ∙ g)
        (λ t r. absurd (n (later x.0 b l y r a)))
        (λ t r. child-elim i b (λ b. wrap w (advanced x.0 b l)) y (λ b. (Before (Ordered i ∷ a) b → ⊥) → Swapped step (w q) (Ordered i ∷ a) k (w x.0, x.1) b l y) r
        (λ b s n. wrap-elim w (advanced x.0 b l) y (λ y. Swapped step (w q) (Ordered i ∷ a) k (w x.0, x.1) (Ordered i ∷ b) l y) s
        (λ y c. let z = ih a k x b l y d c (λ m. n (inr (refl, m))) in
        ((w z.0.0, z.0.1), node-at q b l z.0 z.1, node-at z.0.0 a k (y.0, x.1) z.2, z.3))) n)) g) n

-- the first of two branches moves, and then the rest
branch-rest : (p : Proc) (ps : Procs) (n : ℕ) (a : Place) (k : Ask) (x : Moved) (b : Place) (l : Ask) (y : MovedIn) →
    advanced p a k ≡ Some x → advanced_parallel (n + 1) ps b l ≡ Some y → NotIn n b →
    Swapped (advanced_parallel n) (proc p ps) (Branch n ∷ a) k (proc x.0 ps, x.1) b l (proc x.0 y.0, y.1)
branch-rest p ps n a k x b l y d c other = (
  (proc p y.0, y.1),
  other MovedIn (λ b. wrap (λ q. proc q ps) (advanced p b l)) (wrap (proc p) (advanced_parallel (n + 1) ps b l)) ∙ ap (wrap (proc p)) c,
  branch-at n a (λ b. wrap (λ q. proc q y.0) (advanced p b k)) (wrap (proc p) (advanced_parallel (n + 1) y.0 (Branch n ∷ a) k)) ∙ ap (wrap (λ q. proc q y.0)) d,
  refl,
)

-- the rest moves, and then the first branch
rest-branch : (p : Proc) (ps : Procs) (n : ℕ) (a : Place) (k : Ask) (x : MovedIn) (b : Place) (l : Ask) (y : Moved) →
    advanced_parallel (n + 1) ps a k ≡ Some x → advanced p b l ≡ Some y → NotIn n a →
    Swapped (advanced_parallel n) (proc p ps) a k (proc p x.0, x.1) (Branch n ∷ b) l (proc y.0 x.0, y.1)
rest-branch p ps n a k x b l y d c other = (
  (proc y.0 ps, y.1),
  branch-at n b (λ b. wrap (λ q. proc q ps) (advanced p b l)) (wrap (proc p) (advanced_parallel (n + 1) ps (Branch n ∷ b) l)) ∙ ap (wrap (λ q. proc q ps)) c,
  other MovedIn (λ b. wrap (λ q. proc q ps) (advanced y.0 b k)) (wrap (proc y.0) (advanced_parallel (n + 1) ps a k)) ∙ ap (wrap (proc y.0)) d,
  refl,
)

mutual
  -- two moves of a process swap unless the second comes after the first
  pub swap : (p : Proc) → Swaps advanced p
  swap idle a k x b l y h g n = none-some x h
  swap stopped a k x b l y h g n = none-some x h
  swap (once o made) a k x b l y h g n =
      absurd (n (here-elim a (once_after o made k) x (λ a. Before a b) h (λ e. once-behind o made k x e [] b l y g)))
  swap (sender s waiting) a k x b l y h g n =
      absurd (n (act-elim 0 a (sender_after s k) x (λ a. Before a b) h (λ e. sender-behind s k x e b l y g)))
  swap (sender s holding) a k x b l y h g n =
      absurd (n (act-elim 1 a (holding_after s k) x (λ a. Before a b) h (λ e. holding-behind s k x e (Ordered 1 ∷ []) b l y g)))
  swap (sender s past) a k x b l y h g n = none-some x h
  swap (fresh g c) a k x b l y h i n =
      absurd (n (act-elim 0 a (again_after g c 0 (ended_at_once g c) None k) x (λ a. Before a b) h
      (λ e. again-behind g c 0 (ended_at_once g c) None k x e (λ b l y j. none-some y j) b l y i)))
  swap (turn g c m q) a k x b l y h i n =
      cond-elim (finished q) (if_act (2 * (m + 1)) a (again_after g c (m + 1) (ended g c m q) (Some q) k)) (if_child (2 * m + 1) a (λ b. wrap (turn g c m) (advanced q b k))) x
      (Swapped advanced (turn g c m q) a k x b l y) h
      (λ t e. absurd (n (act-elim (2 * (m + 1)) a (again_after g c (m + 1) (ended g c m q) (Some q) k) x (λ a. Before a b) e
      (λ j. again-behind g c (m + 1) (ended g c m q) (Some q) k x j (λ b l y j. none-some y j) b l y i))))
      (λ t e. in_node advanced (turn g c m) (2 * m + 1) (λ q a k. if_act (2 * (m + 1)) a (again_after g c (m + 1) (ended g c m q) (Some q) k)) (λ q a k. refl)
      (λ q b l y r c'. act-elim (2 * (m + 1)) b (again_after g c (m + 1) (ended g c m q) (Some q) l) y (λ b. Before (Ordered (2 * m + 1) ∷ c') b) r (λ j. inl (omega arith)))
      q (swap q) a k x b l y e i n)
  swap (ended_at_once g c) a k x b l y h i n = none-some x h
  swap (ended g c m q) a k x b l y h i n = none-some x h
  swap (untested d cs) a k x b l y h g n =
      absurd (n (act-elim 0 a (test_after d cs k) x (λ a. Before a b) h (λ e. test-behind d cs k x e b l y g)))
  swap (skipped d cs) a k x b l y h g n = none-some x h
  swap (took d cs j q) a k x b l y h g n =
      cond-elim (finished q) None (if_child 1 a (λ b. wrap (took d cs j) (advanced q b k))) x (Swapped advanced (took d cs j q) a k x b l y) h
      (λ t e. none-some x e)
      (λ t e. in_node advanced (took d cs j) 1 (λ q a k. None) (λ q a k. refl) (λ q b l y r c. none-some y r) q (swap q) a k x b l y e g n)
  swap (unopened ds cs) a k x b l y h g n =
      absurd (n (act-elim 0 a (open_after ds cs k) x (λ a. Before a b) h (λ e. open-behind ds cs k x e b l y g)))
  swap (entered ds cs c v q) a k x b l y h g n =
      cond-elim (finished q) (if_act 2 a (close_after ds cs c v q k)) (if_child 1 a (λ b. wrap (entered ds cs c v) (advanced q b k))) x
      (Swapped advanced (entered ds cs c v q) a k x b l y) h
      (λ t e. absurd (n (act-elim 2 a (close_after ds cs c v q k) x (λ a. Before a b) e (λ j. close-behind ds cs c v q k x j (Ordered 2 ∷ []) b l y g))))
      (λ t e. in_node advanced (entered ds cs c v) 1 (λ q a k. if_act 2 a (close_after ds cs c v q k)) (λ q a k. refl)
      (λ q b l y r c'. act-elim 2 b (close_after ds cs c v q l) y (λ b. Before (Ordered 1 ∷ c') b) r (λ j. inl (omega arith)))
      q (swap q) a k x b l y e g n)
  swap (closed ds cs c v q) a k x b l y h g n = none-some x h
  swap (sequence ps) a k x b l y h g n =
      wrap-elim sequence (advanced_sequence 0 ps a k) x (λ x. advanced x.0 b l ≡ Some y → Swapped advanced (sequence ps) a k x b l y) h
      (λ x d g. wrap-elim sequence (advanced_sequence 0 x.0 b l) y (λ y. Swapped advanced (sequence ps) a k (sequence x.0, x.1) b l y) g
      (λ y c. let z = swap_sequence ps 0 a k x b l y d c n in
      ((sequence z.0.0, z.0.1), ap (wrap sequence) z.1, ap (wrap sequence) z.2, z.3))) g
  swap (parallel ps) a k x b l y h g n =
      wrap-elim parallel (advanced_parallel 0 ps a k) x (λ x. advanced x.0 b l ≡ Some y → Swapped advanced (parallel ps) a k x b l y) h
      (λ x d g. wrap-elim parallel (advanced_parallel 0 x.0 b l) y (λ y. Swapped advanced (parallel ps) a k (parallel x.0, x.1) b l y) g
      (λ y c. let z = swap_parallel ps 0 a k x b l y d c n in
      ((parallel z.0.0, z.0.1), ap (wrap parallel) z.1, ap (wrap parallel) z.2, z.3))) g
  swap (drained c m) a k x b l y h g n =
      absurd (n (act-elim m a (drain_after c m k) x (λ a. Before a b) h (λ e. drain-behind c m k x e b l y g)))

  swap_sequence : (ps : Procs) (m : ℕ) → Swaps (advanced_sequence m) ps
  swap_sequence no_procs m a k x b l y h g n = none-some x h
  swap_sequence (proc p ps) m a k x b l y h g n =
      cond-elim (finished p) (wrap (proc p) (advanced_sequence (m + 1) ps a k)) (if_child m a (λ b. wrap (λ q. proc q ps) (advanced p b k))) x
      (Swapped (advanced_sequence m) (proc p ps) a k x b l y) h
      (λ t e. wrap-elim (proc p) (advanced_sequence (m + 1) ps a k) x (λ x. advanced_sequence m x.0 b l ≡ Some y → Swapped (advanced_sequence m) (proc p ps) a k x b l y) e
      (λ x d g. wrap-elim (proc p) (advanced_sequence (m + 1) x.0 b l) y (λ y. Swapped (advanced_sequence m) (proc p ps) a k (proc p x.0, x.1) b l y)
      (sym (cond-true (finished p) (wrap (proc p) (advanced_sequence (m + 1) x.0 b l)) (if_child m b (λ b. wrap (λ q. proc q x.0) (advanced p b l))) t) ∙ g)
      (λ y c. let z = swap_sequence ps (m + 1) a k x b l y d c n in (
        (proc p z.0.0, z.0.1),
        cond-true (finished p) (wrap (proc p) (advanced_sequence (m + 1) ps b l)) (if_child m b (λ b. wrap (λ q. proc q ps) (advanced p b l))) t ∙ ap (wrap (proc p)) z.1,
        cond-true (finished p) (wrap (proc p) (advanced_sequence (m + 1) z.0.0 a k)) (if_child m a (λ b. wrap (λ q. proc q z.0.0) (advanced p b k))) t ∙ ap (wrap (proc p)) z.2,
        z.3,
      ))) g)
      (λ t e. in_node (advanced_sequence m) (λ q. proc q ps) m (λ q a k. wrap (proc q) (advanced_sequence (m + 1) ps a k)) (λ q a k. refl)
      (λ q b l y r c. wrap-elim (proc q) (advanced_sequence (m + 1) ps b l) y (λ y. Before (Ordered m ∷ c) b) r
      (λ z j. sequence-behind m (m + 1) c ps b l z (omega arith) j))
      p (swap p) a k x b l y e g n)

  swap_parallel : (ps : Procs) (m : ℕ) → Swaps (advanced_parallel m) ps
  swap_parallel no_procs m a k x b l y h g n = none-some x h
  swap_parallel (proc p ps) m a k x b l y h g n =
      branch-elim m a (λ b. wrap (λ q. proc q ps) (advanced p b k)) (wrap (proc p) (advanced_parallel (m + 1) ps a k)) x
      (λ a. (Before a b → ⊥) → Swapped (advanced_parallel m) (proc p ps) a k x b l y) h
      (λ a e n. wrap-elim (λ q. proc q ps) (advanced p a k) x (λ x. advanced_parallel m x.0 b l ≡ Some y → Swapped (advanced_parallel m) (proc p ps) (Branch m ∷ a) k x b l y) e
      (λ x d g. branch-elim m b (λ b. wrap (λ q. proc q ps) (advanced x.0 b l)) (wrap (proc x.0) (advanced_parallel (m + 1) ps b l)) y
      (λ b. (Before (Branch m ∷ a) b → ⊥) → Swapped (advanced_parallel m) (proc p ps) (Branch m ∷ a) k (proc x.0 ps, x.1) b l y) g
      (λ b r n. wrap-elim (λ q. proc q ps) (advanced x.0 b l) y (λ y. Swapped (advanced_parallel m) (proc p ps) (Branch m ∷ a) k (proc x.0 ps, x.1) (Branch m ∷ b) l y) r
      (λ y c. let z = swap p a k x b l y d c (λ s. n (refl, s)) in (
        (proc z.0.0 ps, z.0.1),
        branch-at m b (λ b. wrap (λ q. proc q ps) (advanced p b l)) (wrap (proc p) (advanced_parallel (m + 1) ps (Branch m ∷ b) l)) ∙ ap (wrap (λ q. proc q ps)) z.1,
        branch-at m a (λ b. wrap (λ q. proc q ps) (advanced z.0.0 b k)) (wrap (proc z.0.0) (advanced_parallel (m + 1) ps (Branch m ∷ a) k)) ∙ ap (wrap (λ q. proc q ps)) z.2,
        z.3,
      )))
      (λ r other n. wrap-elim (proc x.0) (advanced_parallel (m + 1) ps b l) y (λ y. Swapped (advanced_parallel m) (proc p ps) (Branch m ∷ a) k (proc x.0 ps, x.1) b l y) r
      (λ y c. branch-rest p ps m a k x b l y d c other)) n) g)
      (λ e other n. wrap-elim (proc p) (advanced_parallel (m + 1) ps a k) x (λ x. advanced_parallel m x.0 b l ≡ Some y → Swapped (advanced_parallel m) (proc p ps) a k x b l y) e
      (λ x d g. branch-elim m b (λ b. wrap (λ q. proc q x.0) (advanced p b l)) (wrap (proc p) (advanced_parallel (m + 1) x.0 b l)) y
      (λ b. (Before a b → ⊥) → Swapped (advanced_parallel m) (proc p ps) a k (proc p x.0, x.1) b l y) g
      (λ b r n. wrap-elim (λ q. proc q x.0) (advanced p b l) y (λ y. Swapped (advanced_parallel m) (proc p ps) a k (proc p x.0, x.1) (Branch m ∷ b) l y) r
      (λ y c. rest-branch p ps m a k x b l y d c other))
      (λ r elsewhere n. wrap-elim (proc p) (advanced_parallel (m + 1) x.0 b l) y (λ y. Swapped (advanced_parallel m) (proc p ps) a k (proc p x.0, x.1) b l y) r
      (λ y c. let z = swap_parallel ps (m + 1) a k x b l y d c n in (
        (proc p z.0.0, z.0.1),
        elsewhere MovedIn (λ b. wrap (λ q. proc q ps) (advanced p b l)) (wrap (proc p) (advanced_parallel (m + 1) ps b l)) ∙ ap (wrap (proc p)) z.1,
        other MovedIn (λ b. wrap (λ q. proc q z.0.0) (advanced p b k)) (wrap (proc p) (advanced_parallel (m + 1) z.0.0 a k)) ∙ ap (wrap (proc p)) z.2,
        z.3,
      ))) n) g) n
