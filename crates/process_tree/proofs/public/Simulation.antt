-- The tree makes exactly the local moves of what is left of it.
use Rattle.std.proofs.Common.{◌≡◌, ℕ, ◌+◌, ◌*◌, ◌≤◌, ◌==◌, List, [], ◌∷◌, Bool, true, false, cond, Option, Some, None, slice_get, refl, sym, ap, ap₂, ◌∙◌, subst, eqb-true, arith}
use Rattle.address.specs.declared.Entry.TheVariants.{Ordered, Branch}
use Rattle.value.specs.Word.{Word}
use Rattle.system.specs.Expression.{Expression, Decision}
use Rattle.system.specs.Residual.{Residual, done, closing, drain, within, along, arm_at, put_residual, opened}
use Rattle.runs.specs.internal.After.{is_done}
use Rattle.runs.specs.Moves.{Place, Move, Local}
use Rattle.runs.specs.Asking.{ask_of}
use Rattle.runs.specs.internal.After.{Answer, around, after_loop, after_while, after_test, after_open, after_assign, after_choose, after_closing, after_drain, after_held, after_receive, after_send, after_sync, after}
use Rattle.runs.specs.declared.ask.Ask.{Ask}
use Rattle.runs.specs.declared.ask.Ask.TheVariants as ask
use Rattle.runs.specs.WellFormed.{BranchesFrom, WellFormed}
use Rattle.runs.proofs.public.After.{found, only}
use Rattle.runs.proofs.public.Kept.{branches-place}
use Rattle.runs.proofs.public.Options.{none-some, some-injective}
use Rattle.process_tree.specs.Code.{Once, assigning, receiving, Sender, sending, syncing, Code, Codes, code_at}
use Rattle.process_tree.specs.Proc.{waiting, holding, past, Proc, idle, stopped, once, sender, fresh, turn, ended_at_once, ended, untested, skipped, took, unopened, entered, closed, sequence, parallel, drained, Procs, no_procs, proc, started, finished}
use Rattle.runs.specs.ByPlace.{if_here, if_act, if_child, if_branch}
use Rattle.process_tree.specs.Places.{wrap}
use Rattle.process_tree.specs.Advanced.{Moved, once_after, sender_after, holding_after, again_after, test_after, open_on, open_after, close_after, drain_after, advanced, advanced_sequence, advanced_parallel}
use Rattle.process_tree.specs.Remaining.{Received, with_value, puts, residual_once, residual_sender, channel_of, again, residual, residual_arms, remaining, remaining_sequence, remaining_parallel}
use Rattle.process_tree.specs.internal.Received.{puts_value, puts_decision, puts_arms, puts_once, puts_sender, puts_guard}
use Rattle.process_tree.proofs.public.Puts.{puts-once, puts-sender, puts-again, puts-test, puts-choose, puts-arm_at, residual-code_at, left-started}
use Rattle.process_tree.proofs.public.Formed.{left-formed, left_parallel-formed, finished-left, is_done-done}

-- the residual of an answer
abbrev pub residual_after : Answer → Option Residual
residual_after None = None
residual_after (Some x) = Some x.1

-- what is left after a move of the tree
abbrev pub left_after : {X : Type 0} → (X → Residual) → Option (X × Option Proc) → Option Residual
left_after f None = None
left_after f (Some x) = Some (f x.0)

-- answers that agree, under one test
cond-sim : {X : Type 0} (b : Bool) (x u : Answer) (y v : Option (X × Option Proc)) (f : X → Residual)
    → (b ≡ true → residual_after x ≡ left_after f y) → residual_after u ≡ left_after f v
    → residual_after (cond b x u) ≡ left_after f (cond b y v)
cond-sim true x u y v f h k = h refl
cond-sim false x u y v f h k = k

-- at the own place
here-sim : {X : Type 0} (a : Place) (x : Answer) (y : Option (X × Option Proc)) (f : X → Residual) → residual_after x ≡ left_after f y
    → residual_after (if_here a x) ≡ left_after f (if_here a y)
here-sim [] x y f h = h
here-sim (z ∷ a) x y f h = refl

-- at an act
act-sim : {X : Type 0} (n : ℕ) (a : Place) (x : Answer) (y : Option (X × Option Proc)) (f : X → Residual) → residual_after x ≡ left_after f y
    → residual_after (if_act n a x) ≡ left_after f (if_act n a y)
act-sim n [] x y f h = refl
act-sim n (Ordered i ∷ []) x y f h = cond-sim (i == n) x None y None f (λ e. h) refl
act-sim n (Ordered i ∷ z ∷ a) x y f h = refl
act-sim n (Branch i ∷ a) x y f h = refl

-- in a child
child-sim : {X : Type 0} (n : ℕ) (a : Place) (x : Place → Answer) (y : Place → Option (X × Option Proc)) (f : X → Residual)
    → ((b : Place) → residual_after (x b) ≡ left_after f (y b)) → residual_after (if_child n a x) ≡ left_after f (if_child n a y)
child-sim n [] x y f h = refl
child-sim n (Ordered i ∷ a) x y f h = cond-sim (i == n) (x a) None (y a) None f (λ e. h a) refl
child-sim n (Branch i ∷ a) x y f h = refl

-- in a branch, or in the rest
branch-sim : {X : Type 0} (n : ℕ) (a : Place) (x : Place → Answer) (y : Place → Option (X × Option Proc)) (u : Answer) (v : Option (X × Option Proc))
    (f : X → Residual) → ((b : Place) → residual_after (x b) ≡ left_after f (y b)) → residual_after u ≡ left_after f v
    → residual_after (if_branch n a x u) ≡ left_after f (if_branch n a y v)
branch-sim n [] x y u v f h k = k
branch-sim n (Ordered i ∷ a) x y u v f h k = k
branch-sim n (Branch i ∷ a) x y u v f h k = cond-sim (i == n) (x a) u (y a) v f (λ e. h a) k

-- with the rest around it
around-sim : {X Y : Type 0} (r : Residual → Residual) (w : X → Y) (x : Answer) (y : Option (X × Option Proc)) (f : X → Residual) (g : Y → Residual)
    → ((z : X) → g (w z) ≡ r (f z)) → residual_after x ≡ left_after f y → residual_after (around r x) ≡ left_after g (wrap w y)
around-sim r w None None f g e h = refl
around-sim r w None (Some y) f g e h = none-some (f y.0) h
around-sim r w (Some x) None f g e h = none-some x.1 (sym h)
around-sim r w (Some x) (Some y) f g e h = ap Some (ap r (some-injective x.1 (f y.0) h) ∙ sym (e y.0))

-- what is put around finished processes leaves what is left
wrap-left : {X Y : Type 0} (w : X → Y) (y : Option (X × Option Proc)) (f : X → Residual) (g : Y → Residual) → ((z : X) → g (w z) ≡ f z)
    → left_after g (wrap w y) ≡ left_after f y
wrap-left w None f g e = refl
wrap-left w (Some y) f g e = ap Some (e y.0)

-- a sequence answers as its first child, or as the rest where that is done
after-within : (k : Ask) (n : ℕ) (r q : Residual) (a : Place)
    → after k (within n r q) a ≡ cond (is_done r) (after k q a) (if_child n a (λ b. around (λ t. within n t q) (after k r b)))
after-within k n done q a = refl
after-within k n r q a = refl

-- a node that moves in one child until that is finished
node-sim : {Y : Type 0} (i : ℕ) (env : Received) (q : Proc) (rest : Residual) (a : Place) (k : Ask) (f : Y → Residual) (w : Proc → Y) (o : Option (Y × Option Proc))
    → ((z : Proc) → f (w z) ≡ within i (remaining env z) rest) → (finished q ≡ true → residual_after (after k rest a) ≡ left_after f o)
    → ((b : Place) → residual_after (after k (remaining env q) b) ≡ left_after (remaining env) (advanced q b k))
    → residual_after (after k (within i (remaining env q) rest) a) ≡ left_after f (cond (finished q) o (if_child i a (λ b. wrap w (advanced q b k))))
node-sim i env q rest a k f w o e h g =
    ap residual_after (after-within k i (remaining env q) rest a)
    ∙ ap (λ c. residual_after (cond c (after k rest a) (if_child i a (λ b. around (λ t. within i t rest) (after k (remaining env q) b))))) (finished-left q env)
    ∙ cond-sim (finished q) (after k rest a) (if_child i a (λ b. around (λ t. within i t rest) (after k (remaining env q) b))) o (if_child i a (λ b. wrap w (advanced q b k))) f h
    (child-sim i a (λ b. around (λ t. within i t rest) (after k (remaining env q) b)) (λ b. wrap w (advanced q b k)) f
    (λ b. around-sim (λ t. within i t rest) w (after k (remaining env q) b) (advanced q b k) (remaining env) f e (g b)))

-- what is not there
nothing : {X : Type 0} (o : Option X) → ((x : X) → o ≡ Some x → ⊥) → o ≡ None
nothing None h = refl
nothing (Some x) h = absurd (h x refl)

-- the number of the first entry
first_number : Place → ℕ
first_number [] = 0
first_number (Ordered i ∷ a) = i
first_number (Branch i ∷ a) = i

-- later branches do not answer in this one
elsewhere : (k : Ask) (n : ℕ) (q : Residual) (b : Place) → WellFormed q → BranchesFrom (n + 1) q → after k q (Branch n ∷ b) ≡ None
unfolding first_number
elsewhere k n q b w s =
    nothing (after k q (Branch n ∷ b)) (λ x e.
    let d = branches-place (n + 1) q (Branch n ∷ b) x.0 x.1 s w (only k q (Branch n ∷ b) x.0 x.1 e).0 in
    let is : n ≡ d.number = ap first_number d.is in
    let from : n + 1 ≤ d.number = d.from in
    omega (arith, is, from))

-- nothing around an answer
around-id : (x : Answer) → around (λ t. t) x ≡ x
around-id None = refl
around-id (Some x) = refl

-- the answer beside a finished branch, by the test of the branch
done-cases : (k : Ask) (n i : ℕ) (q : Residual) (b : Place) (c : Bool) → (i == n) ≡ c → WellFormed q → BranchesFrom (n + 1) q
    → after k q (Branch i ∷ b) ≡ cond c None (around (λ t. t) (after k q (Branch i ∷ b)))
done-cases k n i q b true e w s = subst (λ j. after k q (Branch j ∷ b) ≡ None) (sym (eqb-true i n e)) (elsewhere k n q b w s)
done-cases k n i q b false e w s = sym (around-id (after k q (Branch i ∷ b)))

-- the answer beside a finished branch
after-done : (k : Ask) (n : ℕ) (q : Residual) (a : Place) → WellFormed q → BranchesFrom (n + 1) q
    → after k q a ≡ if_branch n a (λ b. None) (around (λ t. t) (after k q a))
after-done k n q [] w s = sym (around-id (after k q []))
after-done k n q (Ordered i ∷ b) w s = sym (around-id (after k q (Ordered i ∷ b)))
after-done k n q (Branch i ∷ b) w s = done-cases k n i q b (i == n) refl w s

-- a parallel answers as the branch of the place
after-along : (k : Ask) (n : ℕ) (r q : Residual) (a : Place) → WellFormed q → BranchesFrom (n + 1) q
    → after k (along n r q) a ≡ if_branch n a (λ b. around (λ t. along n t q) (after k r b)) (around (λ t. along n r t) (after k q a))
after-along k n done q a w s = after-done k n q a w s
after-along k n r q a w s = refl

-- an assignment or receive
once-sim : (o : Once) (env : Received) (a : Place) (k : Ask)
    → residual_after (after k (residual_once (puts_once env o)) a) ≡ left_after (remaining env) (if_here a (once_after o false k))
once-sim (assigning x w e) env a k = here-sim a _ (once_after (assigning x w e) false k) (remaining env) (leaf k)
  where
    leaf : (k : Ask) → residual_after (after_assign x w (puts_value env e) k) ≡ left_after (remaining env) (once_after (assigning x w e) false k)
    leaf ask.Assign = refl
    leaf _ = refl
once-sim (receiving c x) env a k = here-sim a _ (once_after (receiving c x) false k) (remaining env) (leaf k)
  where
    leaf : (k : Ask) → residual_after (after_receive c x k) ≡ left_after (remaining env) (once_after (receiving c x) false k)
    leaf ask.Receive = refl
    leaf _ = refl

-- a send or sync that waits
sender-sim : (s : Sender) (env : Received) (a : Place) (k : Ask)
    → residual_after (after k (residual_sender (puts_sender env s)) a) ≡ left_after (remaining env) (if_act 0 a (sender_after s k))
sender-sim (sending c w e) env a k = act-sim 0 a _ (sender_after (sending c w e) k) (remaining env) (leaf k)
  where
    leaf : (k : Ask) → residual_after (after_send c w (puts_value env e) k) ≡ left_after (remaining env) (sender_after (sending c w e) k)
    leaf ask.Send = refl
    leaf ask.Hold = refl
    leaf _ = refl
sender-sim (syncing c) env a k = act-sim 0 a _ (sender_after (syncing c) k) (remaining env) (leaf k)
  where
    leaf : (k : Ask) → residual_after (after_sync c k) ≡ left_after (remaining env) (sender_after (syncing c) k)
    leaf ask.Sync = refl
    leaf ask.Hold = refl
    leaf _ = refl

-- one that is held
holding-sim : (s : Sender) (env : Received) (a : Place) (k : Ask)
    → residual_after (after k (remaining env (sender s holding)) a) ≡ left_after (remaining env) (if_act 1 a (holding_after s k))
holding-sim s env a k = act-sim 1 a _ (holding_after s k) (remaining env) (leaf k)
  where
    leaf : (k : Ask) → residual_after (after_held (channel_of s) k) ≡ left_after (remaining env) (holding_after s k)
    leaf ask.Release = refl
    leaf _ = refl

-- a turn that has begun has its body to do, and then the loop
turn-started : (env : Received) (g : Option Expression) (c : Code) (n : ℕ)
    → within (2 * n + 1) (puts env (residual c)) (again (n + 1) (puts_guard env g) (puts env (residual c))) ≡ remaining env (turn g c n (started c))
turn-started env g c n = sym (ap₂ (within (2 * n + 1)) (left-started c env) (puts-again env (n + 1) g (residual c)))

-- a loop before turn n
again-sim : (g : Option Expression) (c : Code) (n : ℕ) (over : Proc) (out : Option Proc) (env : Received) (a : Place) (k : Ask) → remaining env over ≡ done
    → residual_after (after k (puts env (again n g (residual c))) a) ≡ left_after (remaining env) (if_act (2 * n) a (again_after g c n over out k))
again-sim None c n over out env a k h =
    ap (λ r. residual_after (after k r a)) (puts-again env n None (residual c))
    ∙ act-sim (2 * n) a _ (again_after None c n over out k) (remaining env) (leaf k)
  where
    leaf : (k : Ask) → residual_after (after_loop n (puts env (residual c)) k) ≡ left_after (remaining env) (again_after None c n over out k)
    leaf ask.Turn = ap Some (turn-started env None c n)
    leaf _ = refl
again-sim (Some e) c n over out env a k h =
    ap (λ r. residual_after (after k r a)) (puts-again env n (Some e) (residual c))
    ∙ act-sim (2 * n) a _ (again_after (Some e) c n over out k) (remaining env) (leaf k)
  where
    leaf : (k : Ask) → residual_after (after_while n (puts_value env e) (puts env (residual c)) k) ≡ left_after (remaining env) (again_after (Some e) c n over out k)
    leaf (ask.Test None) = ap Some (sym h)
    leaf (ask.Test (Some j)) = cond-sim (j == 0) _ None (Some (turn (Some e) c n (started c), out)) None (remaining env) (λ z. ap Some (turn-started env (Some e) c n)) refl
    leaf _ = refl

-- an arm has all to do
arm-started : (env : Received) (cs : Codes) (j : ℕ) → arm_at (puts_arms env (residual_arms cs)) j ≡ remaining env (started (code_at cs j))
arm-started env cs j = puts-arm_at env (residual_arms cs) j ∙ ap (puts env) (residual-code_at cs j) ∙ sym (left-started (code_at cs j) env)

-- with what it received
opened-started : (env : Received) (cs : Codes) (j c : ℕ) (v : Option Word)
    → opened c v (arm_at (puts_arms env (residual_arms cs)) j) ≡ remaining (with_value c v env) (started (code_at cs j))
opened-started env cs j c None = arm-started env cs j
opened-started env cs j c (Some v) =
    ap (put_residual c v) (puts-arm_at env (residual_arms cs) j ∙ ap (puts env) (residual-code_at cs j)) ∙ sym (left-started (code_at cs j) ((c, v) ∷ env))

-- an `if` or `case`
test-sim : (d : Decision) (cs : Codes) (env : Received) (a : Place) (k : Ask)
    → residual_after (after k (remaining env (untested d cs)) a) ≡ left_after (remaining env) (if_act 0 a (test_after d cs k))
test-sim d cs env a k =
    ap (λ r. residual_after (after k r a)) (puts-test env d (residual_arms cs)) ∙ act-sim 0 a _ (test_after d cs k) (remaining env) (leaf k)
  where
    leaf : (k : Ask) → residual_after (after_test (puts_decision env d) (puts_arms env (residual_arms cs)) k) ≡ left_after (remaining env) (test_after d cs k)
    leaf (ask.Test None) = refl
    leaf (ask.Test (Some j)) = ap (λ r. Some (within 1 r done)) (arm-started env cs j)
    leaf _ = refl

-- an arm that opens
open-sim : (ds : List ℕ) (cs : Codes) (o : Option ℕ) (j : ℕ) (v : Option Word) (env : Received)
    → residual_after (after_open o (puts_arms env (residual_arms cs)) j v) ≡ left_after (remaining env) (open_on ds cs o j v)
open-sim ds cs None j v env = refl
open-sim ds cs (Some c) j v env = ap (λ r. Some (within 1 r (closing c))) (opened-started env cs j c v)

-- arms that wait
choose-sim : (ds : List ℕ) (cs : Codes) (env : Received) (a : Place) (k : Ask)
    → residual_after (after k (remaining env (unopened ds cs)) a) ≡ left_after (remaining env) (if_act 0 a (open_after ds cs k))
choose-sim ds cs env a k =
    ap (λ r. residual_after (after k r a)) (puts-choose env ds (residual_arms cs)) ∙ act-sim 0 a _ (open_after ds cs k) (remaining env) (leaf k)
  where
    leaf : (k : Ask) → residual_after (after_choose ds (puts_arms env (residual_arms cs)) k) ≡ left_after (remaining env) (open_after ds cs k)
    leaf (ask.Open j v) = open-sim ds cs (slice_get ds j) j v env
    leaf _ = refl

-- the close
close-sim : (ds : List ℕ) (cs : Codes) (c : ℕ) (v : Option Word) (q : Proc) (env : Received) (a : Place) (k : Ask)
    → residual_after (after k (closing c) a) ≡ left_after (remaining env) (if_act 2 a (close_after ds cs c v q k))
close-sim ds cs c v q env a k = act-sim 2 a _ (close_after ds cs c v q k) (remaining env) (leaf k)
  where
    leaf : (k : Ask) → residual_after (after_closing c k) ≡ left_after (remaining env) (close_after ds cs c v q k)
    leaf ask.Close = refl
    leaf _ = refl

-- the receives on an output port
drain-sim : (c n : ℕ) (env : Received) (a : Place) (k : Ask)
    → residual_after (after k (drain c n) a) ≡ left_after (remaining env) (if_act n a (drain_after c n k))
drain-sim c n env a k = act-sim n a _ (drain_after c n k) (remaining env) (leaf k)
  where
    leaf : (k : Ask) → residual_after (after_drain c n k) ≡ left_after (remaining env) (drain_after c n k)
    leaf ask.Receive = refl
    leaf _ = refl

mutual
  -- the residual after a move of what is left is what is left after that move
  pub simulates : (p : Proc) (env : Received) (a : Place) (k : Ask) → residual_after (after k (remaining env p) a) ≡ left_after (remaining env) (advanced p a k)
  simulates idle env a k = refl
  simulates stopped env a k = refl
  simulates (once (assigning x w e) true) env [] k = refl
  simulates (once (receiving c x) true) env [] k = refl
  simulates (once o true) env (y ∷ a) k = refl
  simulates (once o false) env a k = ap (λ r. residual_after (after k r a)) (puts-once env o) ∙ once-sim o env a k
  simulates (sender s waiting) env a k = ap (λ r. residual_after (after k r a)) (puts-sender env s) ∙ sender-sim s env a k
  simulates (sender s holding) env a k = holding-sim s env a k
  simulates (sender s past) env a k = refl
  simulates (fresh g c) env a k = again-sim g c 0 (ended_at_once g c) None env a k refl
  simulates (turn g c n q) env a k =
      node-sim (2 * n + 1) env q (puts env (again (n + 1) g (residual c))) a k (remaining env) (turn g c n)
      (if_act (2 * (n + 1)) a (again_after g c (n + 1) (ended g c n q) (Some q) k)) (λ z. refl)
      (λ e. again-sim g c (n + 1) (ended g c n q) (Some q) env a k refl) (λ b. simulates q env b k)
  simulates (ended_at_once g c) env a k = refl
  simulates (ended g c n q) env a k = refl
  simulates (untested d cs) env a k = test-sim d cs env a k
  simulates (skipped d cs) env a k = refl
  simulates (took d cs j q) env a k = node-sim 1 env q done a k (remaining env) (took d cs j) None (λ z. refl) (λ e. refl) (λ b. simulates q env b k)
  simulates (unopened ds cs) env a k = choose-sim ds cs env a k
  simulates (entered ds cs c v q) env a k =
      node-sim 1 (with_value c v env) q (closing c) a k (remaining env) (entered ds cs c v) (if_act 2 a (close_after ds cs c v q k)) (λ z. refl)
      (λ e. close-sim ds cs c v q env a k) (λ b. simulates q (with_value c v env) b k)
  simulates (closed ds cs c v q) env a k = refl
  simulates (sequence ps) env a k =
      simulates_sequence ps env 0 a k ∙ sym (wrap-left sequence (advanced_sequence 0 ps a k) (remaining_sequence env 0) (remaining env) (λ z. refl))
  simulates (parallel ps) env a k =
      simulates_parallel ps env 0 a k ∙ sym (wrap-left parallel (advanced_parallel 0 ps a k) (remaining_parallel env 0) (remaining env) (λ z. refl))
  simulates (drained c n) env a k = drain-sim c n env a k

  simulates_sequence : (ps : Procs) (env : Received) (n : ℕ) (a : Place) (k : Ask)
      → residual_after (after k (remaining_sequence env n ps) a) ≡ left_after (remaining_sequence env n) (advanced_sequence n ps a k)
  simulates_sequence no_procs env n a k = refl
  simulates_sequence (proc p ps) env n a k =
      node-sim n env p (remaining_sequence env (n + 1) ps) a k (remaining_sequence env n) (λ q. proc q ps) (wrap (proc p) (advanced_sequence (n + 1) ps a k)) (λ z. refl)
      (λ e. simulates_sequence ps env (n + 1) a k
      ∙ sym (wrap-left (proc p) (advanced_sequence (n + 1) ps a k) (remaining_sequence env (n + 1)) (remaining_sequence env n)
      (λ z. ap (λ r. within n r (remaining_sequence env (n + 1) z)) (is_done-done (remaining env p) (finished-left p env ∙ e)))))
      (λ b. simulates p env b k)

  simulates_parallel : (ps : Procs) (env : Received) (n : ℕ) (a : Place) (k : Ask)
      → residual_after (after k (remaining_parallel env n ps) a) ≡ left_after (remaining_parallel env n) (advanced_parallel n ps a k)
  simulates_parallel no_procs env n a k = refl
  simulates_parallel (proc p ps) env n a k =
      let rest = remaining_parallel env (n + 1) ps in
      ap residual_after (after-along k n (remaining env p) rest a (left_parallel-formed ps env (n + 1)).0 (left_parallel-formed ps env (n + 1)).1)
      ∙ branch-sim n a (λ b. around (λ t. along n t rest) (after k (remaining env p) b)) (λ b. wrap (λ q. proc q ps) (advanced p b k))
      (around (λ t. along n (remaining env p) t) (after k rest a)) (wrap (proc p) (advanced_parallel (n + 1) ps a k)) (remaining_parallel env n)
      (λ b. around-sim (λ t. along n t rest) (λ q. proc q ps) (after k (remaining env p) b) (advanced p b k) (remaining env) (remaining_parallel env n) (λ z. refl) (simulates p env b k))
      (around-sim (λ t. along n (remaining env p) t) (proc p) (after k rest a) (advanced_parallel (n + 1) ps a k) (remaining_parallel env (n + 1)) (remaining_parallel env n) (λ z. refl)
      (simulates_parallel ps env (n + 1) a k))

-- an answer that has a residual
answered : (x : Answer) (q : Residual) → residual_after x ≡ Some q → (m : Move) × (x ≡ Some (m, q))
answered None q e = none-some q e
answered (Some x) q e = (x.0, ap (λ t. Some (x.0, t)) (some-injective x.1 q e))

-- a move that leaves something
moved : (y : Option Moved) (f : Proc → Residual) (q : Residual) → left_after f y ≡ Some q → (x : Moved) × (y ≡ Some x) × (f x.0 ≡ q)
moved None f q e = none-some q e
moved (Some y) f q e = (y, refl, some-injective (f y.0) q e)

-- a local move of what is left is one of the tree
pub does : (p : Proc) (env : Received) (a : Place) (m : Move) (q : Residual) → Local (remaining env p) a m q
    → (x : Moved) × (advanced p a (ask_of m) ≡ Some x) × (remaining env x.0 ≡ q)
does p env a m q l =
    moved (advanced p a (ask_of m)) (remaining env) q
    (sym (simulates p env a (ask_of m)) ∙ ap residual_after (found (remaining env p) a m q (left-formed p env) l))

-- a move of the tree is a local move of what is left
pub did : (p : Proc) (env : Received) (a : Place) (k : Ask) (x : Moved) → advanced p a k ≡ Some x
    → (m : Move) × Local (remaining env p) a m (remaining env x.0) × (ask_of m ≡ k)
did p env a k x e =
    let d = answered (after k (remaining env p) a) (remaining env x.0) (simulates p env a k ∙ ap (left_after (remaining env)) e) in
    let o = only k (remaining env p) a d.0 (remaining env x.0) d.1 in
    (d.0, o.0, o.1)

-- by whether it is
open-cases : (p : Proc) (b : Bool) → finished p ≡ b → (r : Residual) → r ≡ remaining [] p → (a : Place) (m : Move) (q : Residual) → Local r a m q → finished p ≡ false
open-cases p true e r i a m q l = absurd (subst (λ t. Local t a m q) (i ∙ is_done-done (remaining [] p) (finished-left p [] ∙ e)) l)
open-cases p false e r i a m q l = e

-- what moves is not finished
pub unfinished : (p : Proc) (a : Place) (k : Ask) (x : Moved) → advanced p a k ≡ Some x → finished p ≡ false
unfinished p a k x e =
    let d = did p [] a k x e in
    open-cases p (finished p) refl (remaining [] p) refl a d.0 (remaining [] x.0) d.1
