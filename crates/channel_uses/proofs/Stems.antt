-- A command before its first move stems from itself, and a move keeps where a process stems from.
use Rattle.std.proofs.Common.{◌≡◌, ℕ, ◌+◌, ◌*◌, ◌==◌, List, Bool, true, false, Option, Some, None, slice_get, refl, subst}
use Rattle.value.specs.Word.{Word}
use Rattle.system.specs.Expression.{Expression, Decision}
use Rattle.runs.specs.Moves.{Place}
use Rattle.runs.specs.ByPlace.{if_act, if_child}
use Rattle.runs.specs.declared.ask.Ask.{Ask}
use Rattle.runs.specs.declared.ask.Ask.TheVariants as ask
use Rattle.process_tree.specs.Code.{Once, assigning, receiving, Sender, sending, syncing, Code, continues, halts, moves_once, may_be_held, repeats, decides, awaits, in_turn, side_by_side, drains, Codes, no_code, code, code_at}
use Rattle.process_tree.specs.Proc.{waiting, holding, past, Proc, idle, stopped, once, sender, fresh, turn, ended_at_once, ended, untested, skipped, took, unopened, entered, closed, sequence, parallel, drained, Procs, no_procs, proc, started, all_started, finished}
use Rattle.process_tree.specs.Places.{wrap}
use Rattle.process_tree.specs.Advanced.{once_after, sender_after, holding_after, again_after, test_after, open_on, open_after, close_after, drain_after, advanced, advanced_sequence, advanced_parallel}
use Rattle.channel_uses.specs.StemsFrom.{StemsFrom, AllStemFrom, StartedStems, MovesKeepOrigin}
use Rattle.channel_uses.proofs.After.{After, cond-after, here-after, act-after, child-after, branch-after, wrap-after}

mutual
  pub started-stems : StartedStems
  started-stems continues = refl
  started-stems halts = refl
  started-stems (moves_once o) = refl
  started-stems (may_be_held s) = refl
  started-stems (repeats g c) = refl
  started-stems (decides d cs) = refl
  started-stems (awaits ds cs) = refl
  started-stems (in_turn cs) = (cs, refl, all-stem cs)
  started-stems (side_by_side cs) = (cs, refl, all-stem cs)
  started-stems (drains c) = refl

  pub all-stem : (cs : Codes) → AllStemFrom (all_started cs) cs
  all-stem no_code = refl
  all-stem (code c cs) = (started-stems c, all-stem cs)

-- the process stems from the command c
abbrev From : Code → Proc → Type 0
From c p = StemsFrom p c

abbrev AllFrom : Codes → Procs → Type 0
AllFrom cs ps = AllStemFrom ps cs

once-stems : (o : Once) (made : Bool) (c : Code) → c ≡ moves_once o → (k : Ask) → After (From c) (once_after o made k)
once-stems (assigning x w e) true c is k = tt
once-stems (receiving d x) true c is k = tt
once-stems (assigning x w e) false c is k = leaf k
  where
    leaf : (k : Ask) → After (From c) (once_after (assigning x w e) false k)
    leaf ask.Assign = is
    leaf _ = tt
once-stems (receiving d x) false c is k = leaf k
  where
    leaf : (k : Ask) → After (From c) (once_after (receiving d x) false k)
    leaf ask.Receive = is
    leaf _ = tt

sender-stems : (s : Sender) (c : Code) → c ≡ may_be_held s → (k : Ask) → After (From c) (sender_after s k)
sender-stems (sending d w e) c is k = leaf k
  where
    leaf : (k : Ask) → After (From c) (sender_after (sending d w e) k)
    leaf ask.Send = is
    leaf ask.Hold = is
    leaf _ = tt
sender-stems (syncing d) c is k = leaf k
  where
    leaf : (k : Ask) → After (From c) (sender_after (syncing d) k)
    leaf ask.Sync = is
    leaf ask.Hold = is
    leaf _ = tt

holding-stems : (s : Sender) (c : Code) → c ≡ may_be_held s → (k : Ask) → After (From c) (holding_after s k)
holding-stems s c is ask.Release = is
holding-stems s c is _ = tt

again-stems : (g : Option Expression) (b : Code) (n : ℕ) (over : Proc) (out : Option Proc) (c : Code) → c ≡ repeats g b → StemsFrom over c → (k : Ask) → After (From c) (again_after g b n over out k)
again-stems None b n over out c is t k = leaf k
  where
    leaf : (k : Ask) → After (From c) (again_after None b n over out k)
    leaf ask.Turn = (is, started-stems b)
    leaf _ = tt
again-stems (Some e) b n over out c is t k = leaf k
  where
    leaf : (k : Ask) → After (From c) (again_after (Some e) b n over out k)
    leaf (ask.Test None) = t
    leaf (ask.Test (Some j)) = cond-after (From c) (j == 0) (Some (turn (Some e) b n (started b), out)) None (λ h. (is, started-stems b)) (λ h. tt)
    leaf _ = tt

test-stems : (d : Decision) (cs : Codes) (c : Code) → c ≡ decides d cs → (k : Ask) → After (From c) (test_after d cs k)
test-stems d cs c is (ask.Test None) = is
test-stems d cs c is (ask.Test (Some j)) = (is, started-stems (code_at cs j))
test-stems d cs c is _ = tt

open-on-stems : (ds : List ℕ) (cs : Codes) (c : Code) → c ≡ awaits ds cs → (o : Option ℕ) (j : ℕ) → slice_get ds j ≡ o → (v : Option Word) → After (From c) (open_on ds cs o j v)
open-on-stems ds cs c is None j h v = tt
open-on-stems ds cs c is (Some e) j h v = (is, j, h, started-stems (code_at cs j))

open-stems : (ds : List ℕ) (cs : Codes) (c : Code) → c ≡ awaits ds cs → (k : Ask) → After (From c) (open_after ds cs k)
open-stems ds cs c is (ask.Open j v) = open-on-stems ds cs c is (slice_get ds j) j refl v
open-stems ds cs c is _ = tt

close-stems : (ds : List ℕ) (cs : Codes) (e : ℕ) (v : Option Word) (q : Proc) (c : Code) → StemsFrom (entered ds cs e v q) c → (k : Ask) → After (From c) (close_after ds cs e v q k)
close-stems ds cs e v q c t ask.Close = t
close-stems ds cs e v q c t _ = tt

drain-stems : (e n : ℕ) (c : Code) → c ≡ drains e → (k : Ask) → After (From c) (drain_after e n k)
drain-stems e n c is ask.Receive = is
drain-stems e n c is _ = tt

mutual
  after-stems : (p : Proc) (c : Code) → StemsFrom p c → (a : Place) (k : Ask) → After (From c) (advanced p a k)
  after-stems idle c t a k = tt
  after-stems stopped c t a k = tt
  after-stems (once o made) c t a k = here-after (From c) a (once_after o made k) (once-stems o made c t k)
  after-stems (sender s waiting) c t a k = act-after (From c) 0 a (sender_after s k) (sender-stems s c t k)
  after-stems (sender s holding) c t a k = act-after (From c) 1 a (holding_after s k) (holding-stems s c t k)
  after-stems (sender s past) c t a k = tt
  after-stems (fresh g b) c t a k =
      act-after (From c) 0 a (again_after g b 0 (ended_at_once g b) None k) (again-stems g b 0 (ended_at_once g b) None c t t k)
  after-stems (turn g b n q) c t a k =
      cond-after (From c) (finished q) (if_act (2 * (n + 1)) a (again_after g b (n + 1) (ended g b n q) (Some q) k)) (if_child (2 * n + 1) a (λ b2. wrap (turn g b n) (advanced q b2 k)))
      (λ e. act-after (From c) (2 * (n + 1)) a (again_after g b (n + 1) (ended g b n q) (Some q) k) (again-stems g b (n + 1) (ended g b n q) (Some q) c t.0 t k))
      (λ e. child-after (From c) (2 * n + 1) a (λ b2. wrap (turn g b n) (advanced q b2 k))
      (λ b2. wrap-after (From b) (From c) (turn g b n) (advanced q b2 k) (λ z h. (t.0, h)) (after-stems q b t.1 b2 k)))
  after-stems (ended_at_once g b) c t a k = tt
  after-stems (ended g b n q) c t a k = tt
  after-stems (untested d cs) c t a k = act-after (From c) 0 a (test_after d cs k) (test-stems d cs c t k)
  after-stems (skipped d cs) c t a k = tt
  after-stems (took d cs j q) c t a k =
      cond-after (From c) (finished q) None (if_child 1 a (λ b. wrap (took d cs j) (advanced q b k))) (λ e. tt)
      (λ e. child-after (From c) 1 a (λ b. wrap (took d cs j) (advanced q b k))
      (λ b. wrap-after (From (code_at cs j)) (From c) (took d cs j) (advanced q b k) (λ z h. (t.0, h)) (after-stems q (code_at cs j) t.1 b k)))
  after-stems (unopened ds cs) c t a k = act-after (From c) 0 a (open_after ds cs k) (open-stems ds cs c t k)
  after-stems (entered ds cs e v q) c t a k =
      cond-after (From c) (finished q) (if_act 2 a (close_after ds cs e v q k)) (if_child 1 a (λ b. wrap (entered ds cs e v) (advanced q b k)))
      (λ h. act-after (From c) 2 a (close_after ds cs e v q k) (close-stems ds cs e v q c t k))
      (λ h. child-after (From c) 1 a (λ b. wrap (entered ds cs e v) (advanced q b k))
      (λ b. wrap-after (From (code_at cs t.1)) (From c) (entered ds cs e v) (advanced q b k) (λ z s. (t.0, t.1, t.2, s)) (after-stems q (code_at cs t.1) t.3 b k)))
  after-stems (closed ds cs e v q) c t a k = tt
  after-stems (sequence ps) c t a k =
      wrap-after (AllFrom t.0) (From c) sequence (advanced_sequence 0 ps a k) (λ z h. (t.0, t.1, h)) (sequence-stems ps t.0 0 t.2 a k)
  after-stems (parallel ps) c t a k =
      wrap-after (AllFrom t.0) (From c) parallel (advanced_parallel 0 ps a k) (λ z h. (t.0, t.1, h)) (parallel-stems ps t.0 0 t.2 a k)
  after-stems (drained e n) c t a k = act-after (From c) n a (drain_after e n k) (drain-stems e n c t k)

  sequence-stems : (ps : Procs) (cs : Codes) (n : ℕ) → AllStemFrom ps cs → (a : Place) (k : Ask) → After (AllFrom cs) (advanced_sequence n ps a k)
  sequence-stems no_procs cs n t a k = tt
  sequence-stems (proc p ps) no_code n t a k = absurd t
  sequence-stems (proc p ps) (code c cs) n t a k =
      cond-after (AllFrom (code c cs)) (finished p) (wrap (proc p) (advanced_sequence (n + 1) ps a k)) (if_child n a (λ b. wrap (λ q. proc q ps) (advanced p b k)))
      (λ e. wrap-after (AllFrom cs) (AllFrom (code c cs)) (proc p) (advanced_sequence (n + 1) ps a k) (λ z h. (t.0, h)) (sequence-stems ps cs (n + 1) t.1 a k))
      (λ e. child-after (AllFrom (code c cs)) n a (λ b. wrap (λ q. proc q ps) (advanced p b k))
      (λ b. wrap-after (From c) (AllFrom (code c cs)) (λ q. proc q ps) (advanced p b k) (λ z h. (h, t.1)) (after-stems p c t.0 b k)))

  parallel-stems : (ps : Procs) (cs : Codes) (n : ℕ) → AllStemFrom ps cs → (a : Place) (k : Ask) → After (AllFrom cs) (advanced_parallel n ps a k)
  parallel-stems no_procs cs n t a k = tt
  parallel-stems (proc p ps) no_code n t a k = absurd t
  parallel-stems (proc p ps) (code c cs) n t a k =
      branch-after (AllFrom (code c cs)) n a (λ b. wrap (λ q. proc q ps) (advanced p b k)) (wrap (proc p) (advanced_parallel (n + 1) ps a k))
      (λ b. wrap-after (From c) (AllFrom (code c cs)) (λ q. proc q ps) (advanced p b k) (λ z h. (h, t.1)) (after-stems p c t.0 b k))
      (wrap-after (AllFrom cs) (AllFrom (code c cs)) (proc p) (advanced_parallel (n + 1) ps a k) (λ z h. (t.0, h)) (parallel-stems ps cs (n + 1) t.1 a k))

pub moves-keep-origin : MovesKeepOrigin
moves-keep-origin p c a k x t e = subst (After (From c)) e (after-stems p c t a k)
