-- What is left of any process is well formed, and is done exactly where the process is finished.
use Rattle.std.proofs.Common.{◌≡◌, ◌↔◌, ℕ, ◌+◌, ◌*◌, ◌≤◌, Bool, true, false, ◌&&◌, [], ◌∷◌, Option, Some, None, refl, sym, ap, ap₂, ◌∙◌, arith}
use Rattle.system.specs.Expression.{Expression}
use Rattle.system.specs.Residual.{Residual, done, within, along, put_residual}
use Rattle.runs.specs.internal.After.{is_done}
use Rattle.runs.specs.WellFormed.{StartsFrom, BranchesFrom, WellFormed, WellFormedArms}
use Rattle.runs.proofs.public.WellFormed.{starts-within, formed-within, branches-along, formed-along, starts-put, formed-put}
use Rattle.process_tree.specs.Code.{Once, assigning, receiving, Sender, sending, syncing, Code, continues, halts, moves_once, may_be_held, repeats, decides, awaits, in_turn, side_by_side, drains, Codes, no_code, code}
use Rattle.process_tree.specs.Proc.{waiting, holding, past, Proc, idle, stopped, once, sender, fresh, turn, ended_at_once, ended, untested, skipped, took, unopened, entered, closed, sequence, parallel, drained, Procs, no_procs, proc, finished, all_finished}
use Rattle.process_tree.specs.Remaining.{Received, with_value, puts, residual_once, residual_sender, again, residual, residual_arms, residual_sequence, residual_parallel, remaining, remaining_sequence, remaining_parallel}

-- a loop is well formed where its body is
again-formed : (n : ℕ) (g : Option Expression) (r : Residual) → WellFormed r → WellFormed (again n g r)
again-formed n None r w = w
again-formed n (Some e) r w = w

-- a loop starts from its turn
again-starts : (m n : ℕ) (g : Option Expression) (r : Residual) → m ≤ 2 * n → StartsFrom m (again n g r)
again-starts m n None r h = h
again-starts m n (Some e) r h = h

-- what makes one move is well formed
once-formed : (o : Once) → WellFormed (residual_once o)
once-formed (assigning x w e) = tt
once-formed (receiving c x) = tt

-- a send or sync is well formed
sender-formed : (s : Sender) → WellFormed (residual_sender s)
sender-formed (sending c w e) = tt
sender-formed (syncing c) = tt

mutual
  -- what a command is to do is well formed
  pub residual-formed : (c : Code) → WellFormed (residual c)
  residual-formed continues = tt
  residual-formed halts = tt
  residual-formed (moves_once o) = once-formed o
  residual-formed (may_be_held s) = sender-formed s
  residual-formed (repeats g c) = again-formed 0 g (residual c) (residual-formed c)
  residual-formed (decides d cs) = residual_arms-formed cs
  residual-formed (awaits ds cs) = residual_arms-formed cs
  residual-formed (in_turn cs) = (residual_sequence-formed cs 0).0
  residual-formed (side_by_side cs) = (residual_parallel-formed cs 0).0
  residual-formed (drains c) = tt

  -- so are arms
  residual_arms-formed : (cs : Codes) → WellFormedArms (residual_arms cs)
  residual_arms-formed no_code = tt
  residual_arms-formed (code c cs) = (residual-formed c, residual_arms-formed cs)

  -- so are children one after another, and they start from the first
  residual_sequence-formed : (cs : Codes) (n : ℕ) → WellFormed (residual_sequence n cs) × StartsFrom n (residual_sequence n cs)
  residual_sequence-formed no_code n = (tt, tt)
  residual_sequence-formed (code c cs) n =
      let rest = residual_sequence-formed cs (n + 1) in (
        formed-within n (residual c) (residual_sequence (n + 1) cs) (residual-formed c) rest.0 rest.1,
        starts-within n n (residual c) (residual_sequence (n + 1) cs) (omega arith) rest.1,
      )

  -- and children side by side
  residual_parallel-formed : (cs : Codes) (n : ℕ) → WellFormed (residual_parallel n cs) × BranchesFrom n (residual_parallel n cs)
  residual_parallel-formed no_code n = (tt, tt)
  residual_parallel-formed (code c cs) n =
      let rest = residual_parallel-formed cs (n + 1) in (
        formed-along n (residual c) (residual_parallel (n + 1) cs) (residual-formed c) rest.0 rest.1,
        branches-along n n (residual c) (residual_parallel (n + 1) cs) (omega arith) rest.1,
      )

-- values leave a residual well formed
pub puts-formed : (env : Received) (r : Residual) → WellFormed r → WellFormed (puts env r)
puts-formed [] r w = w
puts-formed (x ∷ env) r w = formed-put x.0 x.1 (puts env r) (puts-formed env r w)

-- and where it starts
puts-starts : (env : Received) (n : ℕ) (r : Residual) → StartsFrom n r → StartsFrom n (puts env r)
puts-starts [] n r s = s
puts-starts (x ∷ env) n r s = starts-put n x.0 x.1 (puts env r) (puts-starts env n r s)

mutual
  -- what is left of a process is well formed
  pub left-formed : (p : Proc) (env : Received) → WellFormed (remaining env p)
  left-formed idle env = tt
  left-formed stopped env = tt
  left-formed (once o true) env = tt
  left-formed (once o false) env = puts-formed env (residual_once o) (once-formed o)
  left-formed (sender s waiting) env = puts-formed env (residual_sender s) (sender-formed s)
  left-formed (sender s holding) env = tt
  left-formed (sender s past) env = tt
  left-formed (fresh g c) env = puts-formed env (again 0 g (residual c)) (again-formed 0 g (residual c) (residual-formed c))
  left-formed (turn g c n q) env =
      formed-within (2 * n + 1) (remaining env q) (puts env (again (n + 1) g (residual c))) (left-formed q env)
      (puts-formed env (again (n + 1) g (residual c)) (again-formed (n + 1) g (residual c) (residual-formed c)))
      (puts-starts env (2 * n + 1 + 1) (again (n + 1) g (residual c)) (again-starts (2 * n + 1 + 1) (n + 1) g (residual c) (omega arith)))
  left-formed (ended_at_once g c) env = tt
  left-formed (ended g c n q) env = tt
  left-formed (untested d cs) env = puts-formed env (residual (decides d cs)) (residual-formed (decides d cs))
  left-formed (skipped d cs) env = tt
  left-formed (took d cs j q) env = formed-within 1 (remaining env q) done (left-formed q env) tt tt
  left-formed (unopened ds cs) env = puts-formed env (residual (awaits ds cs)) (residual-formed (awaits ds cs))
  left-formed (entered ds cs c v q) env =
      formed-within 1 (remaining (with_value c v env) q) (Rattle.system.specs.Residual.closing c) (left-formed q (with_value c v env)) tt (omega arith)
  left-formed (closed ds cs c v q) env = tt
  left-formed (sequence ps) env = (left_sequence-formed ps env 0).0
  left-formed (parallel ps) env = (left_parallel-formed ps env 0).0
  left-formed (drained c n) env = tt

  -- so are children one after another, and they start from the first
  pub left_sequence-formed : (ps : Procs) (env : Received) (n : ℕ) → WellFormed (remaining_sequence env n ps) × StartsFrom n (remaining_sequence env n ps)
  left_sequence-formed no_procs env n = (tt, tt)
  left_sequence-formed (proc p ps) env n =
      let rest = left_sequence-formed ps env (n + 1) in (
        formed-within n (remaining env p) (remaining_sequence env (n + 1) ps) (left-formed p env) rest.0 rest.1,
        starts-within n n (remaining env p) (remaining_sequence env (n + 1) ps) (omega arith) rest.1,
      )

  -- and children side by side
  pub left_parallel-formed : (ps : Procs) (env : Received) (n : ℕ) → WellFormed (remaining_parallel env n ps) × BranchesFrom n (remaining_parallel env n ps)
  left_parallel-formed no_procs env n = (tt, tt)
  left_parallel-formed (proc p ps) env n =
      let rest = left_parallel-formed ps env (n + 1) in (
        formed-along n (remaining env p) (remaining_parallel env (n + 1) ps) (left-formed p env) rest.0 rest.1,
        branches-along n n (remaining env p) (remaining_parallel env (n + 1) ps) (omega arith) rest.1,
      )

-- a sequence is done where both parts are
within-done : (n : ℕ) (r q : Residual) → is_done (within n r q) ≡ is_done r && is_done q
within-done n done q = refl
within-done n r q = refl

-- and a parallel
along-done : (n : ℕ) (r q : Residual) → is_done (along n r q) ≡ is_done r && is_done q
along-done n done q = refl
along-done n r q = refl

-- values make nothing done
put-done : (c : ℕ) (v : Rattle.value.specs.Word.Word) (r : Residual) → is_done (put_residual c v r) ≡ is_done r
put-done c v done = refl
put-done c v r = refl

puts-is_done : (env : Received) (r : Residual) → is_done (puts env r) ≡ is_done r
puts-is_done [] r = refl
puts-is_done (x ∷ env) r = put-done x.0 x.1 (puts env r) ∙ puts-is_done env r

once-open : (o : Once) → is_done (residual_once o) ≡ false
once-open (assigning x w e) = refl
once-open (receiving c x) = refl

sender-open : (s : Sender) → is_done (residual_sender s) ≡ false
sender-open (sending c w e) = refl
sender-open (syncing c) = refl

again-open : (n : ℕ) (g : Option Expression) (r : Residual) → is_done (again n g r) ≡ false
again-open n None r = refl
again-open n (Some e) r = refl

-- nothing together with what is not done is done
and-false : (b : Bool) → (b && false) ≡ false
and-false true = refl
and-false false = refl

-- nothing more than the one is done where the other is done
and-true : (b : Bool) → (b && true) ≡ b
and-true true = refl
and-true false = refl

mutual
  -- what is left is done exactly where the process is finished
  pub finished-left : (p : Proc) (env : Received) → is_done (remaining env p) ≡ finished p
  finished-left idle env = refl
  finished-left stopped env = refl
  finished-left (once o true) env = refl
  finished-left (once o false) env = puts-is_done env (residual_once o) ∙ once-open o
  finished-left (sender s waiting) env = puts-is_done env (residual_sender s) ∙ sender-open s
  finished-left (sender s holding) env = refl
  finished-left (sender s past) env = refl
  finished-left (fresh g c) env = puts-is_done env (again 0 g (residual c)) ∙ again-open 0 g (residual c)
  finished-left (turn g c n q) env =
      within-done (2 * n + 1) (remaining env q) (puts env (again (n + 1) g (residual c)))
      ∙ ap (λ b. is_done (remaining env q) && b) (puts-is_done env (again (n + 1) g (residual c)) ∙ again-open (n + 1) g (residual c))
      ∙ and-false (is_done (remaining env q))
  finished-left (ended_at_once g c) env = refl
  finished-left (ended g c n q) env = refl
  finished-left (untested d cs) env = puts-is_done env (residual (decides d cs))
  finished-left (skipped d cs) env = refl
  finished-left (took d cs j q) env = within-done 1 (remaining env q) done ∙ and-true (is_done (remaining env q)) ∙ finished-left q env
  finished-left (unopened ds cs) env = puts-is_done env (residual (awaits ds cs))
  finished-left (entered ds cs c v q) env =
      within-done 1 (remaining (with_value c v env) q) (Rattle.system.specs.Residual.closing c) ∙ and-false (is_done (remaining (with_value c v env) q))
  finished-left (closed ds cs c v q) env = refl
  finished-left (sequence ps) env = finished-left_sequence ps env 0
  finished-left (parallel ps) env = finished-left_parallel ps env 0
  finished-left (drained c n) env = refl

  finished-left_sequence : (ps : Procs) (env : Received) (n : ℕ) → is_done (remaining_sequence env n ps) ≡ all_finished ps
  finished-left_sequence no_procs env n = refl
  finished-left_sequence (proc p ps) env n =
      within-done n (remaining env p) (remaining_sequence env (n + 1) ps) ∙ ap₂ (λ b c. b && c) (finished-left p env) (finished-left_sequence ps env (n + 1))

  finished-left_parallel : (ps : Procs) (env : Received) (n : ℕ) → is_done (remaining_parallel env n ps) ≡ all_finished ps
  finished-left_parallel no_procs env n = refl
  finished-left_parallel (proc p ps) env n =
      along-done n (remaining env p) (remaining_parallel env (n + 1) ps) ∙ ap₂ (λ b c. b && c) (finished-left p env) (finished-left_parallel ps env (n + 1))

-- only what is done is done
pub is_done-done : (r : Residual) → is_done r ≡ true → r ≡ done
is_done-done done e = refl
is_done-done r e = cc

-- a process is finished exactly where nothing is left of it
pub finished-done : (p : Proc) (env : Received) → (finished p ≡ true) ↔ (remaining env p ≡ done)
finished-done p env = (λ e. is_done-done (remaining env p) (finished-left p env ∙ e), λ e. sym (finished-left p env) ∙ ap is_done e)
