-- Received values go to the parts of each form; what has made no move still has all to do.
use Rattle.std.proofs.Common.{◌≡◌, ℕ, zero, suc, ◌+◌, sym, List, [], ◌∷◌, Option, Some, None, refl, ap, ap₂, ◌∙◌}
use Rattle.value.specs.Word.{Word}
use Rattle.system.specs.Expression.{Expression, Decision}
use Rattle.system.specs.Residual.{Residual, done, halted, test, choose, drain, Arms, no_arms, arm, within, along, arm_at, put_residual, put_arms}
use Rattle.process_tree.specs.Code.{Once, assigning, receiving, Sender, sending, syncing, Code, continues, halts, moves_once, may_be_held, repeats, decides, awaits, in_turn, side_by_side, drains, Codes, no_code, code, code_at}
use Rattle.process_tree.specs.Proc.{started, all_started}
use Rattle.process_tree.specs.internal.Received.{puts_decision, puts_arms, puts_once, puts_sender, puts_guard}
use Rattle.process_tree.specs.Remaining.{Received, puts, residual_once, residual_sender, again, residual, residual_arms, residual_sequence, residual_parallel, remaining, remaining_sequence, remaining_parallel}

-- nothing is left as it is
pub puts-done : (env : Received) → puts env done ≡ done
puts-done [] = refl
puts-done (x ∷ env) = ap (put_residual x.0 x.1) (puts-done env)

pub puts-halted : (env : Received) → puts env halted ≡ halted
puts-halted [] = refl
puts-halted (x ∷ env) = ap (put_residual x.0 x.1) (puts-halted env)

pub puts-drain : (env : Received) (c n : ℕ) → puts env (drain c n) ≡ drain c n
puts-drain [] c n = refl
puts-drain (x ∷ env) c n = ap (put_residual x.0 x.1) (puts-drain env c n)

pub puts-once : (env : Received) (o : Once) → puts env (residual_once o) ≡ residual_once (puts_once env o)
puts-once [] (assigning x w e) = refl
puts-once [] (receiving c x) = refl
puts-once (v ∷ env) (assigning x w e) = ap (put_residual v.0 v.1) (puts-once env (assigning x w e))
puts-once (v ∷ env) (receiving c x) = ap (put_residual v.0 v.1) (puts-once env (receiving c x))

pub puts-sender : (env : Received) (s : Sender) → puts env (residual_sender s) ≡ residual_sender (puts_sender env s)
puts-sender [] (sending c w e) = refl
puts-sender [] (syncing c) = refl
puts-sender (v ∷ env) (sending c w e) = ap (put_residual v.0 v.1) (puts-sender env (sending c w e))
puts-sender (v ∷ env) (syncing c) = ap (put_residual v.0 v.1) (puts-sender env (syncing c))

pub puts-again : (env : Received) (n : ℕ) (g : Option Expression) (r : Residual) → puts env (again n g r) ≡ again n (puts_guard env g) (puts env r)
puts-again [] n None r = refl
puts-again [] n (Some e) r = refl
puts-again (v ∷ env) n None r = ap (put_residual v.0 v.1) (puts-again env n None r)
puts-again (v ∷ env) n (Some e) r = ap (put_residual v.0 v.1) (puts-again env n (Some e) r)

pub puts-test : (env : Received) (d : Decision) (rs : Arms) → puts env (test d rs) ≡ test (puts_decision env d) (puts_arms env rs)
puts-test [] d rs = refl
puts-test (v ∷ env) d rs = ap (put_residual v.0 v.1) (puts-test env d rs)

pub puts-choose : (env : Received) (ds : List ℕ) (rs : Arms) → puts env (choose ds rs) ≡ choose ds (puts_arms env rs)
puts-choose [] ds rs = refl
puts-choose (v ∷ env) ds rs = ap (put_residual v.0 v.1) (puts-choose env ds rs)

-- a value goes to both parts of a sequence
put-within : (c : ℕ) (v : Word) (n : ℕ) (r q : Residual) → put_residual c v (within n r q) ≡ within n (put_residual c v r) (put_residual c v q)
put-within c v n done q = refl
put-within c v n r q = refl

-- and of a parallel
put-along : (c : ℕ) (v : Word) (n : ℕ) (r q : Residual) → put_residual c v (along n r q) ≡ along n (put_residual c v r) (put_residual c v q)
put-along c v n done q = refl
put-along c v n r q = refl

pub puts-within : (env : Received) (n : ℕ) (r q : Residual) → puts env (within n r q) ≡ within n (puts env r) (puts env q)
puts-within [] n r q = refl
puts-within (x ∷ env) n r q = ap (put_residual x.0 x.1) (puts-within env n r q) ∙ put-within x.0 x.1 n (puts env r) (puts env q)

pub puts-along : (env : Received) (n : ℕ) (r q : Residual) → puts env (along n r q) ≡ along n (puts env r) (puts env q)
puts-along [] n r q = refl
puts-along (x ∷ env) n r q = ap (put_residual x.0 x.1) (puts-along env n r q) ∙ put-along x.0 x.1 n (puts env r) (puts env q)

-- a value goes to each arm
put-arm_at : (c : ℕ) (v : Word) (rs : Arms) (j : ℕ) → arm_at (put_arms c v rs) j ≡ put_residual c v (arm_at rs j)
put-arm_at c v no_arms j = refl
put-arm_at c v (arm r rs) zero = refl
put-arm_at c v (arm r rs) (suc j) = put-arm_at c v rs j

pub puts-arm_at : (env : Received) (rs : Arms) (j : ℕ) → arm_at (puts_arms env rs) j ≡ puts env (arm_at rs j)
puts-arm_at [] rs j = refl
puts-arm_at (x ∷ env) rs j = put-arm_at x.0 x.1 (puts_arms env rs) j ∙ ap (put_residual x.0 x.1) (puts-arm_at env rs j)

-- an arm of commands is an arm of what they are to do
pub residual-code_at : (cs : Codes) (j : ℕ) → arm_at (residual_arms cs) j ≡ residual (code_at cs j)
residual-code_at no_code j = refl
residual-code_at (code c cs) zero = refl
residual-code_at (code c cs) (suc j) = residual-code_at cs j

mutual
  -- what has made no move still has all to do
  pub left-started : (c : Code) (env : Received) → remaining env (started c) ≡ puts env (residual c)
  left-started continues env = sym (puts-done env)
  left-started halts env = sym (puts-halted env)
  left-started (moves_once o) env = refl
  left-started (may_be_held s) env = refl
  left-started (repeats g c) env = refl
  left-started (decides d cs) env = refl
  left-started (awaits ds cs) env = refl
  left-started (in_turn cs) env = left-sequence-started cs env 0
  left-started (side_by_side cs) env = left-parallel-started cs env 0
  left-started (drains c) env = sym (puts-drain env c 0)

  -- of children one after another
  left-sequence-started : (cs : Codes) (env : Received) (n : ℕ) → remaining_sequence env n (all_started cs) ≡ puts env (residual_sequence n cs)
  left-sequence-started no_code env n = sym (puts-done env)
  left-sequence-started (code c cs) env n =
      ap₂ (within n) (left-started c env) (left-sequence-started cs env (n + 1))
      ∙ sym (puts-within env n (residual c) (residual_sequence (n + 1) cs))

  -- of children side by side
  left-parallel-started : (cs : Codes) (env : Received) (n : ℕ) → remaining_parallel env n (all_started cs) ≡ puts env (residual_parallel n cs)
  left-parallel-started no_code env n = sym (puts-done env)
  left-parallel-started (code c cs) env n =
      ap₂ (along n) (left-started c env) (left-parallel-started cs env (n + 1))
      ∙ sym (puts-along env n (residual c) (residual_parallel (n + 1) cs))
