-- Well formed residuals: how they are made, and that a received value leaves them so.
use Rattle.std.proofs.Common.{ℕ, zero, suc, ◌+◌, ◌≤◌, Option, Some, None, arith}
use Rattle.value.specs.Word.{Word}
use Rattle.system.specs.Residual.{Residual, done, inside, beside, held, loop, while, test, choose, closing, Arms, no_arms, arm, within, along, arm_at, put_residual, put_arms, opened}
pub use Rattle.runs.specs.WellFormed.{StartsFrom, BranchesFrom, WellFormed, WellFormedArms}

-- what starts from m starts from a lesser number
pub starts-mono : (n m : ℕ) (r : Residual) → n ≤ m → StartsFrom m r → StartsFrom n r
starts-mono n m done h s = tt
starts-mono n m (inside i child next) h s = omega arith
starts-mono n m (loop k body) h s = omega arith
starts-mono n m (while k e body) h s = omega arith
starts-mono n m (held c) h s = omega arith
starts-mono n m (closing c) h s = omega arith
starts-mono n m _ h s = absurd s

-- a sequence starts from the place of its first child
pub starts-within : (n i : ℕ) (child next : Residual) → n ≤ i → StartsFrom (i + 1) next → StartsFrom n (within i child next)
starts-within n i done next h s = starts-mono n (i + 1) next (omega arith) s
starts-within n i child next h s = h

-- a sequence of well formed parts
pub formed-within : (i : ℕ) (child next : Residual) → WellFormed child → WellFormed next → StartsFrom (i + 1) next → WellFormed (within i child next)
formed-within i done next wc wn s = wn
formed-within i child next wc wn s = (wc, wn, s)

-- branches from m on are branches from a lesser number on
pub branches-mono : (n m : ℕ) (r : Residual) → n ≤ m → BranchesFrom m r → BranchesFrom n r
branches-mono n m done h s = tt
branches-mono n m (beside k child rest) h s = omega arith
branches-mono n m _ h s = absurd s

-- a parallel has branches from its first number on
pub branches-along : (n k : ℕ) (child rest : Residual) → n ≤ k → BranchesFrom (k + 1) rest → BranchesFrom n (along k child rest)
branches-along n k done rest h s = branches-mono n (k + 1) rest (omega arith) s
branches-along n k child rest h s = h

-- a parallel of well formed parts
pub formed-along : (k : ℕ) (child rest : Residual) → WellFormed child → WellFormed rest → BranchesFrom (k + 1) rest → WellFormed (along k child rest)
formed-along k done rest wc wr s = wr
formed-along k child rest wc wr s = (wc, wr, s)

-- a received value leaves the first number
pub starts-put : (n c : ℕ) (v : Word) (r : Residual) → StartsFrom n r → StartsFrom n (put_residual c v r)
starts-put n c v done s = tt
starts-put n c v (inside i child next) s = s
starts-put n c v (loop k body) s = s
starts-put n c v (while k e body) s = s
starts-put n c v (held d) s = s
starts-put n c v (closing d) s = s
starts-put n c v _ s = absurd s

-- and the first branch
pub branches-put : (n c : ℕ) (v : Word) (r : Residual) → BranchesFrom n r → BranchesFrom n (put_residual c v r)
branches-put n c v done s = tt
branches-put n c v (beside k child rest) s = s
branches-put n c v _ s = absurd s

mutual
  -- a received value leaves a residual well formed
  pub formed-put : (c : ℕ) (v : Word) (r : Residual) → WellFormed r → WellFormed (put_residual c v r)
  formed-put c v (inside i child next) w = (formed-put c v child w.0, formed-put c v next w.1, starts-put (i + 1) c v next w.2)
  formed-put c v (beside k child rest) w = (formed-put c v child w.0, formed-put c v rest w.1, branches-put (k + 1) c v rest w.2)
  formed-put c v (loop k body) w = formed-put c v body w
  formed-put c v (while k e body) w = formed-put c v body w
  formed-put c v (test d arms) w = formed-put_arms c v arms w
  formed-put c v (choose channels arms) w = formed-put_arms c v arms w
  formed-put c v _ w = tt

  -- and arms
  pub formed-put_arms : (c : ℕ) (v : Word) (arms : Arms) → WellFormedArms arms → WellFormedArms (put_arms c v arms)
  formed-put_arms c v no_arms w = tt
  formed-put_arms c v (arm r rest) w = (formed-put c v r w.0, formed-put_arms c v rest w.1)

-- an opened arm is well formed
pub formed-opened : (c : ℕ) (v : Option Word) (r : Residual) → WellFormed r → WellFormed (opened c v r)
formed-opened c None r w = w
formed-opened c (Some v) r w = formed-put c v r w

-- each arm is well formed
pub formed-arm_at : (arms : Arms) (k : ℕ) → WellFormedArms arms → WellFormed (arm_at arms k)
formed-arm_at no_arms k w = tt
formed-arm_at (arm r rest) zero w = w.0
formed-arm_at (arm r rest) (suc k) w = formed-arm_at rest k w.1
