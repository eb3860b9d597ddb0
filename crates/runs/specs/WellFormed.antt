-- Numbers only go up: what a residual offers next is numbered past what it has done.
use Rattle.std.specs.Prelude.{ℕ, ◌+◌, ◌*◌, ◌≤◌}
use Rattle.system.specs.Residual.{Residual, done, inside, beside, loop, while, test, choose, held, closing, Arms, no_arms, arm}

-- its moves are at ordered places from n on
abbrev pub StartsFrom : ℕ → Residual → Type 0
StartsFrom n done = Unit {0}
StartsFrom n (inside i child next) = n ≤ i
StartsFrom n (loop k body) = n ≤ 2 * k
StartsFrom n (while k e body) = n ≤ 2 * k
StartsFrom n (held c) = n ≤ 1
StartsFrom n (closing c) = n ≤ 2
StartsFrom n _ = ⊥

-- its moves are in branches from n on
abbrev pub BranchesFrom : ℕ → Residual → Type 0
BranchesFrom n done = Unit {0}
BranchesFrom n (beside k child rest) = n ≤ k
BranchesFrom n _ = ⊥

abbrev mutual
  -- what comes after a child, and each later branch of a parallel, has greater numbers
  pub WellFormed : Residual → Type 0
  WellFormed (inside i child next) = WellFormed child × WellFormed next × StartsFrom (i + 1) next
  WellFormed (beside k child rest) = WellFormed child × WellFormed rest × BranchesFrom (k + 1) rest
  WellFormed (loop k body) = WellFormed body
  WellFormed (while k e body) = WellFormed body
  WellFormed (test d arms) = WellFormedArms arms
  WellFormed (choose channels arms) = WellFormedArms arms
  WellFormed _ = Unit {0}

  -- each arm is well formed
  pub WellFormedArms : Arms → Type 0
  WellFormedArms no_arms = Unit {0}
  WellFormedArms (arm r rest) = WellFormed r × WellFormedArms rest
