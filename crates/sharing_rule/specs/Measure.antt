-- How many uses of a channel or a variable a residual has at places apart: the width.
use Rattle.std.specs.Prelude.{ℕ, ◌+◌, max, List, [], ◌∷◌, cond, ◌==◌}
use Rattle.system.specs.Expression.{variables, decision_variables}
use Rattle.system.specs.Residual.{Residual, done, halted, inside, beside, assign, send, receive, sync, held, loop, while, test, choose, closing, drain, Arms, no_arms, arm}

-- how the amounts of two branches add up, and what each use counts
pub record Measure : Type 0 where
  pub together : ℕ → ℕ → ℕ
  -- by the variable's number
  pub reads : ℕ → ℕ
  pub writes : ℕ → ℕ
  -- by the channel's number
  pub sends : ℕ → ℕ
  -- a send or sync that is held
  pub holds : ℕ → ℕ
  pub receives : ℕ → ℕ
  pub opens : ℕ → ℕ
  -- the close that is still to come
  pub closes : ℕ → ℕ
  pub syncs : ℕ → ℕ

-- the greatest count of the list's numbers
abbrev pub most : (ℕ → ℕ) → List ℕ → ℕ
most f [] = 0
most f (x ∷ xs) = max (f x) (most f xs)

abbrev mutual
  -- the amount of a residual: branches together, else the greatest of its parts
  pub amount : Measure → Residual → ℕ
  amount M done = 0
  amount M halted = 0
  amount M (inside i child next) = max (amount M child) (amount M next)
  amount M (beside k child rest) = M.together (amount M child) (amount M rest)
  amount M (assign x w e) = max (M.writes x) (most M.reads (variables e))
  amount M (send c w e) = max (M.sends c) (max (M.holds c) (most M.reads (variables e)))
  amount M (receive c x) = max (M.receives c) (M.writes x)
  amount M (sync c) = max (M.syncs c) (M.holds c)
  amount M (held c) = M.holds c
  amount M (loop k body) = amount M body
  amount M (while k e body) = max (most M.reads (variables e)) (amount M body)
  amount M (test d arms) = max (most M.reads (decision_variables d)) (amount_of_arms M arms)
  amount M (choose channels arms) = max (max (most M.opens channels) (most M.closes channels)) (amount_of_arms M arms)
  amount M (closing c) = M.closes c
  amount M (drain c k) = M.receives c

  -- the greatest amount of the arms
  pub amount_of_arms : Measure → Arms → ℕ
  amount_of_arms M no_arms = 0
  amount_of_arms M (arm r rest) = max (amount M r) (amount_of_arms M rest)

-- n for the number c, 0 for every other
abbrev pub only : ℕ → ℕ → ℕ → ℕ
only n c d = cond (c == d) n 0

-- 0 for every number
abbrev pub nothing : ℕ → ℕ
nothing d = 0

-- branches add up
abbrev pub sum_together : ℕ → ℕ → ℕ
sum_together a b = a + b

-- the sending side of a data channel
abbrev pub sending : ℕ → Measure
sending c =
    record {
      together = sum_together;
      reads = nothing;
      writes = nothing;
      sends = only 1 c;
      holds = only 1 c;
      receives = nothing;
      opens = nothing;
      closes = nothing;
      syncs = only 1 c;
    }

-- the receiving side of a data channel: receives, and arms that open
abbrev pub receiving : ℕ → Measure
receiving c =
    record {
      together = sum_together;
      reads = nothing;
      writes = nothing;
      sends = nothing;
      holds = nothing;
      receives = only 1 c;
      opens = only 1 c;
      closes = only 1 c;
      syncs = only 1 c;
    }

-- all uses of a channel without data
abbrev pub syncing : ℕ → Measure
syncing c =
    record {
      together = sum_together;
      reads = nothing;
      writes = nothing;
      sends = only 1 c;
      holds = only 1 c;
      receives = only 1 c;
      opens = only 1 c;
      closes = only 1 c;
      syncs = only 1 c;
    }
