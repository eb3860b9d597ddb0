-- Commands as the tree holds them: they never change.
use Rattle.std.specs.Prelude.{ℕ, zero, suc, List, Option}
use Rattle.system.specs.Expression.{Expression, Decision}

-- a command that makes one move, and is done
pub data Once : Type 0 where
  -- to a variable, at a width, the value of the expression
  assigning : ℕ → ℕ → Expression → Once
  -- on a channel, into a variable
  receiving : ℕ → ℕ → Once

-- a command whose partner may open, and hold it until the close
pub data Sender : Type 0 where
  -- on a channel, at a width, the value of the expression
  sending : ℕ → ℕ → Expression → Sender
  -- a handshake without data on a channel
  syncing : ℕ → Sender

mutual
  -- a command
  pub data Code : Type 0 where
    -- `continue`
    continues : Code
    -- `halt`
    halts : Code
    moves_once : Once → Code
    may_be_held : Sender → Code
    -- a loop; with a guard where it is a `loop while`
    repeats : Option Expression → Code → Code
    -- an `if` or `case`: what it decides by, and its arms, the else last
    decides : Decision → Codes → Code
    -- an enclosed input, `select` or `arbitrate`: the channel of each arm, and the arms
    awaits : List ℕ → Codes → Code
    in_turn : Codes → Code
    side_by_side : Codes → Code
    -- the environment's receives on an output port, for ever
    drains : ℕ → Code

  -- commands in a row
  pub data Codes : Type 0 where
    no_code : Codes
    code : Code → Codes → Codes

-- the command of this number; nothing to do past the last
abbrev pub code_at : Codes → ℕ → Code
code_at no_code j = continues
code_at (code c cs) zero = c
code_at (code c cs) (suc j) = code_at cs j
