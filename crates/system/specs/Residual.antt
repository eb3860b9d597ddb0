-- What is still to do: a syntax tree without its finished parts.
use Rattle.std.specs.Prelude.{ℕ, zero, suc, List, Option, Some, None}
use Rattle.value.specs.Word.{Word}
use Rattle.system.specs.Expression.{Expression, Decision, put_value, put_decision}

mutual
  -- What is still to do at a position p. A command and what is left of one are the same type.
  pub data Residual : Type 0 where
    -- nothing
    done : Residual
    -- `halt`: for ever, without a move
    halted : Residual
    -- `child` at p.i; when it is done, `next` goes on at p
    inside : ℕ → Residual → Residual → Residual
    -- `child` at p/k, beside `rest` at p
    beside : ℕ → Residual → Residual → Residual
    -- an assignment to a variable, of a width
    assign : ℕ → ℕ → Expression → Residual
    -- a send on a channel, of a width
    send : ℕ → ℕ → Expression → Residual
    -- a receive on a channel into a variable
    receive : ℕ → ℕ → Residual
    -- a handshake without data
    sync : ℕ → Residual
    -- a send or sync whose partner has opened and not yet closed
    held : ℕ → Residual
    -- a loop before turn k
    loop : ℕ → Residual → Residual
    -- a while loop before test k
    while : ℕ → Expression → Residual → Residual
    -- an `if` or `case` before its test
    test : Decision → Arms → Residual
    -- an enclosed input, `select` or `arbitrate` before it opens: the channel of each arm, and the arms
    choose : List ℕ → Arms → Residual
    -- what comes after an opened arm: the close on its channel
    closing : ℕ → Residual
    -- the environment's receives on an output port, before act k
    drain : ℕ → ℕ → Residual

  -- arms in order
  pub data Arms : Type 0 where
    no_arms : Arms
    arm : Residual → Arms → Arms

-- `child` at p.i and then `next` at p; a finished child is erased
abbrev pub within : ℕ → Residual → Residual → Residual
within i done next = next
within i child next = inside i child next

-- `child` at p/k beside `rest`; a finished child is erased
abbrev pub along : ℕ → Residual → Residual → Residual
along k done rest = rest
along k child rest = beside k child rest

-- arm k; nothing to do past the last
abbrev pub arm_at : Arms → ℕ → Residual
arm_at no_arms k = done
arm_at (arm r rest) zero = r
arm_at (arm r rest) (suc k) = arm_at rest k

abbrev mutual
  -- the residual with the value v put for the name of channel c
  pub put_residual : ℕ → Word → Residual → Residual
  put_residual c v done = done
  put_residual c v halted = halted
  put_residual c v (inside i child next) = inside i (put_residual c v child) (put_residual c v next)
  put_residual c v (beside k child rest) = beside k (put_residual c v child) (put_residual c v rest)
  put_residual c v (assign x w e) = assign x w (put_value c v e)
  put_residual c v (send d w e) = send d w (put_value c v e)
  put_residual c v (receive d x) = receive d x
  put_residual c v (sync d) = sync d
  put_residual c v (held d) = held d
  put_residual c v (loop k body) = loop k (put_residual c v body)
  put_residual c v (while k e body) = while k (put_value c v e) (put_residual c v body)
  put_residual c v (test d arms) = test (put_decision c v d) (put_arms c v arms)
  put_residual c v (choose channels arms) = choose channels (put_arms c v arms)
  put_residual c v (closing d) = closing d
  put_residual c v (drain d k) = drain d k

  -- the same in each arm
  pub put_arms : ℕ → Word → Arms → Arms
  put_arms c v no_arms = no_arms
  put_arms c v (arm r rest) = arm (put_residual c v r) (put_arms c v rest)

-- the arm opened on channel c with what was received, if anything
abbrev pub opened : ℕ → Option Word → Residual → Residual
opened c None r = r
opened c (Some v) r = put_residual c v r
