-- Received values put in the parts of a command.
-- No reader has to believe it: `proofs/public/Puts.antt` ties it to `puts` of `Remaining.antt`, which puts them in the
-- whole residual.
use Rattle.std.specs.Prelude.{[], ◌∷◌, Option, Some, None}
use Rattle.system.specs.Expression.{Expression, Decision, put_value, put_decision}
use Rattle.system.specs.Residual.{Arms, put_arms}
use Rattle.process_tree.specs.Code.{Once, assigning, receiving, Sender, sending, syncing}
use Rattle.process_tree.specs.Remaining.{Received}

-- the values put in an expression
abbrev pub puts_value : Received → Expression → Expression
puts_value [] e = e
puts_value (x ∷ env) e = put_value x.0 x.1 (puts_value env e)

-- in a decision
abbrev pub puts_decision : Received → Decision → Decision
puts_decision [] d = d
puts_decision (x ∷ env) d = put_decision x.0 x.1 (puts_decision env d)

-- in arms
abbrev pub puts_arms : Received → Arms → Arms
puts_arms [] rs = rs
puts_arms (x ∷ env) rs = put_arms x.0 x.1 (puts_arms env rs)

-- in what makes one move
abbrev pub puts_once : Received → Once → Once
puts_once env (assigning x w e) = assigning x w (puts_value env e)
puts_once env (receiving c x) = receiving c x

-- in a send
abbrev pub puts_sender : Received → Sender → Sender
puts_sender env (sending c w e) = sending c w (puts_value env e)
puts_sender env (syncing c) = syncing c

-- in the guard of a loop
abbrev pub puts_guard : Received → Option Expression → Option Expression
puts_guard env None = None
puts_guard env (Some e) = Some (puts_value env e)
