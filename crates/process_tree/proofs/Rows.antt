-- The rows of the examples of docs/theory/examples.md, on the tree.
use Rattle.std.proofs.Common.{◌≡◌, true, false, List, [], ◌∷◌, Option, Some, None, refl}
use Rattle.std.specs.Option.{option_and_then}
use Rattle.address.specs.declared.Entry.TheVariants.{Ordered, Branch}
use Rattle.system.specs.Expression.{constant, variable, received, word, by_guards}
use Rattle.system.specs.Residual.{Residual, done, inside, beside, receive, send, held, loop, closing, drain}
use Rattle.runs.specs.Moves.{Place}
use Rattle.runs.specs.declared.ask.Ask.{Ask}
use Rattle.runs.specs.declared.ask.Ask.TheVariants as ask
use Rattle.process_tree.specs.Code.{assigning, receiving, sending, Code, continues, moves_once, may_be_held, repeats, decides, awaits, in_turn, side_by_side, drains, no_code, code}
use Rattle.process_tree.specs.Proc.{Proc, once, turn, started, finished}
use Rattle.process_tree.specs.Advanced.{Moved, advanced}
use Rattle.process_tree.specs.Remaining.{remaining}

-- the process after moves in turn
made : Proc → List (Place × Ask) → Option Proc
made p [] = Some p
made p (m ∷ ms) = option_and_then (λ (x : Moved). made x.0 ms) (advanced p m.0 m.1)

-- what is left after moves in turn
to_do : Proc → List (Place × Ask) → Option Residual
unfolding made
to_do p ms = option_and_then (λ q. Some (remaining [] q)) (made p ms)

-- the buffer: channel 0 is i, channel 1 is o, variable 0 is x
abbrev body : Code
body = in_turn (code (moves_once (receiving 0 0)) (code (may_be_held (sending 1 8 (variable 0 8))) no_code))

abbrev body_left : Residual
body_left = inside 0 (receive 0 0) (inside 1 (send 1 8 (variable 0 8)) done)

abbrev feed : Code
feed = in_turn (code (may_be_held (sending 0 8 (constant (word 5 8)))) (code (may_be_held (sending 0 8 (constant (word 7 8)))) no_code))

abbrev buffer : Proc
buffer = started (side_by_side (code (repeats None body) (code feed (code (drains 1) no_code))))

-- its first three events, and the fourth to seventh
abbrev one_turn : List (Place × Ask)
one_turn =
    (Branch 0 ∷ Ordered 0 ∷ [], ask.Turn)
    ∷ (Branch 1 ∷ Ordered 0 ∷ Ordered 0 ∷ [], ask.Send) ∷ (Branch 0 ∷ Ordered 1 ∷ Ordered 0 ∷ [], ask.Receive)
    ∷ (Branch 0 ∷ Ordered 1 ∷ Ordered 1 ∷ Ordered 0 ∷ [], ask.Send) ∷ (Branch 2 ∷ Ordered 0 ∷ [], ask.Receive) ∷ []

abbrev three_turns : List (Place × Ask)
three_turns =
    (Branch 0 ∷ Ordered 0 ∷ [], ask.Turn)
    ∷ (Branch 1 ∷ Ordered 0 ∷ Ordered 0 ∷ [], ask.Send) ∷ (Branch 0 ∷ Ordered 1 ∷ Ordered 0 ∷ [], ask.Receive)
    ∷ (Branch 0 ∷ Ordered 1 ∷ Ordered 1 ∷ Ordered 0 ∷ [], ask.Send) ∷ (Branch 2 ∷ Ordered 0 ∷ [], ask.Receive)
    ∷ (Branch 0 ∷ Ordered 2 ∷ [], ask.Turn)
    ∷ (Branch 1 ∷ Ordered 1 ∷ Ordered 0 ∷ [], ask.Send) ∷ (Branch 0 ∷ Ordered 3 ∷ Ordered 0 ∷ [], ask.Receive)
    ∷ (Branch 0 ∷ Ordered 3 ∷ Ordered 1 ∷ Ordered 0 ∷ [], ask.Send) ∷ (Branch 2 ∷ Ordered 1 ∷ [], ask.Receive)
    ∷ (Branch 0 ∷ Ordered 4 ∷ [], ask.Turn) ∷ []

-- after the third event: the loop before turn 1, send 7 at /1.1, act 1 of the drain
after-one-turn : to_do buffer one_turn
    ≡ Some (beside 0 (loop 1 body_left) (beside 1 (inside 1 (send 0 8 (constant (word 7 8))) done) (beside 2 (drain 1 1) done)))
unfolding to_do made
after-one-turn = refl

-- after the last: turn 2 at /0.5, no feed any more, act 2 of the drain
after-three-turns : to_do buffer three_turns ≡ Some (beside 0 (inside 5 body_left (loop 3 body_left)) (beside 2 (drain 1 2) done))
unfolding to_do made
after-three-turns = refl

-- the fork: channel 0 is i, 1 is a, 2 is b
abbrev fork : Proc
fork =
    started (side_by_side (code
    (in_turn (code
    (awaits (0 ∷ []) (code (side_by_side (code (may_be_held (sending 1 8 (received 0 8))) (code (may_be_held (sending 2 8 (received 0 8))) no_code))) no_code))
    (code (moves_once (receiving 0 0)) no_code)))
    (code feed (code (drains 1) (code (drains 2) no_code)))))

-- the open and the first meeting
abbrev opened_fork : List (Place × Ask)
opened_fork =
    (Branch 1 ∷ Ordered 0 ∷ Ordered 0 ∷ [], ask.Hold) ∷ (Branch 0 ∷ Ordered 0 ∷ Ordered 0 ∷ [], ask.Open 0 (Some (word 5 8)))
    ∷ (Branch 0 ∷ Ordered 0 ∷ Ordered 1 ∷ Branch 0 ∷ Ordered 0 ∷ [], ask.Send) ∷ (Branch 2 ∷ Ordered 0 ∷ [], ask.Receive) ∷ []

-- b <- 5 at /0.0.1/1, then the close, then i -> x; the feed is held at /1.0.1
after-open : to_do fork opened_fork
    ≡ Some (beside 0 (inside 0 (inside 1 (beside 1 (send 2 8 (constant (word 5 8))) done) (closing 0)) (inside 1 (receive 0 0) done))
    (beside 1 (inside 0 (held 0) (inside 1 (send 0 8 (constant (word 7 8))) done)) (beside 2 (drain 1 1) (beside 3 (drain 2 0) done))))
unfolding to_do made
after-open = refl

-- then i -> x cannot be reached, and the close neither
abbrev and_then : Place × Ask → Option Proc
and_then m = option_and_then (λ p. made p (m ∷ [])) (made fork opened_fork)

not-reached : and_then (Branch 0 ∷ Ordered 1 ∷ [], ask.Receive) ≡ None
unfolding made
not-reached = refl

not-closed : and_then (Branch 0 ∷ Ordered 0 ∷ Ordered 2 ∷ [], ask.Close) ≡ None
unfolding made
not-closed = refl

-- the rest of the fork
abbrev all_fork : List (Place × Ask)
all_fork =
    (Branch 1 ∷ Ordered 0 ∷ Ordered 0 ∷ [], ask.Hold) ∷ (Branch 0 ∷ Ordered 0 ∷ Ordered 0 ∷ [], ask.Open 0 (Some (word 5 8)))
    ∷ (Branch 0 ∷ Ordered 0 ∷ Ordered 1 ∷ Branch 0 ∷ Ordered 0 ∷ [], ask.Send) ∷ (Branch 2 ∷ Ordered 0 ∷ [], ask.Receive)
    ∷ (Branch 0 ∷ Ordered 0 ∷ Ordered 1 ∷ Branch 1 ∷ Ordered 0 ∷ [], ask.Send) ∷ (Branch 3 ∷ Ordered 0 ∷ [], ask.Receive)
    ∷ (Branch 1 ∷ Ordered 0 ∷ Ordered 1 ∷ [], ask.Release) ∷ (Branch 0 ∷ Ordered 0 ∷ Ordered 2 ∷ [], ask.Close)
    ∷ (Branch 1 ∷ Ordered 1 ∷ Ordered 0 ∷ [], ask.Send) ∷ (Branch 0 ∷ Ordered 1 ∷ [], ask.Receive) ∷ []

after-all : to_do fork all_fork ≡ Some (beside 2 (drain 1 1) (beside 3 (drain 2 1) done))
unfolding to_do made
after-all = refl

-- a while loop: its test of turn 0 at .0, its body at .1, its second test at .2, which takes the finished body out or ends the loop
abbrev counter : Proc
counter = started (repeats (Some (variable 0 1)) (moves_once (assigning 0 8 (constant (word 1 8)))))

abbrev first_turn : Option Proc
first_turn = made counter ((Ordered 0 ∷ [], ask.Test (Some 0)) ∷ (Ordered 1 ∷ [], ask.Assign) ∷ [])

takes-out : option_and_then (λ p. advanced p (Ordered 2 ∷ []) (ask.Test (Some 0))) first_turn
    ≡ Some (turn (Some (variable 0 1)) (moves_once (assigning 0 8 (constant (word 1 8)))) 1 (once (assigning 0 8 (constant (word 1 8))) false), Some (once (assigning 0 8 (constant (word 1 8))) true))
unfolding made
takes-out = refl

ends : option_and_then (λ p. option_and_then (λ (x : Moved). Some (finished x.0)) (advanced p (Ordered 2 ∷ []) (ask.Test None))) first_turn ≡ Some true
unfolding made
ends = refl

-- an `if`: its test at .0, the arm at .1
abbrev branching : Proc
branching = started (decides (by_guards (variable 0 1 ∷ []) true) (code continues (code (moves_once (assigning 0 8 (constant (word 1 8)))) no_code)))

takes-the-else : option_and_then (λ q. Some (finished q)) (made branching ((Ordered 0 ∷ [], ask.Test (Some 1)) ∷ (Ordered 1 ∷ [], ask.Assign) ∷ [])) ≡ Some true
unfolding made
takes-the-else = refl
