-- Local moves as a function: the move that is asked for at a place, and the residual after it.
-- No reader has to believe it: `proofs/public/After.antt` ties it to `Local` of `Moves.antt`.
use Rattle.std.specs.Prelude.{ℕ, Bool, ◌+◌, ◌*◌, ◌==◌, List, [], ◌∷◌, true, false, cond, Option, Some, None, slice_get}
use Rattle.runs.specs.ByPlace.{if_here, if_act, if_child, if_branch}
use Rattle.runs.specs.Moves.{Place, Move, assigns, tests, turns, sends, receives, syncs, opens, releases, closes}
use Rattle.value.specs.Word.{Word}
use Rattle.system.specs.Expression.{Expression, Decision, by_guards}
use Rattle.system.specs.Residual.{Residual, done, halted, inside, beside, assign, send, receive, sync, held, loop, while, test, choose, closing, drain, Arms, within, along, arm_at, opened}
use Rattle.runs.specs.declared.ask.Ask.{Ask}
use Rattle.runs.specs.declared.ask.Ask.TheVariants as ask

-- a move and the residual after it, if there is one
abbrev pub Answer : Type 0
Answer = Option (Move × Residual)

-- an answer with the rest put around the residual
abbrev pub around : (Residual → Residual) → Answer → Answer
around rest None = None
around rest (Some x) = Some (x.0, rest x.1)

-- the answer of an assignment
abbrev pub after_assign : ℕ → ℕ → Expression → Ask → Answer
after_assign x w e ask.Assign = Some (assigns x w e, done)
after_assign x w e _ = None

-- the answer of a send
abbrev pub after_send : ℕ → ℕ → Expression → Ask → Answer
after_send c w e ask.Send = Some (sends c w e false, done)
after_send c w e ask.Hold = Some (sends c w e true, held c)
after_send c w e _ = None

-- the answer of a receive
abbrev pub after_receive : ℕ → ℕ → Ask → Answer
after_receive c x ask.Receive = Some (receives c (Some x), done)
after_receive c x _ = None

-- the answer of a handshake without data
abbrev pub after_sync : ℕ → Ask → Answer
after_sync c ask.Sync = Some (syncs c false, done)
after_sync c ask.Hold = Some (syncs c true, held c)
after_sync c _ = None

-- the answer of what is held
abbrev pub after_held : ℕ → Ask → Answer
after_held c ask.Release = Some (releases c, done)
after_held c _ = None

-- the answer of a loop before turn k
abbrev pub after_loop : ℕ → Residual → Ask → Answer
after_loop k body ask.Turn = Some (turns, within (2 * k + 1) body (loop (k + 1) body))
after_loop k body _ = None

-- the answer of a while loop before test k; its arm is number 0
abbrev pub after_while : ℕ → Expression → Residual → Ask → Answer
after_while k e body (ask.Test None) = Some (tests (by_guards (e ∷ []) false) None, done)
after_while k e body (ask.Test (Some j)) =
    cond (j == 0)
    (Some (tests (by_guards (e ∷ []) false) (Some j), within (2 * k + 1) body (while (k + 1) e body))) None
after_while k e body _ = None

-- the answer of a test with arms
abbrev pub after_test : Decision → Arms → Ask → Answer
after_test d arms (ask.Test None) = Some (tests d None, done)
after_test d arms (ask.Test (Some j)) = Some (tests d (Some j), within 1 (arm_at arms j) done)
after_test d arms _ = None

-- the answer of an arm that opens on its channel, if there is one
abbrev pub after_open : Option ℕ → Arms → ℕ → Option Word → Answer
after_open None arms j v = None
after_open (Some c) arms j v = Some (opens c j v, within 1 (opened c v (arm_at arms j)) (closing c))

-- the answer of arms that wait on their channels
abbrev pub after_choose : List ℕ → Arms → Ask → Answer
after_choose channels arms (ask.Open j v) = after_open (slice_get channels j) arms j v
after_choose channels arms _ = None

-- the answer of what comes after an opened arm
abbrev pub after_closing : ℕ → Ask → Answer
after_closing c ask.Close = Some (closes c, done)
after_closing c _ = None

-- the answer of the receives on an output port, before act k
abbrev pub after_drain : ℕ → ℕ → Ask → Answer
after_drain c k ask.Receive = Some (receives c None, drain c (k + 1))
after_drain c k _ = None

-- the move that is asked of the residual at the place, and the residual after it
abbrev pub after : Ask → Residual → Place → Answer
after k done a = None
after k halted a = None
after k (inside i child next) a = if_child i a (λ b. around (λ t. within i t next) (after k child b))
after k (beside n child rest) a =
    if_branch n a (λ b. around (λ t. along n t rest) (after k child b)) (around (λ t. along n child t) (after k rest a))
after k (assign x w e) a = if_here a (after_assign x w e k)
after k (send c w e) a = if_act 0 a (after_send c w e k)
after k (receive c x) a = if_here a (after_receive c x k)
after k (sync c) a = if_act 0 a (after_sync c k)
after k (held c) a = if_act 1 a (after_held c k)
after k (loop n body) a = if_act (2 * n) a (after_loop n body k)
after k (while n e body) a = if_act (2 * n) a (after_while n e body k)
after k (test d arms) a = if_act 0 a (after_test d arms k)
after k (choose channels arms) a = if_act 0 a (after_choose channels arms k)
after k (closing c) a = if_act 2 a (after_closing c k)
after k (drain c n) a = if_act n a (after_drain c n k)

-- whether nothing is left
abbrev pub is_done : Residual → Bool
is_done done = true
is_done _ = false
