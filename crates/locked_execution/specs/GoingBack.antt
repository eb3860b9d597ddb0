-- Going back: what goes with an event, what a rollback takes, and what any commands of sessions amount to.
use Rattle.std.specs.Prelude.{◌≡◌, ◌↔◌, ℕ, ◌+◌, ◌<◌, List, [], ◌∷◌, ◌++◌, length, map, Some}
use Rattle.syntax.specs.Lists.{In}
use Rattle.system.specs.Expression.{get}
use Rattle.sharing_rule.specs.Rule.{SharesWell}
use Rattle.runs.specs.BackAndForth.{back_and_forth, back_and_forth_replies}
use Rattle.runs.specs.Dependence.{Causes}
use Rattle.runs.specs.InOrder.{InOrder}
use Rattle.runs.specs.Live.{Live, events, LiveAt, NoWriter}
use Rattle.runs.specs.Object.{Object, Reaches}
use Rattle.runs.specs.Sound.{Sound}
use Rattle.runs.specs.Steps.{State, Run}
use Rattle.runs.specs.Commands as runs
use Rattle.runs.specs.declared.event.Event.{Event}
use Rattle.locked_execution.specs.AtDesk.{AtDesk, execution}
use Rattle.locked_execution.specs.Answered.{Answered}
use Rattle.locked_execution.specs.Performs.{Performs, execution_command, session_reply}
use Rattle.locked_execution.specs.declared.command.Command.{Command}
use Rattle.locked_execution.specs.declared.command.Reply.{Reply}

-- from o to o', what depends on an event goes with it: where that is no longer live, no event that depended on it is
abbrev pub DependentsGoAlong : Object → Object → Type 0
DependentsGoAlong o o' = (t u : ℕ) (e f : Event) → LiveAt o.live t e → (LiveAt o'.live t e → ⊥) →
    LiveAt o.live u f → Causes (events o.live) e f → LiveAt o'.live u f → ⊥

-- so it is with any commands of sessions: none of them, and no list of them, takes less
abbrev pub NoneTakeLess : Type 0
NoneTakeLess =
    (d d' : AtDesk) (commands : List (ℕ × Command)) (replies : List Reply) → Sound (execution d) →
    Answered d commands replies d' →
    DependentsGoAlong (execution d) (execution d')

-- a rollback takes these and no others: exactly the events that do not depend on its event stay live
abbrev pub RollTakesNoOthers : Type 0
RollTakesNoOthers =
    (d d' : AtDesk) (session t n : ℕ) → Sound (execution d) → Performs d session (Command.Roll t) (Reply.Rolled n) d' →
    (e : Event) × LiveAt d.machine.live t e
    × ((u : ℕ) (f : Event) → LiveAt d'.machine.live u f ↔
    (LiveAt d.machine.live u f × (Causes (events d.machine.live) e f → ⊥)))
    × (n + length d'.machine.live ≡ length d.machine.live)

-- the consequences of an event are the tickets of what a rollback of it would take, ascending
abbrev pub ConsequencesTellRoll : Type 0
ConsequencesTellRoll = (d d' : AtDesk) (session t : ℕ) (ts : List ℕ) → Sound (execution d) →
    Performs d session (Command.Consequences t) (Reply.Consequences ts) d' →
    (e : Event) × LiveAt d.machine.live t e × InOrder ◌<◌ ts
    × ((u : ℕ) → In u ts ↔ ((f : Event) × LiveAt d.machine.live u f × Causes (events d.machine.live) e f))

-- a rollback of a variable leaves it with the value that it had just before its last live writer
abbrev pub ValueFromBefore : Type 0
ValueFromBefore =
    (d d' : AtDesk) (session x n : ℕ) → Sound (execution d) →
    Performs d session (Command.RollValue x) (Reply.Rolled n) d' →
    (before : Live) × (t : ℕ) × (e : Event) × (after : Live) × (d.machine.live ≡ before ++ (t, e) ∷ after)
    × (e.written ≡ Some x) × NoWriter after x
    × ((S T : State) → Run (execution d).opening (events before) S → Reaches (execution d') T →
    get T.store x ≡ get S.store x)

-- commands of one session, which are these of the execution, are performed in their order with these replies, one each,
-- and leave d'; none wants memory
abbrev pub PerformsAll : AtDesk → ℕ → List runs.Command → List Reply → AtDesk → Type 0
PerformsAll d session [] replies d' = (replies ≡ []) × (d' ≡ d)
PerformsAll d session (c ∷ cs) replies d' =
    (command : Command) × (reply : Reply) × (rest : List Reply) × (middle : AtDesk)
    × (execution_command command ≡ Some c) × (replies ≡ reply ∷ rest)
    × Performs d session command reply middle × PerformsAll middle session cs rest d'

-- from d to d', all amounts to undos of what went, from the greatest ticket down, and then steps of what came, in order
-- of tickets, each of which makes that very event: a session that asks these is answered so, and then the same events
-- are live, in the same order, and the state is the same
abbrev pub AmountsToBackAndForth : AtDesk → AtDesk → Type 0
AmountsToBackAndForth d d' = (session : ℕ) →
    (p : AtDesk)
    × PerformsAll d session (back_and_forth d.machine.live d'.machine.live)
    (map session_reply (back_and_forth_replies d.machine.next d.machine.live d'.machine.live)) p
    × (events p.machine.live ≡ events d'.machine.live)
    × ((T : State) → Reaches (execution p) T ↔ Reaches (execution d') T)

-- so do any commands of sessions, on a system that keeps the rule on sharing, as each machine does
abbrev pub AllAmountToBackAndForth : Type 0
AllAmountToBackAndForth = (d d' : AtDesk) (commands : List (ℕ × Command)) (replies : List Reply) →
    SharesWell d.machine.checked → Sound (execution d) → Answered d commands replies d' → AmountsToBackAndForth d d'
