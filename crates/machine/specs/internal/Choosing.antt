-- The event of a list that is taken, and why none is.
-- No reader has to believe it: the proofs of `step` and `branch_step` tie it to `Steps` of `runs` and to `StepsBranch`
-- of `Branching.antt`.
use Rattle.std.specs.Prelude.{◌≡◌, ◌⊎◌, ◌<◌, ◌≤◌, ℕ, List, length, Option, Some, None, Result, Ok, Err, IsSome, take, slice_get, Bool, true, false, [], ◌∷◌, cond}
use Rattle.syntax.specs.Lists.{Every}
use Rattle.runs.specs.Choices.{choice_of}
use Rattle.runs.specs.Ready.{Chosen}
use Rattle.runs.specs.Steps.{State}
use Rattle.runs.specs.Object.{Object, most_live, last_ticket, with_event}
use Rattle.runs.specs.declared.event.Event.{Event}
use Rattle.runs.specs.declared.command.Refusal.{Refusal}
use Rattle.runs.specs.declared.command.Refusal.TheVariants.{NotReady, HistoryFull, Spent, Memory}
use Rattle.runs.specs.Does.{Steps, RefusesStep}
use Rattle.runs.specs.Commands.{Reply}
use Rattle.machine.specs.AtMachine.{AtMachine, object}
use Rattle.machine.specs.declared.branch.BranchReply.{BranchReply}
use Rattle.machine.specs.declared.branch.BranchReply.TheVariants.{Stepped, Refused}
use Rattle.machine.specs.Branching.{line_of, acts_in, is_free}

-- the event at index i of the list is the one that its choice means in S
abbrev pub IsChosenAt : State → List Event → ℕ → Type 0
IsChosenAt S es i = (e : Event) × (slice_get es i ≡ Some e) × Chosen S (choice_of e) e

-- why no event is taken, with so many live and this ticket next: none was found, or a limit is reached
abbrev pub NotTaken : Option Event → ℕ → ℕ → Refusal → Type 0
NotTaken found live next NotReady = found ≡ None
NotTaken found live next HistoryFull = IsSome found × (most_live ≤ live)
NotTaken found live next Spent = IsSome found × (live < most_live) × (last_ticket < next)
NotTaken found live next _ = ⊥

-- why no event is taken where one was found: a limit is reached
abbrev pub IsLimit : ℕ → ℕ → Refusal → Type 0
IsLimit live next HistoryFull = most_live ≤ live
IsLimit live next Spent = (live < most_live) × (last_ticket < next)
IsLimit live next _ = ⊥

-- an event was found, and the limits leave room for it
abbrev pub IsAdmitted : Option Event → ℕ → ℕ → Type 0
IsAdmitted found live next = IsSome found × (live < most_live) × (next ≤ last_ticket)

-- what is told where this was found, and what is left: there may be no memory for an event that is taken, and for no other
abbrev pub TakesFound : Object → Option Event → Result (ℕ × Event) Refusal → Object → Type 0
TakesFound o found (Ok entry) o' =
    (found ≡ Some entry.1) × (length o.live < most_live) × (o.next ≤ last_ticket) × (entry ≡ (o.next, entry.1))
    × (o' ≡ with_event o entry.1)
TakesFound o found (Err Memory) o' = IsAdmitted found (length o.live) o.next × (o' ≡ o)
TakesFound o found (Err why) o' = NotTaken found (length o.live) o.next why × (o' ≡ o)

-- the event at index i passes the test, and none before it
abbrev pub FirstAt : (Event → Bool) → List Event → ℕ → Type 0
FirstAt test es i = (e : Event) × (slice_get es i ≡ Some e) × (test e ≡ true) × Every (λ f. test f ≡ false) (take i es)

-- what is answered where e is to be taken, and what is left
abbrev pub Takes : AtMachine → Event → BranchReply → AtMachine → Type 0
Takes h e (Stepped t f) h' = (f ≡ e) × Steps (object h) (choice_of e) (Reply.Stepped t e) (object h')
Takes h e (Refused why) h' = RefusesStep (object h) (choice_of e) why × (h' ≡ h)
Takes h e _ h' = ⊥

-- the same, or there was no memory for it, where the limits leave room
abbrev pub AnswersTaking : AtMachine → Event → BranchReply → AtMachine → Type 0
AnswersTaking h e reply h' =
    Takes h e reply h'
    ⊎ ((reply ≡ Refused Memory) × (length h.live < most_live) × (h.next ≤ last_ticket) × (h' ≡ h))

-- whether an event acts in branch k and no breakpoint keeps it back
abbrev pub moves : AtMachine → ℕ → List ℕ → Event → Bool
moves h k breaks e = cond (acts_in h k e) (is_free h breaks e) false

-- the line of the first event of the list
abbrev pub line_of_first : AtMachine → List Event → Option ℕ
line_of_first h [] = None
line_of_first h (e ∷ es) = line_of h e
