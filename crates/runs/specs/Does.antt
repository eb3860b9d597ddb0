-- What each command answers and leaves: for each a function of the reply, a line for each reply that it can have.
use Rattle.std.specs.Prelude.{◌≡◌, ◌⊎◌, ℕ, ◌+◌, ◌<◌, ◌≤◌, length, Some, None, slice_get}
use Rattle.runs.specs.Steps.{State}
use Rattle.runs.specs.Ready.{ReadyList, ChoiceAllowed, Chosen}
use Rattle.runs.specs.Live.{Live, LiveAt, IsLive, NoneAt, DependsOn, WithoutTickets, FirstDependent, NoDependent, LastWriter, NoWriter, ConsequencesList}
use Rattle.runs.specs.Object.{Object, Reaches, most_live, last_ticket, with_event, with_live}
use Rattle.runs.specs.declared.event.Choice.{Choice}
use Rattle.runs.specs.Commands.{Command, Reply}
use Rattle.runs.specs.declared.command.Refusal.{Refusal}
use Rattle.runs.specs.declared.command.Refusal.TheVariants.{Memory, NotReady, HistoryFull, NoSuchEvent, NeededBy, NeverWritten, Spent}

-- an event with this choice is allowed in the state of o
abbrev pub CanStep : Object → Choice → Type 0
CanStep o c = (T : State) × Reaches o T × ChoiceAllowed T c

-- why a step at the choice c is refused
abbrev pub RefusesStep : Object → Choice → Refusal → Type 0
RefusesStep o c NotReady = (T : State) × Reaches o T × (ChoiceAllowed T c → ⊥)
RefusesStep o c HistoryFull = CanStep o c × (most_live ≤ length o.live)
RefusesStep o c Spent = CanStep o c × (length o.live < most_live) × (last_ticket < o.next)
RefusesStep o c _ = ⊥

-- a step: the event is added under the next ticket
abbrev pub Steps : Object → Choice → Reply → Object → Type 0
Steps o c (Reply.Stepped t e) o' =
    (t ≡ o.next) × (length o.live < most_live) × (o.next ≤ last_ticket)
    × ((T : State) × Reaches o T × Chosen T c e) × (o' ≡ with_event o e)
Steps o c (Reply.Refused why) o' = RefusesStep o c why × (o' ≡ o)
Steps o c _ o' = ⊥

-- why an undo of ticket t is refused
abbrev pub RefusesUndo : Object → ℕ → Refusal → Type 0
RefusesUndo o t NoSuchEvent = NoneAt o.live t
RefusesUndo o t (NeededBy u) = IsLive o.live t × FirstDependent o.live t u
RefusesUndo o t _ = ⊥

-- an undo: the event is taken out where no other live event depends on it
abbrev pub Undoes : Object → ℕ → Reply → Object → Type 0
Undoes o t (Reply.Undone u e) o' =
    (u ≡ t) × LiveAt o.live t e × NoDependent o.live t
    × ((k : Live) × WithoutTickets (λ v. v ≡ t) o.live k × (o' ≡ with_live o k))
Undoes o t (Reply.Refused why) o' = RefusesUndo o t why × (o' ≡ o)
Undoes o t _ o' = ⊥

-- the event of ticket t and the live events that depend on it, n in number, are taken out
abbrev pub TakesOut : Object → ℕ → ℕ → Object → Type 0
TakesOut o t n o' =
    (k : Live) × WithoutTickets (DependsOn o.live t) o.live k × (n + length k ≡ length o.live) × (o' ≡ with_live o k)

-- why a command on the live event of ticket t is refused
abbrev pub RefusesTicket : Object → ℕ → Refusal → Type 0
RefusesTicket o t NoSuchEvent = NoneAt o.live t
RefusesTicket o t _ = ⊥

-- a rollback
abbrev pub Rolls : Object → ℕ → Reply → Object → Type 0
Rolls o t (Reply.Rolled n) o' = IsLive o.live t × TakesOut o t n o'
Rolls o t (Reply.Refused why) o' = RefusesTicket o t why × (o' ≡ o)
Rolls o t _ o' = ⊥

-- why a command on the last writer of the variable x is refused
abbrev pub RefusesVariable : Object → ℕ → Refusal → Type 0
RefusesVariable o x NeverWritten = NoWriter o.live x
RefusesVariable o x _ = ⊥

-- a rollback of the last writer of a variable
abbrev pub RollsValue : Object → ℕ → Reply → Object → Type 0
RollsValue o x (Reply.Rolled n) o' = (t : ℕ) × LastWriter o.live x t × TakesOut o t n o'
RollsValue o x (Reply.Refused why) o' = RefusesVariable o x why × (o' ≡ o)
RollsValue o x _ o' = ⊥

-- the ticket of the last writer of a variable
abbrev pub Blames : Object → ℕ → Reply → Object → Type 0
Blames o x (Reply.Blamed t) o' = LastWriter o.live x t × (o' ≡ o)
Blames o x (Reply.Refused why) o' = RefusesVariable o x why × (o' ≡ o)
Blames o x _ o' = ⊥

-- the events that are allowed now
abbrev pub ListsReady : Object → Reply → Object → Type 0
ListsReady o (Reply.Ready es) o' = ((T : State) × Reaches o T × ReadyList T es) × (o' ≡ o)
ListsReady o _ o' = ⊥

-- the tickets of an event and of the live events that depend on it
abbrev pub ListsConsequences : Object → ℕ → Reply → Object → Type 0
ListsConsequences o t (Reply.Consequences tickets) o' =
    IsLive o.live t × ConsequencesList o.live t tickets × (o' ≡ o)
ListsConsequences o t (Reply.Refused why) o' = RefusesTicket o t why × (o' ≡ o)
ListsConsequences o t _ o' = ⊥

-- the live events
abbrev pub ListsLive : Object → Reply → Object → Type 0
ListsLive o (Reply.Live l) o' = (l ≡ o.live) × (o' ≡ o)
ListsLive o _ o' = ⊥

-- why the value of x is refused: there is no such variable
abbrev pub RefusesValue : Object → ℕ → Refusal → Type 0
RefusesValue o x NeverWritten = (T : State) × Reaches o T × (slice_get T.store x ≡ None)
RefusesValue o x _ = ⊥

-- the value of a variable now
abbrev pub TellsValue : Object → ℕ → Reply → Object → Type 0
TellsValue o x (Reply.Value v) o' = ((T : State) × Reaches o T × (slice_get T.store x ≡ Some v)) × (o' ≡ o)
TellsValue o x (Reply.Refused why) o' = RefusesValue o x why × (o' ≡ o)
TellsValue o x _ o' = ⊥

-- the command is answered by this reply, and leaves o'
abbrev pub Does : Object → Command → Reply → Object → Type 0
Does o (Command.Step c) reply o' = Steps o c reply o'
Does o (Command.Undo t) reply o' = Undoes o t reply o'
Does o (Command.Roll t) reply o' = Rolls o t reply o'
Does o (Command.RollValue x) reply o' = RollsValue o x reply o'
Does o (Command.Blame x) reply o' = Blames o x reply o'
Does o Command.Ready reply o' = ListsReady o reply o'
Does o (Command.Consequences t) reply o' = ListsConsequences o t reply o'
Does o Command.Live reply o' = ListsLive o reply o'
Does o (Command.Value x) reply o' = TellsValue o x reply o'

-- there may be no memory for the command: what takes back, blame and the value of a variable take none, and a command
-- on an event takes none where there is no such event
abbrev pub MayWantMemory : Object → Command → Type 0
MayWantMemory o (Command.Undo t) = ⊥
MayWantMemory o (Command.Roll t) = ⊥
MayWantMemory o (Command.RollValue x) = ⊥
MayWantMemory o (Command.Blame x) = ⊥
MayWantMemory o (Command.Value x) = ⊥
MayWantMemory o (Command.Consequences t) = IsLive o.live t
MayWantMemory o _ = Unit {0}

-- the same, or there was no memory for it and nothing changed
abbrev pub Answers : Object → Command → Reply → Object → Type 0
Answers o command reply o' =
    Does o command reply o' ⊎ (MayWantMemory o command × (reply ≡ Reply.Refused Memory) × (o' ≡ o))
