-- The laws of the object of one execution.
use Rattle.std.specs.Prelude.{◌≡◌, ◌≢◌, ◌⊎◌, ◌↔◌, ℕ, suc, ◌+◌, ◌<◌, ◌≤◌, List, [], ◌∷◌, ◌++◌, length, Some}
use Rattle.syntax.specs.Lists.{In}
use Rattle.system.specs.Expression.{get}
use Rattle.system.specs.declared.system.System.{System}
use Rattle.sharing_rule.specs.Rule.{SharesWell}
use Rattle.runs.specs.Steps.{State, Step, Allowed, Run, opening}
use Rattle.runs.specs.Dependence.{Causes, Without, Respecting}
use Rattle.runs.specs.Choices.{choice_of}
use Rattle.runs.specs.InOrder.{InOrder}
use Rattle.runs.specs.Ready.{ReadyList, Chosen}
use Rattle.runs.specs.Live.{Live, events, LiveAt, IsLive, DependsOn, NoWriter}
use Rattle.runs.specs.Object.{Object, Reaches, most_live, last_ticket, new_object}
use Rattle.runs.specs.Does.{CanStep, Does, Answers}
use Rattle.runs.specs.Answered.{Answered, DoesAll}
use Rattle.runs.specs.BackAndForth.{back_and_forth, back_and_forth_replies}
use Rattle.runs.specs.Sound.{Sound}
use Rattle.runs.specs.declared.event.Event.{Event}
use Rattle.runs.specs.declared.event.Choice.{Choice}
use Rattle.runs.specs.Commands.{Command, Reply}
use Rattle.runs.specs.declared.command.Refusal.TheVariants.{NotReady, HistoryFull, NeededBy, Spent}

-- before its first command an object is sound
abbrev pub BeginsSound : Type 0
BeginsSound = (system : System) → Sound (new_object (opening system))

-- each command leaves a sound object sound
abbrev pub StaysSound : Type 0
StaysSound = (o o' : Object) (c : Command) (reply : Reply) → Sound o → Answers o c reply o' → Sound o'

-- and so does each list of commands
abbrev pub StaysSoundOverLists : Type 0
StaysSoundOverLists =
    (o o' : Object) (cs : List Command) (replies : List Reply) → Sound o → Answered o cs replies o' → Sound o'

-- a list that is answered, and then another, is the two joined
abbrev pub AnsweredJoins : Type 0
AnsweredJoins = (o m o' : Object) (cs ds : List Command) (rs qs : List Reply) →
    Answered o cs rs m → Answered m ds qs o' → Answered o (cs ++ ds) (rs ++ qs) o'

-- there is one state
abbrev pub OneState : Object → Type 0
OneState o = (T : State) × Reaches o T × ((U : State) → Reaches o U → U ≡ T)

-- the live events, in every order that respects dependence, give the state and no other
abbrev pub InEveryOrder : Object → Type 0
InEveryOrder o = (g : List Event) (U : State) → Respecting (events o.live) g → (Run o.opening g U ↔ Reaches o U)

-- the state is what the live events give in every order that respects dependence
abbrev pub StateInEveryOrder : Type 0
StateInEveryOrder = (o : Object) → Sound o → OneState o × InEveryOrder o

-- and so it is after any commands on any system
abbrev pub StateAfterAnyCommands : Type 0
StateAfterAnyCommands = (system : System) (o : Object) (cs : List Command) (replies : List Reply) →
    Answered (new_object (opening system)) cs replies o → OneState o × InEveryOrder o

-- it holds of each sound object
abbrev pub OfSound : (Object → Type 0) → Type 0
OfSound P = (o : Object) → Sound o → P o

-- the first event of the ready list with a choice is the one that the choice means
abbrev pub FirstIsChosen : Type 0
FirstIsChosen =
    (S : State) (c : Choice) (before after : List Event) (e : Event) → ReadyList S (before ++ e ∷ after) →
    choice_of e ≡ c →
    ((f : Event) → In f before → choice_of f ≡ c → ⊥) → Chosen S c e

-- a step is taken exactly where an event with the choice is allowed, and one more event and one more ticket may be
abbrev pub StepsExactly : Object → Type 0
StepsExactly o = (c : Choice) →
    ((e : Event) × (o' : Object) × Does o (Command.Step c) (Reply.Stepped o.next e) o')
    ↔ (CanStep o c × (length o.live < most_live) × (o.next ≤ last_ticket))

-- a step that is taken makes an event with the choice that was allowed, which is then live under the next ticket
abbrev pub StepMakes : Object → Type 0
StepMakes o = (o' : Object) (c : Choice) (t : ℕ) (e : Event) → Does o (Command.Step c) (Reply.Stepped t e) o' →
    (t ≡ o.next) × (choice_of e ≡ c) × (o'.live ≡ o.live ++ (t, e) ∷ [])
    × ((T : State) × (U : State) × Reaches o T × Step T e U × Reaches o' U)

-- a step is refused as not ready exactly where no event with the choice is allowed
abbrev pub NotReadyExactly : Object → Type 0
NotReadyExactly o = (c : Choice) →
    Does o (Command.Step c) (Reply.Refused NotReady) o
    ↔ ((T : State) (e : Event) → Reaches o T → Allowed T e → choice_of e ≡ c → ⊥)

-- a step that is allowed is refused exactly where as many events are live as may be, or else the tickets are spent
abbrev pub LimitsExactly : Object → Type 0
LimitsExactly o = (c : Choice) → CanStep o c →
    (Does o (Command.Step c) (Reply.Refused HistoryFull) o ↔ (length o.live ≡ most_live))
    × (Does o (Command.Step c) (Reply.Refused Spent) o ↔ ((length o.live < most_live) × (o.next ≡ suc last_ticket)))

-- a step and then its undo leave the live events and the state as they were
abbrev pub StepThenUndo : Object → Type 0
StepThenUndo o = (m : Object) (c : Choice) (t : ℕ) (e : Event) → Does o (Command.Step c) (Reply.Stepped t e) m →
    (o' : Object) × Does m (Command.Undo t) (Reply.Undone t e) o' × (o'.live ≡ o.live)
    × ((T : State) → Reaches o' T ↔ Reaches o T)

-- an event is undone exactly where no other live event depends on it
abbrev pub UndoesExactly : Object → Type 0
UndoesExactly o = (t : ℕ) (e : Event) → LiveAt o.live t e →
    ((o' : Object) × Does o (Command.Undo t) (Reply.Undone t e) o')
    ↔ ((f : Event) → In f (events o.live) → Causes (events o.live) e f → f ≡ e)

-- an undo takes that event out, and leaves the others as they are
abbrev pub UndoTakesOne : Object → Type 0
UndoTakesOne o = (o' : Object) (t u : ℕ) (e : Event) → Does o (Command.Undo t) (Reply.Undone u e) o' →
    (before : Live) × (after : Live) × (o.live ≡ before ++ (t, e) ∷ after) × (o'.live ≡ before ++ after)

-- u is the least ticket of a live event other than e that depends on e
pub record LeastDependent (l : Live) (e : Event) (u : ℕ) : Type 0 where
  pub event : Event
  pub live : LiveAt l u event
  pub other : event ≢ e
  pub depends : Causes (events l) e event
  pub least : (v : ℕ) (g : Event) → LiveAt l v g → g ≢ e → Causes (events l) e g → u ≤ v

-- where an event is not undone, the least ticket of another that depends on it is named
abbrev pub NeededExactly : Object → Type 0
NeededExactly o = (t u : ℕ) (e : Event) → LiveAt o.live t e →
    Does o (Command.Undo t) (Reply.Refused (NeededBy u)) o ↔ LeastDependent o.live e u

-- an event is rolled back exactly where it is live
abbrev pub RollsWhereLive : Object → Type 0
RollsWhereLive o = (t : ℕ) →
    ((n : ℕ) × (o' : Object) × Does o (Command.Roll t) (Reply.Rolled n) o') ↔ IsLive o.live t

-- a variable is rolled back exactly where a live event wrote it
abbrev pub RollsValueWhereWritten : Object → Type 0
RollsValueWhereWritten o = (x : ℕ) →
    ((n : ℕ) × (o' : Object) × Does o (Command.RollValue x) (Reply.Rolled n) o')
    ↔ ((t : ℕ) × (e : Event) × LiveAt o.live t e × (e.written ≡ Some x))

-- a rollback leaves exactly the events that do not depend on its event, answers how many are gone, and the rest runs
abbrev pub RollsExactly : Object → Type 0
RollsExactly o = (o' : Object) (t n : ℕ) → Does o (Command.Roll t) (Reply.Rolled n) o' →
    (e : Event) × LiveAt o.live t e × Without (Causes (events o.live) e) (events o.live) (events o'.live)
    × ((u : ℕ) (f : Event) → LiveAt o'.live u f ↔ (LiveAt o.live u f × (Causes (events o.live) e f → ⊥)))
    × (n + length o'.live ≡ length o.live) × ((T : State) × Reaches o' T)

-- a rollback of a variable is that of its last writer
abbrev pub RollsValueExactly : Object → Type 0
RollsValueExactly o = (o' : Object) (x n : ℕ) →
    Does o (Command.RollValue x) (Reply.Rolled n) o'
    ↔ ((t : ℕ) × Does o (Command.Blame x) (Reply.Blamed t) o × Does o (Command.Roll t) (Reply.Rolled n) o')

-- tickets only grow, and none names an event that is not the one it named
pub record Grows (o o' : Object) : Type 0 where
  pub next : o.next ≤ o'.next
  pub old_or_new : (t : ℕ) (e : Event) → LiveAt o'.live t e → LiveAt o.live t e ⊎ (o.next ≤ t)

-- and so it is over any commands
abbrev pub TicketsGrow : Type 0
TicketsGrow =
    (o o' : Object) (cs : List Command) (replies : List Reply) → Sound o → Answered o cs replies o' → Grows o o'

-- after any commands after which a live event is no longer live, no event that depended on it is live
abbrev pub LeastRollback : Type 0
LeastRollback =
    (o o' : Object) (cs : List Command) (replies : List Reply) (t u : ℕ) (e f : Event) → Sound o →
    Answered o cs replies o' →
    LiveAt o.live t e → (LiveAt o'.live t e → ⊥) → LiveAt o.live u f → Causes (events o.live) e f → LiveAt o'.live u f →
    ⊥

-- in a system that shares its channels and variables as it should, any commands amount to undos from the greatest
-- ticket down, and then steps in order of tickets, each of which makes that very event: the same events are live, in
-- the same order, and the state is the same
abbrev pub BackThenForth : Type 0
BackThenForth = (system : System) (o o' : Object) (cs : List Command) (replies : List Reply) →
    SharesWell system → o.opening ≡ opening system → Sound o → Answered o cs replies o' →
    (p : Object) × DoesAll o (back_and_forth o.live o'.live) (back_and_forth_replies o.next o.live o'.live) p
    × (events p.live ≡ events o'.live) × ((T : State) → Reaches p T ↔ Reaches o' T)

-- a rollback of a variable leaves it with the value that it had before its last live writer
abbrev pub RolledValue : Object → Type 0
RolledValue o = (o' : Object) (x n : ℕ) → Does o (Command.RollValue x) (Reply.Rolled n) o' →
    (before : Live) × (t : ℕ) × (e : Event) × (after : Live) × (o.live ≡ before ++ (t, e) ∷ after)
    × (e.written ≡ Some x) × NoWriter after x
    × ((S T : State) → Run o.opening (events before) S → Reaches o' T → get T.store x ≡ get S.store x)

-- dependence by tickets is dependence in the list of the live events
abbrev pub DependsOnIsCauses : Object → Type 0
DependsOnIsCauses o = (t u : ℕ) (e f : Event) → LiveAt o.live t e → LiveAt o.live u f →
    DependsOn o.live t u ↔ Causes (events o.live) e f

-- the consequences of an event are the tickets of the live events that depend on it, ascending
abbrev pub ConsequencesExactly : Object → Type 0
ConsequencesExactly o =
    (o' : Object) (t : ℕ) (ts : List ℕ) → Does o (Command.Consequences t) (Reply.Consequences ts) o' →
    (e : Event) × LiveAt o.live t e × InOrder ◌<◌ ts
    × ((u : ℕ) → In u ts ↔ ((f : Event) × LiveAt o.live u f × Causes (events o.live) e f))

-- a command has at most one reply, and that determines the object after it
abbrev pub OneReply : Type 0
OneReply =
    (o p q : Object) (c : Command) (reply other : Reply) → Sound o → Does o c reply p → Does o c other q →
    (reply ≡ other) × (p ≡ q)

-- each command has a reply
abbrev pub SomeReply : Type 0
SomeReply = (o : Object) (c : Command) → Sound o → (reply : Reply) × (o' : Object) × Does o c reply o'
