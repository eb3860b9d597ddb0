-- Who sleeps in a run, and what the branches that are awake do in turn.
-- No reader has to believe it: what it leads to is `Runs` of `Does.antt`, which speaks of no sleep.
use Rattle.std.specs.Prelude.{◌≡◌, ◌≢◌, ◌⊎◌, ℕ, zero, suc, ◌+◌, ◌-◌, ◌<◌, ◌≤◌, nat_lt, if◌then◌else◌, List, [], Option, Some, None, MatchBool, slice_get}
use Rattle.address.specs.Places.{Before}
use Rattle.syntax.specs.Lists.{In}
use Rattle.system.specs.declared.system.System.{System}
use Rattle.system_places.specs.SystemBranches.{branch_at}
use Rattle.runs.specs.Moves.{Place}
use Rattle.runs.specs.Object.{Reaches}
use Rattle.runs.specs.Steps.{State}
use Rattle.runs.specs.declared.event.Event.{Event}
use Rattle.local_actions.specs.Actions.{Offered}
use Rattle.local_actions.specs.declared.action.LocalAction.{LocalAction}
use Rattle.idle_branches.specs.Glance.{IsFaced, Tells}
use Rattle.idle_branches.specs.Idle.{AreEnds, IdleIn, Passes, given_on}
use Rattle.idle_branches.specs.declared.ends.Ends.{Ends}
use Rattle.idle_branches.specs.declared.glance.Glance.{Glance}
use Rattle.idle_branches.specs.internal.Known.{list_at}
use Rattle.machine.specs.AtMachine.{AtMachine, object}
use Rattle.locked_execution.specs.AtDesk.{execution}
use Rattle.locked_execution.specs.declared.command.Command.{Command}
use Rattle.locked_execution.specs.declared.command.Reply.{Reply}
use Rattle.shell_desk.specs.AtBench.{AtBench}
use Rattle.shell_desk.specs.Does.{Asked, is_busy, next_of}

-- whether a branch is asleep, where these are the marks of all: 0 is that of one that is awake
abbrev pub IsAsleep : List ℕ → ℕ → Type 0
IsAsleep asleep k = (mark : ℕ) × (slice_get asleep k ≡ Some (suc mark))

abbrev pub NoneSleeps : List ℕ → Type 0
NoneSleeps asleep = (k : ℕ) → IsAsleep asleep k → ⊥

-- branch k has no step
abbrev pub Rests : AtBench → ℕ → Type 0
Rests b k = (T : State) → Reaches (execution b.desk) T → IdleIn b.desk.machine.checked T k

-- the ends are those of the system, and who sleeps has no step
abbrev pub Resting : Ends → AtBench → List ℕ → Type 0
Resting ends b asleep = AreEnds b.desk.machine.checked ends × ((k : ℕ) → IsAsleep asleep k → Rests b k)

-- the event that was taken last at the machine brought branch i no step, where the ends are those of its system
abbrev pub PassesNow : Ends → AtMachine → Event → ℕ → Type 0
PassesNow ends h e i =
    AreEnds h.checked ends → (T : State) → Reaches (object h) T → Passes h.checked ends T e i

-- branch i has no step at the machine, where the ends are those of its system
abbrev pub RestsNow : Ends → AtMachine → ℕ → Type 0
RestsNow ends h i = AreEnds h.checked ends → (T : State) → Reaches (object h) T → IdleIn h.checked T i

-- who sleeps behind the reply to branch k: only who slept before and to whom the step brought none, and who has none
abbrev pub SleepsBehind : Ends → AtMachine → ℕ → Reply → List ℕ → List ℕ → Type 0
SleepsBehind ends h k (Reply.Stepped t e) before after =
    (i : ℕ) → IsAsleep after i → (IsAsleep before i × PassesNow ends h e i) ⊎ RestsNow ends h i
SleepsBehind ends h k Reply.Idle before after = (i : ℕ) → IsAsleep after i → IsAsleep before i ⊎ (i ≡ k)
SleepsBehind ends h k _ before after = (i : ℕ) → IsAsleep after i → IsAsleep before i

-- `left` branches from k on come in turn: one that sleeps is passed over, another is asked for a step, up to the first
-- that is not idle, which answers `reply`; where there is none, that is the reply
abbrev pub AwakeInTurn : Ends → ℕ → AtBench → List ℕ → ℕ → ℕ → Reply → AtBench → List ℕ → Type 0
AwakeInTurn ends count b asleep zero k reply b' asleep' = (reply ≡ Reply.Idle) × (b' ≡ b) × (asleep' ≡ asleep)
AwakeInTurn ends count b asleep (suc left) k reply b' asleep' =
    (IsAsleep asleep k × AwakeInTurn ends count b asleep left (next_of count k) reply b' asleep')
    ⊎ ((r : Reply) × (m : AtBench) × (s : List ℕ) × Asked b (Command.Branch k) r m
    × SleepsBehind ends m.desk.machine k r asleep s
    × MatchBool (is_busy r) ((reply ≡ r) × (b' ≡ m) × (asleep' ≡ s))
    (AwakeInTurn ends count m s left (next_of count k) reply b' asleep'))

-- all branches from one up to another sleep
abbrev pub AllSleep : List ℕ → ℕ → ℕ → Type 0
AllSleep asleep from to = (i : ℕ) → from ≤ i → i < to → IsAsleep asleep i

-- branch n, and behind the last the first
abbrev pub round : ℕ → ℕ → ℕ
round count n = if nat_lt n count then n else 0

-- the branches from one up to another come first where they and so many others are left: they have no step, and the
-- others go on as they do; or one of them has, or is refused
abbrev pub AsksBetween : Ends → ℕ → ℕ → AtBench → List ℕ → Option Reply → AtBench → List ℕ → Type 0
AsksBetween ends from to b asleep None m s =
    (count rest : ℕ) (reply : Reply) (b' : AtBench) (asleep' : List ℕ) → to ≤ count
    → AwakeInTurn ends count m s rest (round count to) reply b' asleep'
    → AwakeInTurn ends count b asleep (rest + (to - from)) (round count from) reply b' asleep'
AsksBetween ends from to b asleep (Some r) m s =
    (count rest : ℕ) → to ≤ count
    → AwakeInTurn ends count b asleep (rest + (to - from)) (round count from) r m s

-- only who slept before sleeps, but for this branch
abbrev pub SleepBut : ℕ → List ℕ → List ℕ → Type 0
SleepBut k before after = (i : ℕ) → IsAsleep after i → IsAsleep before i × (i ≢ k)

-- the same, but for these branches
abbrev pub SleepButThese : List ℕ → List ℕ → List ℕ → Type 0
SleepButThese woken before after = (i : ℕ) → IsAsleep after i → IsAsleep before i × (In i woken → ⊥)

-- the same, but for the branch in which the place lies
abbrev pub SleepButAt : System → Place → List ℕ → List ℕ → Type 0
SleepButAt system a before after =
    (i : ℕ) → IsAsleep after i → IsAsleep before i × (branch_at system a ≡ Some i → ⊥)

-- the branches that act on a channel at whose other side the action is
abbrev pub acting_on : Ends → Option ℕ → List ℕ
acting_on ends None = []
acting_on ends (Some c) = list_at ends.used.acting.items c

abbrev pub faced_by : Ends → LocalAction → List ℕ
faced_by ends x = acting_on ends (given_on x.action)

-- one of these is at the other side of a channel on which branch i acts
abbrev pub FacedBy : Ends → List LocalAction → ℕ → Type 0
FacedBy ends offers i = (x : LocalAction) × In x offers × In i (faced_by ends x)

-- the same, but for those that these face
abbrev pub SleepButFaced : Ends → List LocalAction → List ℕ → List ℕ → Type 0
SleepButFaced ends offers before after =
    (i : ℕ) → IsAsleep after i → IsAsleep before i × (FacedBy ends offers i → ⊥)

-- what is offered behind the place now faces branch i
abbrev pub FacedAt : Ends → AtMachine → Place → ℕ → Type 0
FacedAt ends h a i =
    (T : State) × (x : LocalAction) × Reaches (object h) T × Offered T x × Before a x.place × In i (faced_by ends x)

-- these are the channels on which the branch gives in which the place lies
abbrev pub AreGiven : System → Ends → Place → List ℕ → Type 0
AreGiven system ends a channels =
    (k : ℕ) × (branch_at system a ≡ Some k) × (channels ≡ list_at ends.used.giving.items k)

-- branch i acts on one of these channels
abbrev pub ActsOnOne : Ends → List ℕ → ℕ → Type 0
ActsOnOne ends channels i = (c : ℕ) × In c channels × In i (list_at ends.used.acting.items c)

-- the same, but for those that act on one of these channels
abbrev pub SleepButActing : Ends → List ℕ → List ℕ → List ℕ → Type 0
SleepButActing ends channels before after =
    (i : ℕ) → IsAsleep after i → IsAsleep before i × (ActsOnOne ends channels i → ⊥)

-- the same, but for those that are faced there, where the ends are those of the system
abbrev pub SleepButFacedAt : Ends → AtMachine → Place → List ℕ → List ℕ → Type 0
SleepButFacedAt ends h a before after =
    (i : ℕ) → IsAsleep after i → IsAsleep before i × (AreEnds h.checked ends → FacedAt ends h a i → ⊥)

-- a step at the place brought branch i none, where the ends are those of the system
pub record PassesAt (ends : Ends) (h : AtMachine) (a : Place) (i : ℕ) : Type 0 where
  pub elsewhere : branch_at h.checked a ≡ Some i → ⊥
  pub faced_by_none : AreEnds h.checked ends → FacedAt ends h a i → ⊥

-- only who slept before sleeps, and to whom a step at these places brought none, and who has none
abbrev pub SleepBehindPlaces : Ends → AtMachine → List Place → List ℕ → List ℕ → Type 0
SleepBehindPlaces ends h reached before after =
    (i : ℕ) → IsAsleep after i
    → (IsAsleep before i × ((a : Place) → In a reached → PassesAt ends h a i)) ⊎ RestsNow ends h i

-- the same behind an event
abbrev pub SleepBehindEvent : Ends → AtMachine → Event → List ℕ → List ℕ → Type 0
SleepBehindEvent ends h e before after =
    (i : ℕ) → IsAsleep after i → (IsAsleep before i × PassesNow ends h e i) ⊎ RestsNow ends h i

-- what a look at branch k tells holds at the machine, where the ends are those of its system
abbrev pub TellsNow : Glance → Ends → AtMachine → ℕ → Type 0
TellsNow told ends h k = AreEnds h.checked ends → (T : State) → Reaches (object h) T → Tells told h.checked T k

-- what is offered behind the place now is as it tells
abbrev pub FacesNow : Glance → AtMachine → Place → Type 0
FacesNow told h a =
    (T : State) (x : LocalAction) → Reaches (object h) T → Offered T x → Before a x.place → IsFaced told x.action
