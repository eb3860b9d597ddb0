-- What each deed asks of the desk, and what it leaves.
use Rattle.std.specs.Prelude.{◌≡◌, ◌≢◌, ◌⊎◌, ℕ, zero, suc, ◌+◌, ◌-◌, ◌<◌, List, [], length, map, Option, Some, None}
use Rattle.std.specs.Prelude.{◌≤◌, nat_lt, if◌then◌else◌, slice_get, option_map, Bool, true, false, Contains, MatchBool}
use Rattle.std.specs.Prelude.{◌∷◌, ◌==◌, not}
use Rattle.address.specs.declared.Entry.TheVariants.{Ordered, Branch}
use Rattle.syntax.specs.Lists.{Every}
use Rattle.system.specs.Expression.{is_in}
use Rattle.system.specs.declared.system.System.{System}
use Rattle.system_places.specs.SystemBranches.{branch_at, branch_count}
use Rattle.runs.specs.Choices.{choice_of}
use Rattle.runs.specs.Events.{acting}
use Rattle.runs.specs.Live.{Live}
use Rattle.runs.specs.Moves.{Place}
use Rattle.runs.specs.declared.event.Event.{Event}
use Rattle.machine.specs.AtMachine.{AtMachine}
use Rattle.locked_execution.specs.AtDesk.{AtDesk, new_desk, breaks_of, sessions}
use Rattle.locked_execution.specs.Answered.{Answered}
use Rattle.locked_execution.specs.Performs.{Answers}
use Rattle.locked_execution.specs.declared.command.Command.{Command}
use Rattle.locked_execution.specs.declared.command.Reply.{Reply}
use Rattle.shell_desk.specs.AtBench.{AtBench}
use Rattle.shell_desk.specs.declared.deed.Deed.{Deed}
use Rattle.shell_desk.specs.declared.deed.Done.{Done}
use Rattle.shell_desk.specs.declared.deed.End.{End}

-- whether the place lies in the environment
abbrev pub is_outside : Place → Bool
is_outside [] = false
is_outside (Ordered n ∷ rest) = false
is_outside (Branch n ∷ rest) = not (n == 0)

-- the place of an event at which it is said to be stepped: the acting one, and of what the environment takes the sender's
abbrev pub stepped_at : Event → Place
stepped_at e = if is_outside (acting e) then e.first else acting e

abbrev pub branch_or : Option ℕ → Option ℕ → Option ℕ
branch_or None before = before
branch_or (Some k) before = Some k

-- the branch that acted last behind a reply: that in which the event acts that was taken, where it lies in one
abbrev pub turn_behind : System → Reply → Option ℕ → Option ℕ
turn_behind system (Reply.Stepped t e) before = branch_or (branch_at system (acting e)) before
turn_behind system _ before = before

-- the branch that was stepped last behind a reply: that in which the event that was taken is said to be stepped, where it
-- lies in one
abbrev pub branch_behind : System → Reply → Option ℕ → Option ℕ
branch_behind system (Reply.Stepped t e) before = branch_or (branch_at system (stepped_at e)) before
branch_behind system _ before = before

-- the breakpoint at which a run ended is passed behind a reply that tells of steps
abbrev pub stopped_behind : Reply → Option ℕ → Option ℕ
stopped_behind (Reply.Stepped t e) before = None
stopped_behind (Reply.Undone t e) before = None
stopped_behind (Reply.Rolled n) before = None
stopped_behind _ before = before

-- the command that takes the event
abbrev pub step_of : Event → Command
step_of e = Command.Step (choice_of e)

-- what bare numbers mean behind a reply: the events of the last list of ready events, until the next one
abbrev pub numbers_behind : Reply → List Command → List Command
numbers_behind (Reply.Ready events) before = map step_of events
numbers_behind _ before = before

-- one command of the session is asked and answered
abbrev pub Asked : AtBench → Command → Reply → AtBench → Type 0
Asked b c reply b' =
    Answers b.desk b.session c reply b'.desk × (b'.session ≡ b.session)
    × (b'.numbered ≡ numbers_behind reply b.numbered)
    × (b'.turn ≡ turn_behind b.desk.machine.checked reply b.turn)
    × (b'.branch ≡ branch_behind b.desk.machine.checked reply b.branch)
    × (b'.stopped ≡ stopped_behind reply b.stopped)

-- the element with this number, from 1
abbrev pub numbered_as : {X : Type 0} → List X → ℕ → Option X
numbered_as xs zero = None
numbered_as xs (suc i) = slice_get xs i

-- the branch behind k, and behind the last the first
abbrev pub next_of : ℕ → ℕ → ℕ
next_of count k = if nat_lt (k + 1) count then k + 1 else 0

-- the branch whose turn it is where `last` acted last
abbrev pub first_of : ℕ → Option ℕ → ℕ
first_of count None = 0
first_of count (Some last) = next_of count last

-- whether a reply to a step of a branch tells of something else than that it has none
abbrev pub is_busy : Reply → Bool
is_busy Reply.Idle = false
is_busy _ = true

-- whether a reply ends a run: it tells of no step
abbrev pub ends_run : Reply → Bool
ends_run (Reply.Stepped t e) = false
ends_run _ = true

-- whether a reply ends a way back: it tells of no step that was taken back
abbrev pub ends_way : Reply → Bool
ends_way (Reply.Undone t e) = false
ends_way _ = true

-- `left` branches from k on are asked in turn for a step, up to the first that is not idle, which answers `reply`;
-- where all are idle, that is the reply
abbrev pub InTurn : ℕ → AtBench → ℕ → ℕ → Reply → AtBench → Type 0
InTurn count b zero k reply b' = (reply ≡ Reply.Idle) × (b' ≡ b)
InTurn count b (suc left) k reply b' =
    (r : Reply) × (m : AtBench) × Asked b (Command.Branch k) r m
    × MatchBool (is_busy r) ((reply ≡ r) × (b' ≡ m)) (InTurn count m left (next_of count k) reply b')

-- each branch once, from the one behind that which acted last
abbrev pub OneTurn : AtBench → Reply → AtBench → Type 0
OneTurn b reply b' =
    let count = branch_count b.desk.machine.checked in InTurn count b count (first_of count b.turn) reply b'

-- why a run ends at a reply that tells of no step
abbrev pub end_of : Reply → End
end_of (Reply.Stopped line) = End.AtBreak line
end_of (Reply.Refused why) = End.Refused why
end_of _ = End.Idle

-- a run of so many steps at most: each is the first that the branches have in turn, and it ends before, where there is
-- none
abbrev pub Runs : AtBench → ℕ → End → AtBench → Type 0
Runs b zero end b' = (end ≡ End.Enough) × (b' ≡ b)
Runs b (suc left) end b' =
    (r : Reply) × (m : AtBench) × OneTurn b r m
    × MatchBool (ends_run r) ((end ≡ end_of r) × (b' ≡ m)) (Runs m left end b')

-- the same where the last run ended at the breakpoint on this line: the first step is taken without it, and it is set
-- again
abbrev pub RunsPast : ℕ → AtBench → ℕ → End → AtBench → Type 0
RunsPast line b zero end b' = (end ≡ End.Enough) × (b' ≡ b)
RunsPast line b (suc left) end b' =
    (r : Reply) × (c : AtBench) × (d : AtBench) × (m : AtBench)
    × ((reply : Reply) × Asked b (Command.Clear line) reply c)
    × OneTurn c r d × ((reply : Reply) × Asked d (Command.Break line) reply m)
    × MatchBool (ends_run r) ((end ≡ end_of r) × (b' ≡ m)) (Runs m left end b')

-- the breakpoint at which the last run ended, where the session still has it
abbrev pub held_at : Option ℕ → List ℕ → Option ℕ
held_at None lines = None
held_at (Some line) lines = if is_in line lines then Some line else None

abbrev pub held_of : AtBench → Option ℕ
held_of b = held_at b.stopped (breaks_of b.desk b.session)

-- a run, from the breakpoint at which the last one ended if there is one
abbrev pub RunsFrom : Option ℕ → AtBench → ℕ → End → AtBench → Type 0
RunsFrom None b limit end b' = Runs b limit end b'
RunsFrom (Some line) b limit end b' = RunsPast line b limit end b'

-- b, where a run ended so
abbrev pub ended_at : End → AtBench → AtBench
ended_at (End.AtBreak line) b =
    record {
      desk = b.desk;
      session = b.session;
      numbered = b.numbered;
      turn = b.turn;
      branch = b.branch;
      stopped = Some line;
    }
ended_at _ b = b

-- t is the greatest ticket of a live event
abbrev pub IsNewest : Live → ℕ → Type 0
IsNewest live t = (e : Event) × (slice_get live (length live - 1) ≡ Some (t, e))

-- so many of the newest steps are taken back, or all where there are fewer; where one cannot be taken back, it ends
-- there, with the answer to that
abbrev pub GoesBack : AtBench → ℕ → Option Reply → AtBench → Type 0
GoesBack b zero told b' = (told ≡ None) × (b' ≡ b)
GoesBack b (suc left) told b' =
    ((b.desk.machine.live ≡ []) × (told ≡ None) × (b' ≡ b))
    ⊎ ((t : ℕ) × IsNewest b.desk.machine.live t × (r : Reply) × (m : AtBench) × Asked b (Command.Undo t) r m
    × MatchBool (ends_way r) ((told ≡ Some r) × (b' ≡ m)) (GoesBack m left told b'))

-- a command is asked where there is one, and else nothing is
abbrev pub AsksIfAny : AtBench → Option Command → Done → AtBench → Type 0
AsksIfAny b None done b' = (done ≡ Done.Unknown) × (b' ≡ b)
AsksIfAny b (Some c) done b' = (reply : Reply) × Asked b c reply b' × (done ≡ Done.Told reply)

-- b, where the lines are those of this session, of which it is not kept in mind at which breakpoint a run ended
abbrev pub of_session : ℕ → AtBench → AtBench
of_session session b =
    record {
      desk = b.desk;
      session = session;
      numbered = b.numbered;
      turn = b.turn;
      branch = b.branch;
      stopped = None;
    }

-- the lines are those of this session: where it is at hand nothing changes
abbrev pub TurnsSession : ℕ → AtBench → AtBench → Type 0
TurnsSession session b b' =
    ((b.session ≡ session) × (b' ≡ b))
    ⊎ ((b.session ≢ session) × (b' ≡ of_session session b))

-- the deed is done so, and leaves b'
abbrev pub Does : AtBench → Deed → Done → AtBench → Type 0
Does b Deed.Rest done b' = (done ≡ Done.Rested) × (b' ≡ b)
Does b (Deed.Turn session) done b' = (done ≡ Done.Rested) × TurnsSession session b b'
Does b (Deed.Ask c) done b' = AsksIfAny b (Some c) done b'
Does b (Deed.Take number) done b' = AsksIfAny b (numbered_as b.numbered number) done b'
Does b (Deed.Next k) done b' = AsksIfAny b (Some (Command.Branch k)) done b'
Does b Deed.NextAgain done b' = AsksIfAny b (option_map Command.Branch b.branch) done b'
Does b (Deed.Run limit) done b' =
    (end : End) × ((m : AtBench) × RunsFrom (held_of b) b limit end m × (b' ≡ ended_at end m)) × (done ≡ Done.Ran end)
Does b (Deed.Back count) done b' = (told : Option Reply) × GoesBack b count told b' × (done ≡ Done.Back told)

-- a session that a deed names is one of the sixteen
abbrev pub NamesSession : Deed → Type 0
NamesSession (Deed.Turn session) = session < sessions
NamesSession _ = Unit {0}

-- breakpoints that sessions have at the desk
abbrev pub AreBreaksAt : AtDesk → List (ℕ × Command) → Type 0
AreBreaksAt d commands =
    Every (λ x. (line : ℕ) × (x.1 ≡ Command.Break line) × (is_in line (breaks_of d x.0) ≡ true)) commands

-- among the commands is each breakpoint that a session has at the desk on one of the lines from 1 to the last
abbrev pub HaveBreaksOf : AtDesk → ℕ → List (ℕ × Command) → Type 0
HaveBreaksOf d last commands =
    (session line : ℕ) → (session < sessions) × (0 < line) × (line ≤ last) → is_in line (breaks_of d session) ≡ true
    → Contains commands (session, Command.Break line)

-- the breakpoints that sessions have at `before` on these lines, and no others, are set again at d, and leave d'
abbrev pub SetsBreaksOf : AtDesk → ℕ → AtDesk → AtDesk → Type 0
SetsBreaksOf before last d d' =
    (breaks : List (ℕ × Command)) × (replies : List Reply) × AreBreaksAt before breaks × Answered d breaks replies d'
    × HaveBreaksOf before last breaks

-- in place of b stands another execution: its desk is what the breakpoints of b on the lines from 1 to the last, set
-- again, leave of a new one
abbrev pub TurnsTo : AtBench → ℕ → AtMachine → AtBench → Type 0
TurnsTo b last machine b' =
    SetsBreaksOf b.desk last (new_desk machine) b'.desk
    × (b'.session ≡ b.session) × (b'.numbered ≡ []) × (b'.turn ≡ None) × (b'.branch ≡ None) × (b'.stopped ≡ None)
