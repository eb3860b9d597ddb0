-- What a request does to what is launched.
use Rattle.std.specs.Prelude.{◌≡◌, ◌⊎◌, ◌||◌, Bool, false, true, is_some, Option, None, Some, [], ◌∷◌}
use Rattle.serde_json.specs.Data.{Data}
use Rattle.serde_json.specs.View.{view}
use Rattle.machine.specs.AtMachine.{AtMachine}
use Rattle.machine.specs.Headline.{Headline}
use Rattle.locked_execution.specs.AtDesk.{execution}
use Rattle.dap_messages.specs.Notes.{IsDone, IsRefusal}
use Rattle.dap_messages.specs.declared.answer.Answer.{Answer}
use Rattle.dap_messages.specs.declared.answer.Outcome.{Outcome}
use Rattle.dap_messages.specs.declared.kind.Kind.{Kind}
use Rattle.dap_messages.specs.declared.request.Request.{Request}
use Rattle.dap_messages.specs.declared.told.Told.{Told}
use Rattle.dap_moves.specs.Led.{Led}
use Rattle.dap_requests.specs.Said.{Runs, Tells}
use Rattle.dap_requests.specs.Sets.{AnswersFilters, TellsLines, filters_refused}
use Rattle.dap_requests.specs.Targets.{ListsTargets}
use Rattle.dap_requests.specs.Typed.{Evaluates, Rests, is_typed}
use Rattle.dap_server.specs.Kinds.{moves}
use Rattle.dap_threads.specs.Scopes.{ListsScopes}
use Rattle.dap_threads.specs.Stack.{ListsFrames}
use Rattle.dap_threads.specs.Threads.{ListsThreads}
use Rattle.dap_threads.specs.Variables.{ListsVariables}
use Rattle.dap_views.specs.Kept.{unseen}
use Rattle.dap_views.specs.Seen.{Sees}
use Rattle.dap_views.specs.declared.index.Index.{Index}
use Rattle.dap_views.specs.declared.program.Counting.{Counting}
use Rattle.dap_views.specs.declared.program.Program.{Program}
use Rattle.dap_views.specs.declared.sight.Sight.{Sight}
use Rattle.dap.specs.Anew.{GoesAnew, IsMeant, brought}
use Rattle.dap.specs.Asking.{Asks, IsAsked, asked_by}
use Rattle.dap.specs.Begins.{Begins}
use Rattle.dap.specs.Early.{AnswersEarly, EarlyBy}
use Rattle.dap.specs.Files.{Reads}
use Rattle.dap.specs.Kinds.{changes, ends, is_active, opens}
use Rattle.dap.specs.Launching.{IsBegun}
use Rattle.dap.specs.Meeting.{ClientBy, excepts_behind}
use Rattle.dap.specs.Sets.{Sets}
use Rattle.dap.specs.Steps.{MayRefuse, Steps}
use Rattle.dap.specs.Stops.{NotDone, RefusedAs, StopsOnce}
use Rattle.dap.specs.Unlaunched.{CannotRestart}
use Rattle.dap.specs.declared.face.Face.{Face}
use Rattle.dap.specs.declared.launch.Launched.{Launched}

-- what is shown of the state is so in the state of its machine
abbrev pub IsSeen : Launched → Type 0
IsSeen l = Sees l.desk.machine l.program.sight

-- the same, where this is shown of the state
abbrev pub seen_as : Launched → Option Sight → Launched
seen_as l sight = record l { program = record l.program { sight = sight } }

-- which events a request of this kind with these arguments tells that changes nothing on the desk: `terminate` that it
-- is over, and it is done; where breakpoints are set on lines, a text for each that has moved; all others tell none.
-- Filters are refused exactly where they are no list
abbrev pub TellsBy : Kind → Data → Program → Answer → Program → Answer → Type 0
TellsBy Kind.Terminate d p a q b = Tells a (Told.Terminated ∷ []) b × (IsDone a.outcome → IsDone b.outcome)
TellsBy Kind.SetBreakpoints d p a q b = TellsLines d p a q b
TellsBy Kind.SetExceptionBreakpoints d p a q b = (b.notes ≡ a.notes) × AnswersFilters (filters_refused d) a b
TellsBy _ d p a q b = b.notes ≡ a.notes

-- what the response to a request of this kind with these arguments lists, where there was memory for it: the threads,
-- the frames of one, the scopes of a frame, what is unfolded, or the steps that `stepIn` may name; or it is refused
abbrev pub ShowsBy : Kind → AtMachine → Index → Option Sight → Data → Answer → Type 0
ShowsBy Kind.Threads m index sight d b = b.lacks ≡ false → ListsThreads m b
ShowsBy Kind.StackTrace m index sight d b = b.lacks ≡ false → ListsFrames m index sight d b
ShowsBy Kind.Scopes m index sight d b = b.lacks ≡ false → ListsScopes m index sight d b
ShowsBy Kind.Variables m index sight d b = b.lacks ≡ false → ListsVariables m index d b
ShowsBy Kind.StepInTargets m index sight d b = b.lacks ≡ false → ListsTargets m index sight d b
ShowsBy _ m index sight d b = Unit {0}

-- how a request of this kind is answered that needs nothing of what is launched: `attach`, another `launch` and what is
-- not known are refused, each by its number, and `disconnect` is done
abbrev pub AnswersBy : Kind → Outcome → Outcome → Type 0
AnswersBy Kind.Attach x y = RefusedAs 113 y
AnswersBy Kind.Launch x y = RefusedAs 107 y
AnswersBy Kind.Other x y = RefusedAs 101 y
AnswersBy Kind.Disconnect x y = IsDone x → IsDone y
AnswersBy _ x y = Unit {0}

-- its run has begun, or it is over
abbrev pub HasBegun : Program → Type 0
HasBegun program = (program.begun ≡ true) ⊎ (program.ended ≡ true)

-- what a request that is answered so, from a to b, does to what is launched: the desk is what some commands of sessions
-- leave, and the same where the request only reads, where it is refused, where words are only looked at, where the run
-- has not begun, or where the client was told that it is over; a request to run moves it as it should, or is refused
-- for one of three reasons; a line that is typed does what it asks for, where its frame is one of the state; each sets
-- what it asks for alone; the steps before which a run has stood stay in mind where it only reads, or comes too early
-- or too late; and what is shown of the state is so where the desk stays
pub record LaunchedGoes (l : Launched) (request : Request) (a b : Answer) (m : Launched) : Type 0 where
  pub led : Led l.desk m.desk
  pub reads : changes request.kind ≡ false → m.desk ≡ l.desk
  pub stays : l.program.ended ≡ true → m.desk ≡ l.desk
  pub waits : l.program.begun ≡ false → (request.kind ≡ Kind.ConfigurationDone → ⊥) → m.desk ≡ l.desk
  pub refused : (m.desk ≡ l.desk) ⊎ (IsDone a.outcome → IsDone b.outcome)
  pub looks : request.kind ≡ Kind.Evaluate → is_typed request ≡ false →
      (m.desk ≡ l.desk) × (m.memo.seen.items ≡ l.memo.seen.items)
  pub moved : moves request.kind ≡ true →
      Runs a b l.desk m.desk l.memo.seen.items m.memo.seen.items
      (λ stop branch. Steps l.program l.memo.seen.items m.memo.seen.items l.desk request.kind request stop branch
      m.desk)
  pub denied : moves request.kind ≡ true → IsDone a.outcome → IsRefusal b.outcome → MayRefuse l.program l.desk request
  pub begins : request.kind ≡ Kind.ConfigurationDone →
      (IsRefusal b.outcome × (b.notes ≡ a.notes) × (m.desk ≡ l.desk) × HasBegun l.program
      × (m.memo.seen.items ≡ l.memo.seen.items))
      ⊎ Begins l m a b
  pub evaluates : request.kind ≡ Kind.Evaluate →
      (sight : Option Sight) × (IsSeen l → IsSeen (seen_as l sight))
      × Evaluates (seen_as l sight).program request l.desk l.memo.seen.items a b m.desk m.memo.seen.items
  pub sets : Sets request l.desk.machine.checked.main (unseen l.program) b (unseen m.program)
  pub tells : changes request.kind ≡ false →
      TellsBy request.kind (view request.arguments) (unseen l.program) a (unseen m.program) b
  pub shows :
      (sight : Option Sight) × (IsSeen l → IsSeen (seen_as l sight))
      × ShowsBy request.kind l.desk.machine l.program.index sight (view request.arguments) b
  pub answers : AnswersBy request.kind a.outcome b.outcome
  pub recalls : changes request.kind ≡ false → m.memo.seen.items ≡ l.memo.seen.items
  pub held : Rests l.program → is_active request ≡ true →
      IsRefusal b.outcome × (b.notes ≡ a.notes) × (m.memo.seen.items ≡ l.memo.seen.items)
  pub sees : IsSeen l → m.desk ≡ l.desk → IsSeen m

-- a restart launches what its arguments name, where they name a program, and else the same again, from the files as
-- they are now; what the client had set is kept, and it begins; or all is as it was, since there was no memory, or that
-- cannot be launched
abbrev pub Restarts : Reads → Launched → Request → Answer → Answer → Launched → Type 0
Restarts reads l request a b m =
    ((asked : Asks) × (anew : Launched) × IsMeant (brought request) (asked_by l.program.launch) asked
    × IsBegun reads l.program.counting asked anew × GoesAnew l anew a b m)
    ⊎ ((m ≡ l) × NotDone (CannotRestart reads (brought request) (asked_by l.program.launch)) b)

-- what is launched goes on as a request says that is no restart, and nothing else is launched; requests look at the
-- state as it is
abbrev pub GoesOn : Option Launched → Request → Answer → Answer → Option Launched → Type 0
GoesOn None request a b None = Unit {0}
GoesOn (Some l) request a b (Some m) =
    (request.kind ≡ Kind.Restart → ⊥) × LaunchedGoes l request a b m × (IsSeen l → IsSeen m)
GoesOn _ request a b _ = ⊥

-- nothing was launched, and a launch begins what its arguments ask for; or a restart begins anew, or was refused
abbrev pub GoesNew : Reads → Option Launched → Request → Answer → Answer → Option Launched → Type 0
GoesNew reads None request a b (Some m) =
    (request.kind ≡ Kind.Launch)
    × ((counting : Counting) × (asked : Asks) × IsAsked (view request.arguments) asked × IsBegun reads counting asked m)
GoesNew reads (Some l) request a b (Some m) = (request.kind ≡ Kind.Restart) × Restarts reads l request a b m
GoesNew reads _ request a b None = ⊥

-- what is launched goes on, or begins anew
abbrev pub Goes : Reads → Option Launched → Request → Answer → Answer → Option Launched → Type 0
Goes reads x request a b y = GoesOn x request a b y ⊎ GoesNew reads x request a b y

-- what holds of an execution at every moment holds of the one that is launched
abbrev pub IsSound : Option Launched → Type 0
IsSound None = Unit {0}
IsSound (Some l) = Headline (execution l.desk)

-- a request that is not heard before a launch, as one to move, is refused there, and tells and changes nothing
abbrev pub RefusedEarly : Face → Request → Answer → Face → Type 0
RefusedEarly x request answer y =
    x.launched ≡ None → opens request.kind ≡ false
    → IsRefusal answer.outcome × (answer.notes.items ≡ []) × (y ≡ x)

-- so is a second `initialize`
abbrev pub RefusedAgain : Face → Request → Answer → Face → Type 0
RefusedAgain x request answer y =
    request.kind ≡ Kind.Initialize → is_some x.client ≡ true
    → IsRefusal answer.outcome × (answer.notes.items ≡ []) × (y ≡ x)

-- what comes of a request where nothing is launched, as the client is known, and as it has set
abbrev pub Early : Reads → Face → Request → Answer → Answer → Option Launched → Type 0
Early reads x request a b y =
    x.launched ≡ None → EarlyBy request.kind reads x.client x.excepts (view request.arguments) a b y

-- and how it is answered, but `initialize`
abbrev pub AnsweredEarly : Face → Request → Answer → Answer → Type 0
AnsweredEarly x request a b =
    x.launched ≡ None → (request.kind ≡ Kind.Initialize → ⊥)
    → AnswersEarly x.client request.kind (view request.arguments) a b

-- a session with a client that has just come
pub record IsFresh (x : Face) : Type 0 where
  pub launched : x.launched ≡ None
  pub client : x.client ≡ None
  pub excepts : x.excepts ≡ true
  pub over : x.over ≡ false

-- whether the client has ended the session
abbrev pub is_over : Face → Bool
is_over x = x.over

-- what comes of a request in a session over these files; the answer begins done and empty
pub record Comes (reads : Reads) (x : Face) (request : Request) (answer : Answer) (y : Face) : Type 0 where
  pub empty : Answer
  pub begins : IsDone empty.outcome × (empty.notes.items ≡ []) × (empty.lacks ≡ false)
  pub goes : Goes reads x.launched request empty answer y.launched
  pub sound : IsSound y.launched
  pub stops : moves request.kind ≡ true → StopsOnce answer
  pub early : RefusedEarly x request answer y
  pub again : RefusedAgain x request answer y
  pub first : Early reads x request empty answer y.launched
  pub answers : AnsweredEarly x request empty answer
  pub client : ClientBy request.kind x.client (view request.arguments) answer y.client
  pub excepts :
      y.excepts ≡ excepts_behind x.launched x.client request.kind (view request.arguments) x.excepts
  pub over : y.over ≡ (x.over || ends request.kind)
