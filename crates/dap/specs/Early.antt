-- What comes before a launch.
use Rattle.std.specs.Prelude.{◌≡◌, Bool, Option, None, Some, codes}
use Rattle.serde_json.specs.Data.{Data}
use Rattle.dap_messages.specs.Notes.{IsDone, IsRefusal}
use Rattle.dap_messages.specs.declared.answer.Answer.{Answer}
use Rattle.dap_messages.specs.declared.kind.Kind.{Kind}
use Rattle.dap_messages.specs.declared.told.Told.{Told}
use Rattle.dap_requests.specs.Sets.{AnswersFilters, TellsNoData, TellsNone, filters_refused, items_named}
use Rattle.dap_views.specs.declared.program.Counting.{Counting}
use Rattle.dap.specs.Asking.{Asks, IsAsked}
use Rattle.dap.specs.Files.{Reads, TellsLaunched}
use Rattle.dap.specs.Launching.{IsBegun}
use Rattle.dap.specs.Stops.{EndsWith, NotDone, RefusedAs}
use Rattle.dap.specs.Unlaunched.{CannotLaunch}
use Rattle.dap.specs.declared.launch.Launched.{Launched}

-- what is launched for a client that counts so is what the arguments ask for, and refusals stop as was set before: the
-- request is done, and `initialized` is told, behind texts alone where no stimulus was found. Where nothing is, there
-- was no memory, or it is refused, since what is asked for cannot be launched
abbrev pub Launches : Reads → Counting → Bool → Data → Answer → Answer → Option Launched → Type 0
Launches reads counting excepts d a b None = NotDone (CannotLaunch reads d) b
Launches reads counting excepts d a b (Some m) =
    (asked : Asks) × IsAsked d asked × (begun : IsBegun reads counting asked m) × (m.program.excepts ≡ excepts)
    × IsDone b.outcome × EndsWith b Told.Initialized × TellsLaunched begun.found a b

-- for a client that is not known, nothing is
abbrev pub LaunchesFor : Reads → Option Counting → Bool → Data → Answer → Answer → Option Launched → Type 0
LaunchesFor reads None excepts d a b y = IsRefusal b.outcome × (b.notes ≡ a.notes) × (y ≡ None)
LaunchesFor reads (Some counting) excepts d a b y = Launches reads counting excepts d a b y

-- what comes of a request of this kind where nothing is launched: `launch` may launch something; all others launch
-- nothing, and tell no event
abbrev pub EarlyBy : Kind → Reads → Option Counting → Bool → Data → Answer → Answer → Option Launched → Type 0
EarlyBy Kind.Launch reads client excepts d a b y = LaunchesFor reads client excepts d a b y
EarlyBy _ reads client excepts d a b y = (y ≡ None) × (b.notes ≡ a.notes)

-- how a request of this kind is answered where nothing is launched, for a client that is known: no breakpoint stands
-- and nothing is watched, filters are refused exactly where they are no list, and there is nothing to attach to
abbrev pub AnswersKnown : Kind → Data → Answer → Answer → Type 0
AnswersKnown Kind.SetBreakpoints d a b = TellsNone d b
AnswersKnown Kind.SetDataBreakpoints d a b = TellsNoData (items_named (codes "breakpoints") d) b
AnswersKnown Kind.SetExceptionBreakpoints d a b = AnswersFilters (filters_refused d) a b
AnswersKnown Kind.Attach d a b = RefusedAs 113 b.outcome
AnswersKnown _ d a b = Unit {0}

-- another client is refused all but the end of the session
abbrev pub AnswersEarly : Option Counting → Kind → Data → Answer → Answer → Type 0
AnswersEarly None kind d a b = (kind ≡ Kind.Disconnect → ⊥) → IsRefusal b.outcome
AnswersEarly (Some counting) kind d a b = AnswersKnown kind d a b
