-- Where a run goes, and why it ends there.
use Rattle.std.specs.Prelude.{◌≡◌, ◌⊎◌, ◌||◌, ◌≤◌, ◌++◌, ℕ, List, [], ◌∷◌, Bool, true, false, Option, length}
use Rattle.syntax.specs.Lists.{Every, In}
use Rattle.runs.specs.Choices.{choice_of}
use Rattle.runs.specs.declared.event.Choice.{Choice}
use Rattle.runs.specs.declared.event.Event.{Event}
use Rattle.runs.specs.declared.command.Refusal.{Refusal}
use Rattle.runs.specs.declared.command.Refusal.TheVariants.{Memory}
use Rattle.machine.specs.Branching.{is_branch}
use Rattle.locked_execution.specs.AtDesk.{AtDesk, breaks_of}
use Rattle.locked_execution.specs.Performs.{Answers}
use Rattle.locked_execution.specs.declared.command.Command.{Command}
use Rattle.locked_execution.specs.declared.command.Reply.{Reply}
use Rattle.dap_moves.specs.Moves.{quiet}
use Rattle.dap_moves.specs.Passing.{IsIdle, IsNext, MayAsk, MayGo, MayStep, NoneSooner, StopsAt, Turned, Turns}
use Rattle.dap_moves.specs.declared.run.Ended.{Ended}
use Rattle.dap_moves.specs.declared.run.Plan.{Plan}
use Rattle.dap_views.specs.declared.watched.Watched.{Watched}

-- whether an event writes this variable, or is on this channel
abbrev pub is_hit : Watched → Event → Bool
is_hit (Watched.Variable x) e = is_branch x e.written
is_hit (Watched.Channel c) e = is_branch c e.channel

-- whether it is watched
abbrev pub is_watched : List Watched → Event → Bool
is_watched [] e = false
is_watched (w ∷ ws) e = is_hit w e || is_watched ws e

-- none that may step has a step
abbrev pub NothingGoes : AtDesk → Option ℕ → Type 0
NothingGoes d only = (k : ℕ) → MayStep d only k → IsIdle d k

-- there is a next step, and it is one of this branch
abbrev pub GoesYet : AtDesk → Option ℕ → ℕ → ℕ → Type 0
GoesYet d only turn branch = (e : Event) × IsNext d only turn branch e

-- this branch is next, and there is no memory; or a step of it that the run may ask for is refused
abbrev pub IsHeld : AtDesk → Option ℕ → ℕ → List ℕ → List Choice → ℕ → Refusal → Type 0
IsHeld d only turn lines seen branch why =
    MayGo only branch × NoneSooner d only turn branch
    × ((why ≡ Memory)
    ⊎ ((command : Command) × MayAsk d only turn branch lines seen command
    × Answers d quiet command (Reply.Refused why) d))

-- the next step has an action in this branch on this line, which is one of these, and the run has not stood before it
-- already; it is kept in mind. Or that has a breakpoint of the adapter's own session
abbrev pub StandsBefore : AtDesk → Option ℕ → ℕ → List ℕ → List Choice → ℕ → ℕ → List Choice → Type 0
StandsBefore d only turn lines seen branch line kept =
    (k : ℕ) × (e : Event) × IsNext d only turn k e
    × ((StopsAt d.machine lines e branch line × (In (choice_of e) seen → ⊥) × (kept ≡ seen ++ choice_of e ∷ []))
    ⊎ (StopsAt d.machine (breaks_of d quiet) e branch line × (kept ≡ seen)))

-- a step is kept in mind behind others, if there is memory for it
abbrev pub Keeps : Bool → List Choice → Choice → List Choice → Type 0
Keeps true before c after = after ≡ before ++ c ∷ []
Keeps false before c after = after ≡ before

-- it is kept in mind unless it is there already
abbrev pub Sees : Bool → List Choice → Choice → List Choice → Type 0
Sees true before c after = (In c before × (after ≡ before)) ⊎ ((In c before → ⊥) × (after ≡ before ++ c ∷ []))
Sees false before c after = after ≡ before

-- before which steps a run has stood already, behind these turns: where it began, as long as there are none
abbrev pub stood : List Choice → List Turned → List Choice
stood seen [] = seen
stood seen (t ∷ ts) = []

-- none of these steps is watched
abbrev pub NoneWatched : List Watched → List Turned → Type 0
NoneWatched watched turns = Every (λ (t : Turned). is_watched watched t.event ≡ false) turns

-- the last of these steps is one of this branch, has this ticket, and is watched, and none before it is
abbrev pub LastWatched : List Watched → List Turned → ℕ → ℕ → Type 0
LastWatched watched turns branch ticket =
    (before : List Turned) × (last : Turned) × (turns ≡ before ++ last ∷ []) × NoneWatched watched before
    × (last.branch ≡ branch) × (last.ticket ≡ ticket) × (is_watched watched last.event ≡ true)

-- why a run ends at d behind these steps, where it is the turn of branch `turn`, and nothing stopped it sooner; and
-- before which steps it has stood
abbrev pub EndsTruly : Plan → ℕ → List Choice → AtDesk → List Turned → Ended → List Choice → Type 0
EndsTruly plan turn seen d turns Ended.Nothing kept =
    NoneWatched plan.watched.now turns × NothingGoes d plan.only × (kept ≡ stood seen turns)
EndsTruly plan turn seen d turns (Ended.AtLine branch line) kept =
    NoneWatched plan.watched.now turns
    × StandsBefore d plan.only turn plan.lines.now (stood seen turns) branch line kept
EndsTruly plan turn seen d turns (Ended.Watched branch ticket) kept =
    LastWatched plan.watched.now turns branch ticket × (kept ≡ stood seen turns)
EndsTruly plan turn seen d turns (Ended.Most branch) kept =
    NoneWatched plan.watched.now turns × (plan.most ≤ length turns) × GoesYet d plan.only turn branch
    × (kept ≡ stood seen turns)
EndsTruly plan turn seen d turns (Ended.Refused branch why) kept =
    NoneWatched plan.watched.now turns × IsHeld d plan.only turn plan.lines.now (stood seen turns) branch why
    × (kept ≡ stood seen turns)

-- a run by this plan from d to d', which has stood before the steps `seen` already: it takes only steps that it may ask
-- for, in turn and no more than it may, and ends for this reason; `kept` are the steps before which it has stood then
pub record RunsFrom (plan : Plan) (seen : List Choice) (d d' : AtDesk) (ended : Ended) (kept : List Choice) :
    Type 0 where
  pub turns : List Turned
  pub turn : ℕ
  pub turned : Turns d plan.only plan.first plan.lines.now seen turns d' turn
  pub within : length turns ≤ plan.most
  pub truly : EndsTruly plan turn seen d' turns ended kept
