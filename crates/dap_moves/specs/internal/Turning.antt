-- What comes of one turn of a run. No reader has to believe it: the contract of `go_on` speaks of whole runs.
use Rattle.std.specs.Prelude.{◌≡◌, ◌⊎◌, ℕ, ◌<◌, ◌≤◌, ◌++◌, List, [], ◌∷◌, Bool, cond, Option, None, Some, slice_get}
use Rattle.system_places.specs.SystemBranches.{branch_at}
use Rattle.system.specs.declared.system.System.{System}
use Rattle.runs.specs.Events.{acting}
use Rattle.runs.specs.declared.command.Refusal.TheVariants.{Memory}
use Rattle.runs.specs.declared.event.Choice.{Choice}
use Rattle.runs.specs.declared.event.Event.{Event}
use Rattle.locked_execution.specs.AtDesk.{AtDesk}
use Rattle.locked_execution.specs.declared.command.Reply.{Reply}
use Rattle.dap_moves.specs.Moves.{acts}
use Rattle.dap_moves.specs.Passing.{IsIdle, MayGo, NoneSooner, TakesTurn, Turned, turns_to}
use Rattle.dap_moves.specs.Running.{GoesYet, IsHeld, NothingGoes, StandsBefore, is_watched}
use Rattle.dap_moves.specs.declared.run.Ended.{Ended}
use Rattle.dap_moves.specs.declared.run.Plan.{Plan}
use Rattle.dap_moves.specs.declared.run.Turn.{Turn}
use Rattle.dap_views.specs.declared.watched.Watched.{Watched}

-- what a step of the branch comes to that was answered so
abbrev pub turn_of : List Watched → ℕ → Reply → Turn
turn_of watched branch (Reply.Stepped t e) = Turn.Took branch t (is_watched watched e)
turn_of watched branch (Reply.Refused why) = Turn.Ended (Ended.Refused branch why)
turn_of watched branch (Reply.Stopped line) = Turn.Ended (Ended.AtLine branch line)
turn_of watched branch _ = Turn.Ended Ended.Nothing

-- a step was taken
pub record Took (plan : Plan) (turn : ℕ) (seen : List Choice) (d d' : AtDesk) (branch ticket : ℕ) (watched : Bool) :
    Type 0 where
  pub step : Turned
  pub takes : TakesTurn d plan.only turn plan.lines.now seen step
  pub left : step.left ≡ d'
  pub branch_is : step.branch ≡ branch
  pub ticket_is : step.ticket ≡ ticket
  pub watched_is : is_watched plan.watched.now step.event ≡ watched

-- a turn of the run, and the steps that are kept in mind behind it, where it ends
abbrev pub TakesOne : Plan → ℕ → List Choice → AtDesk → AtDesk → Turn → List Choice → Type 0
TakesOne plan turn seen d d' (Turn.Took branch ticket watched) kept = Took plan turn seen d d' branch ticket watched
TakesOne plan turn seen d d' (Turn.Ended Ended.Nothing) kept = (d' ≡ d) × NothingGoes d plan.only × (kept ≡ seen)
TakesOne plan turn seen d d' (Turn.Ended (Ended.AtLine branch line)) kept =
    (d' ≡ d) × StandsBefore d plan.only turn plan.lines.now seen branch line kept
TakesOne plan turn seen d d' (Turn.Ended (Ended.Watched branch ticket)) kept = ⊥
TakesOne plan turn seen d d' (Turn.Ended (Ended.Most branch)) kept = ⊥
TakesOne plan turn seen d d' (Turn.Ended (Ended.Refused branch why)) kept =
    (d' ≡ d) × IsHeld d plan.only turn plan.lines.now seen branch why × (kept ≡ seen)

-- what a step of branch k comes to, where none comes before
abbrev pub StepsIfNext : Plan → AtDesk → AtDesk → ℕ → Turn → Type 0
StepsIfNext plan d d' k t =
    (turn : ℕ) (seen : List Choice) → NoneSooner d plan.only turn k → TakesOne plan turn seen d d' t seen

-- the first of the branches from `from` on that has a step, and what that came to
pub record StepsFirst (plan : Plan) (d d' : AtDesk) (from below : ℕ) (t : Turn) : Type 0 where
  pub branch : ℕ
  pub behind : from ≤ branch
  pub within : branch < below
  pub idle : (j : ℕ) → from ≤ j → j < branch → IsIdle d j
  pub steps : StepsIfNext plan d d' branch t

-- the branch in which an event acts, where that may step
abbrev pub branch_for : System → Option ℕ → Event → Option ℕ
branch_for system None e = branch_at system (acting e)
branch_for system (Some only) e = cond (acts system only e) (branch_at system (acting e)) None

-- so are all of these events before this index
abbrev pub AllBefore : (Event → Type 0) → List Event → ℕ → Type 0
AllBefore P es i = (n : ℕ) (e : Event) → n < i → slice_get es n ≡ Some e → P e

-- none of these events acts in a branch that may step
abbrev pub NoneActs : System → Option ℕ → List Event → Type 0
NoneActs system only es = (n : ℕ) (e : Event) → slice_get es n ≡ Some e → branch_for system only e ≡ None

-- this is the first of these events that acts in branch k, which may step
pub record ActsFirst (system : System) (only : Option ℕ) (es : List Event) (k : ℕ) (e : Event) : Type 0 where
  pub here : branch_for system only e ≡ Some k
  pub index : ℕ
  pub there : slice_get es index ≡ Some e
  pub none : AllBefore (λ f. branch_for system only f ≡ Some k → ⊥) es index

-- no branch in which one of the events before this index acts comes before branch k
abbrev pub NoneNearer : System → Option ℕ → ℕ → ℕ → List Event → ℕ → ℕ → Type 0
NoneNearer system only turn count es i k =
    AllBefore (λ f. (j : ℕ) → branch_for system only f ≡ Some j → turns_to count turn k ≤ turns_to count turn j) es i

-- of a step of branch k and another, which may be of no branch that may step, the one that is next
abbrev pub Nearer : System → Option ℕ → ℕ → ℕ → Event → ℕ → Event → ℕ → Event → Type 0
Nearer system only turn count other k e next f =
    ((next ≡ k) × (f ≡ e)
    × ((j : ℕ) → branch_for system only other ≡ Some j → turns_to count turn k ≤ turns_to count turn j))
    ⊎ ((f ≡ other) × (branch_for system only other ≡ Some next) × (turns_to count turn next < turns_to count turn k))

-- it is the first that acts there, and none comes before
pub record IsNearest (system : System) (only : Option ℕ) (turn count : ℕ) (es : List Event) (k : ℕ) (e : Event) :
    Type 0 where
  pub acts : ActsFirst system only es k e
  pub none : (i : ℕ) → NoneNearer system only turn count es i k

-- why a run ends that took as many steps as there may be
abbrev pub EndsAfter : AtDesk → Option ℕ → ℕ → Ended → Type 0
EndsAfter d only turn Ended.Nothing = NothingGoes d only
EndsAfter d only turn (Ended.Most branch) = GoesYet d only turn branch
EndsAfter d only turn (Ended.Refused branch why) = MayGo only branch × NoneSooner d only turn branch × (why ≡ Memory)
EndsAfter d only turn _ = ⊥

-- it stands before a step of branch k, which is kept in mind; or there is no memory for that
abbrev pub Stands : ℕ → ℕ → ℕ → Choice → List Choice → Ended → List Choice → Type 0
Stands k branch line c before ended after =
    ((ended ≡ Ended.AtLine branch line) × (after ≡ before ++ c ∷ []))
    ⊎ ((ended ≡ Ended.Refused k Memory) × (after ≡ before))
