-- Steps forth.
use Rattle.std.specs.Prelude.{◌≡◌, ◌⊎◌, ℕ, ◌-◌, List, [], Bool, true, false, Option, None, Some, codes, slice_get, unwrap_or}
use Rattle.serde_json.specs.View.{view}
use Rattle.runs.specs.Choices.{choice_of}
use Rattle.runs.specs.Object.{Reaches}
use Rattle.runs.specs.Ready.{ReadyList}
use Rattle.runs.specs.Refusals.{refusal_number}
use Rattle.runs.specs.Steps.{State}
use Rattle.runs.specs.declared.event.Choice.{Choice}
use Rattle.runs.specs.declared.event.Event.{Event}
use Rattle.locked_execution.specs.AtDesk.{AtDesk, execution}
use Rattle.locked_execution.specs.declared.command.Reply.{Reply}
use Rattle.dap_messages.specs.Arguments.{number_named}
use Rattle.dap_messages.specs.declared.kind.Kind.{Kind}
use Rattle.dap_messages.specs.declared.request.Request.{Request}
use Rattle.dap_messages.specs.declared.told.Stop.{Stop}
use Rattle.dap_moves.specs.Moves.{StepsAt, targets}
use Rattle.dap_moves.specs.Running.{RunsFrom, Sees}
use Rattle.dap_moves.specs.declared.run.Ended.{Ended}
use Rattle.dap_moves.specs.declared.run.Plan.{Plan}
use Rattle.dap_views.specs.declared.watched.Watched.{Watched}
use Rattle.dap_views.specs.declared.program.Program.{Program}

-- how a thread stands behind a step that was answered so; `excepts` where a refusal is an exception to the client
abbrev pub stop_of : Bool → Reply → Stop
stop_of excepts (Reply.Refused why) = Stop.Refused (refusal_number why) excepts
stop_of excepts _ = Stop.Stepped

-- of the steps before which a run has stood all stay in mind behind a step that is refused, and none behind another
abbrev pub SeenAfter : Reply → List Choice → List Choice → Type 0
SeenAfter (Reply.Refused why) before after = after ≡ before
SeenAfter _ before after = after ≡ []

-- the step of this event is asked for, if there is one, and how it went is told. `before` are the steps before which a
-- run has stood, and `after` those that are kept in mind
abbrev pub Takes : Bool → AtDesk → Option Event → List Choice → Stop → AtDesk → List Choice → Type 0
Takes excepts d None before stop d' after = (stop ≡ Stop.Stepped) × (d' ≡ d) × (after ≡ before)
Takes excepts d (Some e) before stop d' after =
    (reply : Reply) × StepsAt d e reply d' × (stop ≡ stop_of excepts reply) × SeenAfter reply before after

-- of the steps that branch k can be, the one of this number is asked for, if there is one; or there was no memory to
-- list them: nothing changed, and that is told
abbrev pub StepsForth : Bool → AtDesk → ℕ → ℕ → List Choice → Stop → AtDesk → List Choice → Type 0
StepsForth excepts d k number before stop d' after =
    ((T : State) × (es : List Event) × Reaches (execution d) T × ReadyList T es
    × Takes excepts d (slice_get (targets d.machine.checked k es) number) before stop d' after)
    ⊎ ((stop ≡ Stop.Refused 1 excepts) × (d' ≡ d) × (after ≡ before))

-- which step a request of this kind asks for, from 0, where this one is named, from 1: `stepIn` may name any, the
-- others ask for the first
abbrev pub target_of : Kind → Option ℕ → ℕ
target_of Kind.StepIn (Some named) = named - 1
target_of _ _ = 0

-- the step that a request asks for
abbrev pub target_in : Request → ℕ
target_in request = target_of request.kind (number_named (codes "targetId") (view request.arguments))

-- how a thread stands where a run ends so
abbrev pub stop_at : Bool → Ended → Stop
stop_at excepts Ended.Nothing = Stop.Pause
stop_at excepts (Ended.AtLine branch line) = Stop.AtLine
stop_at excepts (Ended.Watched branch ticket) = Stop.Watched
stop_at excepts (Ended.Most branch) = Stop.Pause
stop_at excepts (Ended.Refused branch why) = Stop.Refused (refusal_number why) excepts

-- the thread of which branch stands there, where it began with branch k, or with the first
abbrev pub stands_at : Option ℕ → Ended → ℕ
stands_at k Ended.Nothing = unwrap_or k 0
stands_at k (Ended.AtLine branch line) = branch
stands_at k (Ended.Watched branch ticket) = branch
stands_at k (Ended.Most branch) = branch
stands_at k (Ended.Refused branch why) = branch

-- the step of this event, if there is one, is kept in mind behind others, unless it is there already
abbrev pub SeesStep : Option Event → List Choice → List Choice → Type 0
SeesStep None before seen = seen ≡ before
SeesStep (Some e) before seen = Sees true before (choice_of e) seen

-- before these steps a run has stood already that goes on where branch k stands: before those that were kept in mind,
-- and before the first of the branch, if it has one
abbrev pub AreSeen : AtDesk → Option ℕ → List Choice → List Choice → Type 0
AreSeen d None before seen = seen ≡ before
AreSeen d (Some k) before seen =
    (T : State) × (es : List Event) × Reaches (execution d) T × ReadyList T es
    × SeesStep (slice_get (targets d.machine.checked k es) 0) before seen

-- how a run goes: the lines that stop it, what is watched, the most steps, the branch that steps alone, and whether a
-- refusal is an exception
pub record Going : Type 0 where
  pub lines : List ℕ
  pub watched : List Watched
  pub most : ℕ
  pub only : Option ℕ
  pub excepts : Bool

-- the branch that steps alone, if it does
abbrev pub alone : ℕ → Bool → Option ℕ
alone branch true = Some branch
alone branch false = None

-- as what is launched is set
abbrev pub going_of : Program → Option ℕ → Going
going_of program only = record {
  lines = program.stops.items;
  watched = program.watched.items;
  most = program.launch.most;
  only = only;
  excepts = program.excepts;
}

-- it is planned so, where it begins with branch k, or with the first
pub record IsPlanned (going : Going) (k : Option ℕ) (plan : Plan) : Type 0 where
  pub first : plan.first ≡ unwrap_or k 0
  pub lines : plan.lines.now ≡ going.lines
  pub watched : plan.watched.now ≡ going.watched
  pub most : plan.most ≡ going.most
  pub only : plan.only ≡ going.only

-- a run goes on from d, where branch k stands, to d', and it is told how it ended, and the thread of which branch
-- stands. It passes no line but at its first step, where it has stood before that: `before` are the steps that were
-- kept in mind, `after` those that are
pub record GoesFrom (going : Going) (k : Option ℕ) (d : AtDesk) (before : List Choice) (stop : Stop) (branch : ℕ)
    (d' : AtDesk) (after : List Choice) : Type 0 where
  pub plan : Plan
  pub ended : Ended
  pub seen : List Choice
  pub planned : IsPlanned going k plan
  pub are : AreSeen d k before seen
  pub runs : RunsFrom plan seen d d' ended after
  pub told : stop ≡ stop_at going.excepts ended
  pub stands : branch ≡ stands_at k ended

-- the same; or there was no memory to keep in mind where it begins: nothing changed, and that is told
abbrev pub RunsBy : Going → Option ℕ → AtDesk → List Choice → Stop → ℕ → AtDesk → List Choice → Type 0
RunsBy going k d before stop branch d' after =
    GoesFrom going k d before stop branch d' after
    ⊎ ((stop ≡ Stop.Refused 1 going.excepts) × (branch ≡ unwrap_or k 0) × (d' ≡ d) × (after ≡ before))

-- a run that nobody debugs, from d to d': it begins with the first branch, of all, takes no more steps than these, and
-- neither lines nor what is watched stop it
pub record RunsFree (most : ℕ) (d d' : AtDesk) : Type 0 where
  pub plan : Plan
  pub ended : Ended
  pub first : plan.first ≡ 0
  pub only : plan.only ≡ None
  pub lines : plan.lines.now ≡ []
  pub watched : plan.watched.now ≡ []
  pub within : plan.most ≡ most
  pub kept : List Choice
  pub runs : RunsFrom plan [] d d' ended kept
