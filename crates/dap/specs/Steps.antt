-- What requests that ask a thread to move do to a desk.
use Rattle.std.specs.Prelude.{ℕ, ◌≡◌, ◌⊎◌, Bool, true, false, List, Option, None, Some, codes}
use Rattle.serde_json.specs.View.{view}
use Rattle.system_places.specs.SystemBranches.{branch_count}
use Rattle.runs.specs.declared.event.Choice.{Choice}
use Rattle.locked_execution.specs.AtDesk.{AtDesk}
use Rattle.dap_messages.specs.Arguments.{is_single, number_named}
use Rattle.dap_messages.specs.declared.kind.Kind.{Kind}
use Rattle.dap_messages.specs.declared.request.Request.{Request}
use Rattle.dap_messages.specs.declared.told.Stop.{Stop}
use Rattle.dap_requests.specs.Back.{Backs, ReversesFor}
use Rattle.dap_requests.specs.Denied.{NamesNoStep, NamesNoThread}
use Rattle.dap_requests.specs.Forth.{RunsBy, StepsForth, alone, going_of, target_in}
use Rattle.dap_threads.specs.Threads.{branch_named}
use Rattle.dap_views.specs.declared.program.Program.{Program}

-- the branch of the thread that the request names, if there is one
abbrev pub thread_of : AtDesk → Request → Option ℕ
thread_of d request =
    branch_named (branch_count d.machine.checked) (number_named (codes "threadId") (view request.arguments))

-- whether the request asks for one thread alone, and which
abbrev pub only_of : Request → ℕ → Option ℕ
only_of request k = alone k (is_single request)

-- of what follows: `before` are the steps before which a run has stood, and `after` those that are kept in mind; it is
-- told that the thread of `branch` stands

-- the newest live step in which the branch took part is asked to be undone
abbrev pub Backward : Bool → List Choice → List Choice → AtDesk → Option ℕ → Stop → ℕ → AtDesk → Type 0
Backward excepts before after d None stop branch d' = ⊥
Backward excepts before after d (Some k) stop branch d' = Backs excepts d k before stop branch d' after

-- a step that the branch can take is asked for: the first, or the one that `stepIn` names
abbrev pub Forward : Bool → List Choice → List Choice → AtDesk → Request → Option ℕ → Stop → ℕ → AtDesk → Type 0
Forward excepts before after d request None stop branch d' = ⊥
Forward excepts before after d request (Some k) stop branch d' =
    (branch ≡ k) × StepsForth excepts d k (target_in request) before stop d' after

-- a run goes on from where the branch stands, as the program is set
abbrev pub GoesOn : Program → List Choice → List Choice → AtDesk → Request → Option ℕ → Stop → ℕ → AtDesk → Type 0
GoesOn program before after d request None stop branch d' = ⊥
GoesOn program before after d request (Some k) stop branch d' =
    RunsBy (going_of program (only_of request k)) (Some k) d before stop branch d' after

-- the thread is told to stand, as it does
abbrev pub Stays : List Choice → List Choice → AtDesk → Option ℕ → Stop → ℕ → AtDesk → Type 0
Stays before after d None stop branch d' = ⊥
Stays before after d (Some k) stop branch d' = (stop ≡ Stop.Pause) × (branch ≡ k) × (d' ≡ d) × (after ≡ before)

-- a request to move is denied where it names no thread that there is, or where `stepIn` names no step by its number
abbrev pub IsDenied : AtDesk → Request → Type 0
IsDenied d request = NamesNoThread d request ⊎ NamesNoStep request

-- it is refused only where it is denied, where the run has not begun, and where it is over
abbrev pub MayRefuse : Program → AtDesk → Request → Type 0
MayRefuse program d request = (program.ended ≡ true) ⊎ (program.begun ≡ false) ⊎ IsDenied d request

-- what a request does that is not refused, and how that went is told: a step forth or back is one of the branch of its
-- thread, and a run begins there
abbrev pub Steps : Program → List Choice → List Choice → AtDesk → Kind → Request → Stop → ℕ → AtDesk → Type 0
Steps program before after d Kind.StepBack request stop branch d' =
    Backward program.excepts before after d (thread_of d request) stop branch d'
Steps program before after d Kind.Next request stop branch d' =
    Forward program.excepts before after d request (thread_of d request) stop branch d'
Steps program before after d Kind.StepIn request stop branch d' =
    Forward program.excepts before after d request (thread_of d request) stop branch d'
Steps program before after d Kind.StepOut request stop branch d' =
    Forward program.excepts before after d request (thread_of d request) stop branch d'
Steps program before after d Kind.Continue request stop branch d' =
    GoesOn program before after d request (thread_of d request) stop branch d'
Steps program before after d Kind.ReverseContinue request stop branch d' =
    ReversesFor program d request stop branch d' after
Steps program before after d Kind.Pause request stop branch d' =
    Stays before after d (thread_of d request) stop branch d'
Steps program before after d _ request stop branch d' = Unit {0}
