-- The frames of a branch: the place that goes on first, the calls around it from the inner to the outermost, and the
-- other places; at most 1,000. A branch without a place is done, and has one frame.
use Rattle.std.specs.Prelude.{ℕ, zero, suc, ◌≡◌, ◌⊎◌, ◌+◌, ◌-◌, ◌<◌, ◌==◌, ◌&&◌, not, min, max, if◌then◌else◌, List, [], ◌∷◌, ◌++◌, Bool, true, false, Option, None, Some, length, map, slice_get}
use Rattle.dap_messages.specs.Notes.{IsRefusal}
use Rattle.dap_messages.specs.declared.answer.Answer.{Answer}
use Rattle.dap_views.specs.Handles.{frame_id}
use Rattle.dap_views.specs.Around.{call_of_branch, call_of_place, calls_around}
use Rattle.dap_views.specs.Ranks.{rank_of}
use Rattle.dap_views.specs.Seen.{first_branch}
use Rattle.dap_views.specs.declared.index.Index.{Index}
use Rattle.dap_views.specs.declared.sight.Rank.{Rank}
use Rattle.dap_views.specs.declared.sight.Sight.{Sight}
use Rattle.local_actions.specs.declared.action.LocalAction.{LocalAction}
use Rattle.machine.specs.AtMachine.{AtMachine}
use Rattle.runs.specs.Tests.{same_place}
use Rattle.runs.specs.declared.event.Event.{Event}
use Rattle.system.specs.declared.system.System.{System}
use Rattle.system_places.specs.SystemBranches.{branch_at, branch_count}
use Rattle.dap_threads.specs.declared.frames.Frame.{Frame}

-- whether both actions are there, at one place
abbrev pub are_together : Option LocalAction → Option LocalAction → Bool
are_together (Some x) (Some y) = same_place x.place y.place
are_together _ _ = false

-- whether the action before the one at the index is at the same place
abbrev pub is_again : List LocalAction → ℕ → Bool
is_again actions k = if k == 0 then false else are_together (slice_get actions (k - 1)) (slice_get actions k)

-- whether this branch was found
abbrev pub is_branch : ℕ → Option ℕ → Bool
is_branch branch None = false
is_branch branch (Some k) = k == branch

-- whether there is an action, and it stands in the branch
abbrev pub stands_in : System → ℕ → Option LocalAction → Bool
stands_in system branch None = false
stands_in system branch (Some x) = is_branch branch (branch_at system x.place)

-- whether the action at the index stands in the branch, and the one before it at another place (actions of one place
-- stand together)
abbrev pub is_place_in : System → List LocalAction → ℕ → ℕ → Bool
is_place_in system actions branch k = stands_in system branch (slice_get actions k) && not (is_again actions k)

-- whether both are one
abbrev pub same_rank : Rank → Rank → Bool
same_rank Rank.Acts Rank.Acts = true
same_rank Rank.Joins Rank.Joins = true
same_rank Rank.Waits Rank.Waits = true
same_rank _ _ = false

-- whether there is an action, and its place is so far from going on
abbrev pub is_ranked : List Event → Rank → Option LocalAction → Bool
is_ranked ready rank None = false
is_ranked ready rank (Some x) = same_rank (rank_of ready x.place) rank

-- whether the action at the index is the first at a place of the branch that is so far from going on
abbrev pub is_ranked_in : System → Sight → ℕ → Rank → ℕ → Bool
is_ranked_in system sight branch rank k =
    is_place_in system sight.actions branch k && is_ranked sight.ready rank (slice_get sight.actions k)

-- these indexes, and behind them those of such actions among the first n
abbrev pub with_ranked : List ℕ → System → Sight → ℕ → Rank → ℕ → List ℕ
with_ranked found system sight branch rank zero = found
with_ranked found system sight branch rank (suc n) =
    if is_ranked_in system sight branch rank n then with_ranked found system sight branch rank n ++ n ∷ []
    else with_ranked found system sight branch rank n

-- the same of all actions
abbrev pub with_all : List ℕ → System → Sight → ℕ → Rank → List ℕ
with_all found system sight branch rank = with_ranked found system sight branch rank (length sight.actions)

-- the places of a branch, by the indexes of their first actions: those where a step acts, then those where its
-- partner's does, then those that wait
abbrev pub places_in : System → Sight → ℕ → List ℕ
places_in system sight branch =
    let acting = with_all [] system sight branch Rank.Acts in
    let joining = with_all acting system sight branch Rank.Joins in
    with_all joining system sight branch Rank.Waits

-- the call whose names are seen where an action stands; the root where none does
abbrev pub call_of : AtMachine → Index → Option LocalAction → ℕ
call_of m index None = 0
call_of m index (Some x) = call_of_place m index x.place

-- the frame at the place of the action at the index, and that of a call
abbrev pub at_place : AtMachine → Index → List LocalAction → ℕ → Frame
at_place m index actions k = record { action = Some k; call = call_of m index (slice_get actions k) }

abbrev pub at_call : ℕ → Frame
at_call call = record { action = None; call = call }

-- the frames of a branch that has these places
abbrev pub frames_at : AtMachine → Index → List LocalAction → List ℕ → List Frame
frames_at m index actions [] = []
frames_at m index actions (k ∷ ks) =
    at_place m index actions k ∷ map at_call (calls_around index (at_place m index actions k).call)
    ++ map (at_place m index actions) ks

abbrev pub frames_of : AtMachine → Index → Sight → ℕ → List Frame
frames_of m index sight branch = frames_at m index sight.actions (places_in m.checked sight branch)

-- how many of these there are to see
abbrev pub count_of : List Frame → ℕ
count_of frames = min (max (length frames) 1) 1000

-- how many frames the branch has
abbrev pub frame_count : AtMachine → Index → Sight → ℕ → ℕ
frame_count m index sight branch = count_of (frames_of m index sight branch)

-- the number is that of the frame of this index of the branch
abbrev pub IsFrame : AtMachine → Index → Sight → ℕ → ℕ → ℕ → Type 0
IsFrame m index sight number branch k =
    (frame_id (branch + 1) k ≡ number) × (branch < branch_count m.checked) × (k < frame_count m index sight branch)

-- no frame has the number
abbrev pub HasNoFrame : AtMachine → Index → Sight → ℕ → Type 0
HasNoFrame m index sight number = (branch k : ℕ) → IsFrame m index sight number branch k → ⊥

-- the call whose names are seen in a frame of this branch; where that is done, the one in whose body it began
abbrev pub seen_call : Index → ℕ → Option Frame → ℕ
seen_call index branch None = call_of_branch index branch
seen_call index branch (Some frame) = frame.call

-- what was found by a number: nothing where no frame has it; else the branch of the frame, and the call whose names are
-- seen there
abbrev pub FindsFrame : AtMachine → Index → Sight → ℕ → Option (ℕ × ℕ) → Type 0
FindsFrame m index sight number None = HasNoFrame m index sight number
FindsFrame m index sight number (Some found) =
    (k : ℕ) × IsFrame m index sight number found.0 k
    × (found.1 ≡ seen_call index found.0 (slice_get (frames_of m index sight found.0) k))

-- what is found by the number that is named, where the state is seen so; where none is named, the branch of the first
-- step that is ready, and the root
abbrev pub FindsNamed : AtMachine → Index → Option Sight → Option ℕ → Option (ℕ × ℕ) → Type 0
FindsNamed m index (Some sight) (Some number) found = FindsFrame m index sight number found
FindsNamed m index (Some sight) None found = found ≡ Some (first_branch m sight.ready, 0)
FindsNamed m index None named found = ⊥

-- nothing is found by it: that is refused, unless there is no memory
abbrev pub Misses : AtMachine → Index → Option Sight → Option ℕ → Answer → Type 0
Misses m index seen named b = (b.lacks ≡ true) ⊎ (IsRefusal b.outcome × FindsNamed m index seen named None)

-- branch k has the frame of the number that is named, where the state is seen so; where none is named, it is that of
-- the first step that is ready
abbrev pub HasFrame : AtMachine → Index → Option Sight → Option ℕ → ℕ → Type 0
HasFrame m index seen named k = (call : ℕ) × FindsNamed m index seen named (Some (k, call))
