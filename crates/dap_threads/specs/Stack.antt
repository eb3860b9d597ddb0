-- What a stack trace lists.
use Rattle.std.specs.Prelude.{ℕ, zero, suc, ◌≡◌, ◌+◌, ◌-◌, ◌==◌, ◌&&◌, not, nat_lt, if◌then◌else◌, Bool, false, List, [], ◌∷◌, ◌++◌, Option, None, Some, codes, map, unwrap_or}
use Rattle.serde_json.specs.Data.{Data, array, number, unsigned}
use Rattle.serde_json.specs.Find.{get}
use Rattle.serde_json.specs.View.{items_of, view}
use Rattle.machine.specs.AtMachine.{AtMachine}
use Rattle.system_places.specs.SystemBranches.{branch_count}
use Rattle.dap_messages.specs.Arguments.{number_named}
use Rattle.dap_messages.specs.Notes.{IsDoneWith, IsRefusal}
use Rattle.dap_messages.specs.declared.answer.Answer.{Answer}
use Rattle.dap_messages.specs.declared.members.Listed.{Listed}
use Rattle.dap_views.specs.Handles.{frame_id}
use Rattle.dap_views.specs.declared.index.Index.{Index}
use Rattle.dap_views.specs.declared.sight.Sight.{Sight}
use Rattle.dap_threads.specs.Frames.{frame_count}
use Rattle.dap_threads.specs.Threads.{branch_named}

-- the index of the first frame that is asked for, and how many are, where these arguments ask
abbrev pub first_in : Data → ℕ
first_in d = unwrap_or (number_named (codes "startFrame") d) 0

abbrev pub levels_by : Option ℕ → ℕ
levels_by None = 1000
levels_by (Some n) = if n == 0 then 1000 else n

abbrev pub levels_in : Data → ℕ
levels_in d = levels_by (number_named (codes "levels") d)

-- whether the frame of this index is among so many from the first on
abbrev pub is_asked : ℕ → ℕ → ℕ → Bool
is_asked first levels k = not (nat_lt k first) && nat_lt (k - first) levels

-- the numbers of those among the first n frames of the branch
abbrev pub asked_ids : ℕ → ℕ → ℕ → ℕ → List ℕ
asked_ids first levels branch zero = []
asked_ids first levels branch (suc n) =
    if is_asked first levels n then asked_ids first levels branch n ++ frame_id (branch + 1) n ∷ []
    else asked_ids first levels branch n

-- the frames have these numbers, in this order
abbrev pub HaveIds : List Data → List ℕ → Type 0
HaveIds frames ids = map (get (codes "id")) frames ≡ map (λ (id : ℕ). Some (number (unsigned id))) ids

-- so do those of a list, where there was memory for all
abbrev pub ListsIds : Listed → List ℕ → Type 0
ListsIds list ids = list.lacks ≡ false → HaveIds (map view list.made.items) ids

-- the frames that are asked for are listed, of so many of the branch, and how many these are
pub record IsStack (first levels branch count : ℕ) (body : Data) : Type 0 where
  pub frames : List Data
  pub listed : get (codes "stackFrames") body ≡ Some (array (items_of frames))
  pub ids : HaveIds frames (asked_ids first levels branch count)
  pub total : get (codes "totalFrames") body ≡ Some (number (unsigned count))

-- what these arguments are answered where this branch is meant, if one is, and the state is seen so
abbrev pub ListsFor : AtMachine → Index → Option Sight → Data → Option ℕ → Answer → Type 0
ListsFor m index seen d None b = IsRefusal b.outcome
ListsFor m index None d (Some k) b = ⊥
ListsFor m index (Some sight) d (Some k) b =
    (body : Data) × IsDoneWith body b.outcome
    × IsStack (first_in d) (levels_in d) k (frame_count m index sight k) body

-- and where the branch is that of the thread that they name
abbrev pub ListsFrames : AtMachine → Index → Option Sight → Data → Answer → Type 0
ListsFrames m index seen d b =
    ListsFor m index seen d (branch_named (branch_count m.checked) (number_named (codes "threadId") d)) b
