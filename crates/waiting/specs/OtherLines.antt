-- The lines of the source at which the other end of a channel stands, for an action that waits: all on which the branch
-- has such an end, those that it has passed among them. (Own.)
use Rattle.std.specs.Prelude.{ℕ, ◌==◌, ◌+◌, nat_lt, List, [], ◌∷◌, ◌++◌, Bool, true, false, not, cond, Option, None, Some, slice_get}
use Rattle.std.specs.List.{flat_map, insert}
use Rattle.system.specs.declared.system.System.{System}
use Rattle.system_places.specs.SystemBranches.{branch_at}
use Rattle.outline.specs.EndTable.{ends_on}
use Rattle.outline.specs.declared.end_table.BranchEnd.{BranchEnd}
use Rattle.outline.specs.declared.ends.Way.{Way}
use Rattle.outline.specs.declared.ends.Way.TheVariants as way
use Rattle.runs.specs.Moves.{Place}
use Rattle.local_actions.specs.declared.action.LocalAction.{LocalAction}
use Rattle.local_actions.specs.declared.action.ActionKind.{ActionKind}
use Rattle.local_actions.specs.declared.action.ActionKind.TheVariants as action
use Rattle.rings.specs.declared.partner.Partner.{Partner}
use Rattle.rings.specs.declared.partner.Partner.TheVariants as partner
use Rattle.waiting.specs.declared.side.Side.{Side}
use Rattle.waiting.specs.declared.side.Side.TheVariants as side

-- ---- which ends

-- whether it is one that takes what a send sends
abbrev pub receives : Way → Bool
receives way.Sends = false
receives way.Receives = true
receives way.Syncs = false
receives (way.Opens k) = true

-- whether it is one that gives what a receive or an arm takes
abbrev pub gives : Way → Bool
gives way.Sends = true
gives way.Receives = false
gives way.Syncs = true
gives (way.Opens k) = false

-- whether it is one that meets a sync
abbrev pub meets : Way → Bool
meets way.Sends = false
meets way.Receives = false
meets way.Syncs = true
meets (way.Opens k) = true

-- whether it is one that holds until it closes
abbrev pub holds : Way → Bool
holds way.Sends = false
holds way.Receives = false
holds way.Syncs = false
holds (way.Opens k) = true

-- whether it is an end that the action waits for, as `sought_by` of rings has it for what is still to do
abbrev pub is_other : ActionKind → Way → Bool
is_other (action.Sends c v xs) w = receives w
is_other (action.Receives c x) w = gives w
is_other (action.Opens c k) w = gives w
is_other (action.Syncs c) w = meets w
is_other (action.Releases c) w = holds w
is_other (action.Closes c) w = false
is_other (action.Assigns x v xs) w = false
is_other (action.Tests k xs) w = false
is_other action.Turns w = false

-- the channel for whose other end the action waits
abbrev pub awaited_channel : ActionKind → Option ℕ
awaited_channel (action.Sends c v xs) = Some c
awaited_channel (action.Receives c x) = Some c
awaited_channel (action.Opens c k) = Some c
awaited_channel (action.Syncs c) = Some c
awaited_channel (action.Releases c) = Some c
awaited_channel (action.Closes c) = None
awaited_channel (action.Assigns x v xs) = None
awaited_channel (action.Tests k xs) = None
awaited_channel action.Turns = None

-- ---- of which branches

-- that in which the place behind which the partner comes lies; of a partner that cannot come any more all but that of
-- the action
abbrev pub side_of : System → Place → Option Partner → Side
side_of system own (Some (partner.Behind a)) = side.Within (branch_at system a)
side_of system own (Some partner.Gone) = side.Outside (branch_at system own)
side_of system own (Some partner.Open) = side.Within None
side_of system own None = side.Within None

-- whether the branch k is this one
abbrev pub is_branch : Option ℕ → ℕ → Bool
is_branch None k = false
is_branch (Some j) k = j == k

abbrev pub is_on : Side → ℕ → Bool
is_on (side.Within branch) k = is_branch branch k
is_on (side.Outside branch) k = not (is_branch branch k)

-- ---- their lines

-- a line, if it is known
abbrev pub line_list : Option ℕ → List ℕ
line_list None = []
line_list (Some line) = line ∷ []

-- that of an end, if it is on this side and the action waits for such a one; none of the environment
abbrev pub line_if : Bool → Bool → Option ℕ → List ℕ
line_if true true line = line_list line
line_if true false line = []
line_if false other line = []

abbrev pub line_of : ActionKind → Side → BranchEnd → List ℕ
line_of x s e = line_if (is_on s e.branch) (is_other x e.end.way) e.end.line

-- The line of a sync that waits is among them where its branch is on this side: there once for the sync itself.
abbrev pub own_if : Bool → Option ℕ → Option ℕ
own_if true line = line
own_if false line = None

abbrev pub own_on : Side → Option ℕ → Option ℕ → Option ℕ
own_on s None line = None
own_on s (Some k) line = own_if (is_on s k) line

abbrev pub own_line : ActionKind → Side → Option ℕ → Option ℕ → Option ℕ
own_line (action.Syncs c) s branch line = own_on s branch line
own_line x s branch line = None

-- how many lines come before the first that is not less
abbrev pub count_below : ℕ → List ℕ → ℕ
count_below line [] = 0
count_below line (x ∷ xs) = cond (nat_lt x line) (count_below line xs + 1) 0

abbrev pub is_same : Option ℕ → ℕ → Bool
is_same None line = false
is_same (Some own) line = own == line

-- a line behind those that are less, unless it is there
abbrev pub put_unless : Bool → ℕ → ℕ → List ℕ → List ℕ
put_unless true i line lines = lines
put_unless false i line lines = insert lines i line

abbrev pub put : ℕ → List ℕ → List ℕ
put line lines =
    put_unless (is_same (slice_get lines (count_below line lines)) line) (count_below line lines) line lines

-- these lines put among others, without the first that is that of the action itself
abbrev pub put_all : Option ℕ → List ℕ → List ℕ → List ℕ
put_all own [] lines = lines
put_all own (x ∷ xs) lines = cond (is_same own x) (put_all None xs lines) (put_all own xs (put x lines))

-- those of the channel, each once, ascending
abbrev pub lines_on : System → ActionKind → Side → Option ℕ → Option ℕ → List ℕ
lines_on system x s own None = []
lines_on system x s own (Some c) = put_all own (flat_map (line_of x s) (ends_on system c)) []

-- the lines at which the ends stand for which an action waits that stands on this line, with this partner
abbrev pub other_lines : System → Option ℕ → LocalAction → Option Partner → List ℕ
other_lines system line x p =
    lines_on system x.action (side_of system x.place p)
    (own_line x.action (side_of system x.place p) (branch_at system x.place) line) (awaited_channel x.action)
