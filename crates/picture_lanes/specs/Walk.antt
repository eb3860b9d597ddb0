-- The walk through a body, as it was made and as it is written in the blocks of the circuit: each command that is no
-- parallel and no `continue` with its lane, its line and its block, the uses of channels, and the blocks, in the order of
-- the source.
use Rattle.std.specs.Prelude.{ℕ, ◌+◌, List, [], ◌∷◌, ◌++◌, length, Option, None, Some}
use Rattle.branch_lanes.specs.Lanes as lanes
use Rattle.system.specs.declared.command.Command.{Command}
use Rattle.system.specs.declared.command.Action.TheOpen.{Action-F, Arm-F, Command-F, Guarded-F, Labelled-F}
use Rattle.system.specs.declared.command.Action.TheFolds.{fold-Command}
use Rattle.types.specs.declared.tree.Command as typed
use Rattle.types.specs.declared.tree.Procedure.{Procedure}
use Rattle.picture_lanes.specs.Calls.{At, behind_calls}
use Rattle.picture_lanes.specs.Written.{last_part, part}
use Rattle.picture_lanes.specs.declared.walk.Found.{Found}
use Rattle.picture_lanes.specs.declared.walk.Way.{Way}
use Rattle.picture_lanes.specs.declared.walk.Way.TheVariants.{Sends, Receives, Syncs, Opens}

-- the path of the lane of what stands in these branches
abbrev pub trimmed : List ℕ → List ℕ
trimmed path = lanes.trimmed path

-- what was found so far, and more behind it
abbrev pub Onto : Type 0
Onto = Found → Found

-- the same of a command that is written so, in these branches and this block
abbrev pub Walk : Type 0
Walk = typed.Command → List ℕ → ℕ → Onto

-- the same of an action, where this is the line of its command
abbrev pub OnLine : Type 0
OnLine = ℕ → Walk

-- an arm of `select` or `arbitrate`: its channel, and its body
pub record OfArm : Type 0 where
  pub channel : ℕ
  pub body : Walk

-- one more command
abbrev pub with_stop : ℕ → List ℕ → ℕ → Onto
with_stop line path block f =
    record f { stops = f.stops ++ record { path = trimmed path; line = line; block = block } ∷ [] }

-- one more use of a channel
abbrev pub with_use : ℕ → Way → List ℕ → Onto
with_use c way path f = record f { uses = f.uses ++ record { channel = c; way = way; path = trimmed path } ∷ [] }

-- through a command, if it is written
abbrev pub if_written : Walk → Option typed.Command → List ℕ → ℕ → Onto
if_written walk None path block f = f
if_written walk (Some w) path block f = walk w path block f

-- through what stands behind an `else`
abbrev pub in_last : Option Walk → Option typed.Command → List ℕ → ℕ → Onto
in_last None w path block f = f
in_last (Some walk) w path block f = if_written walk w path block f

-- through several parts of a command, of which the first has the number n
abbrev pub in_turn : ℕ → List Walk → Walk
in_turn n [] w path block f = f
in_turn n (walk ∷ walks) w path block f =
    in_turn (n + 1) walks w path block (if_written walk (part w n) path block f)

-- through arms, each behind the use at which it opens
abbrev pub arms_in_turn : ℕ → List OfArm → Walk
arms_in_turn n [] w path block f = f
arms_in_turn n (a ∷ rest) w path block f =
    arms_in_turn (n + 1) rest w path block
    (if_written a.body (part w n) path block (with_use a.channel Opens path f))

-- through branches, of which the first has the number n
abbrev pub in_branches : ℕ → List Walk → Walk
in_branches n [] w path block f = f
in_branches n (walk ∷ walks) w path block f =
    in_branches (n + 1) walks w path block (if_written walk (part w n) (path ++ n ∷ []) block f)

-- one layer of a command, one line a form
abbrev pub walk_layer : Action-F OnLine OfArm Walk Walk Walk → OnLine
walk_layer Action-F.Continue line w path block f = f
walk_layer Action-F.Halt line w path block f = with_stop line path block f
walk_layer (Action-F.Assign x v e) line w path block f = with_stop line path block f
walk_layer (Action-F.Send c v e) line w path block f = with_use c.number Sends path (with_stop line path block f)
walk_layer (Action-F.Receive c x) line w path block f = with_use c.number Receives path (with_stop line path block f)
walk_layer (Action-F.Sync c) line w path block f = with_use c.number Syncs path (with_stop line path block f)
walk_layer (Action-F.Loop body) line w path block f =
    if_written body (part w 0) path block (with_stop line path block f)
walk_layer (Action-F.While e body) line w path block f =
    if_written body (part w 0) path block (with_stop line path block f)
walk_layer (Action-F.If arms last) line w path block f =
    in_last last (last_part w) path block (in_turn 0 arms w path block (with_stop line path block f))
walk_layer (Action-F.Case e arms last) line w path block f =
    in_last last (last_part w) path block (in_turn 0 arms w path block (with_stop line path block f))
walk_layer (Action-F.Input c body) line w path block f =
    if_written body (part w 0) path block (with_use c.number Opens path (with_stop line path block f))
walk_layer (Action-F.Select arms) line w path block f = arms_in_turn 0 arms w path block (with_stop line path block f)
walk_layer (Action-F.Arbitrate arms) line w path block f =
    arms_in_turn 0 arms w path block (with_stop line path block f)
walk_layer (Action-F.Sequence children) line w path block f =
    in_turn 0 children w path block (with_stop line path block f)
walk_layer (Action-F.Parallel children) line w path block f = in_branches 0 children w path block f

abbrev pub walk_arm : Arm-F OnLine OfArm Walk Walk Walk → OfArm
walk_arm a = record { channel = a.channel.number; body = a.body }

-- a command gives its line to its action, as it is written behind all calls
abbrev pub behind : OnLine → ℕ → List ℕ → Found → At → Found
behind action line path f at = action line at.written path at.block (record f { instances = at.instances })

abbrev pub walk_command : List Procedure → Command-F OnLine OfArm Walk Walk Walk → Walk
walk_command procedures c w path block f =
    behind c.action c.line path f
    (behind_calls (length procedures) procedures
    (record { written = w; block = block; instances = f.instances }))

abbrev pub walk_guarded : Guarded-F OnLine OfArm Walk Walk Walk → Walk
walk_guarded a = a.body

abbrev pub walk_labelled : Labelled-F OnLine OfArm Walk Walk Walk → Walk
walk_labelled a = a.body

-- through a command, which is written so, in these branches and this block
abbrev pub walked : List Procedure → Command → Walk
walked procedures =
    fold-Command OnLine OfArm Walk Walk Walk walk_layer walk_arm (walk_command procedures) walk_guarded walk_labelled
