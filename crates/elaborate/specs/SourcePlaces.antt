-- The places of the commands of a source, where the body of a procedure stands at the place of its call.
use Rattle.std.specs.Prelude.{ℕ, ◌-◌, List, [], ◌∷◌, ◌++◌, length, slice_index_or}
use Rattle.elaborate.specs.Places.{Places, with_children, and_last}
use Rattle.types.specs.declared.tree.Command.{Command}
use Rattle.types.specs.declared.tree.Procedure.{Procedure}
use Rattle.types.specs.declared.tree.Action.TheOpen.{Action-F, Arm-F, Command-F, Guarded-F, Labelled-F}
use Rattle.types.specs.declared.tree.Action.TheFolds.{fold-Command}

-- one layer of a command, where these are the places of the bodies of procedures
abbrev pub source_layer : List Places → Action-F Places Places Places Places Places → Places
source_layer bodies Action-F.Continue = with_children []
source_layer bodies Action-F.Halt = with_children []
source_layer bodies (Action-F.Assign x w e) = with_children []
source_layer bodies (Action-F.Send c w e) = with_children []
source_layer bodies (Action-F.Receive c x) = with_children []
source_layer bodies (Action-F.Sync c) = with_children []
source_layer bodies (Action-F.Loop body) = with_children (body ∷ [])
source_layer bodies (Action-F.While e body) = with_children (body ∷ [])
source_layer bodies (Action-F.If arms last) = with_children (and_last arms last)
source_layer bodies (Action-F.Case e arms last) = with_children (and_last arms last)
source_layer bodies (Action-F.Input c body) = with_children (body ∷ [])
source_layer bodies (Action-F.Select arms) = with_children arms
source_layer bodies (Action-F.Arbitrate arms) = with_children arms
source_layer bodies (Action-F.Sequence children) = with_children children
source_layer bodies (Action-F.Parallel children) = with_children children
source_layer bodies (Action-F.Call p arguments) = slice_index_or bodies p (with_children [])

-- an arm of `select` or `arbitrate`
abbrev pub arm_layer : Arm-F Places Places Places Places Places → Places
arm_layer a = a.body

-- a command, whatever its line
abbrev pub command_layer : Command-F Places Places Places Places Places → Places
command_layer c = c.action

-- an arm of `if`
abbrev pub guarded_layer : Guarded-F Places Places Places Places Places → Places
guarded_layer a = a.body

-- an arm of `case`
abbrev pub labelled_layer : Labelled-F Places Places Places Places Places → Places
labelled_layer a = a.body

-- the places of a command of the source: a call adds none
abbrev pub source_places : List Places → Command → Places
source_places bodies =
    fold-Command Places Places Places Places Places
    (source_layer bodies) arm_layer command_layer guarded_layer labelled_layer

-- those of the bodies of procedures, each of which calls those before it
abbrev pub bodies_onto : List Places → List Procedure → List Places
bodies_onto bodies [] = bodies
bodies_onto bodies (p ∷ ps) = bodies_onto (bodies ++ source_places bodies p.body ∷ []) ps

-- those of the root's body
abbrev pub root_places : List Procedure → Places
root_places ps = slice_index_or (bodies_onto [] ps) (length ps - 1) (with_children [])
