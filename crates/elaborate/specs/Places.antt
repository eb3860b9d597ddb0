-- The places of the commands of a system, as the numbers of the children on the way to each.
use Rattle.std.specs.Prelude.{ℕ, suc, List, [], ◌∷◌, ◌++◌, map, Option, Some, None}
use Rattle.system.specs.declared.command.Command.{Command}
use Rattle.system.specs.declared.command.Action.TheOpen.{Action-F, Arm-F, Command-F, Guarded-F, Labelled-F}
use Rattle.system.specs.declared.command.Action.TheFolds.{fold-Command}

-- the places at and below a command
abbrev pub Places : Type 0
Places = List (List ℕ)

-- the places of children, the first of which has this number
abbrev pub children_from : ℕ → List Places → Places
children_from n [] = []
children_from n (child ∷ children) = map (λ place. n ∷ place) child ++ children_from (suc n) children

-- a command and its children
abbrev pub with_children : List Places → Places
with_children children = [] ∷ children_from 0 children

-- arms, and what stands behind an `else`
abbrev pub and_last : List Places → Option Places → List Places
and_last arms None = arms
and_last arms (Some last) = arms ++ last ∷ []

-- one layer of a command
abbrev pub tree_places : Action-F Places Places Places Places Places → Places
tree_places Action-F.Continue = with_children []
tree_places Action-F.Halt = with_children []
tree_places (Action-F.Assign x w e) = with_children []
tree_places (Action-F.Send c w e) = with_children []
tree_places (Action-F.Receive c x) = with_children []
tree_places (Action-F.Sync c) = with_children []
tree_places (Action-F.Loop body) = with_children (body ∷ [])
tree_places (Action-F.While e body) = with_children (body ∷ [])
tree_places (Action-F.If arms last) = with_children (and_last arms last)
tree_places (Action-F.Case e arms last) = with_children (and_last arms last)
tree_places (Action-F.Input c body) = with_children (body ∷ [])
tree_places (Action-F.Select arms) = with_children arms
tree_places (Action-F.Arbitrate arms) = with_children arms
tree_places (Action-F.Sequence children) = with_children children
tree_places (Action-F.Parallel children) = with_children children

-- an arm of `select` or `arbitrate`
abbrev pub arm_places : Arm-F Places Places Places Places Places → Places
arm_places a = a.body

-- a command, whatever its line
abbrev pub command_places : Command-F Places Places Places Places Places → Places
command_places c = c.action

-- an arm of `if`
abbrev pub guarded_places : Guarded-F Places Places Places Places Places → Places
guarded_places a = a.body

-- an arm of `case`
abbrev pub labelled_places : Labelled-F Places Places Places Places Places → Places
labelled_places a = a.body

-- the places at and below a command of a system
abbrev pub places_of : Command → Places
places_of =
    fold-Command Places Places Places Places Places tree_places arm_places command_places guarded_places labelled_places
