-- An accepted system has few branches: each is a node at least, and its nodes are few.
use Rattle.std.proofs.Common.{◌≡◌, ◌∙◌, ◌+◌, ◌≤◌, List, [], ◌∷◌, map, Option, Some, None, length, refl, sym, ap, subst, arith}
use Rattle.elaborate.specs.Elaboration.{system_of}
use Rattle.elaborate.specs.Size.{IsSmall, all_beside, around, action_size, arm_size, command_layer, guarded_size, labelled_size, command_size, system_size}
use Rattle.elaborate.specs.declared.count.Size.{Size}
use Rattle.system.specs.declared.command.Action.{Action, out-Action}
use Rattle.system.specs.declared.command.Action.TheOpen.{Action-F}
use Rattle.system.specs.declared.command.Action.TheFolds.{map-Action, fold-Action, fold-Arm, fold-Guarded, fold-Labelled, fold-roll-Action, fold-roll-Command}
use Rattle.system.specs.declared.command.Action.TheViews.{roll-out-Action, roll-out-Command}
use Rattle.system.specs.declared.command.Arm.{Arm}
use Rattle.system.specs.declared.command.Command.{Command, out-Command}
use Rattle.system.specs.declared.command.Guarded.{Guarded}
use Rattle.system.specs.declared.command.Labelled.{Labelled}
use Rattle.system.specs.declared.system.System.{System}
use Rattle.system_places.specs.SystemBranches.{children_of_parallel, parallel_of, count_of, branches_of}
use Rattle.runs.proofs.public.Options.{some-injective}
use Rattle.acting_places.specs.Branches.{HasFewBranches, EventsLieInBranches, AcceptedHaveFewBranches, EventsOfAcceptedLieInBranches}

-- the size of what stands in a command
abbrev size-in : Action → Size
size-in = fold-Action Size Size Size Size Size action_size arm_size command_layer guarded_size labelled_size

-- a command is a node around what stands in it
command-is : (c : Command) → command_size c ≡ around (size-in (out-Command c).action)
command-is c =
    ap command_size (sym (roll-out-Command c))
    ∙ fold-roll-Command Size Size Size Size Size action_size arm_size command_layer guarded_size labelled_size (out-Command c)

nodes-in : (c : Command) → (command_size c).nodes ≡ (size-in (out-Command c).action).nodes + 1
nodes-in c = ap (λ (s : Size). s.nodes) (command-is c)

some-node : (c : Command) → 1 ≤ (command_size c).nodes
some-node c = omega (arith, nodes-in c)

-- so commands side by side have as many nodes as they are, at least
children-nodes : (cs : List Command) → length cs ≤ (all_beside (map command_size cs)).nodes
children-nodes [] = omega arith
children-nodes (c ∷ cs) = omega (arith, some-node c, children-nodes cs)

layer-nodes : (y : Action-F Action Arm Command Guarded Labelled) (children : List Command) → children_of_parallel y ≡ Some children →
    length children
    ≤ (action_size (map-Action Action Arm Command Guarded Labelled Size Size Size Size Size
    size-in
    (fold-Arm Size Size Size Size Size action_size arm_size command_layer guarded_size labelled_size)
    command_size
    (fold-Guarded Size Size Size Size Size action_size arm_size command_layer guarded_size labelled_size)
    (fold-Labelled Size Size Size Size Size action_size arm_size command_layer guarded_size labelled_size) y)).nodes
layer-nodes (Action-F.Parallel cs) children is =
    let size : length cs ≡ length children = ap length (some-injective cs children is) in
    omega (arith, size, children-nodes cs)
layer-nodes _ children is = cc

-- what stands in a command that is a parallel has a node for each child
children-in : (a : Action) (children : List Command) → children_of_parallel (out-Action a) ≡ Some children → length children ≤ (size-in a).nodes
children-in a children is =
    subst (λ (s : Size). length children ≤ s.nodes)
    (sym (ap size-in (sym (roll-out-Action a))
    ∙ fold-roll-Action Size Size Size Size Size action_size arm_size command_layer guarded_size labelled_size (out-Action a)))
    (layer-nodes (out-Action a) children is)

-- a command has as many nodes as it is branches, at least
branches-nodes : (c : Command) → branches_of c ≤ (command_size c).nodes
branches-nodes c = pick (parallel_of c) refl
  where
    pick : (p : Option (List Command)) → parallel_of c ≡ p → count_of p ≤ (command_size c).nodes
    pick None is = some-node c
    pick (Some children) is = omega (arith, nodes-in c, children-in (out-Command c).action children is)

-- a small system has few branches, since each of its environment is a node too
small-few : (system : System) → IsSmall (system_size system) → HasFewBranches system
small-few system small = omega (arith, small.0, branches-nodes system.main)

pub accepted-few : AcceptedHaveFewBranches
accepted-few ps entries accepted = small-few (system_of ps entries) accepted.1

pub accepted-lie : EventsLieInBranches → AcceptedHaveFewBranches → EventsOfAcceptedLieInBranches
accepted-lie lie few ps entries h T e accepted r i = lie (system_of ps entries) h T e (few ps entries accepted) r i
