-- How large a system is.
use Rattle.std.specs.Prelude.{ℕ, ◌+◌, ◌-◌, ◌≤◌, max, List, [], ◌∷◌, Option, Some, None, length}
use Rattle.elaborate.specs.declared.count.Size.{Size}
use Rattle.system.specs.declared.expression.Expression.{Expression}
use Rattle.system.specs.declared.expression.Expression.TheOpen.{Expression-F}
use Rattle.system.specs.declared.expression.Expression.TheFolds.{fold-Expression}
use Rattle.system.specs.declared.command.Command.{Command}
use Rattle.system.specs.declared.command.Action.TheOpen.{Action-F, Arm-F, Command-F, Guarded-F, Labelled-F}
use Rattle.system.specs.declared.command.Action.TheFolds.{fold-Command}
use Rattle.system.specs.declared.system.Branch.{Branch}
use Rattle.system.specs.declared.system.Branch.TheVariants.{Feed, Drain, Syncs}
use Rattle.system.specs.declared.system.System.{System}

-- the most nodes of a system
abbrev pub most_nodes : ℕ
most_nodes = 16384

-- the most commands one inside the other: one and the 1,024 around it
abbrev pub most_nested : ℕ
most_nested = 1025

-- no nodes and no commands
abbrev pub nothing : Size
nothing = record { nodes = 0; levels = 0 }

-- so many nodes that are no commands
abbrev pub plain_nodes : ℕ → Size
plain_nodes n = record { nodes = n; levels = 0 }

-- two parts side by side
abbrev pub beside : Size → Size → Size
beside a b = record { nodes = a.nodes + b.nodes; levels = max a.levels b.levels }

-- a command around parts
abbrev pub around : Size → Size
around parts = record { nodes = parts.nodes + 1; levels = parts.levels + 1 }

-- parts side by side
abbrev pub all_beside : List Size → Size
all_beside [] = nothing
all_beside (s ∷ rest) = beside s (all_beside rest)

-- what stands behind an `else`, nothing where there is none
abbrev pub last_size : Option Size → Size
last_size None = nothing
last_size (Some s) = s

-- each number, name, operator and cast is a node
abbrev pub expression_layer : Expression-F Size → Size
expression_layer (Expression-F.Constant v) = plain_nodes 1
expression_layer (Expression-F.Variable x w) = plain_nodes 1
expression_layer (Expression-F.Received c w) = plain_nodes 1
expression_layer (Expression-F.Binary op a b) = beside (plain_nodes 1) (beside a b)
expression_layer (Expression-F.Not a) = beside (plain_nodes 1) a
expression_layer (Expression-F.Cast a w) = beside (plain_nodes 1) a

-- an expression
abbrev pub expression_size : Expression → Size
expression_size = fold-Expression Size expression_layer

-- what stands in a command
abbrev pub action_size : Action-F Size Size Size Size Size → Size
action_size Action-F.Continue = nothing
action_size Action-F.Halt = nothing
action_size (Action-F.Assign x w e) = expression_size e
action_size (Action-F.Send c w e) = expression_size e
action_size (Action-F.Receive c x) = nothing
action_size (Action-F.Sync c) = nothing
action_size (Action-F.Loop body) = body
action_size (Action-F.While e body) = beside (expression_size e) body
action_size (Action-F.If arms last) = beside (all_beside arms) (last_size last)
action_size (Action-F.Case e arms last) = beside (expression_size e) (beside (all_beside arms) (last_size last))
action_size (Action-F.Input c body) = body
action_size (Action-F.Select arms) = all_beside arms
action_size (Action-F.Arbitrate arms) = all_beside arms
action_size (Action-F.Sequence children) = all_beside children
action_size (Action-F.Parallel children) = all_beside children

-- an arm of `select` or `arbitrate`
abbrev pub arm_size : Arm-F Size Size Size Size Size → Size
arm_size a = a.body

-- a command: a node, around what stands in it
abbrev pub command_layer : Command-F Size Size Size Size Size → Size
command_layer c = around c.action

-- an arm of `if`: its guard counts
abbrev pub guarded_size : Guarded-F Size Size Size Size Size → Size
guarded_size a = beside (expression_size a.guard) a.body

-- an arm of `case`: its labels count nothing
abbrev pub labelled_size : Labelled-F Size Size Size Size Size → Size
labelled_size a = a.body

-- a command
abbrev pub command_size : Command → Size
command_size = fold-Command Size Size Size Size Size action_size arm_size command_layer guarded_size labelled_size

-- the values that the environment sends in a branch
abbrev pub values_sent : Branch → ℕ
values_sent (Feed channel width values) = length values
values_sent (Drain channel) = 0
values_sent (Syncs channel count) = 0

-- the values that it sends in all of them
abbrev pub all_values_sent : List Branch → ℕ
all_values_sent [] = 0
all_values_sent (b ∷ bs) = values_sent b + all_values_sent bs

-- A system: its commands and expressions, its branches and the values that these send, its variables, and its channels
-- but those of the ports, of which each has a branch.
abbrev pub system_size : System → Size
system_size system =
    let branches = length system.environment in
    beside (command_size system.main)
    (plain_nodes (branches + all_values_sent system.environment
    + length system.variables + (length system.channels - branches)))

-- at most 16,384 nodes, and no command inside more than 1,024 others
abbrev pub IsSmall : Size → Type 0
IsSmall s = (s.nodes ≤ most_nodes) × (s.levels ≤ most_nested)
