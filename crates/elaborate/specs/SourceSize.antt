-- How large a source is, where the body of a procedure stands at the place of its call. The sizes of parts are put
-- together as they are (`whole`). That this is the size of the system that is made (`Size.antt`) is a law of
-- `src/laws.rt`.
use Rattle.std.specs.Prelude.{ℕ, ◌+◌, ◌-◌, max, List, [], ◌∷◌, ◌++◌, Option, Some, None, length, slice_index_or}
use Rattle.elaborate.specs.Elaboration.{root_ports}
use Rattle.elaborate.specs.Environment.{values_of}
use Rattle.elaborate.specs.Fit.{entry_named}
use Rattle.elaborate.specs.Size.{nothing}
use Rattle.elaborate.specs.declared.count.Size.{Size}
use Rattle.elaborate.specs.declared.stimulus.Entry.{Entry}
use Rattle.types.specs.declared.tree.Expression.{Expression}
use Rattle.types.specs.declared.tree.Expression.TheOpen.{Expression-F}
use Rattle.types.specs.declared.tree.Expression.TheFolds.{fold-Expression}
use Rattle.types.specs.declared.tree.Command.{Command}
use Rattle.types.specs.declared.tree.Port.{Port}
use Rattle.types.specs.declared.tree.PortKind.{PortKind}
use Rattle.types.specs.declared.tree.PortKind.TheVariants as kind
use Rattle.types.specs.declared.tree.Procedure.{Procedure}
use Rattle.types.specs.declared.tree.Action.TheOpen.{Action-F, Arm-F, Command-F, Guarded-F, Labelled-F}
use Rattle.types.specs.declared.tree.Action.TheFolds.{fold-Command}

-- what is done with each size that is put together
abbrev pub Cut : Type 0
Cut = Size → Size

-- nothing
abbrev pub whole : Cut
whole s = s

-- so many nodes that are no commands
abbrev pub plain_nodes : Cut → ℕ → Size
plain_nodes cut n = cut (record { nodes = n; levels = 0 })

-- two parts side by side
abbrev pub beside : Cut → Size → Size → Size
beside cut a b = cut (record { nodes = a.nodes + b.nodes; levels = max a.levels b.levels })

-- a command around parts
abbrev pub around : Cut → Size → Size
around cut parts = cut (record { nodes = parts.nodes + 1; levels = parts.levels + 1 })

-- each number, name, operator and cast is a node
abbrev pub expression_layer : Cut → Expression-F Size → Size
expression_layer cut (Expression-F.Constant v) = plain_nodes cut 1
expression_layer cut (Expression-F.Variable x w) = plain_nodes cut 1
expression_layer cut (Expression-F.Received c w) = plain_nodes cut 1
expression_layer cut (Expression-F.Binary op a b) = beside cut (plain_nodes cut 1) (beside cut a b)
expression_layer cut (Expression-F.Not a) = beside cut (plain_nodes cut 1) a
expression_layer cut (Expression-F.Cast a w) = beside cut (plain_nodes cut 1) a

-- an expression
abbrev pub expression_size : Cut → Expression → Size
expression_size cut = fold-Expression Size (expression_layer cut)

-- a part and all of these side by side
abbrev pub all_beside : Cut → Size → List Size → Size
all_beside cut before [] = before
all_beside cut before (s ∷ rest) = all_beside cut (beside cut before s) rest

-- what stands behind an `else`, nothing where there is none
abbrev pub last_size : Option Size → Size
last_size None = nothing
last_size (Some s) = s

-- one layer of a command, where `called` has the size of each procedure: a call is nothing but what it calls, and a
-- procedure that is not there does nothing, which is one command
abbrev pub action_size : Cut → List Size → Action-F Size Size Size Size Size → Size
action_size cut called Action-F.Continue = around cut nothing
action_size cut called Action-F.Halt = around cut nothing
action_size cut called (Action-F.Assign x w e) = around cut (expression_size cut e)
action_size cut called (Action-F.Send c w e) = around cut (expression_size cut e)
action_size cut called (Action-F.Receive c x) = around cut nothing
action_size cut called (Action-F.Sync c) = around cut nothing
action_size cut called (Action-F.Loop body) = around cut body
action_size cut called (Action-F.While e body) = around cut (beside cut (expression_size cut e) body)
action_size cut called (Action-F.If arms last) = around cut (beside cut (all_beside cut nothing arms) (last_size last))
action_size cut called (Action-F.Case e arms last) =
    around cut (beside cut (expression_size cut e) (beside cut (all_beside cut nothing arms) (last_size last)))
action_size cut called (Action-F.Input c body) = around cut body
action_size cut called (Action-F.Select arms) = around cut (all_beside cut nothing arms)
action_size cut called (Action-F.Arbitrate arms) = around cut (all_beside cut nothing arms)
action_size cut called (Action-F.Sequence children) = around cut (all_beside cut nothing children)
action_size cut called (Action-F.Parallel children) = around cut (all_beside cut nothing children)
action_size cut called (Action-F.Call p arguments) = slice_index_or called p (around cut nothing)

-- an arm of `select` or `arbitrate`
abbrev pub arm_size : Arm-F Size Size Size Size Size → Size
arm_size a = a.body

-- a command, whatever its line
abbrev pub command_size : Command-F Size Size Size Size Size → Size
command_size c = c.action

-- an arm of `if`: its guard counts
abbrev pub guarded_size : Cut → Guarded-F Size Size Size Size Size → Size
guarded_size cut a = beside cut (expression_size cut a.guard) a.body

-- an arm of `case`: its labels count nothing
abbrev pub labelled_size : Labelled-F Size Size Size Size Size → Size
labelled_size a = a.body

-- a command with its calls replaced
abbrev pub size_of : Cut → List Size → Command → Size
size_of cut called =
    fold-Command Size Size Size Size Size (action_size cut called) arm_size command_size
    (guarded_size cut) labelled_size

-- a procedure where it is called: a node for each local, and its body
abbrev pub procedure_size : Cut → List Size → Procedure → Size
procedure_size cut called p = beside cut (plain_nodes cut (length p.locals)) (size_of cut called p.body)

-- the procedures in order, each of which calls those before it
abbrev pub sizes_onto : Cut → List Size → List Procedure → List Size
sizes_onto cut called [] = called
sizes_onto cut called (p ∷ ps) = sizes_onto cut (called ++ procedure_size cut called p ∷ []) ps

-- the last procedure, with a node for each of its ports and for each value that the environment sends
abbrev pub system_size : Cut → List Procedure → ℕ → ℕ → Size
system_size cut ps ports values =
    let sizes = sizes_onto cut [] ps in
    let last = slice_index_or sizes (length sizes - 1) (around cut nothing) in
    beside cut last (beside cut (plain_nodes cut ports) (plain_nodes cut values))

-- how many values are given for a port of this kind, whose entry, if it has one, is this
abbrev pub sent : PortKind → Option Entry → ℕ
sent (kind.Input width) entry = length (values_of entry)
sent (kind.Output width) entry = 0
sent kind.Sync entry = 0

-- for all of these ports
abbrev pub sent_on : List Entry → List Port → ℕ
sent_on entries [] = 0
sent_on entries (p ∷ ports) = sent p.kind (entry_named entries p.name) + sent_on entries ports

-- the description with what is given for its ports
abbrev pub source_size : List Procedure → List Entry → Size
source_size ps entries = system_size whole ps (length (root_ports ps)) (sent_on entries (root_ports ps))
