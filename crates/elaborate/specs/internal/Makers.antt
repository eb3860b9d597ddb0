-- The body of a procedure with its calls replaced, as it is made: each command means a tree and what is made then.
-- Calls are counted up to the last number of 64 bits. No reader has to believe it: `proofs/Factored.antt` and
-- `proofs/Expanded.antt` tie it to `Body.antt` and `Calls.antt`.
use Rattle.std.specs.Prelude.{ℕ, ◌+◌, min, List, [], ◌∷◌, ◌++◌, Option, Some, None, slice_index_or}
use Rattle.elaborate.specs.internal.Instances.{channel_use, variable_use, expression_in, entrance_of}
use Rattle.elaborate.specs.internal.Making.{locals_onto, instance_of, entered}
use Rattle.elaborate.specs.declared.made.Made.{Made}
use Rattle.elaborate.specs.declared.instance.Instance.{Instance}
use Rattle.elaborate.specs.declared.instance.Entrance.{Entrance}
use Rattle.system.specs.declared.command.Action as tree
use Rattle.system.specs.declared.command.Action.TheViews as action
use Rattle.system.specs.declared.command.Arm as tree_arm
use Rattle.system.specs.declared.command.Command as tree_command
use Rattle.system.specs.declared.command.Guarded as tree_guarded
use Rattle.system.specs.declared.command.Labelled as tree_labelled
use Rattle.types.specs.declared.tree.Command.{Command}
use Rattle.types.specs.declared.tree.Procedure.{Procedure}
use Rattle.types.specs.declared.tree.Action.TheOpen.{Action-F, Arm-F, Command-F, Guarded-F, Labelled-F}
use Rattle.types.specs.declared.tree.Action.TheFolds.{fold-Command}

-- something and what is made then
abbrev pub WithMade : Type 0 → Type 0
WithMade X = X × Made

-- what is made of a part, where its names stand for these and so much is made already
abbrev pub Maker : Type 0 → Type 0
Maker X = Instance → Made → WithMade X

-- what is made of a procedure, entered so
abbrev pub ProcedureMaker : Type 0
ProcedureMaker = Entrance → Made → WithMade tree_command.Command

-- the command on a line that does this
abbrev pub command : ℕ → tree.Action → tree_command.Command
command line a = record { line = line; action = a }

-- a command of this action over what was made
abbrev pub around : {X : Type 0} → ℕ → (X → tree.Action) → WithMade X → WithMade tree_command.Command
around line f r = (command line (f r.0), r.1)

-- parts one after another
abbrev pub all_onto : {X : Type 0} → List X → List (Maker X) → Maker (List X)
all_onto done [] instance made = (done, made)
all_onto done (m ∷ ms) instance made = all_onto (done ++ (m instance made).0 ∷ []) ms instance (m instance made).1

-- what stands behind an `else`, if there is one
abbrev pub last_of : Option (Maker tree_command.Command) → Maker (Option tree_command.Command)
last_of None instance made = (None, made)
last_of (Some m) instance made = (Some (m instance made).0, (m instance made).1)

-- the number of the next call in a body, from 1
abbrev pub next_call : Made → ℕ
next_call made = min (made.calls + 1) 18446744073709551615

-- what is made, after this call
abbrev pub after_call : {X : Type 0} → ℕ → WithMade X → WithMade X
after_call call r = (r.0, record r.1 { calls = call })

-- a procedure that is not there does nothing
abbrev pub missing : ProcedureMaker
missing entrance made = (command 0 tree.Continue, made)

-- a call is what the procedure makes, with numbers of its own
abbrev pub called : List ProcedureMaker → ℕ → ProcedureMaker
called procedures p = slice_index_or procedures p missing

-- arms and a last one, one after another
abbrev pub arms_and_last : {X : Type 0} → List (Maker X) → Option (Maker tree_command.Command) →
    Maker (List X × Option tree_command.Command)
arms_and_last arms last instance made =
    let all = all_onto [] arms instance made in let end = last_of last instance all.1 in ((all.0, end.0), end.1)

-- one layer of a command on a line, where `procedures` has what each procedure before makes
abbrev pub action_maker : List ProcedureMaker
    → Action-F (ℕ → Maker tree_command.Command) (Maker tree_arm.Arm) (Maker tree_command.Command)
    (Maker tree_guarded.Guarded) (Maker tree_labelled.Labelled)
    → ℕ → Maker tree_command.Command
action_maker ps Action-F.Continue line instance made = (command line tree.Continue, made)
action_maker ps Action-F.Halt line instance made = (command line tree.Halt, made)
action_maker ps (Action-F.Assign x w e) line instance made =
    (command line (tree.Assign (variable_use instance x) w (expression_in instance e)), made)
action_maker ps (Action-F.Send c w e) line instance made =
    (command line (tree.Send (channel_use instance c) w (expression_in instance e)), made)
action_maker ps (Action-F.Receive c x) line instance made =
    (command line (tree.Receive (channel_use instance c) (variable_use instance x)), made)
action_maker ps (Action-F.Sync c) line instance made = (command line (tree.Sync (channel_use instance c)), made)
action_maker ps (Action-F.Loop body) line instance made = around line action.Loop (body instance made)
action_maker ps (Action-F.While e body) line instance made =
    around line (action.While (expression_in instance e)) (body instance made)
action_maker ps (Action-F.If arms last) line instance made =
    around line (λ r. action.If r.0 r.1) (arms_and_last arms last instance made)
action_maker ps (Action-F.Case e arms last) line instance made =
    around line (λ r. action.Case (expression_in instance e) r.0 r.1) (arms_and_last arms last instance made)
action_maker ps (Action-F.Input c body) line instance made =
    around line (action.Input (channel_use instance c)) (body instance made)
action_maker ps (Action-F.Select arms) line instance made = around line action.Select (all_onto [] arms instance made)
action_maker ps (Action-F.Arbitrate arms) line instance made =
    around line action.Arbitrate (all_onto [] arms instance made)
action_maker ps (Action-F.Sequence children) line instance made =
    around line action.Sequence (all_onto [] children instance made)
action_maker ps (Action-F.Parallel children) line instance made =
    around line action.Parallel (all_onto [] children instance made)
action_maker ps (Action-F.Call p arguments) line instance made =
    after_call (next_call made) (called ps p (entrance_of instance arguments (next_call made)) made)

-- an arm of `select` or `arbitrate`
abbrev pub arm_maker : Arm-F (ℕ → Maker tree_command.Command) (Maker tree_arm.Arm) (Maker tree_command.Command)
    (Maker tree_guarded.Guarded) (Maker tree_labelled.Labelled)
    → Maker tree_arm.Arm
arm_maker a instance made =
    let body = a.body instance made in (record { channel = channel_use instance a.channel; body = body.0 }, body.1)

-- a command: its action, on its line
abbrev pub command_maker : Command-F (ℕ → Maker tree_command.Command) (Maker tree_arm.Arm) (Maker tree_command.Command)
    (Maker tree_guarded.Guarded) (Maker tree_labelled.Labelled)
    → Maker tree_command.Command
command_maker c instance made = c.action c.line instance made

-- an arm of `if`
abbrev pub guarded_maker : Guarded-F (ℕ → Maker tree_command.Command) (Maker tree_arm.Arm) (Maker tree_command.Command)
    (Maker tree_guarded.Guarded) (Maker tree_labelled.Labelled)
    → Maker tree_guarded.Guarded
guarded_maker a instance made =
    let body = a.body instance made in (record { guard = expression_in instance a.guard; body = body.0 }, body.1)

-- an arm of `case`
abbrev pub labelled_maker : Labelled-F (ℕ → Maker tree_command.Command) (Maker tree_arm.Arm)
    (Maker tree_command.Command) (Maker tree_guarded.Guarded) (Maker tree_labelled.Labelled)
    → Maker tree_labelled.Labelled
labelled_maker a instance made = let body =
    a.body instance made in (record { labels = a.labels; body = body.0 }, body.1)

-- what is made of a command
abbrev pub maker_of : List ProcedureMaker → Command → Maker tree_command.Command
maker_of ps =
    fold-Command (ℕ → Maker tree_command.Command) (Maker tree_arm.Arm) (Maker tree_command.Command)
    (Maker tree_guarded.Guarded) (Maker tree_labelled.Labelled)
    (action_maker ps) arm_maker command_maker guarded_maker labelled_maker

-- what is made of a procedure: its locals and then its body, whose calls are counted from 1
abbrev pub procedure_maker : List ProcedureMaker → Procedure → ProcedureMaker
procedure_maker ps p entrance made =
    let locals = locals_onto [] entrance.prefix made p.locals in
    maker_of ps p.body (instance_of entrance locals) (entered locals)

-- the procedures in order, each of which calls those before it
abbrev pub makers_onto : List ProcedureMaker → List Procedure → List ProcedureMaker
makers_onto ps [] = ps
makers_onto ps (p ∷ rest) = makers_onto (ps ++ procedure_maker ps p ∷ []) rest

-- what each of the procedures makes
abbrev pub makers : List Procedure → List ProcedureMaker
makers procedures = makers_onto [] procedures
