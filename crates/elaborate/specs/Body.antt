-- A body with other bodies for its calls, by cases on its commands.
use Rattle.std.specs.Prelude.{ℕ, List, [], ◌∷◌, ◌++◌, drop, length, Option, Some, None}
use Rattle.elaborate.specs.Naming.{Names, channel_use, variable_use, expression_in}
use Rattle.system.specs.declared.command.Action as tree
use Rattle.system.specs.declared.command.Action.TheViews as action
use Rattle.system.specs.declared.command.Arm as tree_arm
use Rattle.system.specs.declared.command.Command as tree_command
use Rattle.system.specs.declared.command.Guarded as tree_guarded
use Rattle.system.specs.declared.command.Labelled as tree_labelled
use Rattle.types.specs.declared.tree.ChannelUse.{ChannelUse}
use Rattle.types.specs.declared.tree.Command.{Command}
use Rattle.types.specs.declared.tree.Action.TheOpen.{Action-F, Arm-F, Command-F, Guarded-F, Labelled-F}
use Rattle.types.specs.declared.tree.Action.TheFolds.{fold-Command}

-- a call that stands in a body
pub record Call : Type 0 where
  pub procedure : ℕ
  pub arguments : List ChannelUse

-- A part of a body: the calls that stand in it, in the order of the source, and what it becomes where its names stand
-- for these and the first of these bodies stand for its calls.
pub record Part (X : Type 0) : Type 0 where
  pub calls : List Call
  pub becomes : Names → List tree_command.Command → X

-- a part without calls
abbrev pub plain : {X : Type 0} → (Names → X) → Part X
plain f = record { calls = []; becomes = λ names bodies. f names }

-- more around a part
abbrev pub around : {X Y : Type 0} → (Names → X → Y) → Part X → Part Y
around f p = record { calls = p.calls; becomes = λ names bodies. f names (p.becomes names bodies) }

-- a part and the next one, whose calls come behind those of the first
abbrev pub both : {X Y : Type 0} → Part X → Part Y → Part (X × Y)
both p q = record {
  calls = p.calls ++ q.calls;
  becomes = λ names bodies. (p.becomes names bodies, q.becomes names (drop (length p.calls) bodies));
}

-- parts in order
abbrev pub all : {X : Type 0} → List (Part X) → Part (List X)
all {X = X} [] = plain {X = List X} (λ names. [])
all {X = X} (p ∷ ps) = around {X = X × List X} {Y = List X} (λ names r. r.0 ∷ r.1) (both p (all ps))

-- what stands behind an `else`, if there is one
abbrev pub if_any : {X : Type 0} → Option (Part X) → Part (Option X)
if_any {X = X} None = plain {X = Option X} (λ names. None)
if_any {X = X} (Some p) = around {X = X} {Y = Option X} (λ names x. Some x) p

-- the command on a line that does this
abbrev pub command : ℕ → tree.Action → tree_command.Command
command line a = record { line = line; action = a }

-- does nothing
abbrev pub nothing_to_do : tree_command.Command
nothing_to_do = command 0 tree.Continue

-- the first body (there is one for each call)
abbrev pub first_of : List tree_command.Command → tree_command.Command
first_of [] = nothing_to_do
first_of (body ∷ bodies) = body

-- what the parts of a command are
abbrev pub ActionPart : Type 0
ActionPart = ℕ → Part tree_command.Command

abbrev pub ArmPart : Type 0
ArmPart = Part tree_arm.Arm

abbrev pub CommandPart : Type 0
CommandPart = Part tree_command.Command

abbrev pub GuardedPart : Type 0
GuardedPart = Part tree_guarded.Guarded

abbrev pub LabelledPart : Type 0
LabelledPart = Part tree_labelled.Labelled

-- one layer of a command on a line, one line a form: a call is the body that stands for it, and nothing around it
abbrev pub action_part : Action-F ActionPart ArmPart CommandPart GuardedPart LabelledPart → ActionPart
action_part Action-F.Continue line = plain (λ names. command line tree.Continue)
action_part Action-F.Halt line = plain (λ names. command line tree.Halt)
action_part (Action-F.Assign x w e) line =
    plain (λ names. command line (tree.Assign (variable_use names x) w (expression_in names e)))
action_part (Action-F.Send c w e) line =
    plain (λ names. command line (tree.Send (channel_use names c) w (expression_in names e)))
action_part (Action-F.Receive c x) line =
    plain (λ names. command line (tree.Receive (channel_use names c) (variable_use names x)))
action_part (Action-F.Sync c) line = plain (λ names. command line (tree.Sync (channel_use names c)))
action_part (Action-F.Loop body) line = around (λ names b. command line (action.Loop b)) body
action_part (Action-F.While e body) line =
    around (λ names b. command line (action.While (expression_in names e) b)) body
action_part (Action-F.If arms last) line =
    around (λ names r. command line (action.If r.0 r.1)) (both (all arms) (if_any last))
action_part (Action-F.Case e arms last) line =
    around (λ names r. command line (action.Case (expression_in names e) r.0 r.1)) (both (all arms) (if_any last))
action_part (Action-F.Input c body) line =
    around (λ names b. command line (action.Input (channel_use names c) b)) body
action_part (Action-F.Select arms) line = around (λ names these. command line (action.Select these)) (all arms)
action_part (Action-F.Arbitrate arms) line = around (λ names these. command line (action.Arbitrate these)) (all arms)
action_part (Action-F.Sequence children) line =
    around (λ names these. command line (action.Sequence these)) (all children)
action_part (Action-F.Parallel children) line =
    around (λ names these. command line (action.Parallel these)) (all children)
action_part (Action-F.Call p arguments) line =
    record { calls = record { procedure = p; arguments = arguments } ∷ []; becomes = λ names bodies. first_of bodies }

-- an arm of `select` or `arbitrate`
abbrev pub arm_part : Arm-F ActionPart ArmPart CommandPart GuardedPart LabelledPart → ArmPart
arm_part a = around {Y = tree_arm.Arm} (λ names b. record { channel = channel_use names a.channel; body = b }) a.body

-- a command: its action, on its line
abbrev pub command_part : Command-F ActionPart ArmPart CommandPart GuardedPart LabelledPart → CommandPart
command_part c = c.action c.line

-- an arm of `if`
abbrev pub guarded_part : Guarded-F ActionPart ArmPart CommandPart GuardedPart LabelledPart → GuardedPart
guarded_part a =
    around {Y = tree_guarded.Guarded} (λ names b. record { guard = expression_in names a.guard; body = b }) a.body

-- an arm of `case`
abbrev pub labelled_part : Labelled-F ActionPart ArmPart CommandPart GuardedPart LabelledPart → LabelledPart
labelled_part a = around {Y = tree_labelled.Labelled} (λ names b. record { labels = a.labels; body = b }) a.body

-- a command
abbrev pub part_of : Command → CommandPart
part_of =
    fold-Command ActionPart ArmPart CommandPart GuardedPart LabelledPart
    action_part arm_part command_part guarded_part labelled_part
