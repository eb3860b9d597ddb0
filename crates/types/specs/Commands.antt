-- Commands: what they become where names are visible and channels are open.
use Rattle.std.specs.Prelude.{ℕ, List, [], ◌∷◌, ◌++◌, map, Option, Some, None, nat_le, nat_eq, if◌then◌else◌, Ok, Err}
use Rattle.types.specs.Arms.{GuardedArm, LabelledArm, guarded, conditional, judged_labels, labelled, cased, arm_of, distinct}
use Rattle.types.specs.Calls.{called}
use Rattle.types.specs.Expressions.{if_one_bit, judged_expression}
use Rattle.types.specs.Findings.{Verdict, Keeping, Findings, becomes, if_right, both, all}
use Rattle.types.specs.Names.{VisibleNames, find}
use Rattle.types.specs.Uses.{target_use, sending_use, receiving_use, sync_use, arm_use}
use Rattle.types.specs.declared.expression.Valued.{Valued}
use Rattle.refusals.specs.declared.types.Fault.TheVariants.{TooWide}
use Rattle.types.specs.declared.tree.Action.{Action}
use Rattle.types.specs.declared.tree.Action.TheVariants as typed
use Rattle.types.specs.declared.tree.Arm.{Arm}
use Rattle.types.specs.declared.tree.ChannelUse.{ChannelUse}
use Rattle.types.specs.declared.tree.Command.{Command, roll-Command}
use Rattle.types.specs.declared.tree.Binding.{Binding}
use Rattle.types.specs.declared.tree.PortKind.{PortKind}
use Rattle.types.specs.declared.tree.VariableUse.{VariableUse}
use Rattle.syntax.specs.declared.command.Action.TheFolds.{fold-Command}
use Rattle.syntax.specs.declared.command.Action.TheOpen.{Action-F, Arm-F, CaseArm-F, Command-F, Guarded-F}
use Rattle.syntax.specs.declared.command.Command as syntax
use Rattle.syntax.specs.declared.expression.Expr.{Expr, out-Expr}
use Rattle.syntax.specs.declared.name.Identifier.{Identifier}

-- the visible names, and the ports of the visible procedures
pub record Scope : Type 0 where
  pub names : VisibleNames
  pub procedures : List (List PortKind)

-- the first byte of an expression
abbrev pub start_of : Expr → ℕ
start_of e = (out-Expr e).span.start

-- ---- names

abbrev pub target : Identifier → Scope → List Binding → Verdict (VariableUse × ℕ)
target name scope opened = target_use (find scope.names opened name.name) name.span.start

abbrev pub sender : Identifier → Scope → List Binding → Verdict (ChannelUse × ℕ)
sender name scope opened = sending_use (find scope.names opened name.name) name.span.start

abbrev pub receiver : Identifier → Scope → List Binding → Verdict (ChannelUse × ℕ)
receiver name scope opened = receiving_use (find scope.names opened name.name) name.span.start

-- the channels that are open inside an arm on the channel; what is no such channel opens none
abbrev pub opened_by : List Binding → Verdict ChannelUse → List Binding
opened_by opened (Ok found) = opened ++ found.channel ∷ []
opened_by opened (Err fault) = opened

abbrev pub channel_alone : Verdict (ChannelUse × ℕ) → Verdict ChannelUse
channel_alone channel = becomes (λ p. p.0) channel

-- the command on the line that does the action
abbrev pub command_of : ℕ → Action → Command
command_of line action = roll-Command (record { line = line; action = action })

-- ---- what a command is, whatever way its faults are kept

module _ (k : Keeping) where
  -- what a command is in this scope where these channels are open
  abbrev pub Judged : Type 0 → Type 0
  Judged A = Scope → List Binding → Findings k A

  abbrev pub value : Expr → Judged Valued
  value e scope opened = judged_expression k e scope.names opened

  -- a value is no wider than the variable that it is assigned to
  unfoldable pub assignment : Verdict (VariableUse × ℕ) → Findings k Valued → ℕ → Findings k Action
  assignment target value start = if_right (both k (k.alone target) value) (λ p.
      k.alone (if nat_le p.1.width p.0.1 then Ok (typed.Assign p.0.0 p.0.1 p.1.expression) else Err (TooWide start)))

  -- a value is no wider than the channel that it is sent on
  unfoldable pub sending : Verdict (ChannelUse × ℕ) → Findings k Valued → ℕ → Findings k Action
  sending channel value start = if_right (both k (k.alone channel) value) (λ p.
      k.alone (if nat_le p.1.width p.0.1 then Ok (typed.Send p.0.0 p.0.1 p.1.expression) else Err (TooWide start)))

  -- a channel is no wider than the variable that it is received into
  unfoldable pub receiving : Verdict (ChannelUse × ℕ) → Verdict (VariableUse × ℕ) → Findings k Action
  receiving channel target = if_right (both k (k.alone channel) (k.alone target)) (λ p.
      k.alone (if nat_le p.0.1 p.1.1 then Ok (typed.Receive p.0.0 p.1.0) else Err (TooWide p.1.0.offset)))

  -- the guard of a loop is one bit wide
  unfoldable pub guarded_loop : Findings k Valued → ℕ → Findings k Command → Findings k Action
  guarded_loop guard start body = if_right (both k guard body) (λ p.
      k.alone (if_one_bit p.0.width start (typed.While p.0.expression p.1)))

  unfoldable pub enclosing : Verdict (ChannelUse × ℕ) → Findings k Command → Findings k Action
  enclosing channel body = becomes (λ p. typed.Input p.0.0 p.1) (both k (k.alone channel) body)

  abbrev pub last_of : Option (Judged Command) → Judged (Option Command)
  last_of None scope opened = Ok None
  last_of (Some body) scope opened = becomes (λ c. Some c) (body scope opened)

  -- each of the commands or arms
  abbrev pub each : {A : Type 0} → List (Judged A) → Judged (List A)
  each children scope opened = all k (map (λ child. child scope opened) children)

  -- one layer of what a command does, one line a form
  abbrev pub action_layer : Action-F (Judged Action) (Judged Arm) (Judged LabelledArm) (Judged Command)
      (Judged GuardedArm) → Judged Action
  action_layer Action-F.Continue scope opened = Ok typed.Continue
  action_layer Action-F.Halt scope opened = Ok typed.Halt
  action_layer (Action-F.Sync c) scope opened =
      k.alone (becomes (λ u. typed.Sync u) (sync_use (find scope.names opened c.name) c.span.start))
  action_layer (Action-F.Loop body) scope opened = becomes (λ b. typed.Loop b) (body scope opened)
  action_layer (Action-F.While guard body) scope opened =
      guarded_loop (value guard scope opened) (start_of guard) (body scope opened)
  action_layer (Action-F.If arms last) scope opened =
      conditional k (each arms scope opened) (last_of last scope opened)
  action_layer (Action-F.Case subject arms last) scope opened =
      cased k (value subject scope opened) (each arms scope opened) (last_of last scope opened)
  action_layer (Action-F.Select arms) scope opened =
      becomes (λ these. typed.Select these) (distinct k (each arms scope opened))
  action_layer (Action-F.Arbitrate first second) scope opened =
      becomes (λ these. typed.Arbitrate these) (distinct k (each (first ∷ second ∷ []) scope opened))
  action_layer (Action-F.Assign x e) scope opened =
      assignment (target x scope opened) (value e scope opened) (start_of e)
  action_layer (Action-F.Send c e) scope opened = sending (sender c scope opened) (value e scope opened) (start_of e)
  action_layer (Action-F.Receive c x) scope opened = receiving (receiver c scope opened) (target x scope opened)
  action_layer (Action-F.Input c body) scope opened =
      enclosing (receiver c scope opened) (body scope (opened_by opened (channel_alone (receiver c scope opened))))
  action_layer (Action-F.Call p arguments) scope opened = called k scope.names scope.procedures opened p arguments
  action_layer (Action-F.Sequence children) scope opened =
      becomes (λ cs. typed.Sequence cs) (each children scope opened)
  action_layer (Action-F.Parallel children) scope opened =
      becomes (λ cs. typed.Parallel cs) (each children scope opened)

  abbrev pub arm_layer : Arm-F (Judged Action) (Judged Arm) (Judged LabelledArm) (Judged Command) (Judged GuardedArm) →
      Judged Arm
  arm_layer a scope opened =
      let channel = arm_use (find scope.names opened a.channel.name) a.channel.span.start in
      arm_of k channel (a.body scope (opened_by opened channel))

  abbrev pub case_arm_layer : CaseArm-F (Judged Action) (Judged Arm) (Judged LabelledArm) (Judged Command)
      (Judged GuardedArm) → Judged LabelledArm
  case_arm_layer a scope opened = labelled k (judged_labels k scope.names opened a.labels) (a.body scope opened)

  abbrev pub command_layer : Command-F (Judged Action) (Judged Arm) (Judged LabelledArm) (Judged Command)
      (Judged GuardedArm) → Judged Command
  command_layer c scope opened = becomes (command_of c.span.line) (c.action scope opened)

  abbrev pub guarded_layer : Guarded-F (Judged Action) (Judged Arm) (Judged LabelledArm) (Judged Command)
      (Judged GuardedArm) → Judged GuardedArm
  guarded_layer a scope opened = guarded k (value a.guard scope opened) (start_of a.guard) (a.body scope opened)

  -- what a command is
  abbrev pub judged_command : syntax.Command → Judged Command
  judged_command =
      fold-Command (Judged Action) (Judged Arm) (Judged LabelledArm) (Judged Command)
      (Judged GuardedArm) action_layer arm_layer case_arm_layer command_layer guarded_layer
