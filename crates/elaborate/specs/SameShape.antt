-- What a body is in a system: each command one of the same form on the same line, each name the number of the variable
-- or channel that it stands for, and each call the body of its procedure. It is said by cases on the command of the
-- procedure and that of the system, in no word of how a system is made. (What is made by `roll-` of a form is that form
-- as it stands in a procedure.)
use Rattle.std.specs.Prelude.{◌≡◌, ℕ, ◌+◌, List, [], ◌∷◌, ◌++◌, Option, Some, None, true, false, slice_get, take}
use Rattle.value.specs.Word.{Word}
use Rattle.value.specs.declared.Comparison.TheVariants as comparison
use Rattle.syntax.specs.Texts.{Text}
use Rattle.syntax.specs.declared.expression.Operator as written
use Rattle.syntax.specs.declared.expression.Operator.TheVariants as of_source
use Rattle.system.specs.Named.{prefix_of_call}
use Rattle.system.specs.declared.command.Action as tree
use Rattle.system.specs.declared.command.Action.TheViews as action
use Rattle.system.specs.declared.command.Arm as tree_arm
use Rattle.system.specs.declared.command.Command as tree_command
use Rattle.system.specs.declared.command.Guarded as tree_guarded
use Rattle.system.specs.declared.command.Labelled as tree_labelled
use Rattle.system.specs.declared.expression.Expression as named
use Rattle.system.specs.declared.expression.Expression.TheViews as expression
use Rattle.system.specs.declared.expression.Operator as elaborated
use Rattle.system.specs.declared.expression.Operator.TheVariants as of_system
use Rattle.system.specs.declared.expression.Use.{Use}
use Rattle.system.specs.declared.system.Channel.{Channel}
use Rattle.system.specs.declared.system.ChannelKind.TheVariants as channel
use Rattle.system.specs.declared.system.System.{System}
use Rattle.system.specs.declared.system.Variable.{Variable}
use Rattle.types.specs.declared.tree.Action.{Action}
use Rattle.types.specs.declared.tree.Action.TheOpen.{Action-F}
use Rattle.types.specs.declared.tree.Action.TheViews.{roll-Action, roll-Arm, roll-Command, roll-Guarded, roll-Labelled}
use Rattle.types.specs.declared.tree.Arm.{Arm}
use Rattle.types.specs.declared.tree.Binding.{Binding}
use Rattle.types.specs.declared.tree.Binding.TheVariants as binding
use Rattle.types.specs.declared.tree.ChannelUse.{ChannelUse}
use Rattle.types.specs.declared.tree.Command.{Command}
use Rattle.types.specs.declared.tree.Expression.{Expression}
use Rattle.types.specs.declared.tree.Expression.TheOpen.{Expression-F}
use Rattle.types.specs.declared.tree.Expression.TheViews.{roll-Expression}
use Rattle.types.specs.declared.tree.Guarded.{Guarded}
use Rattle.types.specs.declared.tree.Labelled.{Labelled}
use Rattle.types.specs.declared.tree.Local.{Local}
use Rattle.types.specs.declared.tree.LocalKind.{LocalKind}
use Rattle.types.specs.declared.tree.LocalKind.TheVariants as local
use Rattle.types.specs.declared.tree.Port.{Port}
use Rattle.types.specs.declared.tree.PortKind.{PortKind}
use Rattle.types.specs.declared.tree.PortKind.TheVariants as port
use Rattle.types.specs.declared.tree.Procedure.{Procedure}
use Rattle.types.specs.declared.tree.VariableUse.{VariableUse}

-- How a body stands in a system: the procedures that it may call, its own, what stands before the names of its locals
-- there, and the channel of each of its ports.
pub record Standing : Type 0 where
  pub earlier : List Procedure
  pub procedure : Procedure
  pub prefix : Text
  pub ports : List ℕ

-- in the call behind so many others of a body that stands so, of the procedure of this number
abbrev pub in_call : Standing → ℕ → ℕ → Procedure → List ℕ → Standing
in_call at passed p procedure ports = record {
  earlier = take p at.earlier;
  procedure = procedure;
  prefix = prefix_of_call at.prefix (passed + 1);
  ports = ports;
}

-- the channels of the ports of a root: they are numbered as the ports are
abbrev pub numbers_from : ℕ → List Port → List ℕ
numbers_from n [] = []
numbers_from n (q ∷ ports) = n ∷ numbers_from (n + 1) ports

-- ---- names

-- a variable of the system, if there is one, is the local of this name and kind (a name for a value is no channel)
abbrev pub IsVariable : Text → LocalKind → Option Variable → Type 0
IsVariable name (local.Variable w) found = found ≡ Some (record { name = name; width = w; shared = false })
IsVariable name (local.SharedVariable w) found = found ≡ Some (record { name = name; width = w; shared = true })
IsVariable name (local.Channel w) found = Unit {0}
IsVariable name local.Sync found = Unit {0}

-- a channel of the system is the local of this name and kind, declared there (a name for a channel is no variable)
abbrev pub IsChannel : Text → ℕ → LocalKind → Option Channel → Type 0
IsChannel name declared (local.Variable w) found = Unit {0}
IsChannel name declared (local.SharedVariable w) found = Unit {0}
IsChannel name declared (local.Channel w) found =
    found ≡ Some (record { name = name; kind = channel.Data w; declared = declared })
IsChannel name declared local.Sync found =
    found ≡ Some (record { name = name; kind = channel.Sync; declared = declared })

-- a channel of the system is the port of this name and kind, declared there
abbrev pub IsPort : Text → ℕ → PortKind → Option Channel → Type 0
IsPort name declared (port.Input w) found =
    found ≡ Some (record { name = name; kind = channel.Data w; declared = declared })
IsPort name declared (port.Output w) found =
    found ≡ Some (record { name = name; kind = channel.Data w; declared = declared })
IsPort name declared port.Sync found =
    found ≡ Some (record { name = name; kind = channel.Sync; declared = declared })

-- ---- expressions

-- the operator that is written so
pub data SameOperator : written.Operator → elaborated.Operator → Type 0 where
  add : SameOperator of_source.Add of_system.Add
  subtract : SameOperator of_source.Subtract of_system.Subtract
  both : SameOperator of_source.And of_system.And
  either : SameOperator of_source.Or of_system.Or
  one : SameOperator of_source.Xor of_system.Xor
  equal : SameOperator of_source.Equal (of_system.Compare comparison.Equal)
  unequal : SameOperator of_source.NotEqual (of_system.Compare comparison.NotEqual)
  less : SameOperator of_source.Less (of_system.Compare comparison.Less)
  greater : SameOperator of_source.Greater (of_system.Compare comparison.Greater)
  at_most : SameOperator of_source.LessOrEqual (of_system.Compare comparison.LessOrEqual)
  at_least : SameOperator of_source.GreaterOrEqual (of_system.Compare comparison.GreaterOrEqual)

-- in this system
module _ (system : System) where
  -- the number is that of the variable which this local is
  abbrev pub MeansVariable : Standing → ℕ → ℕ → Type 0
  MeansVariable at place number =
      (l : Local) → slice_get at.procedure.locals place ≡ Some l →
      IsVariable (at.prefix ++ l.name) l.kind (slice_get system.variables number)

  -- the number is that of the channel for which this port stands, or which this local is
  abbrev pub MeansChannel : Standing → Binding → ℕ → Type 0
  MeansChannel at (binding.Port place) number =
      (channel : ℕ) → slice_get at.ports place ≡ Some channel → number ≡ channel
  MeansChannel at (binding.Local place) number =
      (l : Local) → slice_get at.procedure.locals place ≡ Some l →
      IsChannel (at.prefix ++ l.name) l.declared l.kind (slice_get system.channels number)

  -- each local has a number, that of the variable or channel which it is
  abbrev pub HasLocals : Standing → Type 0
  HasLocals at =
      (place : ℕ) → (number : ℕ) × MeansVariable at place number × MeansChannel at (binding.Local place) number

  -- these are the channels of the arguments, in order
  abbrev pub MeanChannels : Standing → List ChannelUse → List ℕ → Type 0
  MeanChannels at [] [] = Unit {0}
  MeanChannels at [] (c ∷ cs) = ⊥
  MeanChannels at (u ∷ us) [] = ⊥
  MeanChannels at (u ∷ us) (c ∷ cs) = MeansChannel at u.channel c × MeanChannels at us cs

  -- both use the same variable at the same offset
  abbrev pub SameVariable : Standing → VariableUse → Use → Type 0
  SameVariable at u x = (u.offset ≡ x.offset) × MeansVariable at u.variable x.number

  -- both use the same channel at the same offset
  abbrev pub SameChannel : Standing → ChannelUse → Use → Type 0
  SameChannel at u c = (u.offset ≡ c.offset) × MeansChannel at u.channel c.number

  -- the same expression
  pub data SameExpression (at : Standing) : Expression → named.Expression → Type 0 where
    constant : (v : Word) → SameExpression at (roll-Expression (Expression-F.Constant v)) (named.Constant v)
    variable : (u : VariableUse) (x : Use) (w : ℕ) → SameVariable at u x →
        SameExpression at (roll-Expression (Expression-F.Variable u w)) (named.Variable x w)
    received : (b : Binding) (c w : ℕ) → MeansChannel at b c →
        SameExpression at (roll-Expression (Expression-F.Received b w)) (named.Received c w)
    binary : (op : written.Operator) (o : elaborated.Operator) (d e : Expression) (f g : named.Expression) →
        SameOperator op o → SameExpression at d f → SameExpression at e g →
        SameExpression at (roll-Expression (Expression-F.Binary op d e)) (expression.Binary o f g)
    complement : (e : Expression) (f : named.Expression) → SameExpression at e f →
        SameExpression at (roll-Expression (Expression-F.Not e)) (expression.Not f)
    cast : (e : Expression) (f : named.Expression) (w : ℕ) → SameExpression at e f →
        SameExpression at (roll-Expression (Expression-F.Cast e w)) (expression.Cast f w)

  -- ---- commands, each with the number of the calls that stand before it in its body, and before what is behind it

  mutual
    pub data SameCommand : Standing → ℕ → Command → ℕ → tree_command.Command → Type 0 where
      -- the same command, on the same line
      on_line : (at : Standing) (line m n : ℕ) (a : Action) (b : tree.Action) → SameAction at m a n b →
          SameCommand at m (roll-Command (record { line = line; action = a })) n (record { line = line; action = b })
      -- the next call of the body: the body of its procedure stands there, over locals of its own with the call's number
      -- before their names, and with the channels of the arguments for its ports
      called : (at : Standing) (line m p n : ℕ) (arguments : List ChannelUse) (procedure : Procedure) (ports : List ℕ)
          (body : tree_command.Command) →
          slice_get at.earlier p ≡ Some procedure → MeanChannels at arguments ports →
          HasLocals (in_call at m p procedure ports) →
          SameCommand (in_call at m p procedure ports) 0 procedure.body n body →
          SameCommand at m (roll-Command (record { line = line; action = roll-Action (Action-F.Call p arguments) }))
          (m + 1) body
      -- a procedure that is not there does nothing (a typed description calls none)
      missing : (at : Standing) (line m p : ℕ) (arguments : List ChannelUse) → slice_get at.earlier p ≡ None →
          SameCommand at m (roll-Command (record { line = line; action = roll-Action (Action-F.Call p arguments) }))
          (m + 1) (record { line = 0; action = tree.Continue })

    -- each is the same
    pub data SameCommands : Standing → ℕ → List Command → ℕ → List tree_command.Command → Type 0 where
      no_commands : (at : Standing) (m : ℕ) → SameCommands at m [] m []
      more_commands : (at : Standing) (m k n : ℕ) (c : Command) (d : tree_command.Command) (cs : List Command)
          (ds : List tree_command.Command) → SameCommand at m c k d → SameCommands at k cs n ds →
          SameCommands at m (c ∷ cs) n (d ∷ ds)

    -- so is what stands behind an `else`, if anything does
    pub data SameLast : Standing → ℕ → Option Command → ℕ → Option tree_command.Command → Type 0 where
      no_last : (at : Standing) (m : ℕ) → SameLast at m None m None
      the_last : (at : Standing) (m n : ℕ) (c : Command) (d : tree_command.Command) → SameCommand at m c n d →
          SameLast at m (Some c) n (Some d)

    -- the same arms of an `if`
    pub data SameGuarded : Standing → ℕ → List Guarded → ℕ → List tree_guarded.Guarded → Type 0 where
      no_guarded : (at : Standing) (m : ℕ) → SameGuarded at m [] m []
      more_guarded : (at : Standing) (m k n : ℕ) (e : Expression) (f : named.Expression) (c : Command)
          (d : tree_command.Command) (arms : List Guarded) (these : List tree_guarded.Guarded) →
          SameExpression at e f → SameCommand at m c k d → SameGuarded at k arms n these →
          SameGuarded at m (roll-Guarded (record { guard = e; body = c }) ∷ arms)
          n ((let a : tree_guarded.Guarded = record { guard = f; body = d } in a) ∷ these)

    -- the same arms of a `case`
    pub data SameLabelled : Standing → ℕ → List Labelled → ℕ → List tree_labelled.Labelled → Type 0 where
      no_labelled : (at : Standing) (m : ℕ) → SameLabelled at m [] m []
      more_labelled : (at : Standing) (m k n : ℕ) (labels : List ℕ) (c : Command) (d : tree_command.Command)
          (arms : List Labelled) (these : List tree_labelled.Labelled) →
          SameCommand at m c k d → SameLabelled at k arms n these →
          SameLabelled at m (roll-Labelled (record { labels = labels; body = c }) ∷ arms)
          n ((let a : tree_labelled.Labelled = record { labels = labels; body = d } in a) ∷ these)

    -- the same arms of a `select` or an `arbitrate`
    pub data SameArms : Standing → ℕ → List Arm → ℕ → List tree_arm.Arm → Type 0 where
      no_arms : (at : Standing) (m : ℕ) → SameArms at m [] m []
      more_arms : (at : Standing) (m k n : ℕ) (u : ChannelUse) (x : Use) (c : Command) (d : tree_command.Command)
          (arms : List Arm) (these : List tree_arm.Arm) →
          SameChannel at u x → SameCommand at m c k d → SameArms at k arms n these →
          SameArms at m (roll-Arm (record { channel = u; body = c }) ∷ arms)
          n ((let a : tree_arm.Arm = record { channel = x; body = d } in a) ∷ these)

    -- does the same, one case a form
    pub data SameAction : Standing → ℕ → Action → ℕ → tree.Action → Type 0 where
      continue : (at : Standing) (m : ℕ) → SameAction at m (roll-Action Action-F.Continue) m tree.Continue
      halt : (at : Standing) (m : ℕ) → SameAction at m (roll-Action Action-F.Halt) m tree.Halt
      assign : (at : Standing) (m : ℕ) (u : VariableUse) (x : Use) (w : ℕ) (e : Expression) (f : named.Expression) →
          SameVariable at u x → SameExpression at e f →
          SameAction at m (roll-Action (Action-F.Assign u w e)) m (tree.Assign x w f)
      send : (at : Standing) (m : ℕ) (u : ChannelUse) (c : Use) (w : ℕ) (e : Expression) (f : named.Expression) →
          SameChannel at u c → SameExpression at e f →
          SameAction at m (roll-Action (Action-F.Send u w e)) m (tree.Send c w f)
      receive : (at : Standing) (m : ℕ) (u : ChannelUse) (c : Use) (v : VariableUse) (x : Use) →
          SameChannel at u c → SameVariable at v x →
          SameAction at m (roll-Action (Action-F.Receive u v)) m (tree.Receive c x)
      sync : (at : Standing) (m : ℕ) (u : ChannelUse) (c : Use) → SameChannel at u c →
          SameAction at m (roll-Action (Action-F.Sync u)) m (tree.Sync c)
      loop : (at : Standing) (m n : ℕ) (c : Command) (d : tree_command.Command) → SameCommand at m c n d →
          SameAction at m (roll-Action (Action-F.Loop c)) n (action.Loop d)
      while : (at : Standing) (m n : ℕ) (e : Expression) (f : named.Expression) (c : Command)
          (d : tree_command.Command) → SameExpression at e f → SameCommand at m c n d →
          SameAction at m (roll-Action (Action-F.While e c)) n (action.While f d)
      test : (at : Standing) (m k n : ℕ) (arms : List Guarded) (these : List tree_guarded.Guarded)
          (last : Option Command) (end : Option tree_command.Command) →
          SameGuarded at m arms k these → SameLast at k last n end →
          SameAction at m (roll-Action (Action-F.If arms last)) n (action.If these end)
      case : (at : Standing) (m k n : ℕ) (e : Expression) (f : named.Expression) (arms : List Labelled)
          (these : List tree_labelled.Labelled) (last : Option Command) (end : Option tree_command.Command) →
          SameExpression at e f → SameLabelled at m arms k these → SameLast at k last n end →
          SameAction at m (roll-Action (Action-F.Case e arms last)) n (action.Case f these end)
      input : (at : Standing) (m n : ℕ) (u : ChannelUse) (x : Use) (c : Command) (d : tree_command.Command) →
          SameChannel at u x → SameCommand at m c n d →
          SameAction at m (roll-Action (Action-F.Input u c)) n (action.Input x d)
      select : (at : Standing) (m n : ℕ) (arms : List Arm) (these : List tree_arm.Arm) →
          SameArms at m arms n these →
          SameAction at m (roll-Action (Action-F.Select arms)) n (action.Select these)
      arbitrate : (at : Standing) (m n : ℕ) (arms : List Arm) (these : List tree_arm.Arm) →
          SameArms at m arms n these →
          SameAction at m (roll-Action (Action-F.Arbitrate arms)) n (action.Arbitrate these)
      sequence : (at : Standing) (m n : ℕ) (cs : List Command) (ds : List tree_command.Command) →
          SameCommands at m cs n ds →
          SameAction at m (roll-Action (Action-F.Sequence cs)) n (action.Sequence ds)
      parallel : (at : Standing) (m n : ℕ) (cs : List Command) (ds : List tree_command.Command) →
          SameCommands at m cs n ds →
          SameAction at m (roll-Action (Action-F.Parallel cs)) n (action.Parallel ds)
