-- What a body is in a system, by cases.
use Rattle.std.proofs.Common.{◌≡◌, ℕ, ◌+◌, List, [], ◌∷◌, ◌++◌, Option, Some, None, map, option_map, length, drop, refl, sym, subst, arith, length-append}
use Rattle.elaborate.specs.Body as body
use Rattle.elaborate.specs.Body.{Call, Part, both, all, if_any, first_of, part_of, action_part, arm_part, command_part, guarded_part, labelled_part}
use Rattle.elaborate.specs.Naming.{Names, expression_in, expression_layer, channel_at, channel_use, channels_of, variable_use, number_at, operator_of}
use Rattle.elaborate.specs.SameShape as same
use Rattle.elaborate.specs.SameShape.{Standing, SameOperator, SameExpression, SameCommand, SameCommands, SameLast, SameGuarded, SameLabelled, SameArms, SameAction, SameVariable, SameChannel, MeansVariable, MeansChannel, MeanChannels}
use Rattle.elaborate.proofs.PartFolds.{PartOnLine, part_of_action, part_of_arm, part_of_guarded, part_of_labelled, With}
use Rattle.syntax.specs.declared.expression.Operator.{Operator}
use Rattle.syntax.specs.declared.expression.Operator.TheVariants as written
use Rattle.system.specs.declared.command.Action as tree
use Rattle.system.specs.declared.command.Arm as tree_arm
use Rattle.system.specs.declared.command.Command as tree_command
use Rattle.system.specs.declared.command.Guarded as tree_guarded
use Rattle.system.specs.declared.command.Labelled as tree_labelled
use Rattle.system.specs.declared.expression.Expression as named
use Rattle.system.specs.declared.system.System.{System}
use Rattle.types.specs.declared.tree.Action.{Action}
use Rattle.types.specs.declared.tree.Arm.{Arm}
use Rattle.types.specs.declared.tree.Binding.{Binding}
use Rattle.types.specs.declared.tree.ChannelUse.{ChannelUse}
use Rattle.types.specs.declared.tree.Command.{Command}
use Rattle.types.specs.declared.tree.Expression.{Expression}
use Rattle.types.specs.declared.tree.Guarded.{Guarded}
use Rattle.types.specs.declared.tree.Labelled.{Labelled}
use Rattle.types.specs.declared.tree.VariableUse.{VariableUse}
use Rattle.types.specs.declared.tree.Action.TheOpen.{Action-F, Arm-F, Command-F, Guarded-F, Labelled-F}
use Rattle.types.specs.declared.tree.Action.TheFolds.{map-Action, fold-roll-Action, fold-roll-Arm, fold-roll-Command, fold-roll-Guarded, fold-roll-Labelled, ind-Command}
use Rattle.types.specs.declared.tree.Action.TheViews.{roll-Action, roll-Arm, roll-Command, roll-Guarded, roll-Labelled}
use Rattle.types.specs.declared.tree.Expression.TheOpen.{Expression-F}
use Rattle.types.specs.declared.tree.Expression.TheFolds.{map-Expression, fold-roll-Expression, ind-Expression}
use Rattle.types.specs.declared.tree.Expression.TheViews.{roll-Expression}

abbrev Bodies : Type 0
Bodies = List tree_command.Command

-- the same where the calls are counted otherwise
as_many : (P : ℕ → Type 0) (m n : ℕ) → m ≡ n → P m → P n
as_many P m n e = subst P e

-- ---- operators

same_operator : (op : Operator) → SameOperator op (operator_of op)
same_operator written.Add = same.add
same_operator written.Subtract = same.subtract
same_operator written.And = same.both
same_operator written.Or = same.either
same_operator written.Xor = same.one
same_operator written.Equal = same.equal
same_operator written.NotEqual = same.unequal
same_operator written.Less = same.less
same_operator written.Greater = same.greater
same_operator written.LessOrEqual = same.at_most
same_operator written.GreaterOrEqual = same.at_least

-- in a system, where the names of a body stand for what they mean
module _ (system : System) (at : Standing) (names : Names)
    (variables : (place : ℕ) → MeansVariable system at place (number_at names.locals place))
    (channels : (b : Binding) → MeansChannel system at b (channel_at names b)) where
  same_variable : (u : VariableUse) → SameVariable system at u (variable_use names u)
  same_variable u = (refl, variables u.variable)

  same_channel : (u : ChannelUse) → SameChannel system at u (channel_use names u)
  same_channel u = (refl, channels u.channel)

  pub same_channels : (us : List ChannelUse) → MeanChannels system at us (channels_of names us)
  same_channels [] = tt
  same_channels (u ∷ us) = (channels u.channel, same_channels us)

  -- ---- expressions

  abbrev Keeps : Expression → Type 0
  Keeps e = SameExpression system at e (expression_in names e)

  layer_kept : (y : Expression-F (With Keeps)) →
      SameExpression system at (roll-Expression (map-Expression (With Keeps) Expression (λ e. e.0) y))
      (expression_layer names (map-Expression Expression named.Expression (expression_in names) (map-Expression (With Keeps) Expression (λ e. e.0) y)))
  layer_kept (Expression-F.Constant v) = same.constant v
  layer_kept (Expression-F.Variable u w) = same.variable u (variable_use names u) w (same_variable u)
  layer_kept (Expression-F.Received b w) = same.received b (channel_at names b) w (channels b)
  layer_kept (Expression-F.Binary op a b) =
      same.binary op (operator_of op) a.0 b.0 (expression_in names a.0) (expression_in names b.0) (same_operator op) a.1 b.1
  layer_kept (Expression-F.Not a) = same.complement a.0 (expression_in names a.0) a.1
  layer_kept (Expression-F.Cast a w) = same.cast a.0 (expression_in names a.0) w a.1

  expression_kept : (e : Expression) → Keeps e
  expression_kept =
      ind-Expression Keeps
      (λ x y e. subst (λ z. Keeps (roll-Expression z)) e
      (subst (λ f. SameExpression system at (roll-Expression (map-Expression (With Keeps) Expression (λ e. e.0) y)) f)
      (sym (fold-roll-Expression named.Expression (expression_layer names) _)) (layer_kept y)))

  -- ---- calls

  abbrev call_on : ℕ → Call → Command
  call_on line c = roll-Command (record { line = line; action = roll-Action (Action-F.Call c.procedure c.arguments) })

  -- these bodies are those of these calls, before which so many stand in the body around them
  abbrev pub Matches : ℕ → List Call → Bodies → Type 0
  Matches m [] bs = Unit {0}
  Matches m (c ∷ cs) [] = ⊥
  Matches m (c ∷ cs) (b ∷ bs) = ((line : ℕ) → SameCommand system at m (call_on line c) (m + 1) b) × Matches (m + 1) cs bs

  first_match : (m : ℕ) (cs ds : List Call) (bs : Bodies) → Matches m (cs ++ ds) bs → Matches m cs bs
  first_match m [] ds bs h = tt
  first_match m (c ∷ cs) ds [] h = h
  first_match m (c ∷ cs) ds (b ∷ bs) h = (h.0, first_match (m + 1) cs ds bs h.1)

  next_match : (m : ℕ) (cs ds : List Call) (bs : Bodies) → Matches m (cs ++ ds) bs → Matches (m + length cs) ds (drop (length cs) bs)
  next_match m [] ds bs h = as_many (λ k. Matches k ds bs) m (m + 0) (omega arith) h
  next_match m (c ∷ cs) ds [] h = absurd h
  next_match m (c ∷ cs) ds (b ∷ bs) h =
      as_many (λ k. Matches k ds (drop (length cs) bs)) (m + 1 + length cs) (m + length (c ∷ cs)) (omega arith) (next_match (m + 1) cs ds bs h.1)

  -- ---- commands

  abbrev on_line : ℕ → Action → Command
  on_line line a = roll-Command (record { line = line; action = a })

  -- so many calls stand before what is behind the part
  abbrev behind : {X : Type 0} → ℕ → Part X → ℕ
  behind m part = m + length part.calls

  abbrev ActionKeeps : Action → Type 0
  ActionKeeps a = (line m : ℕ) (bs : Bodies) → Matches m (part_of_action a line).calls bs
      → SameCommand system at m (on_line line a) (behind m (part_of_action a line)) ((part_of_action a line).becomes names bs)

  abbrev CommandKeeps : Command → Type 0
  CommandKeeps c = (m : ℕ) (bs : Bodies) → Matches m (part_of c).calls bs → SameCommand system at m c (behind m (part_of c)) ((part_of c).becomes names bs)

  abbrev ArmKeeps : Arm → Type 0
  ArmKeeps a = (m n : ℕ) (bs : Bodies) (arms : List Arm) (these : List tree_arm.Arm) → Matches m (part_of_arm a).calls bs
      → SameArms system at (behind m (part_of_arm a)) arms n these → SameArms system at m (a ∷ arms) n ((part_of_arm a).becomes names bs ∷ these)

  abbrev GuardedKeeps : Guarded → Type 0
  GuardedKeeps a = (m n : ℕ) (bs : Bodies) (arms : List Guarded) (these : List tree_guarded.Guarded) → Matches m (part_of_guarded a).calls bs
      → SameGuarded system at (behind m (part_of_guarded a)) arms n these → SameGuarded system at m (a ∷ arms) n ((part_of_guarded a).becomes names bs ∷ these)

  abbrev LabelledKeeps : Labelled → Type 0
  LabelledKeeps a = (m n : ℕ) (bs : Bodies) (arms : List Labelled) (these : List tree_labelled.Labelled) → Matches m (part_of_labelled a).calls bs
      → SameLabelled system at (behind m (part_of_labelled a)) arms n these → SameLabelled system at m (a ∷ arms) n ((part_of_labelled a).becomes names bs ∷ these)

  -- parts in order
  module _ {Z X : Type 0} (S : ℕ → List Z → ℕ → List X → Type 0) (part : Z → Part X) (none : (m : ℕ) → S m [] m []) where
    abbrev OneKeeps : Z → Type 0
    OneKeeps z = (m n : ℕ) (bs : Bodies) (zs : List Z) (xs : List X) → Matches m (part z).calls bs → S (behind m (part z)) zs n xs
        → S m (z ∷ zs) n ((part z).becomes names bs ∷ xs)

    all_kept : (ys : List (With OneKeeps)) (m : ℕ) (bs : Bodies) → Matches m (all (map part (map (λ e. e.0) ys))).calls bs
        → S m (map (λ e. e.0) ys) (behind m (all (map part (map (λ e. e.0) ys)))) ((all (map part (map (λ e. e.0) ys))).becomes names bs)
    all_kept [] m bs matches = as_many (λ k. S m [] k []) m (m + 0) (omega arith) (none m)
    all_kept (y ∷ ys) m bs matches =
        let zs = map (λ e. e.0) ys in
        let one = part y.0 in
        let rest = all (map part zs) in
        let far = drop (length one.calls) bs in
        let next = all_kept ys (behind m one) far (next_match m one.calls rest.calls bs matches) in
        let many : behind (behind m one) rest ≡ m + length (one.calls ++ rest.calls) = omega (arith, length-append one.calls rest.calls) in
        y.1 m (m + length (one.calls ++ rest.calls)) bs zs (rest.becomes names far) (first_match m one.calls rest.calls bs matches)
        (as_many (λ k. S (behind m one) zs k (rest.becomes names far)) (behind (behind m one) rest) (m + length (one.calls ++ rest.calls)) many next)

  one_command : (y : With CommandKeeps) → OneKeeps (SameCommands system at) part_of (same.no_commands at) y.0
  one_command y m n bs zs xs matches rest = same.more_commands at m (behind m (part_of y.0)) n y.0 ((part_of y.0).becomes names bs) zs xs (y.1 m bs matches) rest

  commands_kept : (ys : List (With CommandKeeps)) (m : ℕ) (bs : Bodies) → Matches m (all (map part_of (map (λ e. e.0) ys))).calls bs
      → SameCommands system at m (map (λ e. e.0) ys) (behind m (all (map part_of (map (λ e. e.0) ys)))) ((all (map part_of (map (λ e. e.0) ys))).becomes names bs)
  commands_kept [] m bs matches = as_many (λ k. SameCommands system at m [] k []) m (m + 0) (omega arith) (same.no_commands at m)
  commands_kept (y ∷ ys) m bs matches =
      let zs = map (λ e. e.0) ys in
      let one = part_of y.0 in
      let rest = all (map part_of zs) in
      let far = drop (length one.calls) bs in
      let next = commands_kept ys (behind m one) far (next_match m one.calls rest.calls bs matches) in
      let many : behind (behind m one) rest ≡ m + length (one.calls ++ rest.calls) = omega (arith, length-append one.calls rest.calls) in
      one_command y m (m + length (one.calls ++ rest.calls)) bs zs (rest.becomes names far) (first_match m one.calls rest.calls bs matches)
      (as_many (λ k. SameCommands system at (behind m one) zs k (rest.becomes names far)) (behind (behind m one) rest) (m + length (one.calls ++ rest.calls)) many next)

  -- what stands behind an `else`
  last_kept : (last : Option (With CommandKeeps)) (m : ℕ) (bs : Bodies) → Matches m (if_any (option_map part_of (option_map (λ e. e.0) last))).calls bs
      → SameLast system at m (option_map (λ e. e.0) last) (behind m (if_any (option_map part_of (option_map (λ e. e.0) last))))
      ((if_any (option_map part_of (option_map (λ e. e.0) last))).becomes names bs)
  last_kept None m bs matches = as_many (λ k. SameLast system at m None k None) m (m + 0) (omega arith) (same.no_last at m)
  last_kept (Some c) m bs matches = same.the_last at m (behind m (part_of c.0)) c.0 ((part_of c.0).becomes names bs) (c.1 m bs matches)

  -- arms and what stands behind an `else`
  module _ (line m : ℕ) (bs : Bodies) (last : Option (With CommandKeeps)) where
    abbrev end : Part (Option tree_command.Command)
    end = if_any (option_map part_of (option_map (λ e. e.0) last))

    if_kept : (arms : List (With GuardedKeeps)) → let these = all (map part_of_guarded (map (λ e. e.0) arms)) in
        Matches m (these.calls ++ end.calls) bs
        → SameCommand system at m (on_line line (roll-Action (Action-F.If (map (λ e. e.0) arms) (option_map (λ e. e.0) last))))
        (m + length (these.calls ++ end.calls))
        ((action_part (Action-F.If (map part_of_guarded (map (λ e. e.0) arms)) (option_map part_of (option_map (λ e. e.0) last))) line).becomes names bs)
    if_kept arms matches =
        let zs = map (λ e. e.0) arms in
        let these = all (map part_of_guarded zs) in
        let far = drop (length these.calls) bs in
        let many : behind (behind m these) end ≡ m + length (these.calls ++ end.calls) = omega (arith, length-append these.calls end.calls) in
        let behind_arms = last_kept last (behind m these) far (next_match m these.calls end.calls bs matches) in
        same.on_line at line m (m + length (these.calls ++ end.calls)) _ _
        (same.test at m (behind m these) (m + length (these.calls ++ end.calls)) zs (these.becomes names bs) (option_map (λ e. e.0) last) (end.becomes names far)
        (all_kept (SameGuarded system at) part_of_guarded (same.no_guarded at) arms m bs (first_match m these.calls end.calls bs matches))
        (as_many (λ k. SameLast system at (behind m these) (option_map (λ e. e.0) last) k (end.becomes names far)) (behind (behind m these) end) (m + length (these.calls ++ end.calls)) many behind_arms))

    case_kept : (e : Expression) (arms : List (With LabelledKeeps)) → let these = all (map part_of_labelled (map (λ e. e.0) arms)) in
        Matches m (these.calls ++ end.calls) bs
        → SameCommand system at m (on_line line (roll-Action (Action-F.Case e (map (λ e. e.0) arms) (option_map (λ e. e.0) last))))
        (m + length (these.calls ++ end.calls))
        ((action_part (Action-F.Case e (map part_of_labelled (map (λ e. e.0) arms)) (option_map part_of (option_map (λ e. e.0) last))) line).becomes names bs)
    case_kept e arms matches =
        let zs = map (λ e. e.0) arms in
        let these = all (map part_of_labelled zs) in
        let far = drop (length these.calls) bs in
        let many : behind (behind m these) end ≡ m + length (these.calls ++ end.calls) = omega (arith, length-append these.calls end.calls) in
        let behind_arms = last_kept last (behind m these) far (next_match m these.calls end.calls bs matches) in
        same.on_line at line m (m + length (these.calls ++ end.calls)) _ _
        (same.case at m (behind m these) (m + length (these.calls ++ end.calls)) e (expression_in names e) zs (these.becomes names bs) (option_map (λ e. e.0) last) (end.becomes names far)
        (expression_kept e)
        (all_kept (SameLabelled system at) part_of_labelled (same.no_labelled at) arms m bs (first_match m these.calls end.calls bs matches))
        (as_many (λ k. SameLast system at (behind m these) (option_map (λ e. e.0) last) k (end.becomes names far)) (behind (behind m these) end) (m + length (these.calls ++ end.calls)) many behind_arms))

  -- layers without the proofs of their parts
  abbrev action_of : Action-F (With ActionKeeps) (With ArmKeeps) (With CommandKeeps) (With GuardedKeeps) (With LabelledKeeps) → Action-F Action Arm Command Guarded Labelled
  action_of y =
      map-Action (With ActionKeeps) (With ArmKeeps) (With CommandKeeps) (With GuardedKeeps) (With LabelledKeeps) Action Arm Command Guarded Labelled
      (λ e. e.0) (λ e. e.0) (λ e. e.0) (λ e. e.0) (λ e. e.0) y

  abbrev arm_of : Arm-F (With ActionKeeps) (With ArmKeeps) (With CommandKeeps) (With GuardedKeeps) (With LabelledKeeps) → Arm-F Action Arm Command Guarded Labelled
  arm_of y = record { channel = y.channel; body = y.body.0 }

  abbrev command_of : Command-F (With ActionKeeps) (With ArmKeeps) (With CommandKeeps) (With GuardedKeeps) (With LabelledKeeps) → Command-F Action Arm Command Guarded Labelled
  command_of y = record { line = y.line; action = y.action.0 }

  abbrev guarded_of : Guarded-F (With ActionKeeps) (With ArmKeeps) (With CommandKeeps) (With GuardedKeeps) (With LabelledKeeps) → Guarded-F Action Arm Command Guarded Labelled
  guarded_of y = record { guard = y.guard; body = y.body.0 }

  abbrev labelled_of : Labelled-F (With ActionKeeps) (With ArmKeeps) (With CommandKeeps) (With GuardedKeeps) (With LabelledKeeps) → Labelled-F Action Arm Command Guarded Labelled
  labelled_of y = record { labels = y.labels; body = y.body.0 }

  -- the part of a layer
  abbrev layer_part : Action-F (With ActionKeeps) (With ArmKeeps) (With CommandKeeps) (With GuardedKeeps) (With LabelledKeeps) → PartOnLine
  layer_part y =
      action_part (map-Action Action Arm Command Guarded Labelled PartOnLine (Part tree_arm.Arm) (Part tree_command.Command) (Part tree_guarded.Guarded) (Part tree_labelled.Labelled)
      part_of_action part_of_arm part_of part_of_guarded part_of_labelled (action_of y))

  -- a command without calls
  alone : (line m : ℕ) (a : Action) (b : tree.Action) → SameAction system at m a m b → SameCommand system at m (on_line line a) (m + 0) (body.command line b)
  alone line m a b h = as_many (λ k. SameCommand system at m (on_line line a) k (body.command line b)) m (m + 0) (omega arith) (same.on_line at line m m a b h)

  action_kept : (y : Action-F (With ActionKeeps) (With ArmKeeps) (With CommandKeeps) (With GuardedKeeps) (With LabelledKeeps)) (line m : ℕ) (bs : Bodies) → Matches m (layer_part y line).calls bs
      → SameCommand system at m (on_line line (roll-Action (action_of y))) (behind m (layer_part y line)) ((layer_part y line).becomes names bs)
  action_kept Action-F.Continue line m bs matches = alone line m _ _ (same.continue at m)
  action_kept Action-F.Halt line m bs matches = alone line m _ _ (same.halt at m)
  action_kept (Action-F.Assign u w e) line m bs matches =
      alone line m _ _ (same.assign at m u (variable_use names u) w e (expression_in names e) (same_variable u) (expression_kept e))
  action_kept (Action-F.Send u w e) line m bs matches =
      alone line m _ _ (same.send at m u (channel_use names u) w e (expression_in names e) (same_channel u) (expression_kept e))
  action_kept (Action-F.Receive u v) line m bs matches =
      alone line m _ _ (same.receive at m u (channel_use names u) v (variable_use names v) (same_channel u) (same_variable v))
  action_kept (Action-F.Sync u) line m bs matches = alone line m _ _ (same.sync at m u (channel_use names u) (same_channel u))
  action_kept (Action-F.Loop c) line m bs matches =
      same.on_line at line m _ _ _ (same.loop at m (behind m (part_of c.0)) c.0 ((part_of c.0).becomes names bs) (c.1 m bs matches))
  action_kept (Action-F.While e c) line m bs matches =
      same.on_line at line m _ _ _ (same.while at m (behind m (part_of c.0)) e (expression_in names e) c.0 ((part_of c.0).becomes names bs) (expression_kept e) (c.1 m bs matches))
  action_kept (Action-F.If arms None) line m bs matches = if_kept line m bs None arms matches
  action_kept (Action-F.If arms (Some last)) line m bs matches = if_kept line m bs (Some last) arms matches
  action_kept (Action-F.Case e arms None) line m bs matches = case_kept line m bs None e arms matches
  action_kept (Action-F.Case e arms (Some last)) line m bs matches = case_kept line m bs (Some last) e arms matches
  action_kept (Action-F.Input u c) line m bs matches =
      same.on_line at line m _ _ _ (same.input at m (behind m (part_of c.0)) u (channel_use names u) c.0 ((part_of c.0).becomes names bs) (same_channel u) (c.1 m bs matches))
  action_kept (Action-F.Select arms) line m bs matches =
      same.on_line at line m _ _ _ (same.select at m _ _ _ (all_kept (SameArms system at) part_of_arm (same.no_arms at) arms m bs matches))
  action_kept (Action-F.Arbitrate arms) line m bs matches =
      same.on_line at line m _ _ _ (same.arbitrate at m _ _ _ (all_kept (SameArms system at) part_of_arm (same.no_arms at) arms m bs matches))
  action_kept (Action-F.Sequence children) line m bs matches = same.on_line at line m _ _ _ (same.sequence at m _ _ _ (commands_kept children m bs matches))
  action_kept (Action-F.Parallel children) line m bs matches = same.on_line at line m _ _ _ (same.parallel at m _ _ _ (commands_kept children m bs matches))
  action_kept (Action-F.Call p arguments) line m bs matches = one (record { procedure = p; arguments = arguments }) bs matches
    where
      one : (c : Call) (bs : Bodies) → Matches m (c ∷ []) bs → SameCommand system at m (call_on line c) (m + 1) (first_of bs)
      one c [] matches = absurd matches
      one c (b ∷ bs) matches = matches.0 line

  pub command_kept : (c : Command) → CommandKeeps c
  command_kept =
      ind-Command ActionKeeps ArmKeeps CommandKeeps GuardedKeeps LabelledKeeps
      (λ x y e. subst (λ z. ActionKeeps (roll-Action z)) e
      (subst (λ (q : PartOnLine). (line m : ℕ) (bs : Bodies) → Matches m (q line).calls bs
      → SameCommand system at m (on_line line (roll-Action (action_of y))) (behind m (q line)) ((q line).becomes names bs))
      (sym (fold-roll-Action PartOnLine (Part tree_arm.Arm) (Part tree_command.Command) (Part tree_guarded.Guarded) (Part tree_labelled.Labelled) action_part arm_part command_part guarded_part labelled_part _)) (action_kept y)))
      (λ x y e. subst (λ z. ArmKeeps (roll-Arm z)) e
      (subst (λ (q : Part tree_arm.Arm). (m n : ℕ) (bs : Bodies) (arms : List Arm) (these : List tree_arm.Arm) → Matches m q.calls bs
      → SameArms system at (behind m q) arms n these → SameArms system at m (roll-Arm (arm_of y) ∷ arms) n (q.becomes names bs ∷ these))
      (sym (fold-roll-Arm PartOnLine (Part tree_arm.Arm) (Part tree_command.Command) (Part tree_guarded.Guarded) (Part tree_labelled.Labelled) action_part arm_part command_part guarded_part labelled_part _))
      (λ m n bs arms these matches rest.
      same.more_arms at m (behind m (part_of y.body.0)) n y.channel (channel_use names y.channel) y.body.0 ((part_of y.body.0).becomes names bs) arms these
      (same_channel y.channel) (y.body.1 m bs matches) rest)))
      (λ x y e. subst (λ z. CommandKeeps (roll-Command z)) e
      (subst (λ (q : Part tree_command.Command). (m : ℕ) (bs : Bodies) → Matches m q.calls bs
      → SameCommand system at m (roll-Command (command_of y)) (behind m q) (q.becomes names bs))
      (sym (fold-roll-Command PartOnLine (Part tree_arm.Arm) (Part tree_command.Command) (Part tree_guarded.Guarded) (Part tree_labelled.Labelled) action_part arm_part command_part guarded_part labelled_part _))
      (λ m bs matches. y.action.1 y.line m bs matches)))
      (λ x y e. subst (λ z. GuardedKeeps (roll-Guarded z)) e
      (subst (λ (q : Part tree_guarded.Guarded). (m n : ℕ) (bs : Bodies) (arms : List Guarded) (these : List tree_guarded.Guarded) → Matches m q.calls bs
      → SameGuarded system at (behind m q) arms n these → SameGuarded system at m (roll-Guarded (guarded_of y) ∷ arms) n (q.becomes names bs ∷ these))
      (sym (fold-roll-Guarded PartOnLine (Part tree_arm.Arm) (Part tree_command.Command) (Part tree_guarded.Guarded) (Part tree_labelled.Labelled) action_part arm_part command_part guarded_part labelled_part _))
      (λ m n bs arms these matches rest.
      same.more_guarded at m (behind m (part_of y.body.0)) n y.guard (expression_in names y.guard) y.body.0 ((part_of y.body.0).becomes names bs) arms these
      (expression_kept y.guard) (y.body.1 m bs matches) rest)))
      (λ x y e. subst (λ z. LabelledKeeps (roll-Labelled z)) e
      (subst (λ (q : Part tree_labelled.Labelled). (m n : ℕ) (bs : Bodies) (arms : List Labelled) (these : List tree_labelled.Labelled) → Matches m q.calls bs
      → SameLabelled system at (behind m q) arms n these → SameLabelled system at m (roll-Labelled (labelled_of y) ∷ arms) n (q.becomes names bs ∷ these))
      (sym (fold-roll-Labelled PartOnLine (Part tree_arm.Arm) (Part tree_command.Command) (Part tree_guarded.Guarded) (Part tree_labelled.Labelled) action_part arm_part command_part guarded_part labelled_part _))
      (λ m n bs arms these matches rest.
      same.more_labelled at m (behind m (part_of y.body.0)) n y.labels y.body.0 ((part_of y.body.0).becomes names bs) arms these
      (y.body.1 m bs matches) rest)))
