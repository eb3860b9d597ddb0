-- What is answered of an expression or a command is the least of all its faults.
use Rattle.std.proofs.Common.{◌≡◌, ℕ, List, [], ◌∷◌, map, flat_map, Option, Some, None, Ok, Err, refl, ap, sym, subst, ◌∙◌}
use Rattle.types.specs.Arms.{GuardedArm, LabelledArm, typed_guarded, one_bit, typed_labelled, new_labels, new_channels, channel_of_arm, guarded, conditional, labelled, cased, arm_of, distinct, judged_label, judged_labels, opened_arm}
use Rattle.types.specs.Calls.{called, judged_argument}
use Rattle.types.specs.Commands.{Scope, Judged, start_of, command_of, value, action_layer, arm_layer, case_arm_layer, command_layer, guarded_layer, each, judged_command, assignment, sending, receiving, guarded_loop, enclosing, target, sender, receiver, opened_by, channel_alone}
use Rattle.types.specs.Expressions.{JudgedValue, judged_expression, shape_layer, expression_layer, binary, complement, cast, type_width}
use Rattle.types.specs.Findings.{Verdict, Keeping, Findings, both, demands, one_fault, every}
use Rattle.types.specs.Names.{VisibleNames, find}
use Rattle.types.specs.Uses.{arm_use, procedure_use}
use Rattle.types.specs.internal.CommandParts.{judged_action, judged_guarded, judged_labelled, judged_arm}
use Rattle.types.specs.internal.Least.{least}
use Rattle.types.specs.declared.expression.Valued.{Valued}
use Rattle.types.specs.declared.tree.Arm as typed_arm
use Rattle.types.specs.declared.tree.Command as typed_command
use Rattle.types.specs.declared.tree.Action as typed_action
use Rattle.types.specs.declared.tree.Action.TheVariants as action
use Rattle.types.specs.declared.tree.Binding.{Binding}
use Rattle.syntax.specs.declared.command.Action.{Action}
use Rattle.syntax.specs.declared.command.Arm.{Arm}
use Rattle.syntax.specs.declared.command.CaseArm.{CaseArm}
use Rattle.syntax.specs.declared.command.Command.{Command}
use Rattle.syntax.specs.declared.command.Guarded.{Guarded}
use Rattle.syntax.specs.declared.command.Label.{Label}
use Rattle.syntax.specs.declared.command.Action.TheFolds.{map-Action, fold-roll-Action, fold-roll-Arm, fold-roll-CaseArm, fold-roll-Command, fold-roll-Guarded, ind-Command}
use Rattle.syntax.specs.declared.command.Action.TheOpen.{Action-F, Arm-F}
use Rattle.syntax.specs.declared.command.Action.TheViews.{roll-Action, roll-Arm, roll-CaseArm, roll-Command, roll-Guarded}
use Rattle.syntax.specs.declared.expression.Expr.{Expr}
use Rattle.syntax.specs.declared.expression.Shape.{Shape}
use Rattle.syntax.specs.declared.expression.Shape.TheFolds.{map-Shape, fold-Shape, fold-roll-Shape, fold-roll-Expr, ind-Expr}
use Rattle.syntax.specs.declared.expression.Shape.TheOpen.{Shape-F}
use Rattle.syntax.specs.declared.expression.Shape.TheViews.{roll-Expr, roll-Shape}
use Rattle.types.proofs.Least.{answer, answer-one_fault, both_is, becomes_is, joined_is, if_right_is, asked_is, all_is, demands_are, one_fault-each, each_is, With}

-- ---- expressions

abbrev judged_shape : (k : Keeping) → Shape → ℕ → JudgedValue k
judged_shape k = fold-Shape (ℕ → JudgedValue k) (JudgedValue k) (shape_layer k) (expression_layer k)

abbrev ShapeAgrees : Shape → Type 0
ShapeAgrees s = (start : ℕ) (names : VisibleNames) (opened : List Binding) → answer (judged_shape every s start names opened) ≡ judged_shape least s start names opened

abbrev ExpressionAgrees : Expr → Type 0
ExpressionAgrees x = (names : VisibleNames) (opened : List Binding) → answer (judged_expression every x names opened) ≡ judged_expression least x names opened

abbrev open_shape : (k : Keeping) → Shape-F (With ShapeAgrees) (With ExpressionAgrees) → ℕ → JudgedValue k
open_shape k y = shape_layer k (map-Shape Shape Expr (ℕ → JudgedValue k) (JudgedValue k) (judged_shape k) (judged_expression k)
    (map-Shape (With ShapeAgrees) (With ExpressionAgrees) Shape Expr (λ x. x.0) (λ x. x.0) y))

shape_agrees : (y : Shape-F (With ShapeAgrees) (With ExpressionAgrees)) (start : ℕ) (names : VisibleNames) (opened : List Binding)
    → answer (open_shape every y start names opened) ≡ open_shape least y start names opened
unfolding binary
shape_agrees (Shape-F.Number n) start names opened = refl
shape_agrees (Shape-F.Name name) start names opened = answer-one_fault _
shape_agrees (Shape-F.Binary op a b) start names opened =
    asked_is (judged_expression every a.0 names opened) (judged_expression every b.0 names opened) _ _ _ (a.1 names opened) (b.1 names opened)
shape_agrees (Shape-F.Not a) start names opened = becomes_is complement (judged_expression every a.0 names opened) _ (a.1 names opened)
shape_agrees (Shape-F.Cast a type) start names opened =
    joined_is (λ p. cast p.0 p.1) (judged_expression every a.0 names opened) (one_fault (type_width names opened type)) _ _ (a.1 names opened) (answer-one_fault _)

pub expression_agrees : (x : Expr) → ExpressionAgrees x
expression_agrees =
    ind-Expr ShapeAgrees ExpressionAgrees
    (λ x y is. subst (λ z. ShapeAgrees (roll-Shape z)) is (λ start names opened.
    ap (λ f. answer (f start names opened)) (fold-roll-Shape (ℕ → JudgedValue every) (JudgedValue every) (shape_layer every) (expression_layer every) _)
    ∙ (shape_agrees y start names opened
    ∙ ap (λ f. f start names opened) (sym (fold-roll-Shape (ℕ → JudgedValue least) (JudgedValue least) (shape_layer least) (expression_layer least) _)))))
    (λ x y is. subst (λ z. ExpressionAgrees (roll-Expr z)) is (λ names opened.
    ap (λ f. answer (f names opened)) (fold-roll-Expr (ℕ → JudgedValue every) (JudgedValue every) (shape_layer every) (expression_layer every) _)
    ∙ (y.shape.1 y.own_start names opened
    ∙ ap (λ f. f names opened) (sym (fold-roll-Expr (ℕ → JudgedValue least) (JudgedValue least) (shape_layer least) (expression_layer least) _)))))

-- ---- what arms owe as a whole

labels_are : (names : VisibleNames) (opened : List Binding) (labels : List Label) → answer (judged_labels every names opened labels) ≡ judged_labels least names opened labels
labels_are names opened labels = all_is _ _ (one_fault-each (judged_label names opened) labels)

conditional_is : (arms : Findings every (List GuardedArm)) (last : Findings every (Option typed_command.Command))
    (a : Verdict (List GuardedArm)) (l : Verdict (Option typed_command.Command))
    → answer arms ≡ a → answer last ≡ l → answer (conditional every arms last) ≡ conditional least a l
unfolding conditional
conditional_is arms last a l x y =
    if_right_is (both every arms last) (both least a l) _ _ (both_is arms last a l x y) (λ p.
    becomes_is (λ u. action.If (map typed_guarded p.0) p.1) (demands every (map one_bit p.0)) _ (demands_are (map one_bit p.0)))

cased_is : (subject : Findings every Valued) (arms : Findings every (List LabelledArm)) (last : Findings every (Option typed_command.Command))
    (s : Verdict Valued) (a : Verdict (List LabelledArm)) (l : Verdict (Option typed_command.Command))
    → answer subject ≡ s → answer arms ≡ a → answer last ≡ l → answer (cased every subject arms last) ≡ cased least s a l
unfolding cased
cased_is subject arms last s a l x y z =
    if_right_is (both every subject (both every arms last)) (both least s (both least a l)) _ _
    (both_is subject (both every arms last) s (both least a l) x (both_is arms last a l y z)) (λ p.
    let ls = new_labels p.0.width [] (flat_map (λ (a : LabelledArm). a.labels) p.1.0) in
    becomes_is (λ u. action.Case p.0.expression (map typed_labelled p.1.0) p.1.1) (demands every ls) _ (demands_are ls))

distinct_is : (arms : Findings every (List typed_arm.Arm)) (a : Verdict (List typed_arm.Arm)) → answer arms ≡ a → answer (distinct every arms) ≡ distinct least a
unfolding distinct
distinct_is arms a x = if_right_is arms a _ _ x (λ these.
    becomes_is (λ u. these) (demands every (new_channels [] (map channel_of_arm these))) _ (demands_are (new_channels [] (map channel_of_arm these))))

-- ---- commands

abbrev ActionAgrees : Action → Type 0
ActionAgrees x = (scope : Scope) (opened : List Binding) → answer (judged_action every x scope opened) ≡ judged_action least x scope opened

abbrev ArmAgrees : Arm → Type 0
ArmAgrees x = (scope : Scope) (opened : List Binding) → answer (judged_arm every x scope opened) ≡ judged_arm least x scope opened

abbrev LabelledAgrees : CaseArm → Type 0
LabelledAgrees x = (scope : Scope) (opened : List Binding) → answer (judged_labelled every x scope opened) ≡ judged_labelled least x scope opened

abbrev CommandAgrees : Command → Type 0
CommandAgrees x = (scope : Scope) (opened : List Binding) → answer (judged_command every x scope opened) ≡ judged_command least x scope opened

abbrev GuardedAgrees : Guarded → Type 0
GuardedAgrees x = (scope : Scope) (opened : List Binding) → answer (judged_guarded every x scope opened) ≡ judged_guarded least x scope opened

abbrev Agreeing : Type 0
Agreeing = Action-F (With ActionAgrees) (With ArmAgrees) (With LabelledAgrees) (With CommandAgrees) (With GuardedAgrees)

abbrev plain : Agreeing → Action-F Action Arm CaseArm Command Guarded
plain y = map-Action (With ActionAgrees) (With ArmAgrees) (With LabelledAgrees) (With CommandAgrees) (With GuardedAgrees) Action Arm CaseArm Command Guarded
    (λ x. x.0) (λ x. x.0) (λ x. x.0) (λ x. x.0) (λ x. x.0) y

abbrev open_action : (k : Keeping) → Action-F Action Arm CaseArm Command Guarded → Judged k typed_action.Action
open_action k y = action_layer k (map-Action Action Arm CaseArm Command Guarded
    (Judged k typed_action.Action) (Judged k typed_arm.Arm) (Judged k LabelledArm) (Judged k typed_command.Command) (Judged k GuardedArm)
    (judged_action k) (judged_arm k) (judged_labelled k) (judged_command k) (judged_guarded k) y)

-- children that agree, in this scope
commands_are : (scope : Scope) (opened : List Binding) (ys : List (With CommandAgrees))
    → answer (each every (map (judged_command every) (map (λ y. y.0) ys)) scope opened) ≡ each least (map (judged_command least) (map (λ y. y.0) ys)) scope opened
commands_are scope opened ys =
    all_is _ _ (each_is CommandAgrees (judged_command every) (judged_command least) (λ child. child scope opened) (λ child. child scope opened) (λ x same. same scope opened) ys)

arms_are : (scope : Scope) (opened : List Binding) (ys : List (With ArmAgrees))
    → answer (each every (map (judged_arm every) (map (λ y. y.0) ys)) scope opened) ≡ each least (map (judged_arm least) (map (λ y. y.0) ys)) scope opened
arms_are scope opened ys =
    all_is _ _ (each_is ArmAgrees (judged_arm every) (judged_arm least) (λ child. child scope opened) (λ child. child scope opened) (λ x same. same scope opened) ys)

case_arms_are : (scope : Scope) (opened : List Binding) (ys : List (With LabelledAgrees))
    → answer (each every (map (judged_labelled every) (map (λ y. y.0) ys)) scope opened) ≡ each least (map (judged_labelled least) (map (λ y. y.0) ys)) scope opened
case_arms_are scope opened ys =
    all_is _ _ (each_is LabelledAgrees (judged_labelled every) (judged_labelled least) (λ child. child scope opened) (λ child. child scope opened) (λ x same. same scope opened) ys)

if_arms_are : (scope : Scope) (opened : List Binding) (ys : List (With GuardedAgrees))
    → answer (each every (map (judged_guarded every) (map (λ y. y.0) ys)) scope opened) ≡ each least (map (judged_guarded least) (map (λ y. y.0) ys)) scope opened
if_arms_are scope opened ys =
    all_is _ _ (each_is GuardedAgrees (judged_guarded every) (judged_guarded least) (λ child. child scope opened) (λ child. child scope opened) (λ x same. same scope opened) ys)

action_agrees : (y : Agreeing) (scope : Scope) (opened : List Binding) → answer (open_action every (plain y) scope opened) ≡ open_action least (plain y) scope opened
unfolding assignment sending receiving guarded_loop enclosing called
action_agrees Action-F.Continue scope opened = refl
action_agrees Action-F.Halt scope opened = refl
action_agrees (Action-F.Sync ch) scope opened = answer-one_fault _
action_agrees (Action-F.Loop body) scope opened = becomes_is _ (judged_command every body.0 scope opened) _ (body.1 scope opened)
action_agrees (Action-F.While guard body) scope opened =
    asked_is (value every guard scope opened) (judged_command every body.0 scope opened) _ _ _ (expression_agrees guard scope.names opened) (body.1 scope opened)
action_agrees (Action-F.If arms None) scope opened = conditional_is _ (Ok None) _ (Ok None) (if_arms_are scope opened arms) refl
action_agrees (Action-F.If arms (Some last)) scope opened =
    conditional_is _ _ _ _ (if_arms_are scope opened arms) (becomes_is (λ b. Some b) (judged_command every last.0 scope opened) _ (last.1 scope opened))
action_agrees (Action-F.Case subject arms None) scope opened =
    cased_is (value every subject scope opened) _ (Ok None) _ _ (Ok None) (expression_agrees subject scope.names opened) (case_arms_are scope opened arms) refl
action_agrees (Action-F.Case subject arms (Some last)) scope opened =
    cased_is (value every subject scope opened) _ _ _ _ _ (expression_agrees subject scope.names opened) (case_arms_are scope opened arms)
    (becomes_is (λ b. Some b) (judged_command every last.0 scope opened) _ (last.1 scope opened))
action_agrees (Action-F.Select arms) scope opened = becomes_is _ _ _ (distinct_is _ _ (arms_are scope opened arms))
action_agrees (Action-F.Arbitrate first second) scope opened = becomes_is _ _ _ (distinct_is _ _ (arms_are scope opened (first ∷ second ∷ [])))
action_agrees (Action-F.Assign x e) scope opened =
    asked_is (one_fault (target x scope opened)) (value every e scope opened) _ _ _ (answer-one_fault _) (expression_agrees e scope.names opened)
action_agrees (Action-F.Send ch e) scope opened =
    asked_is (one_fault (sender ch scope opened)) (value every e scope opened) _ _ _ (answer-one_fault _) (expression_agrees e scope.names opened)
action_agrees (Action-F.Receive ch x) scope opened =
    asked_is (one_fault (receiver ch scope opened)) (one_fault (target x scope opened)) _ _ _ (answer-one_fault _) (answer-one_fault _)
action_agrees (Action-F.Input ch body) scope opened =
    let inner = opened_by opened (channel_alone (receiver ch scope opened)) in
    joined_is _ (one_fault (receiver ch scope opened)) (judged_command every body.0 scope inner) _ _ (answer-one_fault _) (body.1 scope inner)
action_agrees (Action-F.Call p arguments) scope opened =
    asked_is (one_fault (procedure_use (find scope.names opened p.name) p.span.start)) _ _ _ _ (answer-one_fault _)
    (all_is _ _ (one_fault-each (judged_argument scope.names opened) arguments))
action_agrees (Action-F.Sequence children) scope opened = becomes_is _ _ _ (commands_are scope opened children)
action_agrees (Action-F.Parallel children) scope opened = becomes_is _ _ _ (commands_are scope opened children)

arm_agrees : (a : Arm-F (With ActionAgrees) (With ArmAgrees) (With LabelledAgrees) (With CommandAgrees) (With GuardedAgrees)) (scope : Scope) (opened : List Binding)
    → let channel = arm_use (find scope.names opened a.channel.name) a.channel.span.start in
    answer (arm_of every channel (judged_command every a.body.0 scope (opened_by opened channel)))
    ≡ arm_of least channel (judged_command least a.body.0 scope (opened_by opened channel))
unfolding arm_of
arm_agrees a scope opened =
    let channel = arm_use (find scope.names opened a.channel.name) a.channel.span.start in
    joined_is opened_arm (one_fault channel) (judged_command every a.body.0 scope (opened_by opened channel)) channel _ (answer-one_fault channel)
    (a.body.1 scope (opened_by opened channel))

guarded_agrees : (guard : Expr) (body : With CommandAgrees) (scope : Scope) (opened : List Binding)
    → answer (guarded every (value every guard scope opened) (start_of guard) (judged_command every body.0 scope opened))
    ≡ guarded least (value least guard scope opened) (start_of guard) (judged_command least body.0 scope opened)
unfolding guarded
guarded_agrees guard body scope opened =
    joined_is _ (value every guard scope opened) (judged_command every body.0 scope opened) _ _ (expression_agrees guard scope.names opened) (body.1 scope opened)

labelled_agrees : (labels : List Label) (body : With CommandAgrees) (scope : Scope) (opened : List Binding)
    → answer (labelled every (judged_labels every scope.names opened labels) (judged_command every body.0 scope opened))
    ≡ labelled least (judged_labels least scope.names opened labels) (judged_command least body.0 scope opened)
unfolding labelled
labelled_agrees labels body scope opened =
    joined_is _ (judged_labels every scope.names opened labels) (judged_command every body.0 scope opened) _ _
    (labels_are scope.names opened labels) (body.1 scope opened)

pub command_agrees : (x : Command) → CommandAgrees x
command_agrees =
    ind-Command ActionAgrees ArmAgrees LabelledAgrees CommandAgrees GuardedAgrees
    (λ x y is. subst (λ z. ActionAgrees (roll-Action z)) is (λ scope opened.
    ap (λ f. answer (f scope opened)) (fold-roll-Action _ _ _ _ _ (action_layer every) (arm_layer every) (case_arm_layer every) (command_layer every) (guarded_layer every) _)
    ∙ (action_agrees y scope opened
    ∙ ap (λ f. f scope opened) (sym (fold-roll-Action _ _ _ _ _ (action_layer least) (arm_layer least) (case_arm_layer least) (command_layer least) (guarded_layer least) _)))))
    (λ x y is. subst (λ z. ArmAgrees (roll-Arm z)) is (λ scope opened.
    ap (λ f. answer (f scope opened)) (fold-roll-Arm _ _ _ _ _ (action_layer every) (arm_layer every) (case_arm_layer every) (command_layer every) (guarded_layer every) _)
    ∙ (arm_agrees y scope opened
    ∙ ap (λ f. f scope opened) (sym (fold-roll-Arm _ _ _ _ _ (action_layer least) (arm_layer least) (case_arm_layer least) (command_layer least) (guarded_layer least) _)))))
    (λ x y is. subst (λ z. LabelledAgrees (roll-CaseArm z)) is (λ scope opened.
    ap (λ f. answer (f scope opened)) (fold-roll-CaseArm _ _ _ _ _ (action_layer every) (arm_layer every) (case_arm_layer every) (command_layer every) (guarded_layer every) _)
    ∙ (labelled_agrees y.labels y.body scope opened
    ∙ ap (λ f. f scope opened) (sym (fold-roll-CaseArm _ _ _ _ _ (action_layer least) (arm_layer least) (case_arm_layer least) (command_layer least) (guarded_layer least) _)))))
    (λ x y is. subst (λ z. CommandAgrees (roll-Command z)) is (λ scope opened.
    ap (λ f. answer (f scope opened)) (fold-roll-Command _ _ _ _ _ (action_layer every) (arm_layer every) (case_arm_layer every) (command_layer every) (guarded_layer every) _)
    ∙ (becomes_is (command_of y.span.line) (judged_action every y.action.0 scope opened) _ (y.action.1 scope opened)
    ∙ ap (λ f. f scope opened) (sym (fold-roll-Command _ _ _ _ _ (action_layer least) (arm_layer least) (case_arm_layer least) (command_layer least) (guarded_layer least) _)))))
    (λ x y is. subst (λ z. GuardedAgrees (roll-Guarded z)) is (λ scope opened.
    ap (λ f. answer (f scope opened)) (fold-roll-Guarded _ _ _ _ _ (action_layer every) (arm_layer every) (case_arm_layer every) (command_layer every) (guarded_layer every) _)
    ∙ (guarded_agrees y.guard y.body scope opened
    ∙ ap (λ f. f scope opened) (sym (fold-roll-Guarded _ _ _ _ _ (action_layer least) (arm_layer least) (case_arm_layer least) (command_layer least) (guarded_layer least) _)))))
