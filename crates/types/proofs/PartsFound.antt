-- In a command that is right each name is found, and each expression is right.
use Rattle.std.proofs.Common.{◌≡◌, ℕ, List, [], ◌∷◌, ◌++◌, map, flat_map, Option, Some, None, Result, Ok, Err, IfOk, refl, ap, sym, subst, ◌∙◌}
use Rattle.types.specs.Arms.{GuardedArm, LabelledArm, guarded, conditional, labelled, cased, arm_of, distinct, judged_label, judged_labels}
use Rattle.types.specs.Calls.{called, judged_argument, judged_arguments}
use Rattle.types.specs.Commands.{Scope, Judged, start_of, command_of, value, action_layer, arm_layer, case_arm_layer, command_layer, guarded_layer, each, judged_command, assignment, sending, receiving, guarded_loop, enclosing, target, sender, receiver, opened_by, channel_alone}
use Rattle.types.specs.Expressions.{judged_expression}
use Rattle.types.specs.Findings.{Verdict, Findings, becomes, if_right, both, with_next, with_all, all, one_fault, every}
use Rattle.types.specs.Names.{VisibleNames, look_up, find, found_for}
use Rattle.types.specs.Parts.{Part, named, valued, part_of, parts_of_label, parts_of_last, parts_of_each, parts_of_action, parts_of_arm, parts_of_case_arm, parts_of_layer, parts_of_guarded, parts_of_command}
use Rattle.types.specs.Uses.{meaning_of, target_use, sending_use, receiving_use, sync_use, arm_use, procedure_use, label_use, argument_use}
use Rattle.types.specs.internal.CommandParts.{judged_action, judged_guarded, judged_labelled, judged_arm}
use Rattle.types.specs.declared.expression.Valued.{Valued}
use Rattle.types.specs.declared.scope.Found.{Found}
use Rattle.types.specs.declared.scope.Found.TheVariants.{Nothing}
use Rattle.types.specs.declared.scope.Meaning.{Meaning}
use Rattle.types.specs.declared.tree.Arm as typed_arm
use Rattle.types.specs.declared.tree.Command as typed_command
use Rattle.types.specs.declared.tree.Action as typed_action
use Rattle.types.specs.declared.tree.Action.TheVariants as action
use Rattle.types.specs.declared.tree.Binding.{Binding}
use Rattle.syntax.specs.Lists.{Every}
use Rattle.syntax.specs.declared.command.Action.{Action}
use Rattle.syntax.specs.declared.command.Arm.{Arm}
use Rattle.syntax.specs.declared.command.CaseArm.{CaseArm}
use Rattle.syntax.specs.declared.command.Command.{Command}
use Rattle.syntax.specs.declared.command.Guarded.{Guarded}
use Rattle.syntax.specs.declared.command.Label.{Label}
use Rattle.syntax.specs.declared.command.LabelValue.{LabelValue}
use Rattle.syntax.specs.declared.command.LabelValue.TheVariants as label
use Rattle.syntax.specs.declared.command.Action.TheFolds.{map-Action, fold-Action, fold-Arm, fold-CaseArm, fold-Guarded, fold-roll-Action, fold-roll-Arm, fold-roll-CaseArm, fold-roll-Command, fold-roll-Guarded, ind-Command}
use Rattle.syntax.specs.declared.command.Action.TheOpen.{Action-F, Arm-F}
use Rattle.syntax.specs.declared.command.Action.TheViews.{roll-Action, roll-Arm, roll-CaseArm, roll-Command, roll-Guarded}
use Rattle.syntax.specs.declared.expression.Expr.{Expr}
use Rattle.syntax.specs.declared.name.Identifier.{Identifier}
use Rattle.types.proofs.Least.{With}
use Rattle.types.proofs.Lookups.{IsFound, every-append, every-back}

-- ---- what is right gives something

-- where this is right, that holds
abbrev pub Gives : {A E : Type 0} → Result A E → Type 0 → Type 0
Gives x G = IfOk x (λ _. G)

pub gives : {A E G : Type 0} (x : Result A E) → G → Gives x G
gives (Ok a) g = g
gives (Err e) g = tt

pub gives-more : {A E G H : Type 0} (x : Result A E) → (G → H) → Gives x G → Gives x H
gives-more (Ok a) f g = f g
gives-more (Err e) f g = tt

pub gives-becomes : {A B E : Type 0} (G : Type 0) (f : A → B) (x : Result A E) → Gives x G → Gives (becomes f x) G
gives-becomes G f (Ok a) g = g
gives-becomes G f (Err e) g = tt

pub gives-both : {A B : Type 0} (G H : Type 0) (x : Findings every A) (y : Findings every B) → Gives x G → Gives y H → Gives (both every x y) (G × H)
gives-both G H (Ok a) (Ok b) g h = (g, h)
gives-both G H (Ok a) (Err fs) g h = tt
gives-both G H (Err fs) (Ok b) g h = tt
gives-both G H (Err fs) (Err gs) g h = tt

pub gives-if_right : {A B E : Type 0} (G : Type 0) (x : Result A E) (next : A → Result B E) → Gives x G → Gives (if_right x next) G
gives-if_right G (Ok a) next g = gives (next a) g
gives-if_right G (Err e) next g = tt

pub gives-never : {A : Type 0} (G : Type 0) (v : Verdict A) → Gives v ⊥ → Gives (one_fault v) G
gives-never G (Ok a) never = absurd never
gives-never G (Err fault) never = tt

-- ---- what stands in a command

-- the name is found; the expression is right, where some channels are open
abbrev pub IsRight : VisibleNames → Part → Type 0
IsRight es (named n) = IsFound es n
IsRight es (valued e) = (opened : List Binding) × (v : Valued) × (judged_expression every e es opened ≡ Ok v)

abbrev pub AreRight : VisibleNames → List Part → Type 0
AreRight es = Every (IsRight es)

-- a name at whose place something visible has to stand
use_gives : {A : Type 0} (es : VisibleNames) (opened : List Binding) (n : List ℕ) (use_of : Found → Verdict A)
    → Gives (use_of Nothing) ⊥ → Gives (one_fault (use_of (find es opened n))) (IsFound es n)
unfolding find
use_gives es opened n use_of none = by (look_up es n) refl
  where
    by : (o : Option Meaning) → look_up es n ≡ o → Gives (one_fault (use_of (found_for opened (look_up es n)))) (IsFound es n)
    by (Some m) is = gives (one_fault (use_of (found_for opened (look_up es n)))) (m, is)
    by None is = subst (λ o. Gives (one_fault (use_of (found_for opened o))) (IsFound es n)) (sym is) (gives-never (IsFound es n) (use_of Nothing) none)

target_gives : (x : Identifier) (scope : Scope) (opened : List Binding) → Gives (one_fault (target x scope opened)) (IsFound scope.names x.name)
unfolding target_use
target_gives x scope opened = use_gives scope.names opened x.name (λ f. target_use f x.span.start) tt

sender_gives : (x : Identifier) (scope : Scope) (opened : List Binding) → Gives (one_fault (sender x scope opened)) (IsFound scope.names x.name)
unfolding sending_use
sender_gives x scope opened = use_gives scope.names opened x.name (λ f. sending_use f x.span.start) tt

receiver_gives : (x : Identifier) (scope : Scope) (opened : List Binding) → Gives (one_fault (receiver x scope opened)) (IsFound scope.names x.name)
unfolding receiving_use
receiver_gives x scope opened = use_gives scope.names opened x.name (λ f. receiving_use f x.span.start) tt

sync_gives : (x : Identifier) (scope : Scope) (opened : List Binding)
    → Gives (one_fault (becomes (λ u. action.Sync u) (sync_use (find scope.names opened x.name) x.span.start))) (IsFound scope.names x.name)
unfolding sync_use
sync_gives x scope opened = use_gives scope.names opened x.name (λ f. becomes (λ u. action.Sync u) (sync_use f x.span.start)) tt

arm_gives : (x : Identifier) (scope : Scope) (opened : List Binding)
    → Gives (one_fault (arm_use (find scope.names opened x.name) x.span.start)) (IsFound scope.names x.name)
unfolding arm_use
arm_gives x scope opened = use_gives scope.names opened x.name (λ f. arm_use f x.span.start) tt

procedure_gives : (x : Identifier) (scope : Scope) (opened : List Binding)
    → Gives (one_fault (procedure_use (find scope.names opened x.name) x.span.start)) (IsFound scope.names x.name)
unfolding procedure_use
procedure_gives x scope opened = use_gives scope.names opened x.name (λ f. procedure_use f x.span.start) tt

argument_gives : (es : VisibleNames) (opened : List Binding) (x : Identifier) → Gives (one_fault (judged_argument es opened x)) (AreRight es (part_of x ∷ []))
unfolding argument_use
argument_gives es opened x =
    gives-more (one_fault (judged_argument es opened x)) (λ g. (g, tt)) (use_gives es opened x.name (λ f. argument_use f x.span.start) tt)

label_gives : (es : VisibleNames) (opened : List Binding) (l : Label) → Gives (one_fault (judged_label es opened l)) (AreRight es (parts_of_label l))
unfolding label_use
label_gives es opened l = by l.value
  where
    by : (v : LabelValue) → Gives (one_fault (judged_label es opened (record { span = l.span; value = v }))) (AreRight es (parts_of_label (record { span = l.span; value = v })))
    by (label.Number n) = tt
    by (label.Name n) =
        gives-more (one_fault (judged_label es opened (record { span = l.span; value = label.Name n }))) (λ g. (g, tt))
        (use_gives es opened n (λ f. becomes (λ v. record { offset = l.span.start; value = v }) (label_use f l.span.start)) tt)

value_gives : (e : Expr) (scope : Scope) (opened : List Binding) → Gives (value every e scope opened) (IsRight scope.names (valued e))
value_gives e scope opened = by (judged_expression every e scope.names opened) refl
  where
    by : (r : Findings every Valued) → judged_expression every e scope.names opened ≡ r → Gives r (IsRight scope.names (valued e))
    by (Ok v) is = (opened, v, is)
    by (Err fs) is = tt

-- ---- lists of parts

-- behind what is right already, each of these gives what stands in it
parts_give : {X A : Type 0} (es : VisibleNames) (judge : X → Findings every A) (parts : X → List Part) (G : Type 0)
    → ((x : X) → Gives (judge x) (AreRight es (parts x))) → (l : Findings every (List A)) → Gives l G → (xs : List X)
    → Gives (with_all every l (map judge xs)) (G × AreRight es (flat_map parts xs))
parts_give es judge parts G each_gives l g [] = gives-more l (λ h. (h, tt)) g
parts_give es judge parts G each_gives l g (x ∷ xs) =
    gives-more (with_all every (with_next every l (judge x)) (map judge xs))
    (λ (h : (G × AreRight es (parts x)) × AreRight es (flat_map parts xs)). (h.0.0, every-append (IsRight es) (parts x) (flat_map parts xs) h.0.1 h.1))
    (parts_give es judge parts (G × AreRight es (parts x)) each_gives (with_next every l (judge x))
    (gives-becomes (G × AreRight es (parts x)) _ (both every l (judge x)) (gives-both G (AreRight es (parts x)) l (judge x) g (each_gives x))) xs)

labels_give : (es : VisibleNames) (opened : List Binding) (labels : List Label)
    → Gives (judged_labels every es opened labels) (AreRight es (flat_map parts_of_label labels))
labels_give es opened labels =
    gives-more (judged_labels every es opened labels) (λ (h : Unit {0} × AreRight es (flat_map parts_of_label labels)). h.1)
    (parts_give es (λ l. one_fault (judged_label es opened l)) parts_of_label (Unit {0}) (label_gives es opened) (Ok []) tt labels)

arguments_give : (es : VisibleNames) (opened : List Binding) (arguments : List Identifier)
    → Gives (judged_arguments every es opened arguments) (AreRight es (flat_map (λ a. part_of a ∷ []) arguments))
arguments_give es opened arguments =
    gives-more (judged_arguments every es opened arguments) (λ (h : Unit {0} × AreRight es (flat_map (λ a. part_of a ∷ []) arguments)). h.1)
    (parts_give es (λ a. one_fault (judged_argument es opened a)) (λ a. part_of a ∷ []) (Unit {0}) (argument_gives es opened) (Ok []) tt arguments)

-- children, each of which gives what stands in it
children_give : {X A : Type 0} (scope : Scope) (opened : List Binding) (judge : X → Judged every A) (parts : X → List Part) (Q : X → Type 0) (G : Type 0)
    → ((x : X) → Q x → Gives (judge x scope opened) (AreRight scope.names (parts x)))
    → (l : Findings every (List A)) → Gives l G → (ys : List (With Q))
    → Gives (with_all every l (map (λ child. child scope opened) (map judge (map (λ y. y.0) ys))))
    (G × AreRight scope.names (parts_of_each (map parts (map (λ y. y.0) ys))))
children_give scope opened judge parts Q G f l g [] = gives-more l (λ h. (h, tt)) g
children_give scope opened judge parts Q G f l g (y ∷ ys) =
    let here = parts y.0 in
    let rest = parts_of_each (map parts (map (λ y. y.0) ys)) in
    gives-more (with_all every (with_next every l (judge y.0 scope opened)) (map (λ child. child scope opened) (map judge (map (λ y. y.0) ys))))
    (λ (h : (G × AreRight scope.names here) × AreRight scope.names rest). (h.0.0, every-append (IsRight scope.names) here rest h.0.1 h.1))
    (children_give scope opened judge parts Q (G × AreRight scope.names (parts y.0)) f (with_next every l (judge y.0 scope opened))
    (gives-becomes (G × AreRight scope.names here) _ (both every l (judge y.0 scope opened))
    (gives-both G (AreRight scope.names here) l (judge y.0 scope opened) g (f y.0 y.1))) ys)

all_give : {X A : Type 0} (scope : Scope) (opened : List Binding) (judge : X → Judged every A) (parts : X → List Part) (Q : X → Type 0)
    → ((x : X) → Q x → Gives (judge x scope opened) (AreRight scope.names (parts x))) → (ys : List (With Q))
    → Gives (each every (map judge (map (λ y. y.0) ys)) scope opened) (AreRight scope.names (parts_of_each (map parts (map (λ y. y.0) ys))))
all_give scope opened judge parts Q f ys =
    gives-more (each every (map judge (map (λ y. y.0) ys)) scope opened)
    (λ (h : Unit {0} × AreRight scope.names (parts_of_each (map parts (map (λ y. y.0) ys)))). h.1)
    (children_give scope opened judge parts Q (Unit {0}) f (Ok []) tt ys)

-- ---- commands

abbrev pub parts_of_whole : Action → List Part
parts_of_whole = fold-Action (List Part) (List Part) (List Part) (List Part) (List Part) parts_of_action parts_of_arm parts_of_case_arm parts_of_layer parts_of_guarded

abbrev pub parts_in_arm : Arm → List Part
parts_in_arm = fold-Arm (List Part) (List Part) (List Part) (List Part) (List Part) parts_of_action parts_of_arm parts_of_case_arm parts_of_layer parts_of_guarded

abbrev pub parts_in_case_arm : CaseArm → List Part
parts_in_case_arm = fold-CaseArm (List Part) (List Part) (List Part) (List Part) (List Part) parts_of_action parts_of_arm parts_of_case_arm parts_of_layer parts_of_guarded

abbrev pub parts_in_guarded : Guarded → List Part
parts_in_guarded = fold-Guarded (List Part) (List Part) (List Part) (List Part) (List Part) parts_of_action parts_of_arm parts_of_case_arm parts_of_layer parts_of_guarded

abbrev ActionGives : Action → Type 0
ActionGives x = (scope : Scope) (opened : List Binding) → Gives (judged_action every x scope opened) (AreRight scope.names (parts_of_whole x))

abbrev ArmGives : Arm → Type 0
ArmGives x = (scope : Scope) (opened : List Binding) → Gives (judged_arm every x scope opened) (AreRight scope.names (parts_in_arm x))

abbrev LabelledGives : CaseArm → Type 0
LabelledGives x = (scope : Scope) (opened : List Binding) → Gives (judged_labelled every x scope opened) (AreRight scope.names (parts_in_case_arm x))

abbrev CommandGives : Command → Type 0
CommandGives x = (scope : Scope) (opened : List Binding) → Gives (judged_command every x scope opened) (AreRight scope.names (parts_of_command x))

abbrev GuardedGives : Guarded → Type 0
GuardedGives x = (scope : Scope) (opened : List Binding) → Gives (judged_guarded every x scope opened) (AreRight scope.names (parts_in_guarded x))

abbrev Giving : Type 0
Giving = Action-F (With ActionGives) (With ArmGives) (With LabelledGives) (With CommandGives) (With GuardedGives)

abbrev plain : Giving → Action-F Action Arm CaseArm Command Guarded
plain y = map-Action (With ActionGives) (With ArmGives) (With LabelledGives) (With CommandGives) (With GuardedGives) Action Arm CaseArm Command Guarded
    (λ x. x.0) (λ x. x.0) (λ x. x.0) (λ x. x.0) (λ x. x.0) y

abbrev pub open_action : Action-F Action Arm CaseArm Command Guarded → Judged every typed_action.Action
open_action y = action_layer every (map-Action Action Arm CaseArm Command Guarded
    (Judged every typed_action.Action) (Judged every typed_arm.Arm) (Judged every LabelledArm) (Judged every typed_command.Command) (Judged every GuardedArm)
    (judged_action every) (judged_arm every) (judged_labelled every) (judged_command every) (judged_guarded every) y)

abbrev pub open_parts : Action-F Action Arm CaseArm Command Guarded → List Part
open_parts y = parts_of_action (map-Action Action Arm CaseArm Command Guarded (List Part) (List Part) (List Part) (List Part) (List Part)
    parts_of_whole parts_in_arm parts_in_case_arm parts_of_command parts_in_guarded y)

commands_give : (scope : Scope) (opened : List Binding) (ys : List (With CommandGives))
    → Gives (each every (map (judged_command every) (map (λ y. y.0) ys)) scope opened) (AreRight scope.names (parts_of_each (map parts_of_command (map (λ y. y.0) ys))))
commands_give scope opened ys = all_give scope opened (judged_command every) parts_of_command CommandGives (λ x f. f scope opened) ys

arms_give : (scope : Scope) (opened : List Binding) (ys : List (With ArmGives))
    → Gives (each every (map (judged_arm every) (map (λ y. y.0) ys)) scope opened) (AreRight scope.names (parts_of_each (map parts_in_arm (map (λ y. y.0) ys))))
arms_give scope opened ys = all_give scope opened (judged_arm every) parts_in_arm ArmGives (λ x f. f scope opened) ys

case_arms_give : (scope : Scope) (opened : List Binding) (ys : List (With LabelledGives))
    → Gives (each every (map (judged_labelled every) (map (λ y. y.0) ys)) scope opened) (AreRight scope.names (parts_of_each (map parts_in_case_arm (map (λ y. y.0) ys))))
case_arms_give scope opened ys = all_give scope opened (judged_labelled every) parts_in_case_arm LabelledGives (λ x f. f scope opened) ys

if_arms_give : (scope : Scope) (opened : List Binding) (ys : List (With GuardedGives))
    → Gives (each every (map (judged_guarded every) (map (λ y. y.0) ys)) scope opened) (AreRight scope.names (parts_of_each (map parts_in_guarded (map (λ y. y.0) ys))))
if_arms_give scope opened ys = all_give scope opened (judged_guarded every) parts_in_guarded GuardedGives (λ x f. f scope opened) ys

-- one part behind another
pair_gives : {A B C : Type 0} (es : VisibleNames) (x : Findings every A) (y : Findings every B) (next : A × B → Findings every C) (p : Part) (ps : List Part)
    → Gives x (IsRight es p) → Gives y (AreRight es ps) → Gives (if_right (both every x y) next) (AreRight es (p ∷ ps))
pair_gives es x y next p ps one more =
    gives-if_right (AreRight es (p ∷ ps)) (both every x y) next (gives-both (IsRight es p) (AreRight es ps) x y one more)

behind_gives : {A B C : Type 0} (es : VisibleNames) (x : Findings every A) (y : Findings every B) (next : A × B → Findings every C) (ps qs : List Part)
    → Gives x (AreRight es ps) → Gives y (AreRight es qs) → Gives (if_right (both every x y) next) (AreRight es (ps ++ qs))
behind_gives es x y next ps qs one more =
    gives-if_right (AreRight es (ps ++ qs)) (both every x y) next
    (gives-more (both every x y) (λ (h : AreRight es ps × AreRight es qs). every-append (IsRight es) ps qs h.0 h.1)
    (gives-both (AreRight es ps) (AreRight es qs) x y one more))

joined_gives : {A B C : Type 0} (es : VisibleNames) (f : A × B → C) (x : Findings every A) (y : Findings every B) (p : Part) (ps : List Part)
    → Gives x (IsRight es p) → Gives y (AreRight es ps) → Gives (becomes f (both every x y)) (AreRight es (p ∷ ps))
joined_gives es f x y p ps one more = gives-becomes (AreRight es (p ∷ ps)) f (both every x y) (gives-both (IsRight es p) (AreRight es ps) x y one more)

only : {A : Type 0} (es : VisibleNames) (x : Findings every A) (p : Part) → Gives x (IsRight es p) → Gives x (AreRight es (p ∷ []))
only es x p one = gives-more x (λ (h : IsRight es p). (h, tt)) one

last_gives : (scope : Scope) (opened : List Binding) (body : With CommandGives)
    → Gives (becomes (λ c. Some c) (judged_command every body.0 scope opened)) (AreRight scope.names (parts_of_command body.0))
last_gives scope opened body = gives-becomes (AreRight scope.names (parts_of_command body.0)) (λ c. Some c) (judged_command every body.0 scope opened) (body.1 scope opened)

distinct_gives : (G : Type 0) (arms : Findings every (List typed_arm.Arm)) → Gives arms G → Gives (distinct every arms) G
unfolding distinct
distinct_gives G arms g = gives-if_right G arms _ g

cased_gives : (es : VisibleNames) (s : Findings every Valued) (arms : Findings every (List LabelledArm)) (last : Findings every (Option typed_command.Command))
    (p : Part) (ps qs : List Part) → Gives s (IsRight es p) → Gives arms (AreRight es ps) → Gives last (AreRight es qs)
    → Gives (cased every s arms last) (AreRight es (p ∷ (ps ++ qs)))
unfolding cased
cased_gives es s arms last p ps qs one some more =
    gives-if_right (AreRight es (p ∷ (ps ++ qs))) (both every s (both every arms last)) _
    (gives-more (both every s (both every arms last))
    (λ (h : IsRight es p × (AreRight es ps × AreRight es qs)). (h.0, every-append (IsRight es) ps qs h.1.0 h.1.1))
    (gives-both (IsRight es p) (AreRight es ps × AreRight es qs) s (both every arms last) one
    (gives-both (AreRight es ps) (AreRight es qs) arms last some more)))

select_gives : (scope : Scope) (opened : List Binding) (ys : List (With ArmGives)) (f : List typed_arm.Arm → typed_action.Action)
    → Gives (becomes f (distinct every (each every (map (judged_arm every) (map (λ y. y.0) ys)) scope opened)))
    (AreRight scope.names (parts_of_each (map parts_in_arm (map (λ y. y.0) ys))))
select_gives scope opened ys f =
    let arms = each every (map (judged_arm every) (map (λ y. y.0) ys)) scope opened in
    let G = AreRight scope.names (parts_of_each (map parts_in_arm (map (λ y. y.0) ys))) in
    gives-becomes G f (distinct every arms) (distinct_gives G arms (arms_give scope opened ys))

sequence_gives : (scope : Scope) (opened : List Binding) (ys : List (With CommandGives)) (f : List typed_command.Command → typed_action.Action)
    → Gives (becomes f (each every (map (judged_command every) (map (λ y. y.0) ys)) scope opened))
    (AreRight scope.names (parts_of_each (map parts_of_command (map (λ y. y.0) ys))))
sequence_gives scope opened ys f =
    gives-becomes (AreRight scope.names (parts_of_each (map parts_of_command (map (λ y. y.0) ys)))) f
    (each every (map (judged_command every) (map (λ y. y.0) ys)) scope opened) (commands_give scope opened ys)

action_gives : (y : Giving) (scope : Scope) (opened : List Binding) → Gives (open_action (plain y) scope opened) (AreRight scope.names (open_parts (plain y)))
unfolding assignment sending receiving guarded_loop enclosing called conditional
action_gives Action-F.Continue scope opened = tt
action_gives Action-F.Halt scope opened = tt
action_gives (Action-F.Sync ch) scope opened = only scope.names _ (part_of ch) (sync_gives ch scope opened)
action_gives (Action-F.Loop body) scope opened =
    gives-becomes (AreRight scope.names (parts_of_command body.0)) (λ b. action.Loop b) (judged_command every body.0 scope opened) (body.1 scope opened)
action_gives (Action-F.While guard body) scope opened =
    pair_gives scope.names (value every guard scope opened) (judged_command every body.0 scope opened) _ (valued guard) (parts_of_command body.0)
    (value_gives guard scope opened) (body.1 scope opened)
action_gives (Action-F.If arms None) scope opened = behind_gives scope.names _ (Ok None) _ _ [] (if_arms_give scope opened arms) tt
action_gives (Action-F.If arms (Some last)) scope opened = behind_gives scope.names _ _ _ _ (parts_of_command last.0) (if_arms_give scope opened arms) (last_gives scope opened last)
action_gives (Action-F.Case subject arms None) scope opened =
    cased_gives scope.names (value every subject scope opened) _ (Ok None) (valued subject) _ [] (value_gives subject scope opened) (case_arms_give scope opened arms) tt
action_gives (Action-F.Case subject arms (Some last)) scope opened =
    cased_gives scope.names (value every subject scope opened) _ _ (valued subject) _ (parts_of_command last.0) (value_gives subject scope opened) (case_arms_give scope opened arms) (last_gives scope opened last)
action_gives (Action-F.Select arms) scope opened = select_gives scope opened arms (λ these. action.Select these)
action_gives (Action-F.Arbitrate first second) scope opened = select_gives scope opened (first ∷ second ∷ []) (λ these. action.Arbitrate these)
action_gives (Action-F.Assign x e) scope opened =
    pair_gives scope.names (one_fault (target x scope opened)) (value every e scope opened) _ (part_of x) (valued e ∷ []) (target_gives x scope opened)
    (only scope.names (value every e scope opened) (valued e) (value_gives e scope opened))
action_gives (Action-F.Send ch e) scope opened =
    pair_gives scope.names (one_fault (sender ch scope opened)) (value every e scope opened) _ (part_of ch) (valued e ∷ []) (sender_gives ch scope opened)
    (only scope.names (value every e scope opened) (valued e) (value_gives e scope opened))
action_gives (Action-F.Receive ch x) scope opened =
    pair_gives scope.names (one_fault (receiver ch scope opened)) (one_fault (target x scope opened)) _ (part_of ch) (part_of x ∷ []) (receiver_gives ch scope opened)
    (only scope.names (one_fault (target x scope opened)) (part_of x) (target_gives x scope opened))
action_gives (Action-F.Input ch body) scope opened =
    let inner = opened_by opened (channel_alone (receiver ch scope opened)) in
    joined_gives scope.names _ (one_fault (receiver ch scope opened)) (judged_command every body.0 scope inner) (part_of ch) (parts_of_command body.0) (receiver_gives ch scope opened) (body.1 scope inner)
action_gives (Action-F.Call p arguments) scope opened =
    pair_gives scope.names (one_fault (procedure_use (find scope.names opened p.name) p.span.start)) (judged_arguments every scope.names opened arguments) _ (part_of p) (flat_map (λ a. part_of a ∷ []) arguments)
    (procedure_gives p scope opened) (arguments_give scope.names opened arguments)
action_gives (Action-F.Sequence children) scope opened = sequence_gives scope opened children (λ cs. action.Sequence cs)
action_gives (Action-F.Parallel children) scope opened = sequence_gives scope opened children (λ cs. action.Parallel cs)

arm_is : (a : Arm-F (With ActionGives) (With ArmGives) (With LabelledGives) (With CommandGives) (With GuardedGives)) (scope : Scope) (opened : List Binding)
    → let channel = arm_use (find scope.names opened a.channel.name) a.channel.span.start in
    Gives (arm_of every channel (judged_command every a.body.0 scope (opened_by opened channel))) (AreRight scope.names (part_of a.channel ∷ parts_of_command a.body.0))
unfolding arm_of
arm_is a scope opened =
    let channel = arm_use (find scope.names opened a.channel.name) a.channel.span.start in
    joined_gives scope.names _ (one_fault channel) (judged_command every a.body.0 scope (opened_by opened channel)) (part_of a.channel) (parts_of_command a.body.0) (arm_gives a.channel scope opened)
    (a.body.1 scope (opened_by opened channel))

guarded_is : (guard : Expr) (body : With CommandGives) (scope : Scope) (opened : List Binding)
    → Gives (guarded every (value every guard scope opened) (start_of guard) (judged_command every body.0 scope opened))
    (AreRight scope.names (valued guard ∷ parts_of_command body.0))
unfolding guarded
guarded_is guard body scope opened =
    joined_gives scope.names _ (value every guard scope opened) (judged_command every body.0 scope opened) (valued guard) (parts_of_command body.0)
    (value_gives guard scope opened) (body.1 scope opened)

labelled_is : (labels : List Label) (body : With CommandGives) (scope : Scope) (opened : List Binding)
    → Gives (labelled every (judged_labels every scope.names opened labels) (judged_command every body.0 scope opened))
    (AreRight scope.names (flat_map parts_of_label labels ++ parts_of_command body.0))
unfolding labelled
labelled_is labels body scope opened =
    let ls = judged_labels every scope.names opened labels in
    let b = judged_command every body.0 scope opened in
    let L = AreRight scope.names (flat_map parts_of_label labels) in
    let B = AreRight scope.names (parts_of_command body.0) in
    gives-becomes (AreRight scope.names (flat_map parts_of_label labels ++ parts_of_command body.0)) _ (both every ls b)
    (gives-more (both every ls b) (λ (h : L × B). every-append (IsRight scope.names) (flat_map parts_of_label labels) (parts_of_command body.0) h.0 h.1)
    (gives-both L B ls b (labels_give scope.names opened labels) (body.1 scope opened)))

moved : {A : Type 0} (es : VisibleNames) (x x' : Findings every A) (ps ps' : List Part) → x ≡ x' → ps ≡ ps' → Gives x' (AreRight es ps') → Gives x (AreRight es ps)
moved es x x' ps ps' a b g = subst (λ z. Gives z (AreRight es ps)) (sym a) (subst (λ z. Gives x' (AreRight es z)) (sym b) g)

pub command_gives : (x : Command) → CommandGives x
command_gives =
    ind-Command ActionGives ArmGives LabelledGives CommandGives GuardedGives
    (λ x y is. subst (λ z. ActionGives (roll-Action z)) is (λ scope opened.
    moved scope.names _ _ _ _
    (ap (λ f. f scope opened) (fold-roll-Action _ _ _ _ _ (action_layer every) (arm_layer every) (case_arm_layer every) (command_layer every) (guarded_layer every) _))
    (fold-roll-Action _ _ _ _ _ parts_of_action parts_of_arm parts_of_case_arm parts_of_layer parts_of_guarded _)
    (action_gives y scope opened)))
    (λ x y is. subst (λ z. ArmGives (roll-Arm z)) is (λ scope opened.
    moved scope.names _ _ _ _
    (ap (λ f. f scope opened) (fold-roll-Arm _ _ _ _ _ (action_layer every) (arm_layer every) (case_arm_layer every) (command_layer every) (guarded_layer every) _))
    (fold-roll-Arm _ _ _ _ _ parts_of_action parts_of_arm parts_of_case_arm parts_of_layer parts_of_guarded _)
    (arm_is y scope opened)))
    (λ x y is. subst (λ z. LabelledGives (roll-CaseArm z)) is (λ scope opened.
    moved scope.names _ _ _ _
    (ap (λ f. f scope opened) (fold-roll-CaseArm _ _ _ _ _ (action_layer every) (arm_layer every) (case_arm_layer every) (command_layer every) (guarded_layer every) _))
    (fold-roll-CaseArm _ _ _ _ _ parts_of_action parts_of_arm parts_of_case_arm parts_of_layer parts_of_guarded _)
    (labelled_is y.labels y.body scope opened)))
    (λ x y is. subst (λ z. CommandGives (roll-Command z)) is (λ scope opened.
    moved scope.names _ _ _ _
    (ap (λ f. f scope opened) (fold-roll-Command _ _ _ _ _ (action_layer every) (arm_layer every) (case_arm_layer every) (command_layer every) (guarded_layer every) _))
    (fold-roll-Command _ _ _ _ _ parts_of_action parts_of_arm parts_of_case_arm parts_of_layer parts_of_guarded _)
    (gives-becomes (AreRight scope.names (parts_of_whole y.action.0)) (command_of y.span.line) (judged_action every y.action.0 scope opened) (y.action.1 scope opened))))
    (λ x y is. subst (λ z. GuardedGives (roll-Guarded z)) is (λ scope opened.
    moved scope.names _ _ _ _
    (ap (λ f. f scope opened) (fold-roll-Guarded _ _ _ _ _ (action_layer every) (arm_layer every) (case_arm_layer every) (command_layer every) (guarded_layer every) _))
    (fold-roll-Guarded _ _ _ _ _ parts_of_action parts_of_arm parts_of_case_arm parts_of_layer parts_of_guarded _)
    (guarded_is y.guard y.body scope opened)))
