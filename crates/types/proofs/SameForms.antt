-- What a right expression or command becomes is the same, form by form.
use Rattle.std.proofs.Common.{◌≡◌, ℕ, List, [], ◌∷◌, ◌++◌, map, flat_map, true, false, Bool, Option, Some, None, nat_eq, nat_le, slice_get, if◌then◌else◌, Ok, Err, IfOk, refl, ap, sym, subst, append_assoc, append-nil}
use Rattle.types.specs.Arms as arms
use Rattle.types.specs.Arms.{GuardedArm, LabelledArm, guarded, conditional, labelled, cased, arm_of, distinct, typed_guarded, typed_labelled, judged_labels, new_labels, new_channels, channel_of_arm}
use Rattle.types.specs.Calls.{call_fits, called, judged_arguments}
use Rattle.types.specs.Commands.{Scope, Judged, start_of, command_of, value, action_layer, arm_layer, case_arm_layer, command_layer, guarded_layer, each, judged_command, assignment, sending, receiving, guarded_loop, enclosing, target, sender, receiver, opened_by, channel_alone}
use Rattle.types.specs.Expressions.{JudgedValue, judged_expression, shape_layer, expression_layer, binary, combined, complement, cast, type_width, width_within, operator_width}
use Rattle.types.specs.Findings.{Verdict, Findings, becomes, if_right, both, with_next, with_all, demands, one_fault, every}
use Rattle.types.specs.Names.{find}
use Rattle.types.specs.SameTree as same
use Rattle.types.specs.SameTree.{Standing, OneByOne, AllDiffer, arm_channels, SameVariable, SameChannel, SameExpression, SameCommand, SameCommands, SameLast, SameGuarded, SameLabelled, SameArms, SameAction, SameLabel, sends, receives, begins, shaped}
use Rattle.types.specs.Uses.{sync_use, arm_use, procedure_use}
use Rattle.types.specs.Widths.{TypeHasThisAlone}
use Rattle.types.specs.internal.CommandParts.{judged_action, judged_guarded, judged_labelled, judged_arm}
use Rattle.types.specs.declared.arms.LabelUse.{LabelUse}
use Rattle.types.specs.declared.expression.Valued.{Valued}
use Rattle.refusals.specs.declared.types.Fault.{Fault}
use Rattle.types.specs.declared.tree.Action.TheVariants as action
use Rattle.types.specs.declared.tree.Arm as typed_arm
use Rattle.types.specs.declared.tree.Binding.{Binding}
use Rattle.types.specs.declared.tree.ChannelUse.{ChannelUse}
use Rattle.types.specs.declared.tree.Command as typed_command
use Rattle.types.specs.declared.tree.Procedure.{Procedure}
use Rattle.types.specs.declared.tree.VariableUse.{VariableUse}
use Rattle.syntax.specs.Lists.{Every}
use Rattle.syntax.specs.declared.command.Action.{Action}
use Rattle.syntax.specs.declared.command.Arm.{Arm}
use Rattle.syntax.specs.declared.command.CaseArm.{CaseArm}
use Rattle.syntax.specs.declared.command.Command.{Command}
use Rattle.syntax.specs.declared.command.Guarded.{Guarded}
use Rattle.syntax.specs.declared.command.Label.{Label}
use Rattle.syntax.specs.declared.command.Action.TheFolds.{map-Action, fold-roll-Action, fold-roll-Arm, fold-roll-CaseArm, fold-roll-Command, fold-roll-Guarded, ind-Command}
use Rattle.syntax.specs.declared.command.Action.TheOpen.{Action-F}
use Rattle.syntax.specs.declared.command.Action.TheViews.{roll-Action, roll-Arm, roll-CaseArm, roll-Command, roll-Guarded}
use Rattle.syntax.specs.declared.expression.Expr.{Expr}
use Rattle.syntax.specs.declared.expression.Operator.{Operator}
use Rattle.syntax.specs.declared.expression.Shape.{Shape}
use Rattle.syntax.specs.declared.expression.Shape.TheFolds.{map-Shape, fold-roll-Shape, fold-roll-Expr, ind-Expr}
use Rattle.syntax.specs.declared.expression.Shape.TheOpen.{Shape-F}
use Rattle.syntax.specs.declared.expression.Shape.TheViews.{roll-Expr, roll-Shape}
use Rattle.syntax.specs.declared.expression.TypeName.{TypeName}
use Rattle.syntax.specs.declared.name.Identifier.{Identifier}
use Rattle.syntax.specs.declared.span.Span.{Span}
use Rattle.types.proofs.DeclaredOnce.{alone-ok, and_all-ok}
use Rattle.types.proofs.Differing.{channels_differ, arms_differ, all_ok, labels_differ}
use Rattle.types.proofs.ExpressionWays.{judged_shape, type_once}
use Rattle.types.proofs.Fitting.{ok-by, ok-weaker, ok-becomes, ok-both, ok-if_right, ok-alone}
use Rattle.types.proofs.Least.{With}
use Rattle.types.proofs.Lookups.{Once, shown}
use Rattle.types.proofs.Meanings.{AllMean, StandsFor}
use Rattle.types.proofs.PartsFound.{open_action}
use Rattle.types.proofs.SameNames.{target_same, sender_same, receiver_same, sync_same, arm_same, IsProcedure, procedure_same, Argument, arguments_same, kinds_of, call_same, HasLabel, labels_same, value_same}
use Rattle.types.proofs.SamePorts.{one-next}
use Rattle.types.proofs.TypeWidths.{type_has}

-- ---- what is right by its parts

-- the second part, where the first one is right
ok-inside : {A B : Type 0} (P : A → Type 0) (Q : A → B → Type 0) (x : Findings every A) (y : Findings every B) → IfOk x P
    → ((a : A) → x ≡ Ok a → IfOk y (Q a)) → IfOk (both every x y) (λ p. P p.0 × Q p.0 p.1)
ok-inside P Q (Ok a) (Ok b) p q = (p, q a refl)
ok-inside P Q (Ok a) (Err fs) p q = tt
ok-inside P Q (Err fs) (Ok b) p q = tt
ok-inside P Q (Err fs) (Err gs) p q = tt

-- a form whose own demand is a test of two parts
tested : {A B C : Type 0} (P : A → Type 0) (Q : B → Type 0) (G : C → Type 0) (x : Findings every A) (y : Findings every B) (test : A × B → Bool) (make : A × B → C)
    (fault : A × B → Fault) → ((a : A) (b : B) → P a → Q b → test (a, b) ≡ true → G (make (a, b))) → IfOk x P → IfOk y Q
    → IfOk (if_right (both every x y) (λ p. one_fault (if test p then Ok (make p) else Err (fault p)))) G
tested {A = A} {B = B} P Q G x y test make fault f p q =
    ok-if_right (λ (r : A × B). P r.0 × Q r.1) G (both every x y) _ (λ r h. by r h (test r) refl) (ok-both P Q x y p q)
  where
    by : (r : A × B) → P r.0 × Q r.1 → (t : Bool) → test r ≡ t → IfOk (one_fault (if t then Ok (make r) else Err (fault r))) G
    by r h true is = f r.0 r.1 h.0 h.1 is
    by r h false is = tt

-- whatever else is asked
asked : {A B : Type 0} (P : A → Type 0) (a : A) → P a → (r : Findings every B) → IfOk (becomes (λ _. a) r) P
asked P a p (Ok b) = p
asked P a p (Err fs) = tt

-- what is asked is right
asked-ok : {A : Type 0} (P : A → Type 0) (a : A) (vs : List (Verdict (Unit {0}))) → (Every (λ v. v ≡ Ok tt) vs → P a) → IfOk (becomes (λ _. a) (demands every vs)) P
asked-ok P a vs f = by (demands every vs) refl
  where
    by : (r : Findings every (Unit {0})) → demands every vs ≡ r → IfOk (becomes (λ _. a) r) P
    by (Ok b) is = f (and_all-ok (Ok tt) vs is).1
    by (Err fs) is = tt

-- ---- lists of parts

-- children, each of which gives something
children_same : {X A : Type 0} (scope : Scope) (opened : List Binding) (judge : X → Judged every A) (Q : X → Type 0) (R : X → A → Type 0)
    → ((x : X) → Q x → IfOk (judge x scope opened) (R x)) → (l : Findings every (List A)) (xs : List X) → IfOk l (OneByOne R xs) → (ys : List (With Q))
    → IfOk (with_all every l (map (λ child. child scope opened) (map judge (map (λ y. y.0) ys)))) (OneByOne R (xs ++ map (λ y. y.0) ys))
children_same scope opened judge Q R f l xs h [] = subst (λ zs. IfOk l (OneByOne R zs)) (sym (append-nil xs)) h
children_same scope opened judge Q R f l xs h (y ∷ ys) =
    let x = y.0 in
    let one = judge x scope opened in
    subst (λ zs. IfOk (with_all every (with_next every l one) (map (λ child. child scope opened) (map judge (map (λ y. y.0) ys)))) (OneByOne R zs))
    (append_assoc xs (x ∷ []) (map (λ y. y.0) ys))
    (children_same scope opened judge Q R f (with_next every l one) (xs ++ x ∷ [])
    (ok-becomes _ (OneByOne R (xs ++ x ∷ [])) _ (both every l one) (λ q g. one-next R xs q.0 x q.1 g.0 g.1) (ok-both (OneByOne R xs) (R x) l one h (f x y.1))) ys)

-- what goes on before others that are the same, is the same as a whole
abbrev Before : {X A B : Type 0} → (List X → List B → Type 0) → (A → B) → X → A → Type 0
Before {X = X} {B = B} S f x m = (xs : List X) (ys : List B) → S xs ys → S (x ∷ xs) (f m ∷ ys)

gathered : {X A B : Type 0} (S : List X → List B → Type 0) (f : A → B) → S [] [] → (xs : List X) (made : List A) → OneByOne (Before S f) xs made → S xs (map f made)
gathered S f none [] [] h = none
gathered S f none [] (m ∷ made) h = absurd h
gathered S f none (x ∷ xs) [] h = absurd h
gathered S f none (x ∷ xs) (m ∷ made) h = h.0 xs (map f made) (gathered S f none xs made h.1)

gathered_alone : {X A : Type 0} (S : List X → List A → Type 0) → S [] [] → (xs : List X) (made : List A) → OneByOne (Before S (λ m. m)) xs made → S xs made
gathered_alone S none [] [] h = none
gathered_alone S none [] (m ∷ made) h = absurd h
gathered_alone S none (x ∷ xs) [] h = absurd h
gathered_alone S none (x ∷ xs) (m ∷ made) h = h.0 xs made (gathered_alone S none xs made h.1)

values_same : (R : Label → ℕ → Type 0) (labels : List Label) (us : List LabelUse) → OneByOne (λ l u. R l u.value.bits) labels us
    → OneByOne R labels (map (λ l. l.value.bits) us)
values_same R [] [] h = tt
values_same R [] (u ∷ us) h = absurd h
values_same R (l ∷ labels) [] h = absurd h
values_same R (l ∷ labels) (u ∷ us) h = (h.0, values_same R labels us h.1)

-- ---- in a scope in which each name means what is declared under it

module _ (at : Standing) (scope : Scope) (once : Once scope.names) (seen : map shown scope.names ≡ at.visible)
    (mean : AllMean (StandsFor at.types at.earlier at.ports at.locals) scope.names)
    (kinds : scope.procedures ≡ map (λ (q : Procedure). kinds_of q.ports) at.earlier) where
  -- ---- expressions

  abbrev ShapeSame : Shape → Type 0
  ShapeSame s = (span : Span) (start : ℕ) (opened : List Binding)
      → IfOk (judged_shape s start scope.names opened) (λ v. SameExpression at opened (roll-Expr (record { span = span; own_start = start; shape = s })) v.expression)

  abbrev ExpressionSame : Expr → Type 0
  ExpressionSame e = (opened : List Binding) → IfOk (judged_expression every e scope.names opened) (λ v. SameExpression at opened e v.expression)

  abbrev Open : Type 0
  Open = Shape-F (With ShapeSame) (With ExpressionSame)

  abbrev plain_shape : Open → Shape-F Shape Expr
  plain_shape y = map-Shape (With ShapeSame) (With ExpressionSame) Shape Expr (λ x. x.0) (λ x. x.0) y

  binary_same : (span : Span) (start : ℕ) (opened : List Binding) (op : Operator) (d e : Expr) (l r : Findings every Valued)
      → IfOk l (λ v. SameExpression at opened d v.expression) → IfOk r (λ v. SameExpression at opened e v.expression)
      → IfOk (binary every op start l r) (λ v. SameExpression at opened (shaped at span start (Shape-F.Binary op d e)) v.expression)
  unfolding binary
  binary_same span start opened op d e l r left right =
      ok-if_right (λ (p : Valued × Valued). SameExpression at opened d p.0.expression × SameExpression at opened e p.1.expression)
      (λ (v : Valued). SameExpression at opened (shaped at span start (Shape-F.Binary op d e)) v.expression) (both every l r) _
      (λ p h. with_width p h (width_within start (operator_width op p.0.width p.1.width) op))
      (ok-both (λ (v : Valued). SameExpression at opened d v.expression) (λ (v : Valued). SameExpression at opened e v.expression) l r left right)
    where
      with_width : (p : Valued × Valued) → SameExpression at opened d p.0.expression × SameExpression at opened e p.1.expression → (w : Verdict ℕ)
          → IfOk (one_fault (becomes (combined op p.0 p.1) w)) (λ v. SameExpression at opened (shaped at span start (Shape-F.Binary op d e)) v.expression)
      with_width p h (Ok w) = same.binary span start op d e p.0.expression p.1.expression h.0 h.1
      with_width p h (Err fault) = tt

  type_same : (opened : List Binding) (type : TypeName) → IfOk (one_fault (type_width scope.names opened type)) (TypeHasThisAlone at.visible type)
  type_same opened type =
      ok-alone (TypeHasThisAlone at.visible type) (type_width scope.names opened type)
      (ok-by (TypeHasThisAlone at.visible type) (type_width scope.names opened type) (λ w is.
      subst (λ ds. TypeHasThisAlone ds type w) seen (type_has (map shown scope.names) type w (type_once scope.names once opened type w is).0)))

  layer_same : (y : Open) (span : Span) (start : ℕ) (opened : List Binding)
      → IfOk (shape_layer every (map-Shape Shape Expr (ℕ → JudgedValue every) (JudgedValue every) judged_shape (judged_expression every) (plain_shape y)) start scope.names opened)
      (λ v. SameExpression at opened (shaped at span start (plain_shape y)) v.expression)
  layer_same (Shape-F.Number n) span start opened = same.number span start n
  layer_same (Shape-F.Name n) span start opened = value_same at scope mean opened span start n
  layer_same (Shape-F.Binary op d e) span start opened = binary_same span start opened op d.0 e.0 _ _ (d.1 opened) (e.1 opened)
  layer_same (Shape-F.Not e) span start opened =
      ok-becomes (λ (v : Valued). SameExpression at opened e.0 v.expression) (λ (v : Valued). SameExpression at opened (shaped at span start (Shape-F.Not e.0)) v.expression)
      complement (judged_expression every e.0 scope.names opened) (λ v h. same.complement span start e.0 v.expression h) (e.1 opened)
  layer_same (Shape-F.Cast e type) span start opened =
      let operand = judged_expression every e.0 scope.names opened in
      let width = one_fault (type_width scope.names opened type) in
      let Operand = λ (v : Valued). SameExpression at opened e.0 v.expression in
      ok-becomes (λ (p : Valued × ℕ). Operand p.0 × TypeHasThisAlone at.visible type p.1)
      (λ (v : Valued). SameExpression at opened (shaped at span start (Shape-F.Cast e.0 type)) v.expression) (λ p. cast p.0 p.1) (both every operand width)
      (λ p h. same.cast span start e.0 type p.0.expression p.1 h.0 h.1)
      (ok-both Operand (TypeHasThisAlone at.visible type) operand width (e.1 opened) (type_same opened type))

  expression_same : (e : Expr) → ExpressionSame e
  expression_same =
      ind-Expr ShapeSame ExpressionSame
      (λ x y is. subst (λ z. ShapeSame (roll-Shape z)) is (λ span start opened.
      subst (λ (f : ℕ → JudgedValue every). IfOk (f start scope.names opened) (λ v. SameExpression at opened (shaped at span start (plain_shape y)) v.expression))
      (sym (fold-roll-Shape (ℕ → JudgedValue every) (JudgedValue every) (shape_layer every) (expression_layer every) _)) (layer_same y span start opened)))
      (λ x y is. subst (λ z. ExpressionSame (roll-Expr z)) is (λ opened.
      subst (λ (f : JudgedValue every). IfOk (f scope.names opened)
      (λ v. SameExpression at opened (roll-Expr (record { span = y.span; own_start = y.own_start; shape = y.shape.0 })) v.expression))
      (sym (fold-roll-Expr (ℕ → JudgedValue every) (JudgedValue every) (shape_layer every) (expression_layer every) _)) (y.shape.1 y.span y.own_start opened)))

  -- ---- commands and what they consist of

  abbrev IsSame : List Binding → Expr → Valued → Type 0
  IsSame opened e v = SameExpression at opened e v.expression

  abbrev ActionSame : Action → Type 0
  ActionSame x = (opened : List Binding) → IfOk (judged_action every x scope opened) (SameAction at opened x)

  abbrev ArmSame : Arm → Type 0
  ArmSame x = (opened : List Binding) → IfOk (judged_arm every x scope opened) (Before (SameArms at opened) (λ m. m) x)

  abbrev LabelledSame : CaseArm → Type 0
  LabelledSame x = (opened : List Binding) → IfOk (judged_labelled every x scope opened) (Before (SameLabelled at opened) typed_labelled x)

  abbrev CommandSame : Command → Type 0
  CommandSame x = (opened : List Binding) → IfOk (judged_command every x scope opened) (SameCommand at opened x)

  abbrev GuardedSame : Guarded → Type 0
  GuardedSame x = (opened : List Binding) → IfOk (judged_guarded every x scope opened) (Before (SameGuarded at opened) typed_guarded x)

  abbrev Layer : Type 0
  Layer = Action-F (With ActionSame) (With ArmSame) (With LabelledSame) (With CommandSame) (With GuardedSame)

  abbrev plain : Layer → Action-F Action Arm CaseArm Command Guarded
  plain y = map-Action (With ActionSame) (With ArmSame) (With LabelledSame) (With CommandSame) (With GuardedSame) Action Arm CaseArm Command Guarded
      (λ x. x.0) (λ x. x.0) (λ x. x.0) (λ x. x.0) (λ x. x.0) y

  commands_same : (opened : List Binding) (ys : List (With CommandSame))
      → IfOk (each every (map (judged_command every) (map (λ y. y.0) ys)) scope opened) (SameCommands at opened (map (λ y. y.0) ys))
  commands_same opened ys =
      ok-weaker (OneByOne (SameCommand at opened) (map (λ y. y.0) ys)) (SameCommands at opened (map (λ y. y.0) ys)) _ (all (map (λ y. y.0) ys))
      (children_same scope opened (judged_command every) CommandSame (SameCommand at opened) (λ x f. f opened) (Ok []) [] tt ys)
    where
      all : (xs : List Command) (made : List typed_command.Command) → OneByOne (SameCommand at opened) xs made → SameCommands at opened xs made
      all [] [] h = same.no_commands opened
      all [] (m ∷ made) h = absurd h
      all (x ∷ xs) [] h = absurd h
      all (x ∷ xs) (m ∷ made) h = same.more_commands opened x m xs made h.0 (all xs made h.1)

  arms_same : (opened : List Binding) (ys : List (With ArmSame))
      → IfOk (each every (map (judged_arm every) (map (λ y. y.0) ys)) scope opened) (SameArms at opened (map (λ y. y.0) ys))
  arms_same opened ys =
      ok-weaker (OneByOne (Before (SameArms at opened) (λ m. m)) (map (λ y. y.0) ys)) (SameArms at opened (map (λ y. y.0) ys)) _
      (gathered_alone (SameArms at opened) (same.no_arms opened) (map (λ y. y.0) ys))
      (children_same scope opened (judged_arm every) ArmSame (Before (SameArms at opened) (λ m. m)) (λ x f. f opened) (Ok []) [] tt ys)

  labelled_arms_same : (opened : List Binding) (ys : List (With LabelledSame))
      → IfOk (each every (map (judged_labelled every) (map (λ y. y.0) ys)) scope opened) (λ made. SameLabelled at opened (map (λ y. y.0) ys) (map typed_labelled made))
  labelled_arms_same opened ys =
      ok-weaker (OneByOne (Before (SameLabelled at opened) typed_labelled) (map (λ y. y.0) ys)) _ _
      (gathered (SameLabelled at opened) typed_labelled (same.no_labelled opened) (map (λ y. y.0) ys))
      (children_same scope opened (judged_labelled every) LabelledSame (Before (SameLabelled at opened) typed_labelled) (λ x f. f opened) (Ok []) [] tt ys)

  guarded_arms_same : (opened : List Binding) (ys : List (With GuardedSame))
      → IfOk (each every (map (judged_guarded every) (map (λ y. y.0) ys)) scope opened) (λ made. SameGuarded at opened (map (λ y. y.0) ys) (map typed_guarded made))
  guarded_arms_same opened ys =
      ok-weaker (OneByOne (Before (SameGuarded at opened) typed_guarded) (map (λ y. y.0) ys)) _ _
      (gathered (SameGuarded at opened) typed_guarded (same.no_guarded opened) (map (λ y. y.0) ys))
      (children_same scope opened (judged_guarded every) GuardedSame (Before (SameGuarded at opened) typed_guarded) (λ x f. f opened) (Ok []) [] tt ys)

  last_same : (opened : List Binding) (body : With CommandSame)
      → IfOk (becomes (λ c. Some c) (judged_command every body.0 scope opened)) (SameLast at opened (Some body.0))
  last_same opened body =
      ok-becomes (SameCommand at opened body.0) (SameLast at opened (Some body.0)) (λ c. Some c) (judged_command every body.0 scope opened)
      (λ m h. same.the_last opened body.0 m h) (body.1 opened)

  -- ---- forms of several arms

  conditional_same : (opened : List Binding) (xs : List Guarded) (last : Option Command) (these : Findings every (List GuardedArm)) (end : Findings every (Option typed_command.Command))
      → IfOk these (λ made. SameGuarded at opened xs (map typed_guarded made)) → IfOk end (SameLast at opened last)
      → IfOk (conditional every these end) (SameAction at opened (roll-Action (Action-F.If xs last)))
  unfolding conditional
  conditional_same opened xs last these end h g =
      let Arms = λ (made : List GuardedArm). SameGuarded at opened xs (map typed_guarded made) in
      let G = SameAction at opened (roll-Action (Action-F.If xs last)) in
      ok-if_right (λ (p : List GuardedArm × Option typed_command.Command). Arms p.0 × SameLast at opened last p.1) G (both every these end) _
      (λ p r. asked G (action.If (map typed_guarded p.0) p.1) (same.test opened xs (map typed_guarded p.0) last p.1 r.0 r.1) (demands every (map arms.one_bit p.0)))
      (ok-both Arms (SameLast at opened last) these end h g)

  cased_same : (opened : List Binding) (e : Expr) (xs : List CaseArm) (last : Option Command) (subject : Findings every Valued) (these : Findings every (List LabelledArm))
      (end : Findings every (Option typed_command.Command)) → IfOk subject (IsSame opened e)
      → IfOk these (λ made. SameLabelled at opened xs (map typed_labelled made)) → IfOk end (SameLast at opened last)
      → IfOk (cased every subject these end) (SameAction at opened (roll-Action (Action-F.Case e xs last)))
  unfolding cased
  cased_same opened e xs last subject these end s h g =
      let Arms = λ (made : List LabelledArm). SameLabelled at opened xs (map typed_labelled made) in
      let G = SameAction at opened (roll-Action (Action-F.Case e xs last)) in
      let Rest = λ (q : List LabelledArm × Option typed_command.Command). Arms q.0 × SameLast at opened last q.1 in
      ok-if_right (λ (p : Valued × (List LabelledArm × Option typed_command.Command)). IsSame opened e p.0 × Rest p.1) G (both every subject (both every these end)) _
      (λ p r. asked-ok G (action.Case p.0.expression (map typed_labelled p.1.0) p.1.1) (new_labels p.0.width [] (flat_map (λ (a : LabelledArm). a.labels) p.1.0))
      (λ are. same.case opened e p.0.expression xs (map typed_labelled p.1.0) last p.1.1 r.0 r.1.0 (labels_differ p.0.width p.1.0 are) r.1.1))
      (ok-both (IsSame opened e) Rest subject (both every these end) s (ok-both Arms (SameLast at opened last) these end h g))

  abbrev DistinctArms : List Binding → List Arm → List typed_arm.Arm → Type 0
  DistinctArms opened xs made = SameArms at opened xs made × AllDiffer (arm_channels made)

  distinct_same : (opened : List Binding) (xs : List Arm) (these : Findings every (List typed_arm.Arm)) → IfOk these (SameArms at opened xs) → IfOk (distinct every these) (DistinctArms opened xs)
  unfolding distinct
  distinct_same opened xs these h =
      ok-if_right (SameArms at opened xs) (DistinctArms opened xs) these _
      (λ made r. asked-ok (DistinctArms opened xs) made (new_channels [] (map channel_of_arm made)) (λ are. (r, arms_differ made are))) h

  -- ---- each form

  action_same : (y : Layer) (opened : List Binding) → IfOk (open_action (plain y) scope opened) (SameAction at opened (roll-Action (plain y)))
  unfolding assignment sending receiving guarded_loop enclosing called
  action_same Action-F.Continue opened = same.continue opened
  action_same Action-F.Halt opened = same.halt opened
  action_same (Action-F.Sync x) opened =
      let G = SameAction at opened (roll-Action (Action-F.Sync x)) in
      ok-alone G (becomes (λ u. action.Sync u) (sync_use (find scope.names opened x.name) x.span.start))
      (ok-becomes (SameChannel at opened same.meets x) G (λ u. action.Sync u) (sync_use (find scope.names opened x.name) x.span.start) (λ u h. same.sync opened x u h)
      (sync_same at scope mean opened x))
  action_same (Action-F.Loop body) opened =
      ok-becomes (SameCommand at opened body.0) (SameAction at opened (roll-Action (Action-F.Loop body.0))) (λ b. action.Loop b) (judged_command every body.0 scope opened)
      (λ m h. same.loop opened body.0 m h) (body.1 opened)
  action_same (Action-F.While guard body) opened =
      tested (IsSame opened guard) (SameCommand at opened body.0) (SameAction at opened (roll-Action (Action-F.While guard body.0)))
      (value every guard scope opened) (judged_command every body.0 scope opened) (λ p. nat_eq p.0.width 1) _ _
      (λ v m h g is. same.while opened guard v.expression body.0 m h g) (expression_same guard opened) (body.1 opened)
  action_same (Action-F.If these None) opened = conditional_same opened (map (λ y. y.0) these) None _ (Ok None) (guarded_arms_same opened these) (same.no_last opened)
  action_same (Action-F.If these (Some last)) opened =
      conditional_same opened (map (λ y. y.0) these) (Some last.0) _ _ (guarded_arms_same opened these) (last_same opened last)
  action_same (Action-F.Case subject these None) opened =
      cased_same opened subject (map (λ y. y.0) these) None (value every subject scope opened) _ (Ok None) (expression_same subject opened) (labelled_arms_same opened these) (same.no_last opened)
  action_same (Action-F.Case subject these (Some last)) opened =
      cased_same opened subject (map (λ y. y.0) these) (Some last.0) (value every subject scope opened) _ _ (expression_same subject opened) (labelled_arms_same opened these) (last_same opened last)
  action_same (Action-F.Select these) opened =
      let xs : List Arm = map (λ (y : With ArmSame). y.0) these in
      let made = each every (map (judged_arm every) xs) scope opened in
      ok-becomes (DistinctArms opened xs) (SameAction at opened (roll-Action (Action-F.Select xs))) (λ these. action.Select these) (distinct every made)
      (λ m h. same.select opened xs m h.0 h.1) (distinct_same opened xs made (arms_same opened these))
  action_same (Action-F.Arbitrate first second) opened =
      let xs : List Arm = first.0 ∷ second.0 ∷ [] in
      let made = each every (map (judged_arm every) xs) scope opened in
      ok-becomes (DistinctArms opened xs) (SameAction at opened (roll-Action (Action-F.Arbitrate first.0 second.0))) (λ these. action.Arbitrate these) (distinct every made)
      (λ m h. same.arbitrate opened first.0 second.0 m h.0 h.1) (distinct_same opened xs made (arms_same opened (first ∷ second ∷ [])))
  action_same (Action-F.Assign x e) opened =
      tested (λ (r : VariableUse × ℕ). SameVariable at x.name x.span.start r.0 r.1) (IsSame opened e) (SameAction at opened (roll-Action (Action-F.Assign x e)))
      (one_fault (target x scope opened)) (value every e scope opened) (λ p. nat_le p.1.width p.0.1) _ _
      (λ r v h g is. same.assign opened x r.0 r.1 e v.expression h g) (target_same at scope mean opened x) (expression_same e opened)
  action_same (Action-F.Send x e) opened =
      tested (λ (r : ChannelUse × ℕ). SameChannel at opened (sends r.1) x r.0) (IsSame opened e) (SameAction at opened (roll-Action (Action-F.Send x e)))
      (one_fault (sender x scope opened)) (value every e scope opened) (λ p. nat_le p.1.width p.0.1) _ _
      (λ r v h g is. same.send opened x r.0 r.1 e v.expression h g) (sender_same at scope mean opened x) (expression_same e opened)
  action_same (Action-F.Receive x y) opened =
      tested (λ (r : ChannelUse × ℕ). SameChannel at opened (receives r.1) x r.0) (λ (r : VariableUse × ℕ). SameVariable at y.name y.span.start r.0 r.1)
      (SameAction at opened (roll-Action (Action-F.Receive x y)))
      (one_fault (receiver x scope opened)) (one_fault (target y scope opened)) (λ p. nat_le p.0.1 p.1.1) _ _
      (λ r t h g is. same.receive opened x y r.0 t.0 r.1 t.1 h g) (receiver_same at scope mean opened x) (target_same at scope mean opened y)
  action_same (Action-F.Input x body) opened =
      let channel = receiver x scope opened in
      let inner = opened_by opened (channel_alone channel) in
      let made = judged_command every body.0 scope inner in
      let P = λ (r : ChannelUse × ℕ). SameChannel at opened (receives r.1) x r.0 in
      let Q = λ (r : ChannelUse × ℕ) (m : typed_command.Command). SameCommand at (opened ++ r.0.channel ∷ []) body.0 m in
      ok-becomes (λ (p : (ChannelUse × ℕ) × typed_command.Command). P p.0 × Q p.0 p.1) (SameAction at opened (roll-Action (Action-F.Input x body.0))) _
      (both every (one_fault channel) made) (λ p h. same.input opened x p.0.0 p.0.1 body.0 p.1 h.0 h.1)
      (ok-inside P Q (one_fault channel) made (receiver_same at scope mean opened x) (λ r is.
      subst (λ z. IfOk made (SameCommand at z body.0)) (ap (λ v. opened_by opened (channel_alone v)) (alone-ok channel r is)) (body.1 inner)))
  action_same (Action-F.Call x arguments) opened =
      tested (IsProcedure at scope mean opened x) (OneByOne (λ a. Argument at scope mean opened a) arguments) (SameAction at opened (roll-Action (Action-F.Call x arguments)))
      (one_fault (procedure_use (find scope.names opened x.name) x.span.start)) (judged_arguments every scope.names opened arguments)
      (λ p. call_fits scope.names (slice_get scope.procedures p.0) arguments p.1) _ _
      (λ i us (q, here, name) h is. let fits = call_same at scope mean opened kinds i q here arguments us h is in
      same.call opened x arguments i q us here name fits.0 (channels_differ us (all_ok (new_channels [] us) fits.1)))
      (procedure_same at scope mean opened x) (arguments_same at scope mean opened arguments)
  action_same (Action-F.Sequence children) opened =
      let xs : List Command = map (λ (y : With CommandSame). y.0) children in
      ok-becomes (SameCommands at opened xs) (SameAction at opened (roll-Action (Action-F.Sequence xs))) (λ cs. action.Sequence cs)
      (each every (map (judged_command every) xs) scope opened) (λ m h. same.sequence opened xs m h) (commands_same opened children)
  action_same (Action-F.Parallel children) opened =
      let xs : List Command = map (λ (y : With CommandSame). y.0) children in
      ok-becomes (SameCommands at opened xs) (SameAction at opened (roll-Action (Action-F.Parallel xs))) (λ cs. action.Parallel cs)
      (each every (map (judged_command every) xs) scope opened) (λ m h. same.parallel opened xs m h) (commands_same opened children)

  arm_same_body : (x : Identifier) (body : With CommandSame) (opened : List Binding)
      → let channel = arm_use (find scope.names opened x.name) x.span.start in
      IfOk (arm_of every channel (judged_command every body.0 scope (opened_by opened channel)))
      (Before (SameArms at opened) (λ m. m) (roll-Arm (record { channel = x; body = body.0 })))
  unfolding arm_of
  arm_same_body x body opened =
      let channel = arm_use (find scope.names opened x.name) x.span.start in
      let inner = opened_by opened channel in
      let made = judged_command every body.0 scope inner in
      let P = SameChannel at opened begins x in
      let Q = λ (u : ChannelUse) (m : typed_command.Command). SameCommand at (opened ++ u.channel ∷ []) body.0 m in
      ok-becomes (λ (p : ChannelUse × typed_command.Command). P p.0 × Q p.0 p.1) (Before (SameArms at opened) (λ m. m) (roll-Arm (record { channel = x; body = body.0 }))) _
      (both every (one_fault channel) made) (λ p h xs ys rest. same.more_arms opened x p.0 body.0 p.1 xs ys h.0 h.1 rest)
      (ok-inside P Q (one_fault channel) made (ok-alone P channel (arm_same at scope mean opened x)) (λ u is.
      subst (λ z. IfOk made (SameCommand at z body.0)) (ap (opened_by opened) (alone-ok channel u is)) (body.1 inner)))

  guarded_same : (guard : Expr) (body : With CommandSame) (opened : List Binding)
      → IfOk (guarded every (value every guard scope opened) (start_of guard) (judged_command every body.0 scope opened))
      (Before (SameGuarded at opened) typed_guarded (roll-Guarded (record { guard = guard; body = body.0 })))
  unfolding guarded
  guarded_same guard body opened =
      ok-becomes (λ (p : Valued × typed_command.Command). IsSame opened guard p.0 × SameCommand at opened body.0 p.1)
      (Before (SameGuarded at opened) typed_guarded (roll-Guarded (record { guard = guard; body = body.0 }))) _
      (both every (value every guard scope opened) (judged_command every body.0 scope opened))
      (λ p h xs ys rest. same.more_guarded opened guard p.0.expression body.0 p.1 xs ys h.0 h.1 rest)
      (ok-both (IsSame opened guard) (SameCommand at opened body.0) (value every guard scope opened) (judged_command every body.0 scope opened) (expression_same guard opened) (body.1 opened))

  labelled_same : (labels : List Label) (body : With CommandSame) (opened : List Binding)
      → IfOk (labelled every (judged_labels every scope.names opened labels) (judged_command every body.0 scope opened))
      (Before (SameLabelled at opened) typed_labelled (roll-CaseArm (record { labels = labels; body = body.0 })))
  unfolding labelled
  labelled_same labels body opened =
      let L = OneByOne (HasLabel at scope mean) labels in
      ok-becomes (λ (p : List LabelUse × typed_command.Command). L p.0 × SameCommand at opened body.0 p.1)
      (Before (SameLabelled at opened) typed_labelled (roll-CaseArm (record { labels = labels; body = body.0 }))) _
      (both every (judged_labels every scope.names opened labels) (judged_command every body.0 scope opened))
      (λ p h xs ys rest.
      same.more_labelled opened labels (map (λ l. l.value.bits) p.0) body.0 p.1 xs ys (values_same (SameLabel at) labels p.0 h.0) h.1 rest)
      (ok-both L (SameCommand at opened body.0) (judged_labels every scope.names opened labels) (judged_command every body.0 scope opened)
      (labels_same at scope mean opened labels) (body.1 opened))

  moved : {A : Type 0} (P : A → Type 0) (x y : Findings every A) → x ≡ y → IfOk y P → IfOk x P
  moved P x y e h = subst (λ z. IfOk z P) (sym e) h

  pub command_same : (x : Command) → CommandSame x
  command_same =
      ind-Command ActionSame ArmSame LabelledSame CommandSame GuardedSame
      (λ x y is. subst (λ z. ActionSame (roll-Action z)) is (λ opened.
      moved (SameAction at opened (roll-Action (plain y))) _ _
      (ap (λ f. f scope opened) (fold-roll-Action _ _ _ _ _ (action_layer every) (arm_layer every) (case_arm_layer every) (command_layer every) (guarded_layer every) _))
      (action_same y opened)))
      (λ x y is. subst (λ z. ArmSame (roll-Arm z)) is (λ opened.
      moved (Before (SameArms at opened) (λ m. m) (roll-Arm (record { channel = y.channel; body = y.body.0 }))) _ _
      (ap (λ f. f scope opened) (fold-roll-Arm _ _ _ _ _ (action_layer every) (arm_layer every) (case_arm_layer every) (command_layer every) (guarded_layer every) _))
      (arm_same_body y.channel y.body opened)))
      (λ x y is. subst (λ z. LabelledSame (roll-CaseArm z)) is (λ opened.
      moved (Before (SameLabelled at opened) typed_labelled (roll-CaseArm (record { labels = y.labels; body = y.body.0 }))) _ _
      (ap (λ f. f scope opened) (fold-roll-CaseArm _ _ _ _ _ (action_layer every) (arm_layer every) (case_arm_layer every) (command_layer every) (guarded_layer every) _))
      (labelled_same y.labels y.body opened)))
      (λ x y is. subst (λ z. CommandSame (roll-Command z)) is (λ opened.
      moved (SameCommand at opened (roll-Command (record { span = y.span; action = y.action.0 }))) _ _
      (ap (λ f. f scope opened) (fold-roll-Command _ _ _ _ _ (action_layer every) (arm_layer every) (case_arm_layer every) (command_layer every) (guarded_layer every) _))
      (ok-becomes (SameAction at opened y.action.0) (SameCommand at opened (roll-Command (record { span = y.span; action = y.action.0 }))) (command_of y.span.line)
      (judged_action every y.action.0 scope opened) (λ m h. same.on_line opened y.span y.action.0 m h) (y.action.1 opened))))
      (λ x y is. subst (λ z. GuardedSame (roll-Guarded z)) is (λ opened.
      moved (Before (SameGuarded at opened) typed_guarded (roll-Guarded (record { guard = y.guard; body = y.body.0 }))) _ _
      (ap (λ f. f scope opened) (fold-roll-Guarded _ _ _ _ _ (action_layer every) (arm_layer every) (case_arm_layer every) (command_layer every) (guarded_layer every) _))
      (guarded_same y.guard y.body opened)))
