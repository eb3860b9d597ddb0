-- What fits is accepted.
use Rattle.std.proofs.Common.{◌≡◌, ℕ, ◌≤◌, List, [], ◌∷◌, map, None, Ok, Err, refl, ap, sym, subst, ◌∙◌, le-leb}
use Rattle.value.specs.Word.{least_width_of}
use Rattle.types.specs.Arms.{LabelledArm, labelled, cased, judged_labels, typed_labelled}
use Rattle.types.specs.Commands.{Scope, start_of, command_of, value, action_layer, arm_layer, case_arm_layer, command_layer, guarded_layer, judged_command, assignment, target}
use Rattle.types.specs.Expressions.{judged_expression, least_word}
use Rattle.types.specs.Findings.{Verdict, Findings, becomes, with_next, every}
use Rattle.types.specs.Names.{VisibleNames}
use Rattle.types.specs.Parts.{names_of_expression}
use Rattle.types.specs.Uses.{target_use}
use Rattle.types.specs.Visible.{visible_in, widths_of}
use Rattle.types.specs.WhatFits.{matching, assigning, LabelsThatFitAreAccepted, ValuesThatFitAreAccepted}
use Rattle.types.specs.Widths.{HasWidth, NameHasWidth, NameHasThisAlone}
use Rattle.types.specs.internal.CommandParts.{judged_action, judged_labelled}
use Rattle.types.specs.declared.arms.LabelUse.{LabelUse}
use Rattle.types.specs.declared.expression.Valued.{Valued}
use Rattle.types.specs.declared.tree.Action.TheVariants as action
use Rattle.types.specs.declared.tree.Binding.{Binding}
use Rattle.types.specs.declared.tree.Command as typed_command
use Rattle.types.specs.declared.tree.VariableUse.{VariableUse}
use Rattle.syntax.specs.declared.command.Action.{Action}
use Rattle.syntax.specs.declared.command.Arm.{Arm}
use Rattle.syntax.specs.declared.command.CaseArm.{CaseArm}
use Rattle.syntax.specs.declared.command.Command.{Command}
use Rattle.syntax.specs.declared.command.Guarded.{Guarded}
use Rattle.syntax.specs.declared.command.Label.{Label}
use Rattle.syntax.specs.declared.command.LabelValue.TheVariants as label
use Rattle.syntax.specs.declared.command.Action.TheFolds.{fold-roll-Action, fold-roll-CaseArm, fold-roll-Command}
use Rattle.syntax.specs.declared.command.Action.TheOpen.{Action-F}
use Rattle.syntax.specs.declared.command.Action.TheViews.{roll-Action, roll-CaseArm, roll-Command}
use Rattle.syntax.specs.declared.expression.Expr.{Expr}
use Rattle.syntax.specs.declared.name.Identifier.{Identifier}
use Rattle.syntax.specs.declared.span.Span.{Span}
use Rattle.types.proofs.ExpressionWays.{expression_once}
use Rattle.types.proofs.Fitting.{ok-is, use_width, target_way}
use Rattle.types.proofs.Lookups.{Once, shown}
use Rattle.types.proofs.OtherBodies.{IsRight, other_body}
use Rattle.types.proofs.PartsFound.{open_action}
use Rattle.types.proofs.TypingLaws.{right_by}
use Rattle.types.proofs.WidthRules.{alone_by_rules}

-- ---- one layer of a command

opened_command : (span : Span) (x : Action-F Action Arm CaseArm Command Guarded) (scope : Scope) (opened : List Binding)
    → judged_command every (roll-Command (record { span = span; action = roll-Action x })) scope opened ≡ becomes (command_of span.line) (open_action x scope opened)
opened_command span x scope opened = outer ∙ ap (becomes (command_of span.line)) inner
  where
    outer : judged_command every (roll-Command (record { span = span; action = roll-Action x })) scope opened ≡ becomes (command_of span.line) (judged_action every (roll-Action x) scope opened)
    outer = ap (λ f. f scope opened) (fold-roll-Command _ _ _ _ _ (action_layer every) (arm_layer every) (case_arm_layer every) (command_layer every) (guarded_layer every) _)

    inner : judged_action every (roll-Action x) scope opened ≡ open_action x scope opened
    inner = ap (λ f. f scope opened) (fold-roll-Action _ _ _ _ _ (action_layer every) (arm_layer every) (case_arm_layer every) (command_layer every) (guarded_layer every) _)

opened_arm : (labels : List Label) (c : Command) (scope : Scope) (opened : List Binding)
    → judged_labelled every (roll-CaseArm (record { labels = labels; body = c })) scope opened ≡ labelled every (judged_labels every scope.names opened labels) (judged_command every c scope opened)
opened_arm labels c scope opened =
    ap (λ f. f scope opened) (fold-roll-CaseArm _ _ _ _ _ (action_layer every) (arm_layer every) (case_arm_layer every) (command_layer every) (guarded_layer every) _)

-- ---- how wide what is right is

value_wide : (es : VisibleNames) → Once es → (opened : List Binding) (e : Expr) (v : Valued) → judged_expression every e es opened ≡ Ok v
    → (width : ℕ) → HasWidth (map shown es) e width → width ≡ v.width
value_wide es once opened e v is width has =
    (alone_by_rules (map shown es) e v.width
    (right_by es (judged_expression every e es opened) (widths_of (map shown es) e) (names_of_expression e) v is (expression_once e es opened once)).0).1 width has

target_wide : (scope : Scope) → Once scope.names → (opened : List Binding) (x : Identifier) (r : VariableUse × ℕ) → target x scope opened ≡ Ok r
    → (room : ℕ) → NameHasWidth (map shown scope.names) x.name room → room ≡ r.1
unfolding target_use
target_wide scope once opened x r is room has =
    (ok-is (λ (r : VariableUse × ℕ). NameHasThisAlone (map shown scope.names) x.name r.1) (target x scope opened) r is
    (use_width scope.names once opened x.name (λ f. target_use f x.span.start) (λ r. r.1) tt (target_way opened x.span.start))).1 room has

-- ---- `case`

abbrev one_label : Scope → Label → Findings every typed_command.Command → Findings every (List LabelledArm)
one_label scope l c = with_next every (Ok []) (labelled every (judged_labels every scope.names [] (l ∷ [])) c)

opened_matching : (span : Span) (e : Expr) (l : Label) (c : Command) (scope : Scope)
    → judged_command every (matching span e l c) scope [] ≡ becomes (command_of span.line) (cased every (value every e scope []) (one_label scope l (judged_command every c scope [])) (Ok None))
opened_matching span e l c scope =
    opened_command span (Action-F.Case e (roll-CaseArm (record { labels = l ∷ []; body = c }) ∷ []) None) scope []
    ∙ ap (λ z. becomes (command_of span.line) (cased every (value every e scope []) (with_next every (Ok []) z) (Ok None))) (opened_arm (l ∷ []) c scope [])

case_parts : (line : ℕ) (s : Findings every Valued) (arms : Findings every (List LabelledArm)) (m : typed_command.Command) → becomes (command_of line) (cased every s arms (Ok None)) ≡ Ok m
    → ((v : Valued) × (s ≡ Ok v)) × ((these : List LabelledArm) × (arms ≡ Ok these))
unfolding cased
case_parts line (Ok v) (Ok these) m e = ((v, refl), (these, refl))
case_parts line (Ok v) (Err fs) m e = absurd cc
case_parts line (Err fs) (Ok these) m e = absurd cc
case_parts line (Err fs) (Err gs) m e = absurd cc

body_of : (ls : Findings every (List LabelUse)) (c : Findings every typed_command.Command) (these : List LabelledArm) → with_next every (Ok []) (labelled every ls c) ≡ Ok these
    → (m : typed_command.Command) × (c ≡ Ok m)
unfolding labelled
body_of (Ok us) (Ok m) these e = (m, refl)
body_of (Ok us) (Err fs) these e = absurd cc
body_of (Err fs) (Ok m) these e = absurd cc
body_of (Err fs) (Err gs) these e = absurd cc

matched : (v : Valued) (u : LabelUse) (m : typed_command.Command) → u.value.width ≤ v.width
    → cased every (Ok v) (with_next every (Ok []) (labelled every (Ok (u ∷ [])) (Ok m))) (Ok None)
    ≡ Ok (action.Case v.expression (map typed_labelled (record { labels = u ∷ []; body = m } ∷ [])) None)
unfolding cased labelled
matched v u m few = rw (le-leb u.value.width v.width few) refl

-- the label with this number
abbrev numbered : Label → ℕ → Label
numbered l n = record { span = l.span; value = label.Number n }

pub labels_that_fit : LabelsThatFitAreAccepted
labels_that_fit types before p behind span e l c n width accepted has few =
    other_body types p (matching span e l c) (matching span e l c) (matching span e (numbered l n) c) before behind follows accepted accepted
  where
    follows : (scope : Scope) → Once scope.names → map shown scope.names ≡ visible_in types before p → IsRight scope (matching span e l c) → IsRight scope (matching span e l c)
        → IsRight scope (matching span e (numbered l n) c)
    follows scope once seen (m, right) again =
        let parts = case_parts span.line (value every e scope []) (one_label scope l (judged_command every c scope [])) m (sym (opened_matching span e l c scope) ∙ right) in
        let body = body_of (judged_labels every scope.names [] (l ∷ [])) (judged_command every c scope []) parts.1.0 parts.1.1 in
        let v = parts.0.0 in
        let u : LabelUse = record { offset = l.span.start; value = least_word n } in
        let wide : width ≡ v.width = value_wide scope.names once [] e v parts.0.1 width (subst (λ ds. HasWidth ds e width) (sym seen) has) in
        let fits = matched v u body.0 (subst (λ z. least_width_of n ≤ z) wide few) in (
          command_of span.line (action.Case v.expression (map typed_labelled (record { labels = u ∷ []; body = body.0 } ∷ [])) None),
          opened_matching span e (numbered l n) c scope
              ∙ ap (λ z. becomes (command_of span.line) (cased every z (one_label scope (numbered l n) (judged_command every c scope [])) (Ok None))) parts.0.1
              ∙ ap (λ z. becomes (command_of span.line) (cased every (Ok v) (one_label scope (numbered l n) z) (Ok None))) body.1
              ∙ ap (becomes (command_of span.line)) fits,
        )

-- ---- `:=`

assign_parts : (line : ℕ) (t : Verdict (VariableUse × ℕ)) (s : Findings every Valued) (start : ℕ) (m : typed_command.Command)
    → becomes (command_of line) (assignment every t s start) ≡ Ok m → ((r : VariableUse × ℕ) × (t ≡ Ok r)) × ((v : Valued) × (s ≡ Ok v))
unfolding assignment
assign_parts line (Ok r) (Ok v) start m e = ((r, refl), (v, refl))
assign_parts line (Ok r) (Err fs) start m e = absurd cc
assign_parts line (Err f) (Ok v) start m e = absurd cc
assign_parts line (Err f) (Err fs) start m e = absurd cc

assigned : (r : VariableUse × ℕ) (v : Valued) (start : ℕ) → v.width ≤ r.1 → assignment every (Ok r) (Ok v) start ≡ Ok (action.Assign r.0 r.1 v.expression)
unfolding assignment
assigned r v start few = rw (le-leb v.width r.1 few) refl

opened_assigning : (span : Span) (x : Identifier) (e : Expr) (scope : Scope)
    → judged_command every (assigning span x e) scope [] ≡ becomes (command_of span.line) (assignment every (target x scope []) (value every e scope []) (start_of e))
opened_assigning span x e scope = opened_command span (Action-F.Assign x e) scope []

pub values_that_fit : ValuesThatFitAreAccepted
values_that_fit types before p behind span other x y d e width room accepted also wide_name wide few =
    other_body types p (assigning span x d) (assigning other y e) (assigning span x e) before behind follows accepted also
  where
    follows : (scope : Scope) → Once scope.names → map shown scope.names ≡ visible_in types before p → IsRight scope (assigning span x d) → IsRight scope (assigning other y e)
        → IsRight scope (assigning span x e)
    follows scope once seen (m, right) (k, also_right) =
        let ones = assign_parts span.line (target x scope []) (value every d scope []) (start_of d) m (sym (opened_assigning span x d scope) ∙ right) in
        let others = assign_parts other.line (target y scope []) (value every e scope []) (start_of e) k (sym (opened_assigning other y e scope) ∙ also_right) in
        let r = ones.0.0 in
        let v = others.1.0 in
        let value_is : width ≡ v.width = value_wide scope.names once [] e v others.1.1 width (subst (λ ds. HasWidth ds e width) (sym seen) wide) in
        let room_is : room ≡ r.1 = target_wide scope once [] x r ones.0.1 room (subst (λ ds. NameHasWidth ds x.name room) (sym seen) wide_name) in
        let fits = assigned r v (start_of e) (subst (λ z. v.width ≤ z) room_is (subst (λ z. z ≤ room) value_is few)) in (
          command_of span.line (action.Assign r.0 r.1 v.expression),
          opened_assigning span x e scope
              ∙ ap (λ z. becomes (command_of span.line) (assignment every z (value every e scope []) (start_of e))) ones.0.1
              ∙ ap (λ z. becomes (command_of span.line) (assignment every (Ok r) z (start_of e))) others.1.1
              ∙ ap (becomes (command_of span.line)) fits,
        )
