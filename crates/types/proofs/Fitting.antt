-- What a right command demands of widths is met.
use Rattle.std.proofs.Common.{◌≡◌, inl, inr, ℕ, ◌≤◌, List, [], ◌∷◌, ◌++◌, map, flat_map, true, false, Bool, ◌&&◌, not, nat_eq, nat_le, Option, Some, None, if◌then◌else◌, Result, Ok, Err, IfOk, refl, ap, sym, subst, ◌∙◌, append_assoc, append-nil, eqb-true, leb-true, slice_get, is_ok}
use Rattle.std.proofs.lemmas.Bool.{false≢true}
use Rattle.std.specs.Cmp.Lexicographic.{bytes_decides}
use Rattle.std.specs.List.{list_all, list_any}
use Rattle.types.specs.Arms as arms
use Rattle.types.specs.Arms.{GuardedArm, LabelledArm, guarded, conditional, labelled, cased, arm_of, distinct, label_value, judged_label, judged_labels, new_label, new_labels, with_seen, new_channels}
use Rattle.types.specs.Calls.{is_fit, fits_input, fits_output, fits_sync, fits_port, all_fit, call_fits, called, judged_arguments}
use Rattle.types.specs.Commands.{Scope, Judged, start_of, command_of, value, action_layer, arm_layer, case_arm_layer, command_layer, guarded_layer, each, judged_command, assignment, sending, receiving, guarded_loop, enclosing, target, sender, receiver, opened_by, channel_alone}
use Rattle.types.specs.Declarations.{scope_inside}
use Rattle.types.specs.Expressions.{judged_expression}
use Rattle.types.specs.Findings.{Verdict, Findings, becomes, if_right, both, and, with_next, with_all, and_all, demands, one_fault, every}
use Rattle.types.specs.Names.{VisibleNames, look_up, find, found_as, found_for, channel_of, is_among}
use Rattle.types.specs.Parts.{Name, names_of_expression}
use Rattle.types.specs.Uses.{target_use, sending_use, receiving_use, label_use, arm_use, procedure_use}
use Rattle.types.specs.Visible.{Declaration, of_all, widths_of, outside}
use Rattle.types.specs.internal.CommandParts.{judged_action, judged_guarded, judged_labelled, judged_arm}
use Rattle.types.specs.declared.arms.LabelUse.{LabelUse}
use Rattle.types.specs.declared.expression.Valued.{Valued}
use Rattle.types.specs.declared.scope.Channel.{Channel}
use Rattle.types.specs.declared.scope.Found.{Found}
use Rattle.types.specs.declared.scope.Found.TheVariants.{Nothing, Opened, Means}
use Rattle.types.specs.declared.scope.Meaning.{Meaning}
use Rattle.types.specs.declared.scope.Meaning.TheVariants as meaning
use Rattle.refusals.specs.declared.types.Fault.{Fault}
use Rattle.refusals.specs.declared.types.Fault.TheVariants.{BadArm, GuardNotOneBit}
use Rattle.types.specs.declared.tree.Action as typed_action
use Rattle.types.specs.declared.tree.Action.TheVariants as action
use Rattle.types.specs.declared.tree.Arm as typed_arm
use Rattle.types.specs.declared.tree.Binding.{Binding}
use Rattle.types.specs.declared.tree.Binding.TheVariants as binding
use Rattle.types.specs.declared.tree.ChannelUse.{ChannelUse}
use Rattle.types.specs.declared.tree.Command as typed_command
use Rattle.types.specs.declared.tree.PortKind as port_kind
use Rattle.types.specs.declared.tree.PortKind.TheVariants as port
use Rattle.types.specs.declared.tree.VariableUse.{VariableUse}
use Rattle.syntax.specs.Lists.{In, Every}
use Rattle.syntax.specs.declared.command.Action.{Action}
use Rattle.syntax.specs.declared.command.Arm.{Arm}
use Rattle.syntax.specs.declared.command.CaseArm.{CaseArm}
use Rattle.syntax.specs.declared.command.Command.{Command}
use Rattle.syntax.specs.declared.command.Guarded.{Guarded}
use Rattle.syntax.specs.declared.command.Label.{Label}
use Rattle.syntax.specs.declared.command.LabelValue.{LabelValue}
use Rattle.syntax.specs.declared.command.LabelValue.TheVariants as label
use Rattle.syntax.specs.declared.command.Action.TheFolds.{map-Action, fold-Action, fold-Arm, fold-CaseArm, fold-Guarded, fold-roll-Action, fold-roll-Arm, fold-roll-CaseArm, fold-roll-Command, fold-roll-Guarded, ind-Command}
use Rattle.syntax.specs.declared.command.Action.TheOpen.{Action-F, Arm-F}
use Rattle.syntax.specs.declared.command.Action.TheViews.{roll-Action, roll-Arm, roll-CaseArm, roll-Command, roll-Guarded}
use Rattle.syntax.specs.declared.declaration.PortKind as tree_port_kind
use Rattle.syntax.specs.declared.declaration.PortKind.TheVariants as port_of
use Rattle.syntax.specs.declared.declaration.Procedure.{Procedure}
use Rattle.syntax.specs.declared.declaration.TypeDeclaration.{TypeDeclaration}
use Rattle.syntax.specs.declared.expression.Expr.{Expr}
use Rattle.syntax.specs.declared.name.Identifier.{Identifier}
use Rattle.types.proofs.CalledPorts.{SameKind, Known, knows, known_inside}
use Rattle.types.proofs.Lookups.{Once, shown, value_ways, lone_answers, every-append, every-front, every-back}
use Rattle.types.proofs.ExpressionWays.{expression_once}
use Rattle.types.proofs.Least.{With}
use Rattle.types.proofs.PartsFound.{open_action}
use Rattle.types.proofs.StaysRight.{Pairs, pairs-next}
use Rattle.types.proofs.TypeWidths.{type_has}
use Rattle.types.proofs.TypingLaws.{right_by, is_sound, all_visible}
use Rattle.types.proofs.WidthRules.{in_single, answering, alone_by_rules}
use Rattle.types.specs.Widths.{HasThisAlone, NameHasThisAlone}
use Rattle.types.specs.Fits.{Demand, one_bit, has_room, is_received, may_match, demands_of_each, InArm, demands_of_labels, demands_of_action, demands_of_arm, demands_of_case_arm, demands_of_layer, demands_of_guarded, demands_of_command, LabelHasThisAlone, IsMet, DemandsAreMet, takes, PassesNone, PortTakes, PortsTake, ports_in_order}

-- ---- what holds of what is right

pub ok-is : {A E : Type 0} (P : A → Type 0) (r : Result A E) (a : A) → r ≡ Ok a → IfOk r P → P a
ok-is P (Ok b) a e h = let same : b ≡ a = cc in subst P same h
ok-is P (Err f) a e h = absurd cc

pub ok-by : {A E : Type 0} (P : A → Type 0) (r : Result A E) → ((a : A) → r ≡ Ok a → P a) → IfOk r P
ok-by P (Ok a) f = f a refl
ok-by P (Err e) f = tt

pub ok-weaker : {A E : Type 0} (P Q : A → Type 0) (r : Result A E) → ((a : A) → P a → Q a) → IfOk r P → IfOk r Q
ok-weaker P Q (Ok a) f p = f a p
ok-weaker P Q (Err e) f p = tt

pub ok-becomes : {A B E : Type 0} (P : A → Type 0) (Q : B → Type 0) (f : A → B) (r : Result A E) → ((a : A) → P a → Q (f a)) → IfOk r P → IfOk (becomes f r) Q
ok-becomes P Q f (Ok a) g p = g a p
ok-becomes P Q f (Err e) g p = tt

pub ok-both : {A B : Type 0} (P : A → Type 0) (Q : B → Type 0) (x : Findings every A) (y : Findings every B) → IfOk x P → IfOk y Q → IfOk (both every x y) (λ p. P p.0 × Q p.1)
ok-both P Q (Ok a) (Ok b) p q = (p, q)
ok-both P Q (Ok a) (Err fs) p q = tt
ok-both P Q (Err fs) (Ok b) p q = tt
ok-both P Q (Err fs) (Err gs) p q = tt

pub ok-if_right : {A B E : Type 0} (P : A → Type 0) (Q : B → Type 0) (r : Result A E) (next : A → Result B E) → ((a : A) → P a → IfOk (next a) Q) → IfOk r P → IfOk (if_right r next) Q
ok-if_right P Q (Ok a) next f p = f a p
ok-if_right P Q (Err e) next f p = tt

pub ok-alone : {A : Type 0} (P : A → Type 0) (v : Verdict A) → IfOk v P → IfOk (one_fault v) P
ok-alone P (Ok a) p = p
ok-alone P (Err e) p = tt

ok-test : {A : Type 0} (G : Type 0) (b : Bool) (a : A) (fault : Fault) → (b ≡ true → G) → IfOk (one_fault (if b then Ok a else Err fault)) (λ _. G)
ok-test G true a fault f = f refl
ok-test G false a fault f = tt

-- ---- names and values

in_middle : {X : Type 0} (x : X) (before behind : List X) → In x (before ++ x ∷ behind)
in_middle x [] behind = inl refl
in_middle x (b ∷ before) behind = inr (in_middle x before behind)

in_map : {X Y : Type 0} (f : X → Y) (x : X) (xs : List X) → In x xs → In (f x) (map f xs)
in_map f x [] at = absurd at
in_map f x (z ∷ xs) (inl same) = inl (ap f same)
in_map f x (z ∷ xs) (inr at) = inr (in_map f x xs at)

-- a name that means a value of this width
named_width : (es : VisibleNames) → Once es → (n : Name) (m : Meaning) (w : ℕ) → look_up es n ≡ Some m → value_ways m ≡ w ∷ [] → NameHasThisAlone (map shown es) n w
named_width es once n m w is ways =
    let l = once n m is in
    let among : In (l.name, m) es = subst (In (l.name, m)) (sym l.all) (in_middle (l.name, m) l.before l.behind) in
    let all : of_all (λ d. d.as_value) (map shown es) n ≡ w ∷ [] = lone_answers n m es l (λ d. d.as_value) ∙ ways in (
      (shown (l.name, m), in_map shown (l.name, m) es among, sym ((bytes_decides n l.name).0 l.same), subst (In w) (sym ways) (inl refl)),
      λ other (d, here, same, has). in_single other w (subst (In other) all (answering (λ d. d.as_value) (map shown es) n other d here same has)),
    )

-- what a use finds has the width that the use says
pub use_width : {A : Type 0} (es : VisibleNames) → Once es → (opened : List Binding) (n : Name) (use_of : Found → Verdict A) (width : A → ℕ)
    → IfOk (use_of Nothing) (λ _. ⊥) → ((m : Meaning) → IfOk (use_of (found_as opened m (channel_of m))) (λ r. value_ways m ≡ width r ∷ []))
    → IfOk (use_of (find es opened n)) (λ r. NameHasThisAlone (map shown es) n (width r))
unfolding find
use_width es once opened n use_of width none way = by (look_up es n) refl
  where
    by : (o : Option Meaning) → look_up es n ≡ o → IfOk (use_of (found_for opened (look_up es n))) (λ r. NameHasThisAlone (map shown es) n (width r))
    by None is =
        subst (λ o. IfOk (use_of (found_for opened o)) (λ r. NameHasThisAlone (map shown es) n (width r))) (sym is)
        (ok-weaker (λ _. ⊥) _ (use_of Nothing) (λ a never. absurd never) none)
    by (Some m) is =
        subst (λ o. IfOk (use_of (found_for opened o)) (λ r. NameHasThisAlone (map shown es) n (width r))) (sym is)
        (ok-weaker (λ r. value_ways m ≡ width r ∷ []) _ (use_of (found_as opened m (channel_of m))) (λ r ways. named_width es once n m (width r) is ways) (way m))

either_found : (P : Found → Type 0) (b : Bool) (c : Channel) (m : Meaning) → P (Opened c) → P (Means m) → P (if b then Opened c else Means m)
either_found P true c m o f = o
either_found P false c m o f = f

module _ (opened : List Binding) (offset : ℕ) where
  abbrev TargetWay : Meaning → Found → Type 0
  TargetWay m f = IfOk (target_use f offset) (λ r. value_ways m ≡ r.1 ∷ [])

  pub target_way : (m : Meaning) → TargetWay m (found_as opened m (channel_of m))
  unfolding target_use
  target_way (meaning.Variable l w) = refl
  target_way (meaning.TypeName w) = tt
  target_way (meaning.Element v) = tt
  target_way (meaning.Procedure p) = tt
  target_way (meaning.Input p w) = either_found (TargetWay (meaning.Input p w)) (is_among opened (binding.Port p)) (record { binding = binding.Port p; width = Some w }) (meaning.Input p w) tt tt
  target_way (meaning.Output p w) = either_found (TargetWay (meaning.Output p w)) (is_among opened (binding.Port p)) (record { binding = binding.Port p; width = Some w }) (meaning.Output p w) tt tt
  target_way (meaning.SyncPort p) = either_found (TargetWay (meaning.SyncPort p)) (is_among opened (binding.Port p)) (record { binding = binding.Port p; width = None }) (meaning.SyncPort p) tt tt
  target_way (meaning.Channel l w) = either_found (TargetWay (meaning.Channel l w)) (is_among opened (binding.Local l)) (record { binding = binding.Local l; width = Some w }) (meaning.Channel l w) tt tt
  target_way (meaning.Sync l) = either_found (TargetWay (meaning.Sync l)) (is_among opened (binding.Local l)) (record { binding = binding.Local l; width = None }) (meaning.Sync l) tt tt

  abbrev SendingWay : Meaning → Found → Type 0
  SendingWay m f = IfOk (sending_use f offset) (λ r. value_ways m ≡ r.1 ∷ [])

  sending_way : (m : Meaning) → SendingWay m (found_as opened m (channel_of m))
  unfolding sending_use
  sending_way (meaning.Variable l w) = tt
  sending_way (meaning.TypeName w) = tt
  sending_way (meaning.Element v) = tt
  sending_way (meaning.Procedure p) = tt
  sending_way (meaning.Input p w) = either_found (SendingWay (meaning.Input p w)) (is_among opened (binding.Port p)) (record { binding = binding.Port p; width = Some w }) (meaning.Input p w) tt tt
  sending_way (meaning.Output p w) = either_found (SendingWay (meaning.Output p w)) (is_among opened (binding.Port p)) (record { binding = binding.Port p; width = Some w }) (meaning.Output p w) tt refl
  sending_way (meaning.SyncPort p) = either_found (SendingWay (meaning.SyncPort p)) (is_among opened (binding.Port p)) (record { binding = binding.Port p; width = None }) (meaning.SyncPort p) tt tt
  sending_way (meaning.Channel l w) = either_found (SendingWay (meaning.Channel l w)) (is_among opened (binding.Local l)) (record { binding = binding.Local l; width = Some w }) (meaning.Channel l w) tt refl
  sending_way (meaning.Sync l) = either_found (SendingWay (meaning.Sync l)) (is_among opened (binding.Local l)) (record { binding = binding.Local l; width = None }) (meaning.Sync l) tt tt

  abbrev ReceivingWay : Meaning → Found → Type 0
  ReceivingWay m f = IfOk (receiving_use f offset) (λ r. value_ways m ≡ r.1 ∷ [])

  receiving_way : (m : Meaning) → ReceivingWay m (found_as opened m (channel_of m))
  unfolding receiving_use
  receiving_way (meaning.Variable l w) = tt
  receiving_way (meaning.TypeName w) = tt
  receiving_way (meaning.Element v) = tt
  receiving_way (meaning.Procedure p) = tt
  receiving_way (meaning.Input p w) = either_found (ReceivingWay (meaning.Input p w)) (is_among opened (binding.Port p)) (record { binding = binding.Port p; width = Some w }) (meaning.Input p w) tt refl
  receiving_way (meaning.Output p w) = either_found (ReceivingWay (meaning.Output p w)) (is_among opened (binding.Port p)) (record { binding = binding.Port p; width = Some w }) (meaning.Output p w) tt tt
  receiving_way (meaning.SyncPort p) = either_found (ReceivingWay (meaning.SyncPort p)) (is_among opened (binding.Port p)) (record { binding = binding.Port p; width = None }) (meaning.SyncPort p) tt tt
  receiving_way (meaning.Channel l w) = either_found (ReceivingWay (meaning.Channel l w)) (is_among opened (binding.Local l)) (record { binding = binding.Local l; width = Some w }) (meaning.Channel l w) tt refl
  receiving_way (meaning.Sync l) = either_found (ReceivingWay (meaning.Sync l)) (is_among opened (binding.Local l)) (record { binding = binding.Local l; width = None }) (meaning.Sync l) tt tt

  abbrev LabelWay : Meaning → Found → Type 0
  LabelWay m f = IfOk (label_use f offset) (λ r. value_ways m ≡ r.width ∷ [])

  label_way : (m : Meaning) → LabelWay m (found_as opened m (channel_of m))
  unfolding label_use
  label_way (meaning.Variable l w) = tt
  label_way (meaning.TypeName w) = tt
  label_way (meaning.Element v) = refl
  label_way (meaning.Procedure p) = tt
  label_way (meaning.Input p w) = either_found (LabelWay (meaning.Input p w)) (is_among opened (binding.Port p)) (record { binding = binding.Port p; width = Some w }) (meaning.Input p w) tt tt
  label_way (meaning.Output p w) = either_found (LabelWay (meaning.Output p w)) (is_among opened (binding.Port p)) (record { binding = binding.Port p; width = Some w }) (meaning.Output p w) tt tt
  label_way (meaning.SyncPort p) = either_found (LabelWay (meaning.SyncPort p)) (is_among opened (binding.Port p)) (record { binding = binding.Port p; width = None }) (meaning.SyncPort p) tt tt
  label_way (meaning.Channel l w) = either_found (LabelWay (meaning.Channel l w)) (is_among opened (binding.Local l)) (record { binding = binding.Local l; width = Some w }) (meaning.Channel l w) tt tt
  label_way (meaning.Sync l) = either_found (LabelWay (meaning.Sync l)) (is_among opened (binding.Local l)) (record { binding = binding.Local l; width = None }) (meaning.Sync l) tt tt

-- ---- a scope in which each name is declared once

module _ (scope : Scope) (once : Once scope.names) (types : List TypeDeclaration) (before : List Procedure) (known : Known types before scope) where
  abbrev visible : List Declaration
  visible = map shown scope.names

  abbrev Met : List Demand → Type 0
  Met = Every (IsMet types before visible)

  target_width : (x : Identifier) (opened : List Binding) → IfOk (one_fault (target x scope opened)) (λ r. NameHasThisAlone visible x.name r.1)
  unfolding target_use
  target_width x opened =
      ok-alone (λ (r : VariableUse × ℕ). NameHasThisAlone visible x.name r.1) (target x scope opened)
      (use_width scope.names once opened x.name (λ f. target_use f x.span.start) (λ r. r.1) tt (target_way opened x.span.start))

  sender_width : (x : Identifier) (opened : List Binding) → IfOk (one_fault (sender x scope opened)) (λ r. NameHasThisAlone visible x.name r.1)
  unfolding sending_use
  sender_width x opened =
      ok-alone (λ (r : ChannelUse × ℕ). NameHasThisAlone visible x.name r.1) (sender x scope opened)
      (use_width scope.names once opened x.name (λ f. sending_use f x.span.start) (λ r. r.1) tt (sending_way opened x.span.start))

  receiver_width : (x : Identifier) (opened : List Binding) → IfOk (one_fault (receiver x scope opened)) (λ r. NameHasThisAlone visible x.name r.1)
  unfolding receiving_use
  receiver_width x opened =
      ok-alone (λ (r : ChannelUse × ℕ). NameHasThisAlone visible x.name r.1) (receiver x scope opened)
      (use_width scope.names once opened x.name (λ f. receiving_use f x.span.start) (λ r. r.1) tt (receiving_way opened x.span.start))

  value_width : (e : Expr) (opened : List Binding) → IfOk (value every e scope opened) (λ v. HasThisAlone visible e v.width)
  value_width e opened =
      ok-by (λ (v : Valued). HasThisAlone visible e v.width) (value every e scope opened) (λ v is.
      alone_by_rules visible e v.width
      (right_by scope.names (judged_expression every e scope.names opened) (widths_of visible e) (names_of_expression e) v is (expression_once e scope.names opened once)).0)

  -- a form whose own demand is a test of two parts
  tested : {A B C : Type 0} (P : A → Type 0) (Q : B → Type 0) (G : Type 0) (x : Findings every A) (y : Findings every B) (test : A × B → Bool) (make : A × B → C)
      (fault : A × B → Fault) → ((a : A) (b : B) → P a → Q b → test (a, b) ≡ true → G) → IfOk x P → IfOk y Q
      → IfOk (if_right (both every x y) (λ p. one_fault (if test p then Ok (make p) else Err (fault p)))) (λ _. G)
  tested {A = A} {B = B} P Q G x y test make fault f p q =
      ok-if_right (λ (r : A × B). P r.0 × Q r.1) (λ _. G) (both every x y) _
      (λ r h. ok-test G (test r) (make r) (fault r) (f r.0 r.1 h.0 h.1)) (ok-both P Q x y p q)

  -- ---- labels

  abbrev HasLabel : Label → LabelUse → Type 0
  HasLabel l u = LabelHasThisAlone visible l.value u.value.width

  label_width : (opened : List Binding) (l : Label) → IfOk (one_fault (judged_label scope.names opened l)) (HasLabel l)
  unfolding label_use
  label_width opened l = ok-alone (HasLabel l) (judged_label scope.names opened l) (by l.value)
    where
      by : (v : LabelValue) → IfOk (judged_label scope.names opened (record { span = l.span; value = v })) (λ u. LabelHasThisAlone visible v u.value.width)
      by (label.Number n) = refl
      by (label.Name n) =
          use_width scope.names once opened n (λ f. becomes (λ v. record { offset = l.span.start; value = v }) (label_use f l.span.start)) (λ u. u.value.width) tt
          (λ m. ok-becomes (λ r. value_ways m ≡ r.width ∷ []) (λ u. value_ways m ≡ u.value.width ∷ []) _ (label_use (found_as opened m (channel_of m)) l.span.start) (λ a h. h)
          (label_way opened l.span.start m))

  -- each of a list has its part of what comes of it
  each_pairs : {X A : Type 0} (judge : X → Findings every A) (R : X → A → Type 0) → ((x : X) → IfOk (judge x) (R x)) → (l : Findings every (List A)) (xs : List X)
      → IfOk l (Pairs R xs) → (ys : List X) → IfOk (with_all every l (map judge ys)) (Pairs R (xs ++ ys))
  each_pairs judge R f l xs p [] = subst (λ zs. IfOk l (Pairs R zs)) (sym (append-nil xs)) p
  each_pairs judge R f l xs p (y ∷ ys) =
      subst (λ zs. IfOk (with_all every (with_next every l (judge y)) (map judge ys)) (Pairs R zs)) (append_assoc xs (y ∷ []) ys)
      (each_pairs judge R f (with_next every l (judge y)) (xs ++ y ∷ [])
      (ok-becomes _ (Pairs R (xs ++ y ∷ [])) _ (both every l (judge y)) (λ q h. pairs-next R xs q.0 y q.1 h.0 h.1) (ok-both (Pairs R xs) (R y) l (judge y) p (f y))) ys)

  labels_width : (opened : List Binding) (labels : List Label) → IfOk (judged_labels every scope.names opened labels) (Pairs HasLabel labels)
  labels_width opened labels = each_pairs (λ l. one_fault (judged_label scope.names opened l)) HasLabel (label_width opened) (Ok []) [] tt labels

  -- children, each of which gives something
  children_pairs : {X A : Type 0} (opened : List Binding) (judge : X → Judged every A) (Q : X → Type 0) (R : X → A → Type 0)
      → ((x : X) → Q x → IfOk (judge x scope opened) (R x)) → (l : Findings every (List A)) (xs : List X) → IfOk l (Pairs R xs) → (ys : List (With Q))
      → IfOk (with_all every l (map (λ child. child scope opened) (map judge (map (λ y. y.0) ys)))) (Pairs R (xs ++ map (λ y. y.0) ys))
  children_pairs opened judge Q R f l xs p [] = subst (λ zs. IfOk l (Pairs R zs)) (sym (append-nil xs)) p
  children_pairs opened judge Q R f l xs p (y ∷ ys) =
      let x = y.0 in
      let one = judge x scope opened in
      subst (λ zs. IfOk (with_all every (with_next every l one) (map (λ child. child scope opened) (map judge (map (λ y. y.0) ys)))) (Pairs R zs))
      (append_assoc xs (x ∷ []) (map (λ y. y.0) ys))
      (children_pairs opened judge Q R f (with_next every l one) (xs ++ x ∷ [])
      (ok-becomes _ (Pairs R (xs ++ x ∷ [])) _ (both every l one) (λ q h. pairs-next R xs q.0 x q.1 h.0 h.1) (ok-both (Pairs R xs) (R x) l one p (f x y.1))) ys)

  each_met : {X A : Type 0} (f : X → List Demand) (xs : List X) (made : List A) → Pairs (λ x _. Met (f x)) xs made → Met (demands_of_each (map f xs))
  each_met f [] [] ps = tt
  each_met f [] (m ∷ made) ps = absurd ps
  each_met f (x ∷ xs) [] ps = absurd ps
  each_met f (x ∷ xs) (m ∷ made) ps = every-append (IsMet types before visible) (f x) (demands_of_each (map f xs)) ps.0 (each_met f xs made ps.1)

  -- ---- the labels against the subject

  demands-ok : (first : Findings every (Unit {0})) (vs : List (Verdict (Unit {0}))) → and_all every first vs ≡ Ok tt → (first ≡ Ok tt) × Every (λ v. v ≡ Ok tt) vs
  demands-ok first [] e = (e, tt)
  demands-ok first (v ∷ vs) e =
      let rest = demands-ok (and every first (one_fault v)) vs e in
      let here = and_parts first v rest.0 in
      (here.0, (here.1, rest.1))
    where
      and_parts : (a : Findings every (Unit {0})) (v : Verdict (Unit {0})) → and every a (one_fault v) ≡ Ok tt → (a ≡ Ok tt) × (v ≡ Ok tt)
      and_parts (Ok a) (Ok b) e = (refl, refl)
      and_parts (Ok a) (Err f) e = absurd cc
      and_parts (Err fs) (Ok b) e = absurd cc
      and_parts (Err fs) (Err f) e = absurd cc

  new_label-ok : (width : ℕ) (seen : List ℕ) (u : LabelUse) → new_label width seen u ≡ Ok tt → u.value.width ≤ width
  new_label-ok width seen u e = by (not (list_any (nat_eq u.value.bits) seen)) (nat_le u.value.width width) refl e
    where
      by : (a b : Bool) → nat_le u.value.width width ≡ b → ◌≡◌ {A = Verdict (Unit {0})} (if a && b then Ok tt else Err (BadArm u.offset)) (Ok tt) → u.value.width ≤ width
      by true true is e = leb-true u.value.width width is
      by true false is e = absurd cc
      by false b is e = absurd cc

  labels_fit : (width : ℕ) (seen : List ℕ) (us : List LabelUse) → Every (λ v. v ≡ Ok tt) (new_labels width seen us) → Every (λ (u : LabelUse). u.value.width ≤ width) us
  labels_fit width seen [] e = tt
  labels_fit width seen (u ∷ us) e = (new_label-ok width seen u e.0, labels_fit width (with_seen seen u.value.bits) us e.1)

  arm_labels : (subject : Expr) (width : ℕ) → HasThisAlone visible subject width → (labels : List Label) (us : List LabelUse) → Pairs HasLabel labels us
      → Every (λ (u : LabelUse). u.value.width ≤ width) us → Met (map (λ l. may_match l subject) labels)
  arm_labels subject width has [] [] ps fit = tt
  arm_labels subject width has [] (u ∷ us) ps fit = absurd ps
  arm_labels subject width has (l ∷ labels) [] ps fit = absurd ps
  arm_labels subject width has (l ∷ labels) (u ∷ us) ps fit = ((u.value.width, width, ps.0, has, fit.0), arm_labels subject width has labels us ps.1 fit.1)

  abbrev ArmMet : InArm → LabelledArm → Type 0
  ArmMet a made = Pairs HasLabel a.0 made.labels × Met a.1

  arms_labels : {X : Type 0} (f : X → InArm) (subject : Expr) (width : ℕ) → HasThisAlone visible subject width → (xs : List X) (made : List LabelledArm)
      → Pairs (λ x m. ArmMet (f x) m) xs made → Every (λ (u : LabelUse). u.value.width ≤ width) (flat_map (λ (a : LabelledArm). a.labels) made)
      → Met (demands_of_labels subject (map f xs))
  arms_labels f subject width has [] [] ps fit = tt
  arms_labels f subject width has [] (m ∷ made) ps fit = absurd ps
  arms_labels f subject width has (x ∷ xs) [] ps fit = absurd ps
  arms_labels f subject width has (x ∷ xs) (m ∷ made) ps fit =
      let Few = λ (u : LabelUse). u.value.width ≤ width in
      let rest = flat_map (λ (a : LabelledArm). a.labels) made in
      every-append (IsMet types before visible) (map (λ l. may_match l subject) (f x).0 ++ (f x).1) (demands_of_labels subject (map f xs))
      (every-append (IsMet types before visible) (map (λ l. may_match l subject) (f x).0) (f x).1
      (arm_labels subject width has (f x).0 m.labels ps.0.0 (every-front Few m.labels rest fit)) ps.0.1)
      (arms_labels f subject width has xs made ps.1 (every-back Few m.labels rest fit))

  -- ---- calls against the ports

  port_named : (m : Meaning) (w : ℕ) → fits_input w m ≡ true → value_ways m ≡ w ∷ []
  port_named (meaning.Input p v) w e = ap (λ z. z ∷ []) (sym (eqb-true w v e))
  port_named (meaning.Channel l v) w e = ap (λ z. z ∷ []) (sym (eqb-true w v e))
  port_named (meaning.TypeName v) w e = absurd (false≢true e)
  port_named (meaning.Element v) w e = absurd (false≢true e)
  port_named (meaning.Procedure p) w e = absurd (false≢true e)
  port_named (meaning.Output p v) w e = absurd (false≢true e)
  port_named (meaning.SyncPort p) w e = absurd (false≢true e)
  port_named (meaning.Variable l v) w e = absurd (false≢true e)
  port_named (meaning.Sync l) w e = absurd (false≢true e)

  output_named : (m : Meaning) (w : ℕ) → fits_output w m ≡ true → value_ways m ≡ w ∷ []
  output_named (meaning.Output p v) w e = ap (λ z. z ∷ []) (sym (eqb-true w v e))
  output_named (meaning.Channel l v) w e = ap (λ z. z ∷ []) (sym (eqb-true w v e))
  output_named (meaning.TypeName v) w e = absurd (false≢true e)
  output_named (meaning.Element v) w e = absurd (false≢true e)
  output_named (meaning.Procedure p) w e = absurd (false≢true e)
  output_named (meaning.Input p v) w e = absurd (false≢true e)
  output_named (meaning.SyncPort p) w e = absurd (false≢true e)
  output_named (meaning.Variable l v) w e = absurd (false≢true e)
  output_named (meaning.Sync l) w e = absurd (false≢true e)

  sync_named : (m : Meaning) → fits_sync m ≡ true → value_ways m ≡ []
  sync_named (meaning.SyncPort p) e = refl
  sync_named (meaning.Sync l) e = refl
  sync_named (meaning.TypeName v) e = absurd (false≢true e)
  sync_named (meaning.Element v) e = absurd (false≢true e)
  sync_named (meaning.Procedure p) e = absurd (false≢true e)
  sync_named (meaning.Input p v) e = absurd (false≢true e)
  sync_named (meaning.Output p v) e = absurd (false≢true e)
  sync_named (meaning.Variable l v) e = absurd (false≢true e)
  sync_named (meaning.Channel l v) e = absurd (false≢true e)

  named_none : (n : Name) (m : Meaning) → look_up scope.names n ≡ Some m → value_ways m ≡ [] → PassesNone visible n
  named_none n m is ways =
      let l = once n m is in
      let among : In (l.name, m) scope.names = subst (In (l.name, m)) (sym l.all) (in_middle (l.name, m) l.before l.behind) in
      (shown (l.name, m), in_map shown (l.name, m) scope.names among, sym ((bytes_decides n l.name).0 l.same), ways)

  port_takes : (ds : List Declaration) (kind : port_kind.PortKind) (written : tree_port_kind.PortKind) (n : Name) (m : Meaning) → SameKind ds kind written
      → look_up scope.names n ≡ Some m → is_fit kind m ≡ true → PortTakes ds visible written n
  port_takes ds (port.Input w) (port_of.Input type) n m same is e = (w, type_has ds type w same, named_width scope.names once n m w is (port_named m w e))
  port_takes ds (port.Output w) (port_of.Output type) n m same is e = (w, type_has ds type w same, named_width scope.names once n m w is (output_named m w e))
  port_takes ds port.Sync port_of.Sync n m same is e = named_none n m is (sync_named m e)
  port_takes ds (port.Input w) (port_of.Output type) n m same is e = absurd same
  port_takes ds (port.Input w) port_of.Sync n m same is e = absurd same
  port_takes ds (port.Output w) (port_of.Input type) n m same is e = absurd same
  port_takes ds (port.Output w) port_of.Sync n m same is e = absurd same
  port_takes ds port.Sync (port_of.Input type) n m same is e = absurd same
  port_takes ds port.Sync (port_of.Output type) n m same is e = absurd same

  one_takes : (ds : List Declaration) (kind : port_kind.PortKind) (written : tree_port_kind.PortKind) (n : Name) → SameKind ds kind written
      → fits_port kind (look_up scope.names n) ≡ true → PortTakes ds visible written n
  one_takes ds kind written n same e = by (look_up scope.names n) refl
    where
      by : (o : Option Meaning) → look_up scope.names n ≡ o → PortTakes ds visible written n
      by (Some m) is = port_takes ds kind written n m same is (sym (ap (fits_port kind) is) ∙ e)
      by None is = absurd (false≢true (sym (ap (fits_port kind) is) ∙ e))

  two_true : (a b : Bool) → (a && b) ≡ true → (a ≡ true) × (b ≡ true)
  two_true true true e = (refl, refl)
  two_true true false e = absurd (false≢true e)
  two_true false b e = absurd (false≢true e)

  ports_take : (ds : List Declaration) (kinds : List port_kind.PortKind) (written : List tree_port_kind.PortKind) (arguments : List Identifier)
      → Pairs (SameKind ds) kinds written → all_fit scope.names kinds arguments ≡ true → PortsTake ds visible written (map (λ (a : Identifier). a.name) arguments)
  ports_take ds [] [] [] ps e = tt
  ports_take ds [] [] (a ∷ arguments) ps e = absurd (false≢true e)
  ports_take ds [] (k ∷ written) arguments ps e = absurd ps
  ports_take ds (kind ∷ kinds) [] arguments ps e = absurd ps
  ports_take ds (kind ∷ kinds) (k ∷ written) [] ps e = absurd (false≢true e)
  ports_take ds (kind ∷ kinds) (k ∷ written) (a ∷ arguments) ps e =
      let h = two_true (fits_port kind (look_up scope.names a.name)) (all_fit scope.names kinds arguments) e in
      (one_takes ds kind k a.name ps.0 h.0, ports_take ds kinds written arguments ps.1 h.1)

  call_met : (n : Name) (i : ℕ) (arguments : List Identifier) (us : List ChannelUse) → look_up scope.names n ≡ Some (meaning.Procedure i)
      → call_fits scope.names (slice_get scope.procedures i) arguments us ≡ true → IsMet types before visible (takes n (map (λ (a : Identifier). a.name) arguments))
  call_met n i arguments us is e =
      let s = known n i is in
      let fits : call_fits scope.names (Some s.kinds) arguments us ≡ true = sym (ap (λ z. call_fits scope.names z arguments us) s.at) ∙ e in
      let h = two_true (all_fit scope.names s.kinds arguments) (list_all is_ok (new_channels [] us)) fits in
      (s.first, s.procedure, s.rest, s.split, s.named, ports_take (outside types s.first) s.kinds (ports_in_order s.procedure) arguments s.same h.0)

  -- a name that is used as a procedure means one
  abbrev MeansIt : ℕ → Option Meaning → Found → Type 0
  MeansIt offset o f = IfOk (one_fault (procedure_use f offset)) (λ i. o ≡ Some (meaning.Procedure i))

  meant : (offset : ℕ) (opened : List Binding) (m : Meaning) → MeansIt offset (Some m) (found_as opened m (channel_of m))
  unfolding procedure_use
  meant offset opened (meaning.Procedure p) = refl
  meant offset opened (meaning.Variable l w) = tt
  meant offset opened (meaning.TypeName w) = tt
  meant offset opened (meaning.Element v) = tt
  meant offset opened (meaning.Input p w) =
      either_found (MeansIt offset (Some (meaning.Input p w))) (is_among opened (binding.Port p)) (record { binding = binding.Port p; width = Some w }) (meaning.Input p w) tt tt
  meant offset opened (meaning.Output p w) =
      either_found (MeansIt offset (Some (meaning.Output p w))) (is_among opened (binding.Port p)) (record { binding = binding.Port p; width = Some w }) (meaning.Output p w) tt tt
  meant offset opened (meaning.SyncPort p) =
      either_found (MeansIt offset (Some (meaning.SyncPort p))) (is_among opened (binding.Port p)) (record { binding = binding.Port p; width = None }) (meaning.SyncPort p) tt tt
  meant offset opened (meaning.Channel l w) =
      either_found (MeansIt offset (Some (meaning.Channel l w))) (is_among opened (binding.Local l)) (record { binding = binding.Local l; width = Some w }) (meaning.Channel l w) tt tt
  meant offset opened (meaning.Sync l) =
      either_found (MeansIt offset (Some (meaning.Sync l))) (is_among opened (binding.Local l)) (record { binding = binding.Local l; width = None }) (meaning.Sync l) tt tt

  procedure_means : (x : Identifier) (opened : List Binding)
      → MeansIt x.span.start (look_up scope.names x.name) (find scope.names opened x.name)
  unfolding find procedure_use
  procedure_means x opened = by (look_up scope.names x.name) refl
    where
      by : (o : Option Meaning) → look_up scope.names x.name ≡ o → MeansIt x.span.start (look_up scope.names x.name) (found_for opened (look_up scope.names x.name))
      by None is = subst (λ o. MeansIt x.span.start o (found_for opened o)) (sym is) tt
      by (Some m) is = subst (λ o. MeansIt x.span.start o (found_for opened o)) (sym is) (meant x.span.start opened m)

-- ---- commands

abbrev demands_of_whole : Action → List Demand
demands_of_whole = fold-Action (List Demand) (List Demand) InArm (List Demand) (List Demand) demands_of_action demands_of_arm demands_of_case_arm demands_of_layer demands_of_guarded

abbrev demands_in_arm : Arm → List Demand
demands_in_arm = fold-Arm (List Demand) (List Demand) InArm (List Demand) (List Demand) demands_of_action demands_of_arm demands_of_case_arm demands_of_layer demands_of_guarded

abbrev demands_in_case_arm : CaseArm → InArm
demands_in_case_arm = fold-CaseArm (List Demand) (List Demand) InArm (List Demand) (List Demand) demands_of_action demands_of_arm demands_of_case_arm demands_of_layer demands_of_guarded

abbrev demands_in_guarded : Guarded → List Demand
demands_in_guarded = fold-Guarded (List Demand) (List Demand) InArm (List Demand) (List Demand) demands_of_action demands_of_arm demands_of_case_arm demands_of_layer demands_of_guarded

module _ (scope : Scope) (once : Once scope.names) (types : List TypeDeclaration) (before : List Procedure) (known : Known types before scope) where
  abbrev IsGood : List Demand → Type 0
  IsGood = Met scope once types before known

  abbrev ActionMet : Action → Type 0
  ActionMet x = (opened : List Binding) → IfOk (judged_action every x scope opened) (λ _. IsGood (demands_of_whole x))

  abbrev OneArmMet : Arm → Type 0
  OneArmMet x = (opened : List Binding) → IfOk (judged_arm every x scope opened) (λ _. IsGood (demands_in_arm x))

  abbrev LabelledMet : CaseArm → Type 0
  LabelledMet x = (opened : List Binding) → IfOk (judged_labelled every x scope opened) (ArmMet scope once types before known (demands_in_case_arm x))

  abbrev CommandMet : Command → Type 0
  CommandMet x = (opened : List Binding) → IfOk (judged_command every x scope opened) (λ _. IsGood (demands_of_command x))

  abbrev GuardedMet : Guarded → Type 0
  GuardedMet x =
      (opened : List Binding)
      → IfOk (judged_guarded every x scope opened) (λ (made : GuardedArm). ((made.guard.width ≡ 1) → IsGood (demands_in_guarded x)))

  abbrev Meeting : Type 0
  Meeting = Action-F (With ActionMet) (With OneArmMet) (With LabelledMet) (With CommandMet) (With GuardedMet)

  abbrev plain : Meeting → Action-F Action Arm CaseArm Command Guarded
  plain y = map-Action (With ActionMet) (With OneArmMet) (With LabelledMet) (With CommandMet) (With GuardedMet) Action Arm CaseArm Command Guarded
      (λ x. x.0) (λ x. x.0) (λ x. x.0) (λ x. x.0) (λ x. x.0) y

  abbrev open_demands : Action-F Action Arm CaseArm Command Guarded → List Demand
  open_demands y = demands_of_action (map-Action Action Arm CaseArm Command Guarded (List Demand) (List Demand) InArm (List Demand) (List Demand)
      demands_of_whole demands_in_arm demands_in_case_arm demands_of_command demands_in_guarded y)

  commands_met : (opened : List Binding) (ys : List (With CommandMet))
      → IfOk (each every (map (judged_command every) (map (λ y. y.0) ys)) scope opened) (λ _. IsGood (demands_of_each (map demands_of_command (map (λ y. y.0) ys))))
  commands_met opened ys =
      ok-weaker (Pairs (λ x _. IsGood (demands_of_command x)) (map (λ y. y.0) ys)) _ _ (λ made ps. each_met scope once types before known demands_of_command (map (λ y. y.0) ys) made ps)
      (children_pairs scope once types before known opened (judged_command every) CommandMet (λ x _. IsGood (demands_of_command x)) (λ x f. f opened) (Ok []) [] tt ys)

  arms_met : (opened : List Binding) (ys : List (With OneArmMet))
      → IfOk (each every (map (judged_arm every) (map (λ y. y.0) ys)) scope opened) (λ _. IsGood (demands_of_each (map demands_in_arm (map (λ y. y.0) ys))))
  arms_met opened ys =
      ok-weaker (Pairs (λ x _. IsGood (demands_in_arm x)) (map (λ y. y.0) ys)) _ _ (λ made ps. each_met scope once types before known demands_in_arm (map (λ y. y.0) ys) made ps)
      (children_pairs scope once types before known opened (judged_arm every) OneArmMet (λ x _. IsGood (demands_in_arm x)) (λ x f. f opened) (Ok []) [] tt ys)

  case_arms_pair : (opened : List Binding) (ys : List (With LabelledMet))
      → IfOk (each every (map (judged_labelled every) (map (λ y. y.0) ys)) scope opened) (Pairs (λ x made. ArmMet scope once types before known (demands_in_case_arm x) made) (map (λ y. y.0) ys))
  case_arms_pair opened ys =
      children_pairs scope once types before known opened (judged_labelled every) LabelledMet (λ x made. ArmMet scope once types before known (demands_in_case_arm x) made) (λ x f. f opened) (Ok []) [] tt ys

  abbrev GuardMet : Guarded → GuardedArm → Type 0
  GuardMet x made = (made.guard.width ≡ 1) → IsGood (demands_in_guarded x)

  if_arms_pair : (opened : List Binding) (ys : List (With GuardedMet))
      → IfOk (each every (map (judged_guarded every) (map (λ y. y.0) ys)) scope opened) (Pairs GuardMet (map (λ y. y.0) ys))
  if_arms_pair opened ys = children_pairs scope once types before known opened (judged_guarded every) GuardedMet GuardMet (λ x f. f opened) (Ok []) [] tt ys

  any : {A E : Type 0} (G : Type 0) (r : Result A E) → G → IfOk r (λ _. G)
  any G r g = ok-by (λ _. G) r (λ a is. g)

  last_met : (opened : List Binding) (body : With CommandMet)
      → IfOk (becomes (λ c. Some c) (judged_command every body.0 scope opened)) (λ _. IsGood (demands_of_command body.0))
  last_met opened body =
      ok-becomes (λ _. IsGood (demands_of_command body.0)) (λ _. IsGood (demands_of_command body.0)) _ (judged_command every body.0 scope opened) (λ a h. h) (body.1 opened)

  -- ---- `if`

  guard-ok : (made : GuardedArm) → arms.one_bit made ≡ Ok tt → made.guard.width ≡ 1
  guard-ok made e = by (nat_eq made.guard.width 1) refl e
    where
      by : (b : Bool) → nat_eq made.guard.width 1 ≡ b → ◌≡◌ {A = Verdict (Unit {0})} (if b then Ok tt else Err (GuardNotOneBit made.start)) (Ok tt) → made.guard.width ≡ 1
      by true is e = eqb-true made.guard.width 1 is
      by false is e = absurd cc

  guards_met : (xs : List Guarded) (made : List GuardedArm) → Pairs GuardMet xs made → Every (λ v. v ≡ Ok tt) (map arms.one_bit made)
      → IsGood (demands_of_each (map demands_in_guarded xs))
  guards_met [] [] ps are = tt
  guards_met [] (m ∷ made) ps are = absurd ps
  guards_met (x ∷ xs) [] ps are = absurd ps
  guards_met (x ∷ xs) (m ∷ made) ps are =
      every-append (IsMet types before (visible scope once types before known)) (demands_in_guarded x) (demands_of_each (map demands_in_guarded xs)) (ps.0 (guard-ok m are.0)) (guards_met xs made ps.1 are.1)

  conditional_met : (xs : List Guarded) (these : Findings every (List GuardedArm)) (last : Findings every (Option typed_command.Command)) (more : List Demand)
      → IfOk these (Pairs GuardMet xs) → IfOk last (λ _. IsGood more)
      → IfOk (conditional every these last) (λ _. IsGood (demands_of_each (map demands_in_guarded xs) ++ more))
  unfolding conditional
  conditional_met xs these last more ps good =
      let G = IsGood (demands_of_each (map demands_in_guarded xs) ++ more) in
      ok-if_right (λ (p : List GuardedArm × Option typed_command.Command). Pairs GuardMet xs p.0 × IsGood more) (λ _. G) (both every these last) _
      (λ p h. ok-becomes (λ _. G) (λ _. G) _ (demands every (map arms.one_bit p.0)) (λ a g. g)
      (ok-by (λ _. G) (demands every (map arms.one_bit p.0)) (λ a is.
      every-append (IsMet types before (visible scope once types before known)) (demands_of_each (map demands_in_guarded xs)) more
      (guards_met xs p.0 h.0 (demands-ok scope once types before known (Ok tt) (map arms.one_bit p.0) is).1) h.1)))
      (ok-both (Pairs GuardMet xs) (λ _. IsGood more) these last ps good)

  -- ---- `case`

  cased_met : (subject : Expr) (xs : List CaseArm) (judged : Findings every Valued) (these : Findings every (List LabelledArm)) (last : Findings every (Option typed_command.Command))
      (more : List Demand) → IfOk judged (λ v. HasThisAlone (visible scope once types before known) subject v.width)
      → IfOk these (Pairs (λ x made. ArmMet scope once types before known (demands_in_case_arm x) made) xs) → IfOk last (λ _. IsGood more)
      → IfOk (cased every judged these last) (λ _. IsGood (demands_of_labels subject (map demands_in_case_arm xs) ++ more))
  unfolding cased
  cased_met subject xs judged these last more wide ps good =
      let G = IsGood (demands_of_labels subject (map demands_in_case_arm xs) ++ more) in
      let Arms = Pairs (λ (x : CaseArm) (made : LabelledArm). ArmMet scope once types before known (demands_in_case_arm x) made) xs in
      ok-if_right (λ (p : Valued × (List LabelledArm × Option typed_command.Command)). HasThisAlone (visible scope once types before known) subject p.0.width × (Arms p.1.0 × IsGood more)) (λ _. G)
      (both every judged (both every these last)) _
      (λ p h.
      let us = flat_map (λ (a : LabelledArm). a.labels) p.1.0 in
      ok-becomes (λ _. G) (λ _. G) _ (demands every (new_labels p.0.width [] us)) (λ a g. g)
      (ok-by (λ _. G) (demands every (new_labels p.0.width [] us)) (λ a is.
      every-append (IsMet types before (visible scope once types before known)) (demands_of_labels subject (map demands_in_case_arm xs)) more
      (arms_labels scope once types before known demands_in_case_arm subject p.0.width h.0 xs p.1.0 h.1.0
      (labels_fit scope once types before known p.0.width [] us (demands-ok scope once types before known (Ok tt) (new_labels p.0.width [] us) is).1)) h.1.1)))
      (ok-both (λ (v : Valued). HasThisAlone (visible scope once types before known) subject v.width) (λ (q : List LabelledArm × Option typed_command.Command). Arms q.0 × IsGood more) judged (both every these last) wide
      (ok-both Arms (λ _. IsGood more) these last ps good))

  -- ---- each form

  distinct_met : (G : Type 0) (these : Findings every (List typed_arm.Arm)) → IfOk these (λ _. G) → IfOk (distinct every these) (λ _. G)
  unfolding distinct
  distinct_met G these g = ok-if_right (λ _. G) (λ _. G) these _ (λ a h. any G _ h) g

  select_met : (opened : List Binding) (ys : List (With OneArmMet)) (f : List typed_arm.Arm → typed_action.Action)
      → IfOk (becomes f (distinct every (each every (map (judged_arm every) (map (λ y. y.0) ys)) scope opened))) (λ _. IsGood (demands_of_each (map demands_in_arm (map (λ y. y.0) ys))))
  select_met opened ys f =
      let G = IsGood (demands_of_each (map demands_in_arm (map (λ y. y.0) ys))) in
      let these = each every (map (judged_arm every) (map (λ y. y.0) ys)) scope opened in
      ok-becomes (λ _. G) (λ _. G) f (distinct every these) (λ a h. h) (distinct_met G these (arms_met opened ys))

  sequence_met : (opened : List Binding) (ys : List (With CommandMet)) (f : List typed_command.Command → typed_action.Action)
      → IfOk (becomes f (each every (map (judged_command every) (map (λ y. y.0) ys)) scope opened)) (λ _. IsGood (demands_of_each (map demands_of_command (map (λ y. y.0) ys))))
  sequence_met opened ys f =
      let G = IsGood (demands_of_each (map demands_of_command (map (λ y. y.0) ys))) in
      ok-becomes (λ _. G) (λ _. G) f (each every (map (judged_command every) (map (λ y. y.0) ys)) scope opened) (λ a h. h) (commands_met opened ys)

  action_met : (y : Meeting) (opened : List Binding) → IfOk (open_action (plain y) scope opened) (λ _. IsGood (open_demands (plain y)))
  unfolding assignment sending receiving guarded_loop enclosing called
  action_met Action-F.Continue opened = tt
  action_met Action-F.Halt opened = tt
  action_met (Action-F.Sync ch) opened = any (Unit {0}) _ tt
  action_met (Action-F.Loop body) opened =
      ok-becomes (λ _. IsGood (demands_of_command body.0)) (λ _. IsGood (demands_of_command body.0)) _ (judged_command every body.0 scope opened) (λ a h. h) (body.1 opened)
  action_met (Action-F.While guard body) opened =
      tested scope once types before known (λ (v : Valued). HasThisAlone (visible scope once types before known) guard v.width) (λ _. IsGood (demands_of_command body.0)) (IsGood (one_bit guard ∷ demands_of_command body.0))
      (value every guard scope opened) (judged_command every body.0 scope opened) (λ p. nat_eq p.0.width 1) _ _
      (λ a b has good e. (subst (HasThisAlone (visible scope once types before known) guard) (eqb-true a.width 1 e) has, good)) (value_width scope once types before known guard opened) (body.1 opened)
  action_met (Action-F.If these None) opened = conditional_met (map (λ y. y.0) these) _ (Ok None) [] (if_arms_pair opened these) tt
  action_met (Action-F.If these (Some last)) opened =
      conditional_met (map (λ y. y.0) these) _ _ (demands_of_command last.0) (if_arms_pair opened these) (last_met opened last)
  action_met (Action-F.Case subject these None) opened =
      cased_met subject (map (λ y. y.0) these) (value every subject scope opened) _ (Ok None) [] (value_width scope once types before known subject opened) (case_arms_pair opened these) tt
  action_met (Action-F.Case subject these (Some last)) opened =
      cased_met subject (map (λ y. y.0) these) (value every subject scope opened) _ _ (demands_of_command last.0) (value_width scope once types before known subject opened)
      (case_arms_pair opened these) (last_met opened last)
  action_met (Action-F.Select these) opened = select_met opened these (λ these. action.Select these)
  action_met (Action-F.Arbitrate first second) opened = select_met opened (first ∷ second ∷ []) (λ these. action.Arbitrate these)
  action_met (Action-F.Assign x e) opened =
      tested scope once types before known (λ (r : VariableUse × ℕ). NameHasThisAlone (visible scope once types before known) x.name r.1) (λ (v : Valued). HasThisAlone (visible scope once types before known) e v.width) (IsGood (has_room e x.name ∷ []))
      (one_fault (target x scope opened)) (value every e scope opened) (λ p. nat_le p.1.width p.0.1) _ _
      (λ a b room wide is. ((b.width, a.1, wide, room, leb-true b.width a.1 is), tt)) (target_width scope once types before known x opened) (value_width scope once types before known e opened)
  action_met (Action-F.Send ch e) opened =
      tested scope once types before known (λ (r : ChannelUse × ℕ). NameHasThisAlone (visible scope once types before known) ch.name r.1) (λ (v : Valued). HasThisAlone (visible scope once types before known) e v.width) (IsGood (has_room e ch.name ∷ []))
      (one_fault (sender ch scope opened)) (value every e scope opened) (λ p. nat_le p.1.width p.0.1) _ _
      (λ a b room wide is. ((b.width, a.1, wide, room, leb-true b.width a.1 is), tt)) (sender_width scope once types before known ch opened) (value_width scope once types before known e opened)
  action_met (Action-F.Receive ch x) opened =
      tested scope once types before known (λ (r : ChannelUse × ℕ). NameHasThisAlone (visible scope once types before known) ch.name r.1) (λ (r : VariableUse × ℕ). NameHasThisAlone (visible scope once types before known) x.name r.1)
      (IsGood (is_received ch.name x.name ∷ []))
      (one_fault (receiver ch scope opened)) (one_fault (target x scope opened)) (λ p. nat_le p.0.1 p.1.1) _ _
      (λ a b wide room is. ((a.1, b.1, wide, room, leb-true a.1 b.1 is), tt)) (receiver_width scope once types before known ch opened) (target_width scope once types before known x opened)
  action_met (Action-F.Input ch body) opened =
      let inner = opened_by opened (channel_alone (receiver ch scope opened)) in
      let G = IsGood (demands_of_command body.0) in
      ok-becomes (λ (p : (ChannelUse × ℕ) × typed_command.Command). Unit {0} × G) (λ _. G) _ (both every (one_fault (receiver ch scope opened)) (judged_command every body.0 scope inner))
      (λ p h. h.1) (ok-both (λ _. Unit {0}) (λ _. G) (one_fault (receiver ch scope opened)) (judged_command every body.0 scope inner) (any (Unit {0}) _ tt) (body.1 inner))
  action_met (Action-F.Call p arguments) opened =
      tested scope once types before known (λ (i : ℕ). look_up scope.names p.name ≡ Some (meaning.Procedure i)) (λ _. Unit {0})
      (IsGood (takes p.name (map (λ (a : Identifier). a.name) arguments) ∷ []))
      (one_fault (procedure_use (find scope.names opened p.name) p.span.start)) (judged_arguments every scope.names opened arguments)
      (λ q. call_fits scope.names (slice_get scope.procedures q.0) arguments q.1) _ _
      (λ i us is all fits. (call_met scope once types before known p.name i arguments us is fits, tt)) (procedure_means scope once types before known p opened)
      (any (Unit {0}) _ tt)
  action_met (Action-F.Sequence children) opened = sequence_met opened children (λ cs. action.Sequence cs)
  action_met (Action-F.Parallel children) opened = sequence_met opened children (λ cs. action.Parallel cs)

  arm_met : (a : Arm-F (With ActionMet) (With OneArmMet) (With LabelledMet) (With CommandMet) (With GuardedMet)) (opened : List Binding)
      → let channel = arm_use (find scope.names opened a.channel.name) a.channel.span.start in
      IfOk (arm_of every channel (judged_command every a.body.0 scope (opened_by opened channel))) (λ _. IsGood (demands_of_command a.body.0))
  unfolding arm_of
  arm_met a opened =
      let channel = arm_use (find scope.names opened a.channel.name) a.channel.span.start in
      let body = judged_command every a.body.0 scope (opened_by opened channel) in
      let G = IsGood (demands_of_command a.body.0) in
      ok-becomes (λ (p : ChannelUse × typed_command.Command). Unit {0} × G) (λ _. G) _ (both every (one_fault channel) body) (λ p h. h.1)
      (ok-both (λ _. Unit {0}) (λ _. G) (one_fault channel) body (any (Unit {0}) _ tt) (a.body.1 (opened_by opened channel)))

  guarded_met : (guard : Expr) (body : With CommandMet) (opened : List Binding)
      → IfOk (guarded every (value every guard scope opened) (start_of guard) (judged_command every body.0 scope opened))
      (λ (made : GuardedArm). ((made.guard.width ≡ 1) → IsGood (one_bit guard ∷ demands_of_command body.0)))
  unfolding guarded
  guarded_met guard body opened =
      let G = IsGood (demands_of_command body.0) in
      ok-becomes (λ (p : Valued × typed_command.Command). HasThisAlone (visible scope once types before known) guard p.0.width × G) _ _
      (both every (value every guard scope opened) (judged_command every body.0 scope opened)) (λ p h one. (subst (HasThisAlone (visible scope once types before known) guard) one h.0, h.1))
      (ok-both (λ (v : Valued). HasThisAlone (visible scope once types before known) guard v.width) (λ _. G) (value every guard scope opened) (judged_command every body.0 scope opened)
      (value_width scope once types before known guard opened) (body.1 opened))

  labelled_met : (labels : List Label) (body : With CommandMet) (opened : List Binding)
      → IfOk (labelled every (judged_labels every scope.names opened labels) (judged_command every body.0 scope opened)) (ArmMet scope once types before known (labels, demands_of_command body.0))
  unfolding labelled
  labelled_met labels body opened =
      let G = IsGood (demands_of_command body.0) in
      ok-becomes (λ (p : List LabelUse × typed_command.Command). Pairs (HasLabel scope once types before known) labels p.0 × G) _ _
      (both every (judged_labels every scope.names opened labels) (judged_command every body.0 scope opened)) (λ p h. h)
      (ok-both (Pairs (HasLabel scope once types before known) labels) (λ _. G) (judged_labels every scope.names opened labels) (judged_command every body.0 scope opened)
      (labels_width scope once types before known opened labels) (body.1 opened))

  moved : {A D : Type 0} (P : D → A → Type 0) (x x' : Findings every A) (d d' : D) → x ≡ x' → d ≡ d' → IfOk x' (P d') → IfOk x (P d)
  moved P x x' d d' a b g = subst (λ z. IfOk z (P d)) (sym a) (subst (λ z. IfOk x' (P z)) (sym b) g)

  command_met : (x : Command) → CommandMet x
  command_met =
      ind-Command ActionMet OneArmMet LabelledMet CommandMet GuardedMet
      (λ x y is. subst (λ z. ActionMet (roll-Action z)) is (λ opened.
      moved (λ ds _. IsGood ds) _ _ _ _
      (ap (λ f. f scope opened) (fold-roll-Action _ _ _ _ _ (action_layer every) (arm_layer every) (case_arm_layer every) (command_layer every) (guarded_layer every) _))
      (fold-roll-Action _ _ _ _ _ demands_of_action demands_of_arm demands_of_case_arm demands_of_layer demands_of_guarded _)
      (action_met y opened)))
      (λ x y is. subst (λ z. OneArmMet (roll-Arm z)) is (λ opened.
      moved (λ ds _. IsGood ds) _ _ _ _
      (ap (λ f. f scope opened) (fold-roll-Arm _ _ _ _ _ (action_layer every) (arm_layer every) (case_arm_layer every) (command_layer every) (guarded_layer every) _))
      (fold-roll-Arm _ _ _ _ _ demands_of_action demands_of_arm demands_of_case_arm demands_of_layer demands_of_guarded _)
      (arm_met y opened)))
      (λ x y is. subst (λ z. LabelledMet (roll-CaseArm z)) is (λ opened.
      moved (λ ds made. ArmMet scope once types before known ds made) _ _ _ _
      (ap (λ f. f scope opened) (fold-roll-CaseArm _ _ _ _ _ (action_layer every) (arm_layer every) (case_arm_layer every) (command_layer every) (guarded_layer every) _))
      (fold-roll-CaseArm _ _ _ _ _ demands_of_action demands_of_arm demands_of_case_arm demands_of_layer demands_of_guarded _)
      (labelled_met y.labels y.body opened)))
      (λ x y is. subst (λ z. CommandMet (roll-Command z)) is (λ opened.
      moved (λ ds _. IsGood ds) _ _ _ _
      (ap (λ f. f scope opened) (fold-roll-Command _ _ _ _ _ (action_layer every) (arm_layer every) (case_arm_layer every) (command_layer every) (guarded_layer every) _))
      (fold-roll-Command _ _ _ _ _ demands_of_action demands_of_arm demands_of_case_arm demands_of_layer demands_of_guarded _)
      (ok-becomes (λ _. IsGood (demands_of_whole y.action.0)) (λ _. IsGood (demands_of_whole y.action.0)) (command_of y.span.line) (judged_action every y.action.0 scope opened) (λ a h. h)
      (y.action.1 opened))))
      (λ x y is. subst (λ z. GuardedMet (roll-Guarded z)) is (λ opened.
      moved (λ ds (made : GuardedArm). ((made.guard.width ≡ 1) → IsGood ds)) _ _ _ _
      (ap (λ f. f scope opened) (fold-roll-Guarded _ _ _ _ _ (action_layer every) (arm_layer every) (case_arm_layer every) (command_layer every) (guarded_layer every) _))
      (fold-roll-Guarded _ _ _ _ _ demands_of_action demands_of_arm demands_of_case_arm demands_of_layer demands_of_guarded _)
      (guarded_met y.guard y.body opened)))

pub demands_met : DemandsAreMet
demands_met d (qs, e) before p later split =
    let k = knows d qs e before p later split in
    let here = k.here in
    let scope = scope_inside every here.scope p in
    let once = (is_sound d before p here).once in
    let known = known_inside d.types before here.scope p k.known in
    subst (λ ds. Every (IsMet d.types before ds) (demands_of_command p.body)) (all_visible d before p here)
    (ok-is (λ _. Every (IsMet d.types before (map shown scope.names)) (demands_of_command p.body)) (judged_command every p.body scope []) here.judged.body here.judged.command
    (command_met scope once d.types before known p.body []))
