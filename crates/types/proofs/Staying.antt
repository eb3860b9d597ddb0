-- What is right stays right where what it does not use is left out, and the others change their numbers.
use Rattle.std.proofs.Common.{◌≡◌, ℕ, List, [], ◌∷◌, ◌++◌, map, flat_map, true, false, Bool, ◌||◌, ◌&&◌, Option, Some, None, nat_eq, nat_le, is_ok, slice_get, if◌then◌else◌, Ok, Err, refl, ap, ap₂, sym, subst, ◌∙◌}
use Rattle.std.proofs.lemmas.Bool.{false≢true}
use Rattle.std.proofs.lemmas.List.{map-append}
use Rattle.std.specs.List.{list_all}
use Rattle.types.specs.Arms.{GuardedArm, LabelledArm, one_bit, new_labels, new_channels, with_channel, channel_of_arm, guarded, conditional, labelled, cased, arm_of, distinct, label_value, judged_label, judged_labels, opened_arm}
use Rattle.types.specs.Calls.{is_fit, fits_input, fits_output, fits_sync, fits_port, all_fit, call_fits, called, judged_argument, judged_arguments}
use Rattle.types.specs.Commands.{Scope, Judged, start_of, command_of, value, action_layer, arm_layer, case_arm_layer, command_layer, guarded_layer, each, judged_command, assignment, sending, receiving, guarded_loop, enclosing, target, sender, receiver, opened_by}
use Rattle.types.specs.Expressions.{JudgedValue, judged_expression, shape_layer, expression_layer, binary, combined, complement, cast, type_width, width_within, operator_width, of_name, if_one_bit}
use Rattle.types.specs.Findings.{Verdict, Findings, becomes, if_right, both, with_next, with_all, demands, one_fault, every}
use Rattle.types.specs.Names.{look_up, find, found_for, found_as, same_binding, is_among}
use Rattle.types.specs.Parts.{Name, Part, named, valued, part_of, parts_of_value, parts_of_label, parts_of_each, parts_of_action, parts_of_arm, parts_of_case_arm, parts_of_layer, parts_of_guarded, parts_of_command, names_of_type, names_of_shape, names_of_layer, names_of_expression}
use Rattle.types.specs.Uses.{meaning_of, at, type_use, type_by, target_use, target_by, sending_use, sending_by, receiving_use, receiving_by, sync_use, sync_by, arm_use, arm_by, procedure_use, procedure_by, label_use, label_by, argument_use, argument_by, value_use, value_by, received_by}
use Rattle.types.specs.internal.CommandParts.{judged_action, judged_guarded, judged_labelled, judged_arm}
use Rattle.types.specs.declared.expression.Valued.{Valued}
use Rattle.types.specs.declared.scope.Channel.{Channel}
use Rattle.types.specs.declared.scope.Found.{Found}
use Rattle.types.specs.declared.scope.Found.TheVariants.{Nothing, Opened, Means}
use Rattle.types.specs.declared.scope.Meaning.{Meaning}
use Rattle.types.specs.declared.scope.Meaning.TheVariants as meaning
use Rattle.refusals.specs.declared.types.Fault.{Fault}
use Rattle.refusals.specs.declared.types.Fault.TheVariants.{BadArm}
use Rattle.types.specs.declared.tree.Arm as typed_arm
use Rattle.types.specs.declared.tree.Binding.{Binding}
use Rattle.types.specs.declared.tree.Binding.TheVariants as binding
use Rattle.types.specs.declared.tree.ChannelUse.{ChannelUse}
use Rattle.types.specs.declared.tree.Command as typed_command
use Rattle.types.specs.declared.tree.PortKind.{PortKind}
use Rattle.types.specs.declared.tree.PortKind.TheVariants as port
use Rattle.types.specs.declared.tree.VariableUse.{VariableUse}
use Rattle.syntax.specs.Lists.{Every}
use Rattle.syntax.specs.declared.command.Action.{Action}
use Rattle.syntax.specs.declared.command.Arm.{Arm}
use Rattle.syntax.specs.declared.command.CaseArm.{CaseArm}
use Rattle.syntax.specs.declared.command.Command.{Command}
use Rattle.syntax.specs.declared.command.Guarded.{Guarded}
use Rattle.syntax.specs.declared.command.Label.{Label}
use Rattle.syntax.specs.declared.command.LabelValue.{LabelValue}
use Rattle.syntax.specs.declared.command.LabelValue.TheVariants as label
use Rattle.syntax.specs.declared.command.Action.TheFolds.{map-Action, fold-roll-Action, fold-roll-Arm, fold-roll-CaseArm, fold-roll-Command, fold-roll-Guarded, ind-Command}
use Rattle.syntax.specs.declared.command.Action.TheOpen.{Action-F, Arm-F}
use Rattle.syntax.specs.declared.command.Action.TheViews.{roll-Action, roll-Arm, roll-CaseArm, roll-Command, roll-Guarded}
use Rattle.syntax.specs.declared.expression.Expr.{Expr}
use Rattle.syntax.specs.declared.expression.Operator.{Operator}
use Rattle.syntax.specs.declared.expression.Shape.{Shape}
use Rattle.syntax.specs.declared.expression.Shape.TheFolds.{map-Shape, fold-roll-Shape, fold-roll-Expr, ind-Expr}
use Rattle.syntax.specs.declared.expression.Shape.TheOpen.{Shape-F}
use Rattle.syntax.specs.declared.expression.Shape.TheViews.{roll-Expr, roll-Shape}
use Rattle.syntax.specs.declared.expression.TypeName.{TypeName}
use Rattle.syntax.specs.declared.expression.TypeName.TheVariants.{Named, Bits}
use Rattle.syntax.specs.declared.name.Identifier.{Identifier}
use Rattle.types.proofs.ExpressionWays.{judged_shape, names_in_shape}
use Rattle.types.proofs.Least.{With}
use Rattle.types.proofs.Lookups.{every-append, every-front, every-back}
use Rattle.types.proofs.StaysRight.{Stays, Always, Both, Pairs, stays-becomes, stays-if_right, stays-inside, stays-both, stays-alone, stays-same, stays-if, stays-next}
use Rattle.types.proofs.PartsFound.{parts_of_whole, parts_in_arm, parts_in_case_arm, parts_in_guarded, open_action, open_parts}

-- ---- new numbers

-- Ports, locals and procedures have other numbers. Those that are kept have numbers of their own still.
pub record Renumbering : Type 1 where
  pub port : ℕ → ℕ
  pub local : ℕ → ℕ
  pub procedure : ℕ → ℕ
  pub KeepsPort : ℕ → Type 0
  pub KeepsLocal : ℕ → Type 0
  pub ports_apart : (a b : ℕ) → KeepsPort a → KeepsPort b → nat_eq (port a) (port b) ≡ nat_eq a b
  pub locals_apart : (a b : ℕ) → KeepsLocal a → KeepsLocal b → nat_eq (local a) (local b) ≡ nat_eq a b

-- what a name means by other numbers
abbrev pub renamed : Renumbering → Meaning → Meaning
renamed anew (meaning.TypeName w) = meaning.TypeName w
renamed anew (meaning.Element v) = meaning.Element v
renamed anew (meaning.Procedure p) = meaning.Procedure (anew.procedure p)
renamed anew (meaning.Input p w) = meaning.Input (anew.port p) w
renamed anew (meaning.Output p w) = meaning.Output (anew.port p) w
renamed anew (meaning.SyncPort p) = meaning.SyncPort (anew.port p)
renamed anew (meaning.Variable l w) = meaning.Variable (anew.local l) w
renamed anew (meaning.Channel l w) = meaning.Channel (anew.local l) w
renamed anew (meaning.Sync l) = meaning.Sync (anew.local l)

abbrev pub rebound : Renumbering → Binding → Binding
rebound anew (binding.Port p) = binding.Port (anew.port p)
rebound anew (binding.Local l) = binding.Local (anew.local l)

abbrev pub used_anew : Renumbering → ChannelUse → ChannelUse
used_anew anew u = at (rebound anew u.channel) u.offset

-- a binding whose number stays apart from the others
abbrev pub IsKept : Renumbering → Binding → Type 0
IsKept anew (binding.Port p) = anew.KeepsPort p
IsKept anew (binding.Local l) = anew.KeepsLocal l

-- The names that are used mean the same in both scopes, by these numbers.
module _ (anew : Renumbering) (old new : Scope) where
  abbrev pub Remains : Meaning → Type 0
  Remains (meaning.Procedure p) = slice_get new.procedures (anew.procedure p) ≡ slice_get old.procedures p
  Remains (meaning.Input p w) = anew.KeepsPort p
  Remains (meaning.Output p w) = anew.KeepsPort p
  Remains (meaning.SyncPort p) = anew.KeepsPort p
  Remains (meaning.Channel l w) = anew.KeepsLocal l
  Remains (meaning.Sync l) = anew.KeepsLocal l
  Remains _ = Unit {0}

  -- the name means the same, by new numbers
  abbrev pub Kept : List ℕ → Type 0
  Kept n = (m : Meaning) → look_up old.names n ≡ Some m → (look_up new.names n ≡ Some (renamed anew m)) × Remains m

  -- ---- channels

  same_bindings : (a b : Binding) → IsKept anew a → IsKept anew b → same_binding (rebound anew a) (rebound anew b) ≡ same_binding a b
  same_bindings (binding.Port a) (binding.Port b) x y = anew.ports_apart a b x y
  same_bindings (binding.Port a) (binding.Local b) x y = refl
  same_bindings (binding.Local a) (binding.Port b) x y = refl
  same_bindings (binding.Local a) (binding.Local b) x y = anew.locals_apart a b x y

  pub among : (bs : List Binding) (b : Binding) → Every (IsKept anew) bs → IsKept anew b → is_among (map (rebound anew) bs) (rebound anew b) ≡ is_among bs b
  among [] b kept is = refl
  among (a ∷ bs) b kept is = ap₂ (λ x y. x || y) (same_bindings b a is kept.0) (among bs b kept.1 is)

  seen_anew : (bs : List Binding) (b : Binding) → Every (IsKept anew) bs → IsKept anew b
      → with_channel (map (rebound anew) bs) (rebound anew b) ≡ map (rebound anew) (with_channel bs b)
  seen_anew bs b kept is =
      ap (λ t. if t then map (rebound anew) bs else map (rebound anew) bs ++ rebound anew b ∷ []) (among bs b kept is)
      ∙ elim (is_among bs b)
      as (λ t. (if t then map (rebound anew) bs else map (rebound anew) bs ++ rebound anew b ∷ []) ≡ map (rebound anew) (if t then bs else bs ++ b ∷ [])) [
        | true ↦ refl
        | false ↦ sym (map-append (rebound anew) bs (b ∷ []))
      ]

  seen_kept : (bs : List Binding) (b : Binding) → Every (IsKept anew) bs → IsKept anew b → Every (IsKept anew) (with_channel bs b)
  seen_kept bs b kept is =
      elim (is_among bs b) as (λ t. Every (IsKept anew) (if t then bs else bs ++ b ∷ [])) [
        | true ↦ kept
        | false ↦ every-append (IsKept anew) bs (b ∷ []) kept (is, tt)
      ]

  -- the same channels are new
  pub new_anew : (seen : List Binding) (cs : List ChannelUse) → Every (IsKept anew) seen → Every (λ (c : ChannelUse). IsKept anew c.channel) cs
      → new_channels (map (rebound anew) seen) (map (used_anew anew) cs) ≡ new_channels seen cs
  new_anew seen [] kept are = refl
  new_anew seen (c ∷ cs) kept are =
      ap₂ (λ v vs. v ∷ vs)
      (ap (λ t. if t then Err (BadArm c.offset) else Ok tt) (among seen c.channel kept are.0))
      (ap (λ s. new_channels s (map (used_anew anew) cs)) (seen_anew seen c.channel kept are.0)
      ∙ new_anew (with_channel seen c.channel) cs (seen_kept seen c.channel kept are.0) are.1)

  -- a use of a channel, and that by new numbers
  abbrev pub Anew : ChannelUse → ChannelUse → Type 0
  Anew a b = (b ≡ used_anew anew a) × IsKept anew a.channel

  pub anew_all : (us bs : List ChannelUse) → Pairs Anew us bs → (bs ≡ map (used_anew anew) us) × Every (λ (c : ChannelUse). IsKept anew c.channel) us
  anew_all [] [] ps = (refl, tt)
  anew_all [] (b ∷ bs) ps = absurd ps
  anew_all (a ∷ us) [] ps = absurd ps
  anew_all (a ∷ us) (b ∷ bs) ps = let rest = anew_all us bs ps.1 in (ap₂ (λ x xs. x ∷ xs) ps.0.0 rest.0, (ps.0.1, rest.1))

  pub anew_same : (us bs : List ChannelUse) → Pairs Anew us bs → new_channels [] bs ≡ new_channels [] us
  anew_same us bs ps = let all = anew_all us bs ps in ap (new_channels []) all.0 ∙ new_anew [] us tt all.1

  -- ---- names

  -- what is found of a name, and what is found of it by new numbers
  abbrev pub FoundAnew : Found → Found → Type 0
  FoundAnew Nothing g = Unit {0}
  FoundAnew (Opened c) g = (g ≡ Opened (record { binding = rebound anew c.binding; width = c.width })) × IsKept anew c.binding
  FoundAnew (Means m) g = (g ≡ Means (renamed anew m)) × Remains m

  channel_anew : (opened : List Binding) → Every (IsKept anew) opened → (m : Meaning) (c : Channel) → Remains m → IsKept anew c.binding
      → FoundAnew (found_as opened m (Some c))
      (found_as (map (rebound anew) opened) (renamed anew m) (Some (record { binding = rebound anew c.binding; width = c.width })))
  channel_anew opened kept m c remains is =
      subst
      (λ t. FoundAnew (found_as opened m (Some c)) (if t then Opened (record { binding = rebound anew c.binding; width = c.width }) else Means (renamed anew m)))
      (sym (among opened c.binding kept is))
      (elim (is_among opened c.binding)
      as (λ t. FoundAnew (if t then Opened c else Means m) (if t then Opened (record { binding = rebound anew c.binding; width = c.width }) else Means (renamed anew m))) [
        | true ↦ (refl, is)
        | false ↦ (refl, remains)
      ])

  meaning_anew : (opened : List Binding) → Every (IsKept anew) opened → (m : Meaning) → Remains m
      → FoundAnew (found_for opened (Some m)) (found_for (map (rebound anew) opened) (Some (renamed anew m)))
  meaning_anew opened kept (meaning.TypeName w) r = (refl, r)
  meaning_anew opened kept (meaning.Element v) r = (refl, r)
  meaning_anew opened kept (meaning.Procedure p) r = (refl, r)
  meaning_anew opened kept (meaning.Variable l w) r = (refl, r)
  meaning_anew opened kept (meaning.Input p w) r = channel_anew opened kept (meaning.Input p w) (record { binding = binding.Port p; width = Some w }) r r
  meaning_anew opened kept (meaning.Output p w) r = channel_anew opened kept (meaning.Output p w) (record { binding = binding.Port p; width = Some w }) r r
  meaning_anew opened kept (meaning.SyncPort p) r = channel_anew opened kept (meaning.SyncPort p) (record { binding = binding.Port p; width = None }) r r
  meaning_anew opened kept (meaning.Channel l w) r = channel_anew opened kept (meaning.Channel l w) (record { binding = binding.Local l; width = Some w }) r r
  meaning_anew opened kept (meaning.Sync l) r = channel_anew opened kept (meaning.Sync l) (record { binding = binding.Local l; width = None }) r r

  pub found_anew : (opened : List Binding) → Every (IsKept anew) opened → (n : List ℕ) → Kept n
      → FoundAnew (find old.names opened n) (find new.names (map (rebound anew) opened) n)
  unfolding find
  found_anew opened kept n is = by (look_up old.names n) refl
    where
      by : (o : Option Meaning) → look_up old.names n ≡ o
          → FoundAnew (found_for opened (look_up old.names n)) (found_for (map (rebound anew) opened) (look_up new.names n))
      by None e = rw e tt
      by (Some m) e =
          let k = is m e in
          subst (λ o. FoundAnew (found_for opened o) (found_for (map (rebound anew) opened) (look_up new.names n))) (sym e)
          (subst (λ o. FoundAnew (found_for opened (Some m)) (found_for (map (rebound anew) opened) o)) (sym k.0) (meaning_anew opened kept m k.1))

  -- a table of uses that has the same for the same meaning
  pub table_anew : {A : Type 0} (R : A → A → Type 0) (by : Meaning → Verdict A) (offset : ℕ)
      → ((m : Meaning) → Remains m → Stays R (by m) (by (renamed anew m)))
      → (f g : Found) → FoundAnew f g → Stays R (if_right (meaning_of f offset) by) (if_right (meaning_of g offset) by)
  table_anew R by offset same Nothing g is = tt
  table_anew R by offset same (Opened c) g is = tt
  table_anew R by offset same (Means m) g is = subst (λ h. Stays R (by m) (if_right (meaning_of h offset) by)) (sym is.0) (same m is.1)

  -- ---- calls

  fit_anew : (kind : PortKind) (m : Meaning) → is_fit kind (renamed anew m) ≡ is_fit kind m
  fit_anew (port.Input w) m = input m
    where
      input : (m : Meaning) → fits_input w (renamed anew m) ≡ fits_input w m
      input (meaning.Channel l v) = refl
      input (meaning.Input p v) = refl
      input _ = refl
  fit_anew (port.Output w) m = output m
    where
      output : (m : Meaning) → fits_output w (renamed anew m) ≡ fits_output w m
      output (meaning.Channel l v) = refl
      output (meaning.Output p v) = refl
      output _ = refl
  fit_anew port.Sync m = sync m
    where
      sync : (m : Meaning) → fits_sync (renamed anew m) ≡ fits_sync m
      sync (meaning.Sync l) = refl
      sync (meaning.SyncPort p) = refl
      sync _ = refl

  port_anew : (kind : PortKind) (n : List ℕ) → Kept n → fits_port kind (look_up old.names n) ≡ true → fits_port kind (look_up new.names n) ≡ true
  port_anew kind n is fits = by (look_up old.names n) refl
    where
      by : (o : Option Meaning) → look_up old.names n ≡ o → fits_port kind (look_up new.names n) ≡ true
      by None e = absurd (false≢true (rw e at fits))
      by (Some m) e = ap (fits_port kind) (is m e).0 ∙ fit_anew kind m ∙ (rw e at fits)

  two_parts : (a b : Bool) → (a && b) ≡ true → (a ≡ true) × (b ≡ true)
  two_parts true true e = (refl, refl)
  two_parts true false e = absurd (false≢true e)
  two_parts false b e = absurd (false≢true e)

  fits_anew : (kinds : List PortKind) (arguments : List Identifier) → Every (λ (a : Identifier). Kept a.name) arguments
      → all_fit old.names kinds arguments ≡ true → all_fit new.names kinds arguments ≡ true
  fits_anew [] [] kept e = refl
  fits_anew [] (a ∷ arguments) kept e = absurd (false≢true e)
  fits_anew (kind ∷ kinds) [] kept e = absurd (false≢true e)
  fits_anew (kind ∷ kinds) (a ∷ arguments) kept e =
      let h = two_parts (fits_port kind (look_up old.names a.name)) (all_fit old.names kinds arguments) e in
      ap₂ (λ x y. x && y) (port_anew kind a.name kept.0 h.0) (fits_anew kinds arguments kept.1 h.1)

  pub call_anew : (p : Option (List PortKind)) (arguments : List Identifier) (us bs : List ChannelUse) → Every (λ (a : Identifier). Kept a.name) arguments
      → Pairs Anew us bs → call_fits old.names p arguments us ≡ true → call_fits new.names p arguments bs ≡ true
  call_anew None arguments us bs kept ps e = absurd (false≢true e)
  call_anew (Some kinds) arguments us bs kept ps e =
      let h = two_parts (all_fit old.names kinds arguments) (list_all is_ok (new_channels [] us)) e in
      ap₂ (λ x y. x && y) (fits_anew kinds arguments kept h.0) (ap (list_all is_ok) (anew_same us bs ps) ∙ h.1)

  -- ---- the places of names, a table each

  type_anew : (opened : List Binding) → Every (IsKept anew) opened → (n : List ℕ) (offset : ℕ) → Kept n
      → Stays (λ a b. a ≡ b) (type_use (find old.names opened n) offset) (type_use (find new.names (map (rebound anew) opened) n) offset)
  unfolding type_use
  type_anew opened kept n offset is = table_anew (λ a b. a ≡ b) (type_by offset) offset by _ _ (found_anew opened kept n is)
    where
      by : (m : Meaning) → Remains m → Stays (λ a b. a ≡ b) (type_by offset m) (type_by offset (renamed anew m))
      by (meaning.TypeName w) r = refl
      by _ r = tt

  abbrev Width : VariableUse × ℕ → VariableUse × ℕ → Type 0
  Width a b = a.1 ≡ b.1

  target_anew : (x : Identifier) (opened : List Binding) → Every (IsKept anew) opened → Kept x.name
      → Stays Width (target x old opened) (target x new (map (rebound anew) opened))
  unfolding target_use
  target_anew x opened kept is = table_anew Width (target_by x.span.start) x.span.start by _ _ (found_anew opened kept x.name is)
    where
      by : (m : Meaning) → Remains m → Stays Width (target_by x.span.start m) (target_by x.span.start (renamed anew m))
      by (meaning.Variable l w) r = refl
      by _ r = tt

  abbrev OfWidth : ChannelUse × ℕ → ChannelUse × ℕ → Type 0
  OfWidth a b = Anew a.0 b.0 × (a.1 ≡ b.1)

  sender_anew : (x : Identifier) (opened : List Binding) → Every (IsKept anew) opened → Kept x.name
      → Stays OfWidth (sender x old opened) (sender x new (map (rebound anew) opened))
  unfolding sending_use
  sender_anew x opened kept is = table_anew OfWidth (sending_by x.span.start) x.span.start by _ _ (found_anew opened kept x.name is)
    where
      by : (m : Meaning) → Remains m → Stays OfWidth (sending_by x.span.start m) (sending_by x.span.start (renamed anew m))
      by (meaning.Output p w) r = ((refl, r), refl)
      by (meaning.Channel l w) r = ((refl, r), refl)
      by _ r = tt

  receiver_anew : (x : Identifier) (opened : List Binding) → Every (IsKept anew) opened → Kept x.name
      → Stays OfWidth (receiver x old opened) (receiver x new (map (rebound anew) opened))
  unfolding receiving_use
  receiver_anew x opened kept is = table_anew OfWidth (receiving_by x.span.start) x.span.start by _ _ (found_anew opened kept x.name is)
    where
      by : (m : Meaning) → Remains m → Stays OfWidth (receiving_by x.span.start m) (receiving_by x.span.start (renamed anew m))
      by (meaning.Input p w) r = ((refl, r), refl)
      by (meaning.Channel l w) r = ((refl, r), refl)
      by _ r = tt

  sync_anew : (x : Identifier) (opened : List Binding) → Every (IsKept anew) opened → Kept x.name
      → Stays Anew (sync_use (find old.names opened x.name) x.span.start) (sync_use (find new.names (map (rebound anew) opened) x.name) x.span.start)
  unfolding sync_use
  sync_anew x opened kept is = table_anew Anew (sync_by x.span.start) x.span.start by _ _ (found_anew opened kept x.name is)
    where
      by : (m : Meaning) → Remains m → Stays Anew (sync_by x.span.start m) (sync_by x.span.start (renamed anew m))
      by (meaning.SyncPort p) r = (refl, r)
      by (meaning.Sync l) r = (refl, r)
      by _ r = tt

  arm_anew : (x : Identifier) (opened : List Binding) → Every (IsKept anew) opened → Kept x.name
      → Stays Anew (arm_use (find old.names opened x.name) x.span.start) (arm_use (find new.names (map (rebound anew) opened) x.name) x.span.start)
  unfolding arm_use
  arm_anew x opened kept is = table_anew Anew (arm_by x.span.start) x.span.start by _ _ (found_anew opened kept x.name is)
    where
      by : (m : Meaning) → Remains m → Stays Anew (arm_by x.span.start m) (arm_by x.span.start (renamed anew m))
      by (meaning.Input p w) r = (refl, r)
      by (meaning.SyncPort p) r = (refl, r)
      by (meaning.Channel l w) r = (refl, r)
      by (meaning.Sync l) r = (refl, r)
      by _ r = tt

  argument_anew : (opened : List Binding) → Every (IsKept anew) opened → (x : Identifier) → Kept x.name
      → Stays Anew (judged_argument old.names opened x) (judged_argument new.names (map (rebound anew) opened) x)
  unfolding argument_use
  argument_anew opened kept x is = table_anew Anew (argument_by x.span.start) x.span.start by _ _ (found_anew opened kept x.name is)
    where
      by : (m : Meaning) → Remains m → Stays Anew (argument_by x.span.start m) (argument_by x.span.start (renamed anew m))
      by (meaning.Input p w) r = (refl, r)
      by (meaning.Output p w) r = (refl, r)
      by (meaning.SyncPort p) r = (refl, r)
      by (meaning.Channel l w) r = (refl, r)
      by (meaning.Sync l) r = (refl, r)
      by _ r = tt

  -- a procedure has the same ports by its new number
  abbrev SamePorts : ℕ → ℕ → Type 0
  SamePorts a b = slice_get new.procedures b ≡ slice_get old.procedures a

  procedure_anew : (x : Identifier) (opened : List Binding) → Every (IsKept anew) opened → Kept x.name
      → Stays SamePorts (procedure_use (find old.names opened x.name) x.span.start) (procedure_use (find new.names (map (rebound anew) opened) x.name) x.span.start)
  unfolding procedure_use
  procedure_anew x opened kept is = table_anew SamePorts (procedure_by x.span.start) x.span.start by _ _ (found_anew opened kept x.name is)
    where
      by : (m : Meaning) → Remains m → Stays SamePorts (procedure_by x.span.start m) (procedure_by x.span.start (renamed anew m))
      by (meaning.Procedure p) r = r
      by _ r = tt

  element_anew : (n : List ℕ) (offset : ℕ) (opened : List Binding) → Every (IsKept anew) opened → Kept n
      → Stays (λ a b. a ≡ b) (label_use (find old.names opened n) offset) (label_use (find new.names (map (rebound anew) opened) n) offset)
  unfolding label_use
  element_anew n offset opened kept is = table_anew (λ a b. a ≡ b) (label_by offset) offset by _ _ (found_anew opened kept n is)
    where
      by : (m : Meaning) → Remains m → Stays (λ a b. a ≡ b) (label_by offset m) (label_by offset (renamed anew m))
      by (meaning.Element v) r = refl
      by _ r = tt

  -- ---- expressions

  abbrev pub AsWide : Valued → Valued → Type 0
  AsWide a b = a.width ≡ b.width

  named_anew : (n : List ℕ) (offset : ℕ) (opened : List Binding) → Every (IsKept anew) opened → Kept n
      → Stays AsWide (becomes of_name (value_use (find old.names opened n) offset)) (becomes of_name (value_use (find new.names (map (rebound anew) opened) n) offset))
  unfolding value_use
  named_anew n offset opened kept is = by (find old.names opened n) (find new.names (map (rebound anew) opened) n) (found_anew opened kept n is)
    where
      opens : (b : Binding) (w : Option ℕ) → Stays AsWide (becomes of_name (received_by offset b w)) (becomes of_name (received_by offset (rebound anew b) w))
      opens b (Some w) = refl
      opens b None = tt

      means : (m : Meaning) → Stays AsWide (becomes of_name (value_by offset m)) (becomes of_name (value_by offset (renamed anew m)))
      means (meaning.Element v) = refl
      means (meaning.Variable l w) = refl
      means _ = tt

      by : (f g : Found) → FoundAnew f g → Stays AsWide (becomes of_name (value_use f offset)) (becomes of_name (value_use g offset))
      by Nothing g e = tt
      by (Opened c) g e = subst (λ h. Stays AsWide (becomes of_name (received_by offset c.binding c.width)) (becomes of_name (value_use h offset))) (sym e.0) (opens c.binding c.width)
      by (Means m) g e = subst (λ h. Stays AsWide (becomes of_name (value_by offset m)) (becomes of_name (value_use h offset))) (sym e.0) (means m)

  combined_anew : (op : Operator) (a b c d : Valued) (v v' : Verdict ℕ) → v ≡ v' → Stays AsWide (one_fault (becomes (combined op a b) v)) (one_fault (becomes (combined op c d) v'))
  combined_anew op a b c d v v' same = subst (λ z. Stays AsWide (one_fault (becomes (combined op a b) v)) (one_fault (becomes (combined op c d) z))) same (by v)
    where
      by : (v : Verdict ℕ) → Stays AsWide (one_fault (becomes (combined op a b) v)) (one_fault (becomes (combined op c d) v))
      by (Ok w) = refl
      by (Err f) = tt

  binary_anew : (op : Operator) (start : ℕ) (l r l' r' : Findings every Valued) → Stays AsWide l l' → Stays AsWide r r'
      → Stays AsWide (binary every op start l r) (binary every op start l' r')
  unfolding binary
  binary_anew op start l r l' r' left right =
      stays-if_right (Both AsWide AsWide) AsWide _ _ (both every l r) (both every l' r')
      (λ p q h. combined_anew op p.0 p.1 q.0 q.1 _ _ (ap₂ (λ a b. width_within start (operator_width op a b) op) h.0 h.1))
      (stays-both AsWide AsWide l l' r r' left right)

  type_width_anew : (opened : List Binding) → Every (IsKept anew) opened → (type : TypeName) → Every Kept (names_of_type type)
      → Stays (λ a b. a ≡ b) (type_width old.names opened type) (type_width new.names (map (rebound anew) opened) type)
  type_width_anew opened kept (Named identifier) are = type_anew opened kept identifier.name identifier.span.start are.0
  type_width_anew opened kept (Bits width) are = stays-same (λ a b. a ≡ b) (λ a. refl) _

  cast_anew : (opened : List Binding) → Every (IsKept anew) opened → (type : TypeName) → Every Kept (names_of_type type) → (x y : Findings every Valued) → Stays AsWide x y
      → Stays AsWide (becomes (λ p. cast p.0 p.1) (both every x (one_fault (type_width old.names opened type))))
      (becomes (λ p. cast p.0 p.1) (both every y (one_fault (type_width new.names (map (rebound anew) opened) type))))
  cast_anew opened kept type are x y operand =
      stays-becomes (Both AsWide (λ a b. a ≡ b)) AsWide _ _ (both every x (one_fault (type_width old.names opened type)))
      (both every y (one_fault (type_width new.names (map (rebound anew) opened) type))) (λ p q h. h.1)
      (stays-both AsWide (λ a b. a ≡ b) x y _ _ operand (stays-alone (λ a b. a ≡ b) _ _ (type_width_anew opened kept type are)))

  abbrev ShapeStays : Shape → Type 0
  ShapeStays s = (start : ℕ) (opened : List Binding) → Every (IsKept anew) opened → Every Kept (names_in_shape s)
      → Stays AsWide (judged_shape s start old.names opened) (judged_shape s start new.names (map (rebound anew) opened))

  abbrev ExpressionStays : Expr → Type 0
  ExpressionStays e = (opened : List Binding) → Every (IsKept anew) opened → Every Kept (names_of_expression e)
      → Stays AsWide (judged_expression every e old.names opened) (judged_expression every e new.names (map (rebound anew) opened))

  abbrev plain_shape : Shape-F (With ShapeStays) (With ExpressionStays) → Shape-F Shape Expr
  plain_shape y = map-Shape (With ShapeStays) (With ExpressionStays) Shape Expr (λ x. x.0) (λ x. x.0) y

  abbrev open_shape : Shape-F Shape Expr → ℕ → JudgedValue every
  open_shape y = shape_layer every (map-Shape Shape Expr (ℕ → JudgedValue every) (JudgedValue every) judged_shape (judged_expression every) y)

  abbrev open_names : Shape-F Shape Expr → List Name
  open_names y = names_of_shape (map-Shape Shape Expr (List Name) (List Name) names_in_shape names_of_expression y)

  shape_stays : (y : Shape-F (With ShapeStays) (With ExpressionStays)) (start : ℕ) (opened : List Binding) → Every (IsKept anew) opened
      → Every Kept (open_names (plain_shape y)) → Stays AsWide (open_shape (plain_shape y) start old.names opened) (open_shape (plain_shape y) start new.names (map (rebound anew) opened))
  shape_stays (Shape-F.Number n) start opened kept are = refl
  shape_stays (Shape-F.Name name) start opened kept are = stays-alone AsWide _ _ (named_anew name start opened kept are.0)
  shape_stays (Shape-F.Binary op a b) start opened kept are =
      binary_anew op start _ _ _ _ (a.1 opened kept (every-front Kept (names_of_expression a.0) (names_of_expression b.0) are))
      (b.1 opened kept (every-back Kept (names_of_expression a.0) (names_of_expression b.0) are))
  shape_stays (Shape-F.Not a) start opened kept are =
      stays-becomes AsWide AsWide complement complement (judged_expression every a.0 old.names opened) _ (λ p q h. h) (a.1 opened kept are)
  shape_stays (Shape-F.Cast a type) start opened kept are =
      cast_anew opened kept type (every-back Kept (names_of_expression a.0) (names_of_type type) are) _ _
      (a.1 opened kept (every-front Kept (names_of_expression a.0) (names_of_type type) are))

  moved_value : (x x' y y' : Findings every Valued) (ns ns' : List Name) → x ≡ x' → y ≡ y' → ns ≡ ns' → (Every Kept ns' → Stays AsWide x' y') → Every Kept ns → Stays AsWide x y
  moved_value x x' y y' ns ns' a b c f are =
      subst (λ z. Stays AsWide z y) (sym a) (subst (λ z. Stays AsWide x' z) (sym b) (f (subst (Every Kept) c are)))

  pub expression_stays : (e : Expr) → ExpressionStays e
  expression_stays =
      ind-Expr ShapeStays ExpressionStays
      (λ x y is. subst (λ z. ShapeStays (roll-Shape z)) is (λ start opened kept.
      moved_value _ _ _ _ _ _
      (ap (λ f. f start old.names opened) (fold-roll-Shape (ℕ → JudgedValue every) (JudgedValue every) (shape_layer every) (expression_layer every) _))
      (ap (λ f. f start new.names (map (rebound anew) opened)) (fold-roll-Shape (ℕ → JudgedValue every) (JudgedValue every) (shape_layer every) (expression_layer every) _))
      (fold-roll-Shape (List Name) (List Name) names_of_shape names_of_layer _)
      (shape_stays y start opened kept)))
      (λ x y is. subst (λ z. ExpressionStays (roll-Expr z)) is (λ opened kept.
      moved_value _ _ _ _ _ _
      (ap (λ f. f old.names opened) (fold-roll-Expr (ℕ → JudgedValue every) (JudgedValue every) (shape_layer every) (expression_layer every) _))
      (ap (λ f. f new.names (map (rebound anew) opened)) (fold-roll-Expr (ℕ → JudgedValue every) (JudgedValue every) (shape_layer every) (expression_layer every) _))
      (fold-roll-Expr (List Name) (List Name) names_of_shape names_of_layer _)
      (y.shape.1 y.own_start opened kept)))

  -- ---- lists of parts

  abbrev pub KeptPart : Part → Type 0
  KeptPart (named n) = Kept n
  KeptPart (valued e) = Every Kept (names_of_expression e)

  items_stay : {X A B : Type 0} (judge : X → Findings every A) (judge' : X → Findings every B) (parts : X → List Part) (R : A → B → Type 0)
      → ((x : X) → Every KeptPart (parts x) → Stays R (judge x) (judge' x)) → (l : Findings every (List A)) (l' : Findings every (List B)) → Stays (Pairs R) l l'
      → (xs : List X) → Every KeptPart (flat_map parts xs) → Stays (Pairs R) (with_all every l (map judge xs)) (with_all every l' (map judge' xs))
  items_stay judge judge' parts R f l l' ls [] are = ls
  items_stay judge judge' parts R f l l' ls (x ∷ xs) are =
      items_stay judge judge' parts R f (with_next every l (judge x)) (with_next every l' (judge' x))
      (stays-next R l l' (judge x) (judge' x) ls (f x (every-front KeptPart (parts x) (flat_map parts xs) are)))
      xs (every-back KeptPart (parts x) (flat_map parts xs) are)

  children_stay : {X A : Type 0} (opened : List Binding) (judge : X → Judged every A) (parts : X → List Part) (R : A → A → Type 0) (Q : X → Type 0)
      → ((x : X) → Q x → Every KeptPart (parts x) → Stays R (judge x old opened) (judge x new (map (rebound anew) opened)))
      → (l l' : Findings every (List A)) → Stays (Pairs R) l l' → (ys : List (With Q)) → Every KeptPart (parts_of_each (map parts (map (λ y. y.0) ys)))
      → Stays (Pairs R) (with_all every l (map (λ child. child old opened) (map judge (map (λ y. y.0) ys))))
      (with_all every l' (map (λ child. child new (map (rebound anew) opened)) (map judge (map (λ y. y.0) ys))))
  children_stay opened judge parts R Q f l l' ls [] are = ls
  children_stay opened judge parts R Q f l l' ls (y ∷ ys) are =
      children_stay opened judge parts R Q f (with_next every l (judge y.0 old opened)) (with_next every l' (judge y.0 new (map (rebound anew) opened)))
      (stays-next R l l' (judge y.0 old opened) (judge y.0 new (map (rebound anew) opened)) ls
      (f y.0 y.1 (every-front KeptPart (parts y.0) (parts_of_each (map parts (map (λ y. y.0) ys))) are)))
      ys (every-back KeptPart (parts y.0) (parts_of_each (map parts (map (λ y. y.0) ys))) are)

  -- ---- arms

  abbrev SameGuard : GuardedArm → GuardedArm → Type 0
  SameGuard a b = (a.guard.width ≡ b.guard.width) × (a.start ≡ b.start)

  abbrev SameLabels : LabelledArm → LabelledArm → Type 0
  SameLabels a b = a.labels ≡ b.labels

  abbrev ArmAnew : typed_arm.Arm → typed_arm.Arm → Type 0
  ArmAnew a b = Anew (channel_of_arm a) (channel_of_arm b)

  guards_same : (us bs : List GuardedArm) → Pairs SameGuard us bs → map one_bit bs ≡ map one_bit us
  guards_same [] [] ps = refl
  guards_same [] (b ∷ bs) ps = absurd ps
  guards_same (a ∷ us) [] ps = absurd ps
  guards_same (a ∷ us) (b ∷ bs) ps =
      ap₂ (λ x xs. x ∷ xs) (ap₂ (λ w s. if_one_bit w s tt) (sym ps.0.0) (sym ps.0.1)) (guards_same us bs ps.1)

  labels_same : (us bs : List LabelledArm) → Pairs SameLabels us bs
      → flat_map (λ (a : LabelledArm). a.labels) bs ≡ flat_map (λ (a : LabelledArm). a.labels) us
  labels_same [] [] ps = refl
  labels_same [] (b ∷ bs) ps = absurd ps
  labels_same (a ∷ us) [] ps = absurd ps
  labels_same (a ∷ us) (b ∷ bs) ps = ap₂ (λ x xs. x ++ xs) (sym ps.0) (labels_same us bs ps.1)

  arms_same : (us bs : List typed_arm.Arm) → Pairs ArmAnew us bs → Pairs Anew (map channel_of_arm us) (map channel_of_arm bs)
  arms_same [] [] ps = tt
  arms_same [] (b ∷ bs) ps = absurd ps
  arms_same (a ∷ us) [] ps = absurd ps
  arms_same (a ∷ us) (b ∷ bs) ps = (ps.0, arms_same us bs ps.1)

  -- the same demands are met
  demands_stay : {A B : Type 0} (vs ws : List (Verdict (Unit {0}))) (a : A) (b : B) → ws ≡ vs
      → Stays Always (becomes (λ _. a) (demands every vs)) (becomes (λ _. b) (demands every ws))
  demands_stay vs ws a b same =
      subst (λ z. Stays Always (becomes (λ _. a) (demands every vs)) (becomes (λ _. b) (demands every z))) (sym same)
      (stays-becomes Always Always _ _ (demands every vs) (demands every vs) (λ p q h. tt) (stays-same Always (λ a. tt) (demands every vs)))

  conditional_stays : (us bs : Findings every (List GuardedArm)) (l l' : Findings every (Option typed_command.Command))
      → Stays (Pairs SameGuard) us bs → Stays Always l l' → Stays Always (conditional every us l) (conditional every bs l')
  unfolding conditional
  conditional_stays us bs l l' arms last =
      stays-if_right (Both (Pairs SameGuard) Always) Always _ _ (both every us l) (both every bs l')
      (λ p q h. demands_stay (map one_bit p.0) (map one_bit q.0) _ _ (guards_same p.0 q.0 h.0))
      (stays-both (Pairs SameGuard) Always us bs l l' arms last)

  cased_stays : (s s' : Findings every Valued) (us bs : Findings every (List LabelledArm)) (l l' : Findings every (Option typed_command.Command))
      → Stays AsWide s s' → Stays (Pairs SameLabels) us bs → Stays Always l l' → Stays Always (cased every s us l) (cased every s' bs l')
  unfolding cased
  cased_stays s s' us bs l l' subject arms last =
      stays-if_right (Both AsWide (Both (Pairs SameLabels) Always)) Always _ _ (both every s (both every us l)) (both every s' (both every bs l'))
      (λ p q h. demands_stay (new_labels p.0.width [] (flat_map (λ (a : LabelledArm). a.labels) p.1.0)) _ _ _
      (ap₂ (λ w ls. new_labels w [] ls) (sym h.0) (labels_same p.1.0 q.1.0 h.1.0)))
      (stays-both AsWide (Both (Pairs SameLabels) Always) s s' (both every us l) (both every bs l') subject
      (stays-both (Pairs SameLabels) Always us bs l l' arms last))

  distinct_stays : (us bs : Findings every (List typed_arm.Arm)) → Stays (Pairs ArmAnew) us bs → Stays Always (distinct every us) (distinct every bs)
  unfolding distinct
  distinct_stays us bs arms =
      stays-if_right (Pairs ArmAnew) Always _ _ us bs
      (λ p q h. demands_stay (new_channels [] (map channel_of_arm p)) _ _ _ (anew_same (map channel_of_arm p) (map channel_of_arm q) (arms_same p q h))) arms

  label_stays : (opened : List Binding) → Every (IsKept anew) opened → (l : Label) → Every KeptPart (parts_of_label l)
      → Stays (λ a b. a ≡ b) (one_fault (judged_label old.names opened l)) (one_fault (judged_label new.names (map (rebound anew) opened) l))
  label_stays opened kept l are = stays-alone (λ a b. a ≡ b) _ _ (stays-becomes (λ a b. a ≡ b) (λ a b. a ≡ b) _ _ _ _ (λ a b e. ap (λ v. record { offset = l.span.start; value = v }) e) (by l.value are))
    where
      by : (v : LabelValue) → Every KeptPart (parts_of_value v)
          → Stays (λ a b. a ≡ b) (label_value old.names opened l.span.start v) (label_value new.names (map (rebound anew) opened) l.span.start v)
      by (label.Number n) are = refl
      by (label.Name n) are = element_anew n l.span.start opened kept are.0

  equal_pairs : {A : Type 0} (us bs : List A) → Pairs (λ a b. a ≡ b) us bs → us ≡ bs
  equal_pairs [] [] ps = refl
  equal_pairs [] (b ∷ bs) ps = absurd ps
  equal_pairs (a ∷ us) [] ps = absurd ps
  equal_pairs (a ∷ us) (b ∷ bs) ps = ap₂ (λ x xs. x ∷ xs) ps.0 (equal_pairs us bs ps.1)

  labels_stay : (opened : List Binding) → Every (IsKept anew) opened → (labels : List Label) → Every KeptPart (flat_map parts_of_label labels)
      → Stays (Pairs (λ a b. a ≡ b)) (judged_labels every old.names opened labels) (judged_labels every new.names (map (rebound anew) opened) labels)
  labels_stay opened kept labels are =
      items_stay _ _ parts_of_label (λ a b. a ≡ b) (label_stays opened kept) (Ok []) (Ok []) tt labels are

  arguments_stay : (opened : List Binding) → Every (IsKept anew) opened → (arguments : List Identifier) → Every KeptPart (flat_map (λ a. part_of a ∷ []) arguments)
      → Stays (Pairs Anew) (judged_arguments every old.names opened arguments) (judged_arguments every new.names (map (rebound anew) opened) arguments)
  arguments_stay opened kept arguments are =
      items_stay _ _ (λ a. part_of a ∷ []) Anew (λ x is. stays-alone Anew _ _ (argument_anew opened kept x is.0)) (Ok []) (Ok []) tt arguments are

  argument_names : (arguments : List Identifier) → Every KeptPart (flat_map (λ a. part_of a ∷ []) arguments) → Every (λ (a : Identifier). Kept a.name) arguments
  argument_names [] are = tt
  argument_names (a ∷ rest) are = (are.0, argument_names rest are.1)

  -- ---- commands

  -- what is opened by an arm on a channel
  opened_anew : (opened : List Binding) → Every (IsKept anew) opened → (a b : ChannelUse) → Anew a b
      → (map (rebound anew) (opened ++ a.channel ∷ []) ≡ map (rebound anew) opened ++ b.channel ∷ []) × Every (IsKept anew) (opened ++ a.channel ∷ [])
  opened_anew opened kept a b is = (
    map-append (rebound anew) opened (a.channel ∷ []) ∙ ap (λ (u : ChannelUse). map (rebound anew) opened ++ u.channel ∷ []) (sym is.0),
    every-append (IsKept anew) opened (a.channel ∷ []) kept (is.1, tt),
  )

  abbrev ActionStays : Action → Type 0
  ActionStays x = (opened : List Binding) → Every (IsKept anew) opened → Every KeptPart (parts_of_whole x)
      → Stays Always (judged_action every x old opened) (judged_action every x new (map (rebound anew) opened))

  abbrev ArmStays : Arm → Type 0
  ArmStays x = (opened : List Binding) → Every (IsKept anew) opened → Every KeptPart (parts_in_arm x)
      → Stays ArmAnew (judged_arm every x old opened) (judged_arm every x new (map (rebound anew) opened))

  abbrev LabelledStays : CaseArm → Type 0
  LabelledStays x = (opened : List Binding) → Every (IsKept anew) opened → Every KeptPart (parts_in_case_arm x)
      → Stays SameLabels (judged_labelled every x old opened) (judged_labelled every x new (map (rebound anew) opened))

  abbrev CommandStays : Command → Type 0
  CommandStays x = (opened : List Binding) → Every (IsKept anew) opened → Every KeptPart (parts_of_command x)
      → Stays Always (judged_command every x old opened) (judged_command every x new (map (rebound anew) opened))

  abbrev GuardedStays : Guarded → Type 0
  GuardedStays x = (opened : List Binding) → Every (IsKept anew) opened → Every KeptPart (parts_in_guarded x)
      → Stays SameGuard (judged_guarded every x old opened) (judged_guarded every x new (map (rebound anew) opened))

  abbrev Staying : Type 0
  Staying = Action-F (With ActionStays) (With ArmStays) (With LabelledStays) (With CommandStays) (With GuardedStays)

  abbrev plain : Staying → Action-F Action Arm CaseArm Command Guarded
  plain y = map-Action (With ActionStays) (With ArmStays) (With LabelledStays) (With CommandStays) (With GuardedStays) Action Arm CaseArm Command Guarded
      (λ x. x.0) (λ x. x.0) (λ x. x.0) (λ x. x.0) (λ x. x.0) y

  commands_stay : (opened : List Binding) → Every (IsKept anew) opened → (ys : List (With CommandStays)) → Every KeptPart (parts_of_each (map parts_of_command (map (λ y. y.0) ys)))
      → Stays (Pairs Always) (each every (map (judged_command every) (map (λ y. y.0) ys)) old opened) (each every (map (judged_command every) (map (λ y. y.0) ys)) new (map (rebound anew) opened))
  commands_stay opened kept ys are = children_stay opened (judged_command every) parts_of_command Always CommandStays (λ x f. f opened kept) (Ok []) (Ok []) tt ys are

  arms_stay : (opened : List Binding) → Every (IsKept anew) opened → (ys : List (With ArmStays)) → Every KeptPart (parts_of_each (map parts_in_arm (map (λ y. y.0) ys)))
      → Stays (Pairs ArmAnew) (each every (map (judged_arm every) (map (λ y. y.0) ys)) old opened) (each every (map (judged_arm every) (map (λ y. y.0) ys)) new (map (rebound anew) opened))
  arms_stay opened kept ys are = children_stay opened (judged_arm every) parts_in_arm ArmAnew ArmStays (λ x f. f opened kept) (Ok []) (Ok []) tt ys are

  case_arms_stay : (opened : List Binding) → Every (IsKept anew) opened → (ys : List (With LabelledStays)) → Every KeptPart (parts_of_each (map parts_in_case_arm (map (λ y. y.0) ys)))
      → Stays (Pairs SameLabels) (each every (map (judged_labelled every) (map (λ y. y.0) ys)) old opened) (each every (map (judged_labelled every) (map (λ y. y.0) ys)) new (map (rebound anew) opened))
  case_arms_stay opened kept ys are = children_stay opened (judged_labelled every) parts_in_case_arm SameLabels LabelledStays (λ x f. f opened kept) (Ok []) (Ok []) tt ys are

  if_arms_stay : (opened : List Binding) → Every (IsKept anew) opened → (ys : List (With GuardedStays)) → Every KeptPart (parts_of_each (map parts_in_guarded (map (λ y. y.0) ys)))
      → Stays (Pairs SameGuard) (each every (map (judged_guarded every) (map (λ y. y.0) ys)) old opened) (each every (map (judged_guarded every) (map (λ y. y.0) ys)) new (map (rebound anew) opened))
  if_arms_stay opened kept ys are = children_stay opened (judged_guarded every) parts_in_guarded SameGuard GuardedStays (λ x f. f opened kept) (Ok []) (Ok []) tt ys are

  -- a form whose own demand is a test
  tested_stays : {A B C D E : Type 0} (R : A → B → Type 0) (Q : C → D → Type 0) (x : Findings every A) (x' : Findings every B) (y : Findings every C) (y' : Findings every D)
      (test : A × C → Bool) (test' : B × D → Bool) (make : A × C → E) (make' : B × D → E) (fault : A × C → Fault) (fault' : B × D → Fault)
      → ((p : A × C) (q : B × D) → Both R Q p q → test p ≡ true → test' q ≡ true) → Stays R x x' → Stays Q y y'
      → Stays Always (if_right (both every x y) (λ p. one_fault (if test p then Ok (make p) else Err (fault p))))
      (if_right (both every x' y') (λ q. one_fault (if test' q then Ok (make' q) else Err (fault' q))))
  tested_stays R Q x x' y y' test test' make make' fault fault' f r q =
      stays-if_right (Both R Q) Always _ _ (both every x y) (both every x' y')
      (λ p p' h. stays-if (test p) (test' p') (make p) (make' p') (fault p) (fault' p') (f p p' h)) (stays-both R Q x x' y y' r q)

  value_stays : (e : Expr) (opened : List Binding) → Every (IsKept anew) opened → KeptPart (valued e)
      → Stays AsWide (value every e old opened) (value every e new (map (rebound anew) opened))
  value_stays e opened kept are = expression_stays e opened kept are

  last_stays : (opened : List Binding) → Every (IsKept anew) opened → (body : With CommandStays) → Every KeptPart (parts_of_command body.0)
      → Stays Always (becomes (λ c. Some c) (judged_command every body.0 old opened)) (becomes (λ c. Some c) (judged_command every body.0 new (map (rebound anew) opened)))
  last_stays opened kept body are =
      stays-becomes Always Always _ _ (judged_command every body.0 old opened) _ (λ a b h. tt) (body.1 opened kept are)

  -- inside an arm on a channel
  enclosed_stays : {A : Type 0} (R : A → A → Type 0) (opened : List Binding) → Every (IsKept anew) opened → (channel channel' : Verdict A) (used : A → ChannelUse)
      → ((a b : A) → R a b → Anew (used a) (used b)) → Stays R channel channel'
      → (body : With CommandStays) → Every KeptPart (parts_of_command body.0)
      → Stays (Both R Always) (both every (one_fault channel) (judged_command every body.0 old (opened_by opened (becomes used channel))))
      (both every (one_fault channel') (judged_command every body.0 new (opened_by (map (rebound anew) opened) (becomes used channel'))))
  enclosed_stays R opened kept (Ok a) (Ok b) used f r body are =
      let o = opened_anew opened kept (used a) (used b) (f a b r) in
      stays-both R Always (Ok a) (Ok b) (judged_command every body.0 old (opened ++ (used a).channel ∷ []))
      (judged_command every body.0 new (map (rebound anew) opened ++ (used b).channel ∷ [])) r
      (subst (λ z. Stays Always (judged_command every body.0 old (opened ++ (used a).channel ∷ [])) (judged_command every body.0 new z)) o.0
      (body.1 (opened ++ (used a).channel ∷ []) o.1 are))
  enclosed_stays R opened kept (Ok a) (Err e) used f r body are = absurd r
  enclosed_stays R opened kept (Err e) y used f r body are =
      stays-inside R Always (one_fault (Err e)) (one_fault y) _ _ tt (λ a b is is' h. absurd cc)

  action_stays : (y : Staying) (opened : List Binding) → Every (IsKept anew) opened → Every KeptPart (open_parts (plain y))
      → Stays Always (open_action (plain y) old opened) (open_action (plain y) new (map (rebound anew) opened))
  unfolding assignment sending receiving guarded_loop enclosing called
  action_stays Action-F.Continue opened kept are = tt
  action_stays Action-F.Halt opened kept are = tt
  action_stays (Action-F.Sync ch) opened kept are =
      stays-alone Always _ _ (stays-becomes Anew Always _ _ (sync_use (find old.names opened ch.name) ch.span.start) _ (λ a b h. tt) (sync_anew ch opened kept are.0))
  action_stays (Action-F.Loop body) opened kept are = stays-becomes Always Always _ _ (judged_command every body.0 old opened) _ (λ a b h. tt) (body.1 opened kept are)
  action_stays (Action-F.While guard body) opened kept are =
      tested_stays AsWide Always (value every guard old opened) (value every guard new (map (rebound anew) opened)) (judged_command every body.0 old opened)
      (judged_command every body.0 new (map (rebound anew) opened)) (λ p. nat_eq p.0.width 1) (λ p. nat_eq p.0.width 1) _ _ _ _
      (λ p q h e. ap (λ w. nat_eq w 1) (sym h.0) ∙ e) (value_stays guard opened kept are.0) (body.1 opened kept are.1)
  action_stays (Action-F.If arms None) opened kept are =
      conditional_stays _ _ (Ok None) (Ok None) (if_arms_stay opened kept arms (every-front KeptPart _ [] are)) tt
  action_stays (Action-F.If arms (Some last)) opened kept are =
      conditional_stays _ _ _ _ (if_arms_stay opened kept arms (every-front KeptPart _ (parts_of_command last.0) are))
      (last_stays opened kept last (every-back KeptPart (parts_of_each (map parts_in_guarded (map (λ y. y.0) arms))) _ are))
  action_stays (Action-F.Case subject arms None) opened kept are =
      cased_stays (value every subject old opened) _ _ _ (Ok None) (Ok None) (value_stays subject opened kept are.0)
      (case_arms_stay opened kept arms (every-front KeptPart _ [] are.1)) tt
  action_stays (Action-F.Case subject arms (Some last)) opened kept are =
      cased_stays (value every subject old opened) _ _ _ _ _ (value_stays subject opened kept are.0)
      (case_arms_stay opened kept arms (every-front KeptPart _ (parts_of_command last.0) are.1))
      (last_stays opened kept last (every-back KeptPart (parts_of_each (map parts_in_case_arm (map (λ y. y.0) arms))) _ are.1))
  action_stays (Action-F.Select arms) opened kept are =
      stays-becomes Always Always _ _ _ _ (λ a b h. tt) (distinct_stays _ _ (arms_stay opened kept arms are))
  action_stays (Action-F.Arbitrate first second) opened kept are =
      stays-becomes Always Always _ _ _ _ (λ a b h. tt) (distinct_stays _ _ (arms_stay opened kept (first ∷ second ∷ []) are))
  action_stays (Action-F.Assign x e) opened kept are =
      tested_stays Width AsWide (one_fault (target x old opened)) (one_fault (target x new (map (rebound anew) opened))) (value every e old opened)
      (value every e new (map (rebound anew) opened)) (λ p. nat_le p.1.width p.0.1) (λ p. nat_le p.1.width p.0.1) _ _ _ _
      (λ p q h is. ap₂ (λ a b. nat_le a b) (sym h.1) (sym h.0) ∙ is) (stays-alone Width _ _ (target_anew x opened kept are.0)) (value_stays e opened kept are.1.0)
  action_stays (Action-F.Send ch e) opened kept are =
      tested_stays OfWidth AsWide (one_fault (sender ch old opened)) (one_fault (sender ch new (map (rebound anew) opened))) (value every e old opened)
      (value every e new (map (rebound anew) opened)) (λ p. nat_le p.1.width p.0.1) (λ p. nat_le p.1.width p.0.1) _ _ _ _
      (λ p q h is. ap₂ (λ a b. nat_le a b) (sym h.1) (sym h.0.1) ∙ is) (stays-alone OfWidth _ _ (sender_anew ch opened kept are.0)) (value_stays e opened kept are.1.0)
  action_stays (Action-F.Receive ch x) opened kept are =
      tested_stays OfWidth Width (one_fault (receiver ch old opened)) (one_fault (receiver ch new (map (rebound anew) opened))) (one_fault (target x old opened))
      (one_fault (target x new (map (rebound anew) opened))) (λ p. nat_le p.0.1 p.1.1) (λ p. nat_le p.0.1 p.1.1) _ _ _ _
      (λ p q h is. ap₂ (λ a b. nat_le a b) (sym h.0.1) (sym h.1) ∙ is) (stays-alone OfWidth _ _ (receiver_anew ch opened kept are.0))
      (stays-alone Width _ _ (target_anew x opened kept are.1.0))
  action_stays (Action-F.Input ch body) opened kept are =
      stays-becomes (Both OfWidth Always) Always _ _ _ _ (λ a b h. tt)
      (enclosed_stays OfWidth opened kept (receiver ch old opened) (receiver ch new (map (rebound anew) opened)) (λ p. p.0) (λ a b h. h.0)
      (receiver_anew ch opened kept are.0) body are.1)
  action_stays (Action-F.Call p arguments) opened kept are =
      tested_stays SamePorts (Pairs Anew) (one_fault (procedure_use (find old.names opened p.name) p.span.start))
      (one_fault (procedure_use (find new.names (map (rebound anew) opened) p.name) p.span.start)) (judged_arguments every old.names opened arguments)
      (judged_arguments every new.names (map (rebound anew) opened) arguments)
      (λ q. call_fits old.names (slice_get old.procedures q.0) arguments q.1) (λ q. call_fits new.names (slice_get new.procedures q.0) arguments q.1) _ _ _ _
      (λ q q' h e. ap (λ z. call_fits new.names z arguments q'.1) h.0 ∙ call_anew (slice_get old.procedures q.0) arguments q.1 q'.1 (argument_names arguments are.1) h.1 e)
      (stays-alone SamePorts _ _ (procedure_anew p opened kept are.0)) (arguments_stay opened kept arguments are.1)
  action_stays (Action-F.Sequence children) opened kept are = stays-becomes (Pairs Always) Always _ _ _ _ (λ a b h. tt) (commands_stay opened kept children are)
  action_stays (Action-F.Parallel children) opened kept are = stays-becomes (Pairs Always) Always _ _ _ _ (λ a b h. tt) (commands_stay opened kept children are)

  arm_stays : (a : Arm-F (With ActionStays) (With ArmStays) (With LabelledStays) (With CommandStays) (With GuardedStays)) (opened : List Binding) → Every (IsKept anew) opened
      → Every KeptPart (part_of a.channel ∷ parts_of_command a.body.0)
      → let channel = arm_use (find old.names opened a.channel.name) a.channel.span.start in
      let channel' = arm_use (find new.names (map (rebound anew) opened) a.channel.name) a.channel.span.start in
      Stays ArmAnew (arm_of every channel (judged_command every a.body.0 old (opened_by opened channel)))
      (arm_of every channel' (judged_command every a.body.0 new (opened_by (map (rebound anew) opened) channel')))
  unfolding arm_of
  arm_stays a opened kept are =
      let channel = arm_use (find old.names opened a.channel.name) a.channel.span.start in
      let channel' = arm_use (find new.names (map (rebound anew) opened) a.channel.name) a.channel.span.start in
      let own : (c : Verdict ChannelUse) → becomes (λ u. u) c ≡ c = elim [ Ok u ↦ refl | Err e ↦ refl ] in
      stays-becomes (Both Anew Always) ArmAnew opened_arm opened_arm
      (both every (one_fault channel) (judged_command every a.body.0 old (opened_by opened channel)))
      (both every (one_fault channel') (judged_command every a.body.0 new (opened_by (map (rebound anew) opened) channel')))
      (λ p q h. h.0)
      (subst (λ c. Stays (Both Anew Always) (both every (one_fault channel) (judged_command every a.body.0 old (opened_by opened c)))
      (both every (one_fault channel') (judged_command every a.body.0 new (opened_by (map (rebound anew) opened) channel')))) (own channel)
      (subst (λ c. Stays (Both Anew Always) (both every (one_fault channel) (judged_command every a.body.0 old (opened_by opened (becomes (λ u. u) channel))))
      (both every (one_fault channel') (judged_command every a.body.0 new (opened_by (map (rebound anew) opened) c)))) (own channel')
      (enclosed_stays Anew opened kept channel channel' (λ u. u) (λ a b h. h) (arm_anew a.channel opened kept are.0) a.body are.1)))

  guarded_stays : (guard : Expr) (body : With CommandStays) (opened : List Binding) → Every (IsKept anew) opened → Every KeptPart (valued guard ∷ parts_of_command body.0)
      → Stays SameGuard (guarded every (value every guard old opened) (start_of guard) (judged_command every body.0 old opened))
      (guarded every (value every guard new (map (rebound anew) opened)) (start_of guard) (judged_command every body.0 new (map (rebound anew) opened)))
  unfolding guarded
  guarded_stays guard body opened kept are =
      stays-becomes (Both AsWide Always) SameGuard _ _ (both every (value every guard old opened) (judged_command every body.0 old opened)) _
      (λ p q h. (h.0, refl))
      (stays-both AsWide Always (value every guard old opened) (value every guard new (map (rebound anew) opened)) (judged_command every body.0 old opened)
      (judged_command every body.0 new (map (rebound anew) opened)) (value_stays guard opened kept are.0) (body.1 opened kept are.1))

  labelled_stays : (labels : List Label) (body : With CommandStays) (opened : List Binding) → Every (IsKept anew) opened
      → Every KeptPart (flat_map parts_of_label labels ++ parts_of_command body.0)
      → Stays SameLabels (labelled every (judged_labels every old.names opened labels) (judged_command every body.0 old opened))
      (labelled every (judged_labels every new.names (map (rebound anew) opened) labels) (judged_command every body.0 new (map (rebound anew) opened)))
  unfolding labelled
  labelled_stays labels body opened kept are =
      stays-becomes (Both (Pairs (λ a b. a ≡ b)) Always) SameLabels _ _ (both every (judged_labels every old.names opened labels) (judged_command every body.0 old opened)) _
      (λ p q h. equal_pairs p.0 q.0 h.0)
      (stays-both (Pairs (λ a b. a ≡ b)) Always (judged_labels every old.names opened labels) (judged_labels every new.names (map (rebound anew) opened) labels)
      (judged_command every body.0 old opened) (judged_command every body.0 new (map (rebound anew) opened))
      (labels_stay opened kept labels (every-front KeptPart (flat_map parts_of_label labels) (parts_of_command body.0) are))
      (body.1 opened kept (every-back KeptPart (flat_map parts_of_label labels) (parts_of_command body.0) are)))

  moved : {A : Type 0} (R : A → A → Type 0) (x x' y y' : Findings every A) (ps ps' : List Part) → x ≡ x' → y ≡ y' → ps ≡ ps'
      → (Every KeptPart ps' → Stays R x' y') → Every KeptPart ps → Stays R x y
  moved R x x' y y' ps ps' a b c f are =
      subst (λ z. Stays R z y) (sym a) (subst (λ z. Stays R x' z) (sym b) (f (subst (Every KeptPart) c are)))

  pub command_stays : (x : Command) → CommandStays x
  command_stays =
      ind-Command ActionStays ArmStays LabelledStays CommandStays GuardedStays
      (λ x y is. subst (λ z. ActionStays (roll-Action z)) is (λ opened kept.
      moved Always _ _ _ _ _ _
      (ap (λ f. f old opened) (fold-roll-Action _ _ _ _ _ (action_layer every) (arm_layer every) (case_arm_layer every) (command_layer every) (guarded_layer every) _))
      (ap (λ f. f new (map (rebound anew) opened)) (fold-roll-Action _ _ _ _ _ (action_layer every) (arm_layer every) (case_arm_layer every) (command_layer every) (guarded_layer every) _))
      (fold-roll-Action _ _ _ _ _ parts_of_action parts_of_arm parts_of_case_arm parts_of_layer parts_of_guarded _)
      (action_stays y opened kept)))
      (λ x y is. subst (λ z. ArmStays (roll-Arm z)) is (λ opened kept.
      moved ArmAnew _ _ _ _ _ _
      (ap (λ f. f old opened) (fold-roll-Arm _ _ _ _ _ (action_layer every) (arm_layer every) (case_arm_layer every) (command_layer every) (guarded_layer every) _))
      (ap (λ f. f new (map (rebound anew) opened)) (fold-roll-Arm _ _ _ _ _ (action_layer every) (arm_layer every) (case_arm_layer every) (command_layer every) (guarded_layer every) _))
      (fold-roll-Arm _ _ _ _ _ parts_of_action parts_of_arm parts_of_case_arm parts_of_layer parts_of_guarded _)
      (arm_stays y opened kept)))
      (λ x y is. subst (λ z. LabelledStays (roll-CaseArm z)) is (λ opened kept.
      moved SameLabels _ _ _ _ _ _
      (ap (λ f. f old opened) (fold-roll-CaseArm _ _ _ _ _ (action_layer every) (arm_layer every) (case_arm_layer every) (command_layer every) (guarded_layer every) _))
      (ap (λ f. f new (map (rebound anew) opened)) (fold-roll-CaseArm _ _ _ _ _ (action_layer every) (arm_layer every) (case_arm_layer every) (command_layer every) (guarded_layer every) _))
      (fold-roll-CaseArm _ _ _ _ _ parts_of_action parts_of_arm parts_of_case_arm parts_of_layer parts_of_guarded _)
      (labelled_stays y.labels y.body opened kept)))
      (λ x y is. subst (λ z. CommandStays (roll-Command z)) is (λ opened kept.
      moved Always _ _ _ _ _ _
      (ap (λ f. f old opened) (fold-roll-Command _ _ _ _ _ (action_layer every) (arm_layer every) (case_arm_layer every) (command_layer every) (guarded_layer every) _))
      (ap (λ f. f new (map (rebound anew) opened)) (fold-roll-Command _ _ _ _ _ (action_layer every) (arm_layer every) (case_arm_layer every) (command_layer every) (guarded_layer every) _))
      (fold-roll-Command _ _ _ _ _ parts_of_action parts_of_arm parts_of_case_arm parts_of_layer parts_of_guarded _)
      (λ are. stays-becomes Always Always (command_of y.span.line) (command_of y.span.line) (judged_action every y.action.0 old opened) _ (λ a b h. tt) (y.action.1 opened kept are))))
      (λ x y is. subst (λ z. GuardedStays (roll-Guarded z)) is (λ opened kept.
      moved SameGuard _ _ _ _ _ _
      (ap (λ f. f old opened) (fold-roll-Guarded _ _ _ _ _ (action_layer every) (arm_layer every) (case_arm_layer every) (command_layer every) (guarded_layer every) _))
      (ap (λ f. f new (map (rebound anew) opened)) (fold-roll-Guarded _ _ _ _ _ (action_layer every) (arm_layer every) (case_arm_layer every) (command_layer every) (guarded_layer every) _))
      (fold-roll-Guarded _ _ _ _ _ parts_of_action parts_of_arm parts_of_case_arm parts_of_layer parts_of_guarded _)
      (guarded_stays y.guard y.body opened kept)))
