-- Each use of a name in a right body is a use of what is declared under that name.
use Rattle.std.proofs.Common.{◌≡◌, inl, inr, ℕ, List, [], ◌∷◌, ◌++◌, map, option_map, true, false, Bool, ◌&&◌, ◌||◌, Option, Some, None, slice_get, is_ok, if◌then◌else◌, Ok, Err, IfOk, refl, ap, sym, subst, ◌∙◌, eqb-true, eq-eqb, append_assoc, append-nil, true≢false}
use Rattle.std.proofs.lemmas.Bool.{false≢true}
use Rattle.std.proofs.lemmas.Option.{slice_get-map}
use Rattle.std.specs.List.{list_all}
use Rattle.types.specs.Arms.{judged_label, judged_labels, new_channels}
use Rattle.types.specs.Calls.{is_fit, fits_port, all_fit, call_fits, judged_argument, judged_arguments}
use Rattle.types.specs.Commands.{Scope, target, sender, receiver}
use Rattle.types.specs.Expressions.{of_name}
use Rattle.types.specs.Findings.{Verdict, Findings, becomes, if_right, both, with_next, with_all, one_fault, every}
use Rattle.types.specs.Names.{look_up, find, found_as, found_for, channel_of, same_binding, is_among}
use Rattle.types.specs.Parts.{Name}
use Rattle.types.specs.SameTree as same
use Rattle.types.specs.SameTree.{Standing, OneByOne, PortAllows, LocalAllows, begins, reads, sends, receives, meets, deed_of, SameVariable, SameChannel, SameArguments, SameExpression, SameLabel, shaped}
use Rattle.types.specs.Uses.{meaning_of, target_use, target_by, sending_use, sending_by, receiving_use, receiving_by, sync_use, sync_by, arm_use, arm_by, procedure_use, procedure_by, label_use, label_by, argument_use, argument_by, value_use}
use Rattle.types.specs.declared.arms.LabelUse.{LabelUse}
use Rattle.types.specs.declared.scope.Channel.{Channel}
use Rattle.types.specs.declared.scope.Found.{Found}
use Rattle.types.specs.declared.scope.Found.TheVariants.{Opened, Means}
use Rattle.types.specs.declared.scope.Meaning.{Meaning}
use Rattle.types.specs.declared.scope.Meaning.TheVariants as meaning
use Rattle.types.specs.declared.tree.Binding.{Binding}
use Rattle.types.specs.declared.tree.Binding.TheVariants as binding
use Rattle.types.specs.declared.tree.ChannelUse.{ChannelUse}
use Rattle.types.specs.declared.tree.LocalKind.TheVariants as local
use Rattle.types.specs.declared.tree.Port.{Port}
use Rattle.types.specs.declared.tree.PortKind.{PortKind}
use Rattle.types.specs.declared.tree.PortKind.TheVariants as port
use Rattle.types.specs.declared.tree.Procedure.{Procedure}
use Rattle.types.specs.declared.tree.VariableUse.{VariableUse}
use Rattle.syntax.specs.Lists.{In}
use Rattle.syntax.specs.declared.command.Label.{Label}
use Rattle.syntax.specs.declared.command.LabelValue.{LabelValue}
use Rattle.syntax.specs.declared.command.LabelValue.TheVariants as label
use Rattle.syntax.specs.declared.expression.Shape.TheOpen.{Shape-F}
use Rattle.syntax.specs.declared.name.Identifier.{Identifier}
use Rattle.syntax.specs.declared.span.Span.{Span}
use Rattle.types.proofs.Fitting.{ok-becomes, ok-both, ok-alone}
use Rattle.types.proofs.Meanings.{AllMean, StandsFor}
use Rattle.types.proofs.SamePorts.{one-next}

-- ---- lists

-- each of a list goes with what comes of it
pub each_same : {X A : Type 0} (judge : X → Findings every A) (R : X → A → Type 0) → ((x : X) → IfOk (judge x) (R x)) → (l : Findings every (List A)) (xs : List X)
    → IfOk l (OneByOne R xs) → (ys : List X) → IfOk (with_all every l (map judge ys)) (OneByOne R (xs ++ ys))
each_same judge R f l xs h [] = subst (λ zs. IfOk l (OneByOne R zs)) (sym (append-nil xs)) h
each_same judge R f l xs h (y ∷ ys) =
    subst (λ zs. IfOk (with_all every (with_next every l (judge y)) (map judge ys)) (OneByOne R zs)) (append_assoc xs (y ∷ []) ys)
    (each_same judge R f (with_next every l (judge y)) (xs ++ y ∷ [])
    (ok-becomes _ (OneByOne R (xs ++ y ∷ [])) _ (both every l (judge y)) (λ q g. one-next R xs q.0 y q.1 g.0 g.1) (ok-both (OneByOne R xs) (R y) l (judge y) h (f y))) ys)

-- ---- bindings

own_binding : (b : Binding) → same_binding b b ≡ true
own_binding (binding.Port p) = eq-eqb p p refl
own_binding (binding.Local l) = eq-eqb l l refl

binding_same : (a b : Binding) → same_binding a b ≡ true → a ≡ b
binding_same (binding.Port p) (binding.Port q) e = ap (λ z. binding.Port z) (eqb-true p q e)
binding_same (binding.Port p) (binding.Local l) e = absurd (false≢true e)
binding_same (binding.Local l) (binding.Port p) e = absurd (false≢true e)
binding_same (binding.Local l) (binding.Local k) e = ap (λ z. binding.Local z) (eqb-true l k e)

pub among : (bs : List Binding) (b : Binding) → is_among bs b ≡ true → In b bs
among [] b e = absurd (false≢true e)
among (c ∷ bs) b e = by (same_binding b c) refl e (among bs b)
  where
    by : (t : Bool) → same_binding b c ≡ t → (t || is_among bs b) ≡ true → (is_among bs b ≡ true → In b bs) → In b (c ∷ bs)
    by true is e rest = inl (binding_same b c is)
    by false is e rest = inr (rest e)

pub not_among : (bs : List Binding) (b : Binding) → is_among bs b ≡ false → ¬ In b bs
not_among [] b e = λ never. absurd never
not_among (c ∷ bs) b e = by (same_binding b c) refl e (not_among bs b)
  where
    by : (t : Bool) → same_binding b c ≡ t → (t || is_among bs b) ≡ false → (is_among bs b ≡ false → ¬ In b bs) → ¬ In b (c ∷ bs)
    by true is e rest = absurd (true≢false e)
    by false is e rest = λ here. elim here [
      | inl same ↦ true≢false (sym (ap (same_binding b) (sym same) ∙ own_binding b) ∙ is)
      | inr there ↦ rest e there
    ]

abbrev pub kinds_of : List Port → List PortKind
kinds_of ports = map (λ (q : Port). q.kind) ports

-- ---- in a scope in which each name means what is declared under it

-- the channel that a name is, if it is any, is not open
abbrev Free : List Binding → Option Channel → Type 0
Free opened None = Unit {0}
Free opened (Some c) = ¬ In c.binding opened

module _ (at : Standing) (scope : Scope) (mean : AllMean (StandsFor at.types at.earlier at.ports at.locals) scope.names) where
  abbrev Stands : Name → Meaning → Type 0
  Stands = StandsFor at.types at.earlier at.ports at.locals

  -- what holds of a use by any meaning of the name holds of its use
  used : {A : Type 0} (P : A → Type 0) (opened : List Binding) (n : Name) (offset : ℕ) (by : Meaning → Verdict A)
      → ((m : Meaning) → look_up scope.names n ≡ Some m → Stands n m → Free opened (channel_of m) → IfOk (by m) P)
      → IfOk (if_right (meaning_of (find scope.names opened n) offset) by) P
  unfolding find
  used P opened n offset by f = go (look_up scope.names n) refl
    where
      meant : (m : Meaning) (c : Option Channel) → (Free opened c → IfOk (by m) P) → IfOk (if_right (meaning_of (found_as opened m c) offset) by) P
      meant m None g = g tt
      meant m (Some c) g = test (is_among opened c.binding) refl
        where
          test : (t : Bool) → is_among opened c.binding ≡ t → IfOk (if_right (meaning_of (if t then Opened c else Means m) offset) by) P
          test true is = tt
          test false is = g (not_among opened c.binding is)

      go : (o : Option Meaning) → look_up scope.names n ≡ o → IfOk (if_right (meaning_of (found_for opened (look_up scope.names n)) offset) by) P
      go None is = subst (λ o. IfOk (if_right (meaning_of (found_for opened o) offset) by) P) (sym is) tt
      go (Some m) is =
          subst (λ o. IfOk (if_right (meaning_of (found_for opened o) offset) by) P) (sym is)
          (meant m (channel_of m) (λ free. f m is (mean n m is) free))

  module _ (opened : List Binding) (x : Identifier) where
    abbrev start : ℕ
    start = x.span.start

    pub target_same : IfOk (one_fault (target x scope opened)) (λ (r : VariableUse × ℕ). SameVariable at x.name start r.0 r.1)
    unfolding target_use
    target_same =
        ok-alone (λ (r : VariableUse × ℕ). SameVariable at x.name start r.0 r.1) (target x scope opened)
        (used (λ (r : VariableUse × ℕ). SameVariable at x.name start r.0 r.1) opened x.name start (target_by start) (λ m is s free. by m s))
      where
        by : (m : Meaning) → Stands x.name m → IfOk (target_by start m) (λ (r : VariableUse × ℕ). SameVariable at x.name start r.0 r.1)
        by (meaning.Variable l w) (q, here, name, kind) = (q, here, name, kind, refl)
        by _ s = tt

    pub sender_same : IfOk (one_fault (sender x scope opened)) (λ (r : ChannelUse × ℕ). SameChannel at opened (sends r.1) x r.0)
    unfolding sending_use
    sender_same =
        ok-alone (λ (r : ChannelUse × ℕ). SameChannel at opened (sends r.1) x r.0) (sender x scope opened)
        (used (λ (r : ChannelUse × ℕ). SameChannel at opened (sends r.1) x r.0) opened x.name start (sending_by start) (λ m is. by m))
      where
        by : (m : Meaning) → Stands x.name m → Free opened (channel_of m) → IfOk (sending_by start m) (λ (r : ChannelUse × ℕ). SameChannel at opened (sends r.1) x r.0)
        by (meaning.Output p w) s free = (s, free, refl)
        by (meaning.Channel l w) s free = (s, free, refl)
        by _ s free = tt

    pub receiver_same : IfOk (one_fault (receiver x scope opened)) (λ (r : ChannelUse × ℕ). SameChannel at opened (receives r.1) x r.0)
    unfolding receiving_use
    receiver_same =
        ok-alone (λ (r : ChannelUse × ℕ). SameChannel at opened (receives r.1) x r.0) (receiver x scope opened)
        (used (λ (r : ChannelUse × ℕ). SameChannel at opened (receives r.1) x r.0) opened x.name start (receiving_by start) (λ m is. by m))
      where
        by : (m : Meaning) → Stands x.name m → Free opened (channel_of m) → IfOk (receiving_by start m) (λ (r : ChannelUse × ℕ). SameChannel at opened (receives r.1) x r.0)
        by (meaning.Input p w) s free = (s, free, refl)
        by (meaning.Channel l w) s free = (s, free, refl)
        by _ s free = tt

    pub sync_same : IfOk (sync_use (find scope.names opened x.name) start) (SameChannel at opened meets x)
    unfolding sync_use
    sync_same = used (SameChannel at opened meets x) opened x.name start (sync_by start) (λ m is. by m)
      where
        by : (m : Meaning) → Stands x.name m → Free opened (channel_of m) → IfOk (sync_by start m) (SameChannel at opened meets x)
        by (meaning.SyncPort p) s free = (s, free, refl)
        by (meaning.Sync l) s free = (s, free, refl)
        by _ s free = tt

    pub arm_same : IfOk (arm_use (find scope.names opened x.name) start) (SameChannel at opened begins x)
    unfolding arm_use
    arm_same = used (SameChannel at opened begins x) opened x.name start (arm_by start) (λ m is. by m)
      where
        by : (m : Meaning) → Stands x.name m → Free opened (channel_of m) → IfOk (arm_by start m) (SameChannel at opened begins x)
        by (meaning.Input p w) (q, here, name, kind) free = ((q, here, name, subst (PortAllows begins) (sym kind) tt), free, refl)
        by (meaning.SyncPort p) (q, here, name, kind) free = ((q, here, name, subst (PortAllows begins) (sym kind) tt), free, refl)
        by (meaning.Channel l w) (q, here, name, kind) free = ((q, here, name, subst (LocalAllows begins) (sym kind) tt), free, refl)
        by (meaning.Sync l) (q, here, name, kind) free = ((q, here, name, subst (LocalAllows begins) (sym kind) tt), free, refl)
        by _ s free = tt

    abbrev pub IsProcedure : ℕ → Type 0
    IsProcedure i = (q : Procedure) × (slice_get at.earlier i ≡ Some q) × (q.name ≡ x.name)

    pub procedure_same : IfOk (one_fault (procedure_use (find scope.names opened x.name) start)) IsProcedure
    unfolding procedure_use
    procedure_same =
        ok-alone IsProcedure (procedure_use (find scope.names opened x.name) start)
        (used IsProcedure opened x.name start (procedure_by start) (λ m is s free. by m s))
      where
        by : (m : Meaning) → Stands x.name m → IfOk (procedure_by start m) IsProcedure
        by (meaning.Procedure i) s = s
        by _ s = tt

    -- ---- an argument

    fitting : (k : PortKind) (m : Meaning) → Stands x.name m → Free opened (channel_of m) → is_fit k m ≡ true → IfOk (argument_by start m) (SameChannel at opened (deed_of k) x)
    fitting (port.Input v) (meaning.Input p w) (q, here, name, kind) free e = ((q, here, name, kind ∙ ap (λ z. port.Input z) (sym (eqb-true v w e))), free, refl)
    fitting (port.Input v) (meaning.Channel l w) (q, here, name, kind) free e = ((q, here, name, kind ∙ ap (λ z. local.Channel z) (sym (eqb-true v w e))), free, refl)
    fitting (port.Output v) (meaning.Output p w) (q, here, name, kind) free e = ((q, here, name, kind ∙ ap (λ z. port.Output z) (sym (eqb-true v w e))), free, refl)
    fitting (port.Output v) (meaning.Channel l w) (q, here, name, kind) free e = ((q, here, name, kind ∙ ap (λ z. local.Channel z) (sym (eqb-true v w e))), free, refl)
    fitting port.Sync (meaning.SyncPort p) s free e = (s, free, refl)
    fitting port.Sync (meaning.Sync l) s free e = (s, free, refl)
    fitting _ _ s free e = absurd (false≢true e)

    -- a channel that is right for each port that the name fits
    abbrev pub Argument : ChannelUse → Type 0
    Argument u = (k : PortKind) → fits_port k (look_up scope.names x.name) ≡ true → SameChannel at opened (deed_of k) x u

    argument_same : IfOk (argument_use (find scope.names opened x.name) start) Argument
    unfolding argument_use
    argument_same =
        used Argument opened x.name start (argument_by start) (λ m is s free.
        under (argument_by start m) (λ k fits. fitting k m s free (sym (ap (fits_port k) is) ∙ fits)))
      where
        under : (r : Verdict ChannelUse) → ((k : PortKind) → fits_port k (look_up scope.names x.name) ≡ true → IfOk r (SameChannel at opened (deed_of k) x)) → IfOk r Argument
        under (Ok u) f = f
        under (Err fault) f = tt

  -- ---- arguments

  two_true : (a b : Bool) → (a && b) ≡ true → (a ≡ true) × (b ≡ true)
  two_true true true e = (refl, refl)
  two_true true false e = absurd (false≢true e)
  two_true false b e = absurd (false≢true e)

  pub arguments_same : (opened : List Binding) (arguments : List Identifier)
      → IfOk (judged_arguments every scope.names opened arguments) (OneByOne (λ a. Argument opened a) arguments)
  arguments_same opened arguments =
      each_same (λ a. one_fault (judged_argument scope.names opened a)) (λ a. Argument opened a)
      (λ a. ok-alone (Argument opened a) (judged_argument scope.names opened a) (argument_same opened a)) (Ok []) [] tt arguments

  fit_arguments : (opened : List Binding) (ports : List Port) (arguments : List Identifier) (us : List ChannelUse)
      → OneByOne (λ a. Argument opened a) arguments us → all_fit scope.names (kinds_of ports) arguments ≡ true → SameArguments at opened ports arguments us
  fit_arguments opened [] [] [] h e = tt
  fit_arguments opened [] [] (u ∷ us) h e = absurd h
  fit_arguments opened [] (a ∷ arguments) us h e = absurd (false≢true e)
  fit_arguments opened (q ∷ ports) [] us h e = absurd (false≢true e)
  fit_arguments opened (q ∷ ports) (a ∷ arguments) [] h e = absurd h
  fit_arguments opened (q ∷ ports) (a ∷ arguments) (u ∷ us) h e =
      let fits = two_true (fits_port q.kind (look_up scope.names a.name)) (all_fit scope.names (kinds_of ports) arguments) e in
      (h.0 q.kind fits.0, fit_arguments opened ports arguments us h.1 fits.1)

  pub call_same : (opened : List Binding) → scope.procedures ≡ map (λ (q : Procedure). kinds_of q.ports) at.earlier → (i : ℕ) (q : Procedure)
      → slice_get at.earlier i ≡ Some q → (arguments : List Identifier) (us : List ChannelUse) → OneByOne (λ a. Argument opened a) arguments us
      → call_fits scope.names (slice_get scope.procedures i) arguments us ≡ true
      → SameArguments at opened q.ports arguments us × (list_all is_ok (new_channels [] us) ≡ true)
  call_same opened kinds i q here arguments us h e =
      let is : slice_get scope.procedures i ≡ Some (kinds_of q.ports) =
      ap (λ z. slice_get z i) kinds ∙ slice_get-map (λ (q : Procedure). kinds_of q.ports) at.earlier i ∙ ap (option_map (λ (q : Procedure). kinds_of q.ports)) here in
      let fits : call_fits scope.names (Some (kinds_of q.ports)) arguments us ≡ true = sym (ap (λ z. call_fits scope.names z arguments us) is) ∙ e in
      let both = two_true (all_fit scope.names (kinds_of q.ports) arguments) (list_all is_ok (new_channels [] us)) fits in
      (fit_arguments opened q.ports arguments us h both.0, both.1)

  -- ---- labels

  abbrev pub HasLabel : Label → LabelUse → Type 0
  HasLabel l u = SameLabel at l u.value.bits

  label_same : (opened : List Binding) (l : Label) → IfOk (one_fault (judged_label scope.names opened l)) (HasLabel l)
  unfolding label_use
  label_same opened l = ok-alone (HasLabel l) (judged_label scope.names opened l) (by l.value)
    where
      element : (n : Name) (m : Meaning) → Stands n m → IfOk (label_by l.span.start m) (λ v. same.IsElement at.types n v)
      element n (meaning.Element v) s = s
      element n _ s = tt

      by : (v : LabelValue) → IfOk (judged_label scope.names opened (record { span = l.span; value = v })) (λ u. same.HasValue at v u.value.bits)
      by (label.Number n) = refl
      by (label.Name n) =
          ok-becomes (λ v. same.IsElement at.types n v) (λ u. same.HasValue at (label.Name n) u.value.bits) _ (label_use (find scope.names opened n) l.span.start)
          (λ v is. (v, is, refl)) (used (λ v. same.IsElement at.types n v) opened n l.span.start (label_by l.span.start) (λ m is s free. element n m s))

  pub labels_same : (opened : List Binding) (labels : List Label) → IfOk (judged_labels every scope.names opened labels) (OneByOne HasLabel labels)
  labels_same opened labels = each_same (λ l. one_fault (judged_label scope.names opened l)) HasLabel (label_same opened) (Ok []) [] tt labels

  -- ---- a name with a value

  module _ (opened : List Binding) (span : Span) (start : ℕ) (n : Name) where
    abbrev ValueSame : Found → Type 0
    ValueSame f = IfOk (one_fault (becomes of_name (value_use f start))) (λ v. SameExpression at opened (shaped at span start (Shape-F.Name n)) v.expression)

    -- a channel is a value where it is open
    either : (c : Channel) (m : Meaning) → (In c.binding opened → ValueSame (Opened c)) → ValueSame (Means m) → ValueSame (found_as opened m (Some c))
    either c m f g = test (is_among opened c.binding) refl
      where
        test : (t : Bool) → is_among opened c.binding ≡ t → ValueSame (if t then Opened c else Means m)
        test true is = f (among opened c.binding is)
        test false is = g

    port_value : (p w : ℕ) (q : Port) → slice_get at.ports p ≡ Some q → q.name ≡ n → PortAllows (reads w) q.kind → In (binding.Port p) opened
        → ValueSame (Opened (record { binding = binding.Port p; width = Some w }))
    unfolding value_use
    port_value p w q here name allows at_it = same.received span start n (binding.Port p) w (q, here, name, allows) at_it

    meant : (m : Meaning) → Stands n m → ValueSame (found_as opened m (channel_of m))
    unfolding value_use
    meant (meaning.Element v) s = same.element span start n v s
    meant (meaning.Variable l w) (q, here, name, kind) = same.variable span start n (record { variable = l; offset = start }) w (q, here, name, kind, refl)
    meant (meaning.Input p w) (q, here, name, kind) =
        either (record { binding = binding.Port p; width = Some w }) (meaning.Input p w) (port_value p w q here name (subst (PortAllows (reads w)) (sym kind) refl)) tt
    meant (meaning.Output p w) (q, here, name, kind) =
        either (record { binding = binding.Port p; width = Some w }) (meaning.Output p w) (port_value p w q here name (subst (PortAllows (reads w)) (sym kind) refl)) tt
    meant (meaning.Channel l w) s =
        either (record { binding = binding.Local l; width = Some w }) (meaning.Channel l w) (same.received span start n (binding.Local l) w s) tt
    meant (meaning.SyncPort p) s = either (record { binding = binding.Port p; width = None }) (meaning.SyncPort p) (λ at_it. tt) tt
    meant (meaning.Sync l) s = either (record { binding = binding.Local l; width = None }) (meaning.Sync l) (λ at_it. tt) tt
    meant (meaning.TypeName w) s = tt
    meant (meaning.Procedure i) s = tt

    pub value_same : ValueSame (find scope.names opened n)
    unfolding find value_use
    value_same = go (look_up scope.names n) refl
      where
        go : (o : Option Meaning) → look_up scope.names n ≡ o → ValueSame (found_for opened (look_up scope.names n))
        go None is = subst (λ o. ValueSame (found_for opened o)) (sym is) tt
        go (Some m) is = subst (λ o. ValueSame (found_for opened o)) (sym is) (meant m (mean n m is))
