-- What is made of a part of a body: the bodies of its calls are made one after another, and the part stands around them.
use Rattle.std.proofs.Common.{◌≡◌, ℕ, suc, List, [], ◌∷◌, ◌++◌, Option, Some, None, length, drop, map, refl, ap, sym, ◌∙◌, subst, append_assoc, option_map}
use Rattle.std.proofs.lemmas.List.{append-nil, drop_at}
use Rattle.elaborate.specs.Body as body
use Rattle.elaborate.specs.Body.{Call, Part, plain, both, all, if_any, part_of, action_part, arm_part, command_part, guarded_part, labelled_part}
use Rattle.elaborate.specs.Naming.{Names, channel_use, expression_in}
use Rattle.elaborate.specs.declared.made.Made.{Made}
use Rattle.elaborate.specs.declared.instance.Instance.{Instance}
use Rattle.elaborate.specs.internal.Instances.{names_of, entrance_of}
use Rattle.elaborate.specs.internal.Makers.{WithMade, Maker, ProcedureMaker, all_onto, last_of, next_call, after_call, called, arms_and_last, action_maker, arm_maker, command_maker, guarded_maker, labelled_maker, maker_of}
use Rattle.elaborate.specs.internal.BodyParts.{maker_of_arm, maker_of_guarded, maker_of_labelled}
use Rattle.elaborate.proofs.PartFolds.{PartOnLine, part_of_action, part_of_arm, part_of_guarded, part_of_labelled, With, moved}
use Rattle.system.specs.declared.command.Action as tree
use Rattle.system.specs.declared.command.Action.TheViews as action
use Rattle.system.specs.declared.command.Arm as tree_arm
use Rattle.system.specs.declared.command.Command as tree_command
use Rattle.system.specs.declared.command.Guarded as tree_guarded
use Rattle.system.specs.declared.command.Labelled as tree_labelled
use Rattle.types.specs.declared.tree.Action.{Action}
use Rattle.types.specs.declared.tree.Arm.{Arm}
use Rattle.types.specs.declared.tree.Command.{Command}
use Rattle.types.specs.declared.tree.Guarded.{Guarded}
use Rattle.types.specs.declared.tree.Labelled.{Labelled}
use Rattle.types.specs.declared.tree.Action.TheOpen.{Action-F}
use Rattle.types.specs.declared.tree.Action.TheFolds.{map-Action, fold-Action, fold-roll-Action, fold-roll-Arm, fold-roll-Command, fold-roll-Guarded, fold-roll-Labelled, ind-Command}
use Rattle.types.specs.declared.tree.Action.TheViews.{roll-Action, roll-Arm, roll-Command, roll-Guarded, roll-Labelled}

abbrev pub Bodies : Type 0
Bodies = List tree_command.Command

-- what a call makes
abbrev pub one_made : List ProcedureMaker → Instance → Call → Made → WithMade tree_command.Command
one_made ps instance c made =
    after_call (next_call made) (called ps c.procedure (entrance_of instance c.arguments (next_call made)) made)

-- a body before those that are made then
abbrev pub in_front : tree_command.Command → WithMade Bodies → WithMade Bodies
in_front b r = (b ∷ r.0, r.1)

-- what calls make, one after another
abbrev pub all_made : List ProcedureMaker → Instance → List Call → Made → WithMade Bodies
all_made ps instance [] made = ([], made)
all_made ps instance (c ∷ cs) made = in_front (one_made ps instance c made).0 (all_made ps instance cs (one_made ps instance c made).1)

-- something with what is made, changed
abbrev through : {X Y : Type 0} → (X → Y) → WithMade X → WithMade Y
through f r = (f r.0, r.1)

-- bodies, and then others with what is made
abbrev behind : Bodies → WithMade Bodies → WithMade Bodies
behind bs r = (bs ++ r.0, r.1)

pub made_length : (ps : List ProcedureMaker) (instance : Instance) (cs : List Call) (made : Made) → length (all_made ps instance cs made).0 ≡ length cs
made_length ps instance [] made = refl
made_length ps instance (c ∷ cs) made = ap suc (made_length ps instance cs (one_made ps instance c made).1)

made_append : (ps : List ProcedureMaker) (instance : Instance) (cs ds : List Call) (made : Made)
    → all_made ps instance (cs ++ ds) made
    ≡ behind (all_made ps instance cs made).0 (all_made ps instance ds (all_made ps instance cs made).1)
made_append ps instance [] ds made = refl
made_append ps instance (c ∷ cs) ds made =
    ap (in_front (one_made ps instance c made).0) (made_append ps instance cs ds (one_made ps instance c made).1)

-- two parts of the bodies of both
joined : {Z : Type 0} (h : Bodies → Bodies → Z) (bs cs rest ws : Bodies) (k : ℕ) → length bs ≡ k → ws ≡ bs ++ cs
    → h (ws ++ rest) (drop k (ws ++ rest)) ≡ h (bs ++ (cs ++ rest)) (cs ++ rest)
joined h bs cs rest ws k len e = rw (e, append_assoc bs cs rest, drop_at bs (cs ++ rest) k len) refl

module _ (ps : List ProcedureMaker) where
  -- what a part becomes, over the bodies that its calls make
  abbrev outcome : {X : Type 0} → Part X → Instance → Made → Bodies → WithMade X
  outcome p instance made rest =
      (p.becomes (names_of instance) ((all_made ps instance p.calls made).0 ++ rest), (all_made ps instance p.calls made).1)

  pub record Factors {X : Type 0} (m : Maker X) (p : Part X) : Type 0 where
    pub holds : (instance : Instance) (made : Made) (rest : Bodies) → m instance made ≡ outcome p instance made rest

  plain_factors : {X : Type 0} (f : Names → X) → Factors (λ instance made. (f (names_of instance), made)) (plain f)
  plain_factors f = record { holds = λ instance made rest. refl }

  around_factors : {X Y : Type 0} {m : Maker X} {p : Part X} → Factors m p → (f : Names → X → Y)
      → Factors (λ instance made. through (f (names_of instance)) (m instance made)) (body.around f p)
  around_factors {m = m} {p = p} h f = record { holds = λ instance made rest. ap (through (f (names_of instance))) (h.holds instance made rest) }

  -- one behind the other
  abbrev then_next : {X Y : Type 0} → Maker Y → Instance → WithMade X → WithMade (X × Y)
  then_next n instance r = ((r.0, (n instance r.1).0), (n instance r.1).1)

  abbrev both_made : {X Y : Type 0} → Maker X → Maker Y → Maker (X × Y)
  both_made m n instance made = then_next n instance (m instance made)

  abbrev paired : {X Y : Type 0} → X → WithMade Y → WithMade (X × Y)
  paired x r = ((x, r.0), r.1)

  both_factors : {X Y : Type 0} (m : Maker X) (n : Maker Y) (p : Part X) (q : Part Y) → Factors m p → Factors n q
      → Factors (both_made m n) (both p q)
  both_factors {X = X} {Y = Y} m n p q hm hn = record {
    holds = λ instance made rest.
        let names = names_of instance in
        let first = all_made ps instance p.calls made in
        let second = all_made ps instance q.calls first.1 in
        let apart : Bodies → Bodies → WithMade (X × Y) = λ us vs. ((p.becomes names us, q.becomes names vs), second.1) in
        let last : WithMade Bodies → WithMade (X × Y) =
        λ w. ((p.becomes names (w.0 ++ rest), q.becomes names (drop (length p.calls) (w.0 ++ rest))), w.1) in
        ap (then_next n instance) (hm.holds instance made (second.0 ++ rest))
        ∙ (ap (paired (p.becomes names (first.0 ++ (second.0 ++ rest)))) (hn.holds instance first.1 rest)
        ∙ sym
        (ap last (made_append ps instance p.calls q.calls made)
        ∙ joined apart first.0 second.0 rest (first.0 ++ second.0) (length p.calls) (made_length ps instance p.calls made) refl));
  }

  -- in order
  abbrev in_order : {X : Type 0} → List (Maker X) → Maker (List X)
  in_order [] instance made = ([], made)
  in_order (m ∷ ms) instance made = through (λ r. r.0 ∷ r.1) (both_made m (in_order ms) instance made)

  abbrev put_behind : {X : Type 0} → List X → WithMade (List X) → WithMade (List X)
  put_behind done r = (done ++ r.0, r.1)

  onto_is : {X : Type 0} (done : List X) (ms : List (Maker X)) (instance : Instance) (made : Made)
      → all_onto done ms instance made ≡ put_behind done (in_order ms instance made)
  onto_is {X = X} done [] instance made = ap (λ (xs : List X). let r : WithMade (List X) = (xs, made) in r) (sym (append-nil done))
  onto_is {X = X} done (m ∷ ms) instance made =
      let first = m instance made in
      let rest = in_order ms instance first.1 in
      onto_is (done ++ first.0 ∷ []) ms instance first.1
      ∙ ap (λ (xs : List X). let r : WithMade (List X) = (xs, rest.1) in r) (append_assoc done (first.0 ∷ []) rest.0)

  listed_factors : {Z X : Type 0} (m : Z → Maker X) (p : Z → Part X) (ys : List (With (λ z. Factors (m z) (p z))))
      → Factors (in_order (map m (map (λ e. e.0) ys))) (all (map p (map (λ e. e.0) ys)))
  listed_factors m p [] = record { holds = λ instance made rest. refl }
  listed_factors m p (y ∷ ys) =
      around_factors
      (both_factors (m y.0) (in_order (map m (map (λ e. e.0) ys))) (p y.0) (all (map p (map (λ e. e.0) ys))) y.1 (listed_factors m p ys))
      (λ names r. r.0 ∷ r.1)

  all_factors : {Z X : Type 0} (m : Z → Maker X) (p : Z → Part X) (ys : List (With (λ z. Factors (m z) (p z))))
      → Factors (all_onto [] (map m (map (λ e. e.0) ys))) (all (map p (map (λ e. e.0) ys)))
  all_factors m p ys = record {
    holds = λ instance made rest. onto_is [] (map m (map (λ e. e.0) ys)) instance made ∙ (listed_factors m p ys).holds instance made rest;
  }

  -- the parts of a command
  abbrev maker_of_action : Action → ℕ → Maker tree_command.Command
  maker_of_action =
      fold-Action (ℕ → Maker tree_command.Command) (Maker tree_arm.Arm) (Maker tree_command.Command) (Maker tree_guarded.Guarded) (Maker tree_labelled.Labelled)
      (action_maker ps) arm_maker command_maker guarded_maker labelled_maker

  abbrev ActionFactors : Action → Type 0
  ActionFactors a = (line : ℕ) → Factors (maker_of_action a line) (part_of_action a line)

  abbrev ArmFactors : Arm → Type 0
  ArmFactors a = Factors (maker_of_arm ps a) (part_of_arm a)

  abbrev CommandFactors : Command → Type 0
  CommandFactors c = Factors (maker_of ps c) (part_of c)

  abbrev GuardedFactors : Guarded → Type 0
  GuardedFactors a = Factors (maker_of_guarded ps a) (part_of_guarded a)

  abbrev LabelledFactors : Labelled → Type 0
  LabelledFactors a = Factors (maker_of_labelled ps a) (part_of_labelled a)

  -- what stands behind an `else`
  last_factors : (last : Option (With CommandFactors))
      → Factors (last_of (option_map (maker_of ps) (option_map (λ e. e.0) last))) (if_any (option_map part_of (option_map (λ e. e.0) last)))
  last_factors None = record { holds = λ instance made rest. refl }
  last_factors (Some c) = around_factors c.1 (λ names x. Some x)

  arms_factor : {Z X : Type 0} (m : Z → Maker X) (p : Z → Part X) (ys : List (With (λ z. Factors (m z) (p z)))) (last : Option (With CommandFactors))
      → Factors (both_made (all_onto [] (map m (map (λ e. e.0) ys))) (last_of (option_map (maker_of ps) (option_map (λ e. e.0) last))))
      (both (all (map p (map (λ e. e.0) ys))) (if_any (option_map part_of (option_map (λ e. e.0) last))))
  arms_factor m p ys last =
      both_factors (all_onto [] (map m (map (λ e. e.0) ys))) (last_of (option_map (maker_of ps) (option_map (λ e. e.0) last)))
      (all (map p (map (λ e. e.0) ys))) (if_any (option_map part_of (option_map (λ e. e.0) last))) (all_factors m p ys) (last_factors last)

  layer_factors : (y : Action-F (With ActionFactors) (With ArmFactors) (With CommandFactors) (With GuardedFactors) (With LabelledFactors)) (line : ℕ) →
      Factors (action_maker ps (map-Action Action Arm Command Guarded Labelled (ℕ → Maker tree_command.Command) (Maker tree_arm.Arm) (Maker tree_command.Command) (Maker tree_guarded.Guarded) (Maker tree_labelled.Labelled)
      maker_of_action (maker_of_arm ps) (maker_of ps) (maker_of_guarded ps) (maker_of_labelled ps)
      (map-Action (With ActionFactors) (With ArmFactors) (With CommandFactors) (With GuardedFactors) (With LabelledFactors) Action Arm Command Guarded Labelled
      (λ e. e.0) (λ e. e.0) (λ e. e.0) (λ e. e.0) (λ e. e.0) y)) line)
      (action_part (map-Action Action Arm Command Guarded Labelled PartOnLine (Part tree_arm.Arm) (Part tree_command.Command) (Part tree_guarded.Guarded) (Part tree_labelled.Labelled)
      part_of_action part_of_arm part_of part_of_guarded part_of_labelled
      (map-Action (With ActionFactors) (With ArmFactors) (With CommandFactors) (With GuardedFactors) (With LabelledFactors) Action Arm Command Guarded Labelled
      (λ e. e.0) (λ e. e.0) (λ e. e.0) (λ e. e.0) (λ e. e.0) y)) line)
  layer_factors Action-F.Continue line = plain_factors (λ names. body.command line tree.Continue)
  layer_factors Action-F.Halt line = plain_factors (λ names. body.command line tree.Halt)
  layer_factors (Action-F.Assign x w e) line = record { holds = λ instance made rest. refl }
  layer_factors (Action-F.Send c w e) line = record { holds = λ instance made rest. refl }
  layer_factors (Action-F.Receive c x) line = record { holds = λ instance made rest. refl }
  layer_factors (Action-F.Sync c) line = record { holds = λ instance made rest. refl }
  layer_factors (Action-F.Loop b) line = around_factors b.1 (λ names t. body.command line (action.Loop t))
  layer_factors (Action-F.While e b) line =
      around_factors b.1 (λ names t. body.command line (action.While (expression_in names e) t))
  layer_factors (Action-F.If arms None) line =
      around_factors (arms_factor (maker_of_guarded ps) part_of_guarded arms None) (λ names r. body.command line (action.If r.0 r.1))
  layer_factors (Action-F.If arms (Some last)) line =
      around_factors (arms_factor (maker_of_guarded ps) part_of_guarded arms (Some last)) (λ names r. body.command line (action.If r.0 r.1))
  layer_factors (Action-F.Case e arms None) line =
      around_factors (arms_factor (maker_of_labelled ps) part_of_labelled arms None) (λ names r. body.command line (action.Case (expression_in names e) r.0 r.1))
  layer_factors (Action-F.Case e arms (Some last)) line =
      around_factors (arms_factor (maker_of_labelled ps) part_of_labelled arms (Some last)) (λ names r. body.command line (action.Case (expression_in names e) r.0 r.1))
  layer_factors (Action-F.Input c b) line =
      around_factors b.1 (λ names t. body.command line (action.Input (channel_use names c) t))
  layer_factors (Action-F.Select arms) line =
      around_factors (all_factors (maker_of_arm ps) part_of_arm arms) (λ names these. body.command line (action.Select these))
  layer_factors (Action-F.Arbitrate arms) line =
      around_factors (all_factors (maker_of_arm ps) part_of_arm arms) (λ names these. body.command line (action.Arbitrate these))
  layer_factors (Action-F.Sequence children) line =
      around_factors (all_factors (maker_of ps) part_of children) (λ names these. body.command line (action.Sequence these))
  layer_factors (Action-F.Parallel children) line =
      around_factors (all_factors (maker_of ps) part_of children) (λ names these. body.command line (action.Parallel these))
  layer_factors (Action-F.Call p arguments) line = record { holds = λ instance made rest. refl }

  -- a command
  pub factored : (c : Command) → CommandFactors c
  factored =
      ind-Command ActionFactors ArmFactors CommandFactors GuardedFactors LabelledFactors
      (λ x y e. subst (λ z. ActionFactors (roll-Action z)) e
      (moved (λ (m : ℕ → Maker tree_command.Command) (p : PartOnLine). (line : ℕ) → Factors (m line) (p line))
      (fold-roll-Action (ℕ → Maker tree_command.Command) (Maker tree_arm.Arm) (Maker tree_command.Command) (Maker tree_guarded.Guarded) (Maker tree_labelled.Labelled) (action_maker ps) arm_maker command_maker guarded_maker labelled_maker _)
      (fold-roll-Action PartOnLine (Part tree_arm.Arm) (Part tree_command.Command) (Part tree_guarded.Guarded) (Part tree_labelled.Labelled) action_part arm_part command_part guarded_part labelled_part _)
      (layer_factors y)))
      (λ x y e. subst (λ z. ArmFactors (roll-Arm z)) e
      (moved (λ (m : Maker tree_arm.Arm) (p : Part tree_arm.Arm). Factors m p)
      (fold-roll-Arm (ℕ → Maker tree_command.Command) (Maker tree_arm.Arm) (Maker tree_command.Command) (Maker tree_guarded.Guarded) (Maker tree_labelled.Labelled) (action_maker ps) arm_maker command_maker guarded_maker labelled_maker _)
      (fold-roll-Arm PartOnLine (Part tree_arm.Arm) (Part tree_command.Command) (Part tree_guarded.Guarded) (Part tree_labelled.Labelled) action_part arm_part command_part guarded_part labelled_part _)
      (around_factors {Y = tree_arm.Arm} y.body.1 (λ names b. record { channel = channel_use names y.channel; body = b }))))
      (λ x y e. subst (λ z. CommandFactors (roll-Command z)) e
      (moved (λ (m : Maker tree_command.Command) (p : Part tree_command.Command). Factors m p)
      (fold-roll-Command (ℕ → Maker tree_command.Command) (Maker tree_arm.Arm) (Maker tree_command.Command) (Maker tree_guarded.Guarded) (Maker tree_labelled.Labelled) (action_maker ps) arm_maker command_maker guarded_maker labelled_maker _)
      (fold-roll-Command PartOnLine (Part tree_arm.Arm) (Part tree_command.Command) (Part tree_guarded.Guarded) (Part tree_labelled.Labelled) action_part arm_part command_part guarded_part labelled_part _)
      (y.action.1 y.line)))
      (λ x y e. subst (λ z. GuardedFactors (roll-Guarded z)) e
      (moved (λ (m : Maker tree_guarded.Guarded) (p : Part tree_guarded.Guarded). Factors m p)
      (fold-roll-Guarded (ℕ → Maker tree_command.Command) (Maker tree_arm.Arm) (Maker tree_command.Command) (Maker tree_guarded.Guarded) (Maker tree_labelled.Labelled) (action_maker ps) arm_maker command_maker guarded_maker labelled_maker _)
      (fold-roll-Guarded PartOnLine (Part tree_arm.Arm) (Part tree_command.Command) (Part tree_guarded.Guarded) (Part tree_labelled.Labelled) action_part arm_part command_part guarded_part labelled_part _)
      (around_factors {Y = tree_guarded.Guarded} y.body.1 (λ names b. record { guard = expression_in names y.guard; body = b }))))
      (λ x y e. subst (λ z. LabelledFactors (roll-Labelled z)) e
      (moved (λ (m : Maker tree_labelled.Labelled) (p : Part tree_labelled.Labelled). Factors m p)
      (fold-roll-Labelled (ℕ → Maker tree_command.Command) (Maker tree_arm.Arm) (Maker tree_command.Command) (Maker tree_guarded.Guarded) (Maker tree_labelled.Labelled) (action_maker ps) arm_maker command_maker guarded_maker labelled_maker _)
      (fold-roll-Labelled PartOnLine (Part tree_arm.Arm) (Part tree_command.Command) (Part tree_guarded.Guarded) (Part tree_labelled.Labelled) action_part arm_part command_part guarded_part labelled_part _)
      (around_factors {Y = tree_labelled.Labelled} y.body.1 (λ names b. record { labels = y.labels; body = b }))))
