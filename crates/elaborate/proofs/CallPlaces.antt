-- A call adds no entry to a place: the places of a system are those of the source with the body of a procedure at its call.
use Rattle.std.proofs.Common.{◌≡◌, ℕ, zero, suc, ◌+◌, ◌-◌, ◌≤◌, List, [], ◌∷◌, ◌++◌, Option, Some, None, length, drop, map, option_map, get_or, refl, ap, sym, ◌∙◌, subst, arith, rules, slice_index_or}
use Rattle.elaborate.specs.Body as body
use Rattle.elaborate.specs.Body.{Call, Part, plain, both, all, if_any, first_of, nothing_to_do, part_of, action_part, arm_part, command_part, guarded_part, labelled_part}
use Rattle.elaborate.specs.Calls.{Expansion, Entered, called, missing, bodies_of_calls, names_in, expansion_of, expansions_onto, expansions}
use Rattle.elaborate.specs.Copies.{all_copied}
use Rattle.elaborate.specs.Elaboration.{root_entered}
use Rattle.elaborate.specs.Laws.{CallsAddNoPlace}
use Rattle.elaborate.specs.Naming.{Names, channels_of, channel_use, variable_use, expression_in}
use Rattle.elaborate.specs.Places.{Places, with_children, and_last, tree_places, arm_places, command_places, guarded_places, labelled_places, places_of}
use Rattle.elaborate.specs.SourcePlaces.{source_layer, arm_layer, command_layer, guarded_layer, labelled_layer, source_places, bodies_onto}
use Rattle.elaborate.proofs.Expanded.{one_behind, grown}
use Rattle.elaborate.proofs.PartFolds.{PartOnLine, part_of_action, part_of_arm, part_of_guarded, part_of_labelled, With, moved}
use Rattle.syntax.specs.Texts.{Text}
use Rattle.system.specs.Named.{prefix_of_call}
use Rattle.system.specs.declared.command.Action as tree
use Rattle.system.specs.declared.command.Action.TheViews as action
use Rattle.system.specs.declared.command.Arm as tree_arm
use Rattle.system.specs.declared.command.Command as tree_command
use Rattle.system.specs.declared.command.Guarded as tree_guarded
use Rattle.system.specs.declared.command.Labelled as tree_labelled
use Rattle.system.specs.declared.command.Action.TheFolds as trees
use Rattle.system.specs.declared.expression.Expression as named
use Rattle.system.specs.declared.expression.Use.{Use}
use Rattle.types.specs.declared.tree.Action.{Action}
use Rattle.types.specs.declared.tree.Arm.{Arm}
use Rattle.types.specs.declared.tree.Command.{Command}
use Rattle.types.specs.declared.tree.Guarded.{Guarded}
use Rattle.types.specs.declared.tree.Labelled.{Labelled}
use Rattle.types.specs.declared.tree.Local.{Local}
use Rattle.types.specs.declared.tree.Procedure.{Procedure}
use Rattle.types.specs.declared.tree.Action.TheOpen.{Action-F}
use Rattle.types.specs.declared.tree.Action.TheFolds.{map-Action, fold-Action, fold-Arm, fold-Guarded, fold-Labelled, fold-roll-Action, fold-roll-Arm, fold-roll-Command, fold-roll-Guarded, fold-roll-Labelled, ind-Command}
use Rattle.types.specs.declared.tree.Action.TheViews.{roll-Action, roll-Arm, roll-Command, roll-Guarded, roll-Labelled}

abbrev Bodies : Type 0
Bodies = List tree_command.Command

-- ---- each form of a command of a system

abbrev places_of_arm : tree_arm.Arm → Places
places_of_arm = trees.fold-Arm Places Places Places Places Places tree_places arm_places command_places guarded_places labelled_places

abbrev places_of_guarded : tree_guarded.Guarded → Places
places_of_guarded = trees.fold-Guarded Places Places Places Places Places tree_places arm_places command_places guarded_places labelled_places

abbrev places_of_labelled : tree_labelled.Labelled → Places
places_of_labelled = trees.fold-Labelled Places Places Places Places Places tree_places arm_places command_places guarded_places labelled_places

at_arm : (c : Use) (b : tree_command.Command) → let a : tree_arm.Arm = record { channel = c; body = b } in places_of_arm a ≡ places_of b
at_arm c b = search (rules, trees.the_lemmas)

at_guarded : (e : named.Expression) (b : tree_command.Command) → let a : tree_guarded.Guarded = record { guard = e; body = b } in places_of_guarded a ≡ places_of b
at_guarded e b = search (rules, trees.the_lemmas)

at_labelled : (ns : List ℕ) (b : tree_command.Command) → let a : tree_labelled.Labelled = record { labels = ns; body = b } in places_of_labelled a ≡ places_of b
at_labelled ns b = search (rules, trees.the_lemmas)

abbrev places_in_action : tree.Action → Places
places_in_action = trees.fold-Action Places Places Places Places Places tree_places arm_places command_places guarded_places labelled_places

at_command : (c : tree_command.Command) → places_of c ≡ places_in_action c.action
at_command c = search (rules, trees.the_lemmas)

at_continue : (line : ℕ) → places_of (body.command line tree.Continue) ≡ with_children []
at_continue line =
    let is : places_in_action tree.Continue ≡ with_children [] = search (rules, trees.the_lemmas) in
    at_command (body.command line tree.Continue) ∙ is

at_halt : (line : ℕ) → places_of (body.command line tree.Halt) ≡ with_children []
at_halt line =
    let is : places_in_action tree.Halt ≡ with_children [] = search (rules, trees.the_lemmas) in
    at_command (body.command line tree.Halt) ∙ is

at_assign : (line : ℕ) (x : Use) (w : ℕ) (e : named.Expression) → places_of (body.command line (tree.Assign x w e)) ≡ with_children []
at_assign line x w e =
    let is : places_in_action (tree.Assign x w e) ≡ with_children [] = search (rules, trees.the_lemmas) in
    at_command (body.command line (tree.Assign x w e)) ∙ is

at_send : (line : ℕ) (c : Use) (w : ℕ) (e : named.Expression) → places_of (body.command line (tree.Send c w e)) ≡ with_children []
at_send line c w e =
    let is : places_in_action (tree.Send c w e) ≡ with_children [] = search (rules, trees.the_lemmas) in
    at_command (body.command line (tree.Send c w e)) ∙ is

at_receive : (line : ℕ) (c x : Use) → places_of (body.command line (tree.Receive c x)) ≡ with_children []
at_receive line c x =
    let is : places_in_action (tree.Receive c x) ≡ with_children [] = search (rules, trees.the_lemmas) in
    at_command (body.command line (tree.Receive c x)) ∙ is

at_sync : (line : ℕ) (c : Use) → places_of (body.command line (tree.Sync c)) ≡ with_children []
at_sync line c =
    let is : places_in_action (tree.Sync c) ≡ with_children [] = search (rules, trees.the_lemmas) in
    at_command (body.command line (tree.Sync c)) ∙ is

at_loop : (line : ℕ) (b : tree_command.Command) → places_of (body.command line (action.Loop b)) ≡ with_children (places_of b ∷ [])
at_loop line b =
    let is : places_in_action (action.Loop b) ≡ with_children (places_of b ∷ []) = search (rules, trees.the_lemmas) in
    at_command (body.command line (action.Loop b)) ∙ is

at_while : (line : ℕ) (e : named.Expression) (b : tree_command.Command) → places_of (body.command line (action.While e b)) ≡ with_children (places_of b ∷ [])
at_while line e b =
    let is : places_in_action (action.While e b) ≡ with_children (places_of b ∷ []) = search (rules, trees.the_lemmas) in
    at_command (body.command line (action.While e b)) ∙ is

at_if : (line : ℕ) (arms : List tree_guarded.Guarded) (last : Option tree_command.Command)
    → places_of (body.command line (action.If arms last)) ≡ with_children (and_last (map places_of_guarded arms) (option_map places_of last))
at_if line arms last =
    let is : places_in_action (action.If arms last) ≡ with_children (and_last (map places_of_guarded arms) (option_map places_of last)) = search (rules, trees.the_lemmas) in
    at_command (body.command line (action.If arms last)) ∙ is

at_case : (line : ℕ) (e : named.Expression) (arms : List tree_labelled.Labelled) (last : Option tree_command.Command)
    → places_of (body.command line (action.Case e arms last)) ≡ with_children (and_last (map places_of_labelled arms) (option_map places_of last))
at_case line e arms last =
    let is : places_in_action (action.Case e arms last) ≡ with_children (and_last (map places_of_labelled arms) (option_map places_of last)) = search (rules, trees.the_lemmas) in
    at_command (body.command line (action.Case e arms last)) ∙ is

at_input : (line : ℕ) (c : Use) (b : tree_command.Command) → places_of (body.command line (action.Input c b)) ≡ with_children (places_of b ∷ [])
at_input line c b =
    let is : places_in_action (action.Input c b) ≡ with_children (places_of b ∷ []) = search (rules, trees.the_lemmas) in
    at_command (body.command line (action.Input c b)) ∙ is

at_select : (line : ℕ) (arms : List tree_arm.Arm) → places_of (body.command line (action.Select arms)) ≡ with_children (map places_of_arm arms)
at_select line arms =
    let is : places_in_action (action.Select arms) ≡ with_children (map places_of_arm arms) = search (rules, trees.the_lemmas) in
    at_command (body.command line (action.Select arms)) ∙ is

at_arbitrate : (line : ℕ) (arms : List tree_arm.Arm) → places_of (body.command line (action.Arbitrate arms)) ≡ with_children (map places_of_arm arms)
at_arbitrate line arms =
    let is : places_in_action (action.Arbitrate arms) ≡ with_children (map places_of_arm arms) = search (rules, trees.the_lemmas) in
    at_command (body.command line (action.Arbitrate arms)) ∙ is

at_sequence : (line : ℕ) (cs : Bodies) → places_of (body.command line (action.Sequence cs)) ≡ with_children (map places_of cs)
at_sequence line cs =
    let is : places_in_action (action.Sequence cs) ≡ with_children (map places_of cs) = search (rules, trees.the_lemmas) in
    at_command (body.command line (action.Sequence cs)) ∙ is

at_parallel : (line : ℕ) (cs : Bodies) → places_of (body.command line (action.Parallel cs)) ≡ with_children (map places_of cs)
at_parallel line cs =
    let is : places_in_action (action.Parallel cs) ≡ with_children (map places_of cs) = search (rules, trees.the_lemmas) in
    at_command (body.command line (action.Parallel cs)) ∙ is

-- ---- each part of a body

abbrev paired : {T U : Type 0} → T → U → T × U
paired t u = (t, u)

module _ (bodies : List Places) where
  -- these bodies have the places of the procedures called
  abbrev Matches : List Call → Bodies → Type 0
  Matches [] bs = Unit {0}
  Matches (c ∷ cs) [] = ⊥
  Matches (c ∷ cs) (b ∷ bs) = (places_of b ≡ slice_index_or bodies c.procedure (with_children [])) × Matches cs bs

  first_match : (cs ds : List Call) (bs : Bodies) → Matches (cs ++ ds) bs → Matches cs bs
  first_match [] ds bs h = tt
  first_match (c ∷ cs) ds [] h = h
  first_match (c ∷ cs) ds (b ∷ bs) h = (h.0, first_match cs ds bs h.1)

  next_match : (cs ds : List Call) (bs : Bodies) → Matches (cs ++ ds) bs → Matches ds (drop (length cs) bs)
  next_match [] ds bs h = h
  next_match (c ∷ cs) ds [] h = absurd h
  next_match (c ∷ cs) ds (b ∷ bs) h = next_match cs ds bs h.1

  -- what the part becomes has this
  record Gives {X T : Type 0} (μ : X → T) (t : T) (p : Part X) : Type 0 where
    holds : (names : Names) (bs : Bodies) → Matches p.calls bs → μ (p.becomes names bs) ≡ t

  around_gives : {X Y T U : Type 0} {μ : X → T} {t : T} {p : Part X} → Gives μ t p → (ν : Y → U) (g : T → U) (f : Names → X → Y)
      → ((names : Names) (x : X) → ν (f names x) ≡ g (μ x)) → Gives ν (g t) (body.around f p)
  around_gives {p = p} h ν g f e = record { holds = λ names bs matches. e names (p.becomes names bs) ∙ ap g (h.holds names bs matches) }

  both_gives : {X Y T U : Type 0} {μ : X → T} {ν : Y → U} {t : T} {u : U} {p : Part X} {q : Part Y} → Gives μ t p → Gives ν u q
      → Gives (λ (r : X × Y). paired (μ r.0) (ν r.1)) (paired t u) (both p q)
  both_gives {ν = ν} {t = t} {p = p} {q = q} h k = record {
    holds = λ names bs matches.
        ap (λ v. paired v (ν (q.becomes names (drop (length p.calls) bs)))) (h.holds names bs (first_match p.calls q.calls bs matches))
        ∙ ap (paired t) (k.holds names (drop (length p.calls) bs) (next_match p.calls q.calls bs matches));
  }

  listed_gives : {Z X T : Type 0} (μ : X → T) (t : Z → T) (p : Z → Part X) (ys : List (With (λ z. Gives μ (t z) (p z))))
      → Gives (map μ) (map t (map (λ e. e.0) ys)) (all (map p (map (λ e. e.0) ys)))
  listed_gives μ t p [] = record { holds = λ names bs matches. refl }
  listed_gives {X = X} {T = T} μ t p (y ∷ ys) =
      let whole : T × List T → List T = λ r. r.0 ∷ r.1 in
      around_gives (both_gives y.1 (listed_gives μ t p ys)) (map μ) whole (λ names r. r.0 ∷ r.1) (λ names r. refl)

  -- the parts of a command
  abbrev places_of_action : Action → Places
  places_of_action = fold-Action Places Places Places Places Places (source_layer bodies) arm_layer command_layer guarded_layer labelled_layer

  abbrev source_arm : Arm → Places
  source_arm = fold-Arm Places Places Places Places Places (source_layer bodies) arm_layer command_layer guarded_layer labelled_layer

  abbrev source_guarded : Guarded → Places
  source_guarded = fold-Guarded Places Places Places Places Places (source_layer bodies) arm_layer command_layer guarded_layer labelled_layer

  abbrev source_labelled : Labelled → Places
  source_labelled = fold-Labelled Places Places Places Places Places (source_layer bodies) arm_layer command_layer guarded_layer labelled_layer

  abbrev ActionGives : Action → Type 0
  ActionGives a = (line : ℕ) → Gives places_of (places_of_action a) (part_of_action a line)

  abbrev ArmGives : Arm → Type 0
  ArmGives a = Gives places_of_arm (source_arm a) (part_of_arm a)

  abbrev CommandGives : Command → Type 0
  CommandGives c = Gives places_of (source_places bodies c) (part_of c)

  abbrev GuardedGives : Guarded → Type 0
  GuardedGives a = Gives places_of_guarded (source_guarded a) (part_of_guarded a)

  abbrev LabelledGives : Labelled → Type 0
  LabelledGives a = Gives places_of_labelled (source_labelled a) (part_of_labelled a)

  last_gives : (last : Option (With CommandGives))
      → Gives (option_map places_of) (option_map (source_places bodies) (option_map (λ e. e.0) last)) (if_any (option_map part_of (option_map (λ e. e.0) last)))
  last_gives None = record { holds = λ names bs matches. refl }
  last_gives (Some c) = record { holds = λ names bs matches. ap (λ places. Some places) (c.1.holds names bs matches) }

  -- a command whose children are a part
  arms_give : {Z X : Type 0} (μ : X → Places) (t : Z → Places) (p : Z → Part X) (ys : List (With (λ z. Gives μ (t z) (p z)))) (last : Option (With CommandGives))
      (f : Names → List X × Option tree_command.Command → tree_command.Command)
      → ((names : Names) (r : List X × Option tree_command.Command) → places_of (f names r) ≡ with_children (and_last (map μ r.0) (option_map places_of r.1)))
      → Gives places_of (with_children (and_last (map t (map (λ e. e.0) ys)) (option_map (source_places bodies) (option_map (λ e. e.0) last))))
      (body.around f (both (all (map p (map (λ e. e.0) ys))) (if_any (option_map part_of (option_map (λ e. e.0) last)))))
  arms_give {X = X} μ t p ys last f e =
      let whole : List Places × Option Places → Places = λ r. with_children (and_last r.0 r.1) in
      around_gives (both_gives (listed_gives μ t p ys) (last_gives last)) places_of whole f e

  all_give : {Z X : Type 0} (μ : X → Places) (t : Z → Places) (p : Z → Part X) (ys : List (With (λ z. Gives μ (t z) (p z))))
      (f : Names → List X → tree_command.Command) → ((names : Names) (xs : List X) → places_of (f names xs) ≡ with_children (map μ xs))
      → Gives places_of (with_children (map t (map (λ e. e.0) ys))) (body.around f (all (map p (map (λ e. e.0) ys))))
  all_give μ t p ys f e = around_gives (listed_gives μ t p ys) places_of with_children f e

  body_gives : (c : With CommandGives) (f : Names → tree_command.Command → tree_command.Command)
      → ((names : Names) (b : tree_command.Command) → places_of (f names b) ≡ with_children (places_of b ∷ []))
      → Gives places_of (with_children (source_places bodies c.0 ∷ [])) (body.around f (part_of c.0))
  body_gives c f e = around_gives c.1 places_of (λ places. with_children (places ∷ [])) f e

  layer_gives : (y : Action-F (With ActionGives) (With ArmGives) (With CommandGives) (With GuardedGives) (With LabelledGives)) (line : ℕ) →
      Gives places_of
      (source_layer bodies (map-Action Action Arm Command Guarded Labelled Places Places Places Places Places
      places_of_action source_arm (source_places bodies) source_guarded source_labelled
      (map-Action (With ActionGives) (With ArmGives) (With CommandGives) (With GuardedGives) (With LabelledGives) Action Arm Command Guarded Labelled
      (λ e. e.0) (λ e. e.0) (λ e. e.0) (λ e. e.0) (λ e. e.0) y)))
      (action_part (map-Action Action Arm Command Guarded Labelled PartOnLine (Part tree_arm.Arm) (Part tree_command.Command) (Part tree_guarded.Guarded) (Part tree_labelled.Labelled)
      part_of_action part_of_arm part_of part_of_guarded part_of_labelled
      (map-Action (With ActionGives) (With ArmGives) (With CommandGives) (With GuardedGives) (With LabelledGives) Action Arm Command Guarded Labelled
      (λ e. e.0) (λ e. e.0) (λ e. e.0) (λ e. e.0) (λ e. e.0) y)) line)
  layer_gives Action-F.Continue line = record { holds = λ names bs matches. at_continue line }
  layer_gives Action-F.Halt line = record { holds = λ names bs matches. at_halt line }
  layer_gives (Action-F.Assign x w e) line = record { holds = λ names bs matches. at_assign line (variable_use names x) w (expression_in names e) }
  layer_gives (Action-F.Send c w e) line = record { holds = λ names bs matches. at_send line (channel_use names c) w (expression_in names e) }
  layer_gives (Action-F.Receive c x) line = record { holds = λ names bs matches. at_receive line (channel_use names c) (variable_use names x) }
  layer_gives (Action-F.Sync c) line = record { holds = λ names bs matches. at_sync line (channel_use names c) }
  layer_gives (Action-F.Loop b) line = body_gives b (λ names t. body.command line (action.Loop t)) (λ names t. at_loop line t)
  layer_gives (Action-F.While e b) line =
      body_gives b (λ names t. body.command line (action.While (expression_in names e) t)) (λ names t. at_while line (expression_in names e) t)
  layer_gives (Action-F.If arms None) line =
      arms_give places_of_guarded source_guarded part_of_guarded arms None (λ names r. body.command line (action.If r.0 r.1)) (λ names r. at_if line r.0 r.1)
  layer_gives (Action-F.If arms (Some last)) line =
      arms_give places_of_guarded source_guarded part_of_guarded arms (Some last) (λ names r. body.command line (action.If r.0 r.1)) (λ names r. at_if line r.0 r.1)
  layer_gives (Action-F.Case e arms None) line =
      arms_give places_of_labelled source_labelled part_of_labelled arms None (λ names r. body.command line (action.Case (expression_in names e) r.0 r.1))
      (λ names r. at_case line (expression_in names e) r.0 r.1)
  layer_gives (Action-F.Case e arms (Some last)) line =
      arms_give places_of_labelled source_labelled part_of_labelled arms (Some last) (λ names r. body.command line (action.Case (expression_in names e) r.0 r.1))
      (λ names r. at_case line (expression_in names e) r.0 r.1)
  layer_gives (Action-F.Input c b) line =
      body_gives b (λ names t. body.command line (action.Input (channel_use names c) t)) (λ names t. at_input line (channel_use names c) t)
  layer_gives (Action-F.Select arms) line =
      all_give places_of_arm source_arm part_of_arm arms (λ names these. body.command line (action.Select these)) (λ names these. at_select line these)
  layer_gives (Action-F.Arbitrate arms) line =
      all_give places_of_arm source_arm part_of_arm arms (λ names these. body.command line (action.Arbitrate these)) (λ names these. at_arbitrate line these)
  layer_gives (Action-F.Sequence children) line =
      all_give places_of (source_places bodies) part_of children (λ names these. body.command line (action.Sequence these)) (λ names these. at_sequence line these)
  layer_gives (Action-F.Parallel children) line =
      all_give places_of (source_places bodies) part_of children (λ names these. body.command line (action.Parallel these)) (λ names these. at_parallel line these)
  layer_gives (Action-F.Call p arguments) line = record { holds = λ names bs matches. one (record { procedure = p; arguments = arguments }) bs matches }
    where
      one : (c : Call) (bs : Bodies) → Matches (c ∷ []) bs → places_of (first_of bs) ≡ slice_index_or bodies c.procedure (with_children [])
      one c [] matches = absurd matches
      one c (b ∷ bs) matches = matches.0

  -- a command
  gives : (c : Command) → CommandGives c
  gives =
      ind-Command ActionGives ArmGives CommandGives GuardedGives LabelledGives
      (λ x y e. subst (λ z. ActionGives (roll-Action z)) e
      (moved (λ (t : Places) (p : PartOnLine). (line : ℕ) → Gives places_of t (p line))
      (fold-roll-Action Places Places Places Places Places (source_layer bodies) arm_layer command_layer guarded_layer labelled_layer _)
      (fold-roll-Action PartOnLine (Part tree_arm.Arm) (Part tree_command.Command) (Part tree_guarded.Guarded) (Part tree_labelled.Labelled) action_part arm_part command_part guarded_part labelled_part _)
      (layer_gives y)))
      (λ x y e. subst (λ z. ArmGives (roll-Arm z)) e
      (moved (λ (t : Places) (p : Part tree_arm.Arm). Gives places_of_arm t p)
      (fold-roll-Arm Places Places Places Places Places (source_layer bodies) arm_layer command_layer guarded_layer labelled_layer _)
      (fold-roll-Arm PartOnLine (Part tree_arm.Arm) (Part tree_command.Command) (Part tree_guarded.Guarded) (Part tree_labelled.Labelled) action_part arm_part command_part guarded_part labelled_part _)
      (around_gives y.body.1 places_of_arm (λ t. t)
      (λ names b. record { channel = channel_use names y.channel; body = b }) (λ names b. at_arm (channel_use names y.channel) b))))
      (λ x y e. subst (λ z. CommandGives (roll-Command z)) e
      (moved (λ (t : Places) (p : Part tree_command.Command). Gives places_of t p)
      (fold-roll-Command Places Places Places Places Places (source_layer bodies) arm_layer command_layer guarded_layer labelled_layer _)
      (fold-roll-Command PartOnLine (Part tree_arm.Arm) (Part tree_command.Command) (Part tree_guarded.Guarded) (Part tree_labelled.Labelled) action_part arm_part command_part guarded_part labelled_part _)
      (y.action.1 y.line)))
      (λ x y e. subst (λ z. GuardedGives (roll-Guarded z)) e
      (moved (λ (t : Places) (p : Part tree_guarded.Guarded). Gives places_of_guarded t p)
      (fold-roll-Guarded Places Places Places Places Places (source_layer bodies) arm_layer command_layer guarded_layer labelled_layer _)
      (fold-roll-Guarded PartOnLine (Part tree_arm.Arm) (Part tree_command.Command) (Part tree_guarded.Guarded) (Part tree_labelled.Labelled) action_part arm_part command_part guarded_part labelled_part _)
      (around_gives y.body.1 places_of_guarded (λ t. t)
      (λ names b. record { guard = expression_in names y.guard; body = b }) (λ names b. at_guarded (expression_in names y.guard) b))))
      (λ x y e. subst (λ z. LabelledGives (roll-Labelled z)) e
      (moved (λ (t : Places) (p : Part tree_labelled.Labelled). Gives places_of_labelled t p)
      (fold-roll-Labelled Places Places Places Places Places (source_layer bodies) arm_layer command_layer guarded_layer labelled_layer _)
      (fold-roll-Labelled PartOnLine (Part tree_arm.Arm) (Part tree_command.Command) (Part tree_guarded.Guarded) (Part tree_labelled.Labelled) action_part arm_part command_part guarded_part labelled_part _)
      (around_gives y.body.1 places_of_labelled (λ t. t)
      (λ names b. record { labels = y.labels; body = b }) (λ names b. at_labelled y.labels b))))

-- ---- procedures

-- whatever it is entered with
abbrev HasPlaces : Places → Expansion → Type 0
HasPlaces places e = (entered : Entered) → places_of (e.body entered) ≡ places

missing_places : HasPlaces (with_children []) missing
missing_places = λ entered. at_continue 0

module _ (bodies : List Places) (es : List Expansion) (are : (p : ℕ) → HasPlaces (get_or bodies p (with_children [])) (called es p)) where
  calls_match : (names : Names) (prefix : Text) (before : List Local) (passed : ℕ) (cs : List Call) → Matches bodies cs (bodies_of_calls es names prefix before passed cs)
  calls_match names prefix before passed [] = tt
  calls_match names prefix before passed (c ∷ cs) =
      let own = prefix_of_call prefix (passed + 1) in (
        are c.procedure (record { prefix = own; before = before; ports = channels_of names c.arguments }),
        calls_match names prefix (before ++ (called es c.procedure).copies own) (passed + 1) cs,
      )

  procedure_places : (p : Procedure) → HasPlaces (source_places bodies p.body) (expansion_of es p)
  procedure_places p entered =
      (gives bodies p.body).holds (names_in p entered)
      (bodies_of_calls es (names_in p entered) entered.prefix (entered.before ++ all_copied entered.prefix p.locals) 0 (part_of p.body).calls)
      (calls_match (names_in p entered) entered.prefix (entered.before ++ all_copied entered.prefix p.locals) 0 (part_of p.body).calls)

places_onto : (bodies : List Places) (es : List Expansion) → length bodies ≡ length es → ((p : ℕ) → HasPlaces (get_or bodies p (with_children [])) (called es p))
    → (ps : List Procedure) (p : ℕ) → HasPlaces (get_or (bodies_onto bodies ps) p (with_children [])) (called (expansions_onto es ps) p)
places_onto bodies es len are [] = are
places_onto bodies es len are (q ∷ ps) =
    places_onto (bodies ++ source_places bodies q.body ∷ []) (es ++ expansion_of es q ∷ []) (grown bodies es (source_places bodies q.body) (expansion_of es q) len)
    (one_behind HasPlaces (with_children []) missing bodies es (source_places bodies q.body) (expansion_of es q) len are (procedure_places bodies es are q)) ps

pub no_place : CallsAddNoPlace
no_place ps = places_onto [] [] refl (λ p. missing_places) ps (length ps - 1) (root_entered ps)
