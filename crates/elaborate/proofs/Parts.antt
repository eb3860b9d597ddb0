-- What is made of a command's parts, and of the command with them.
use Rattle.std.proofs.Common.{◌≡◌, ℕ, ◌+◌, ◌<◌, ◌≤◌, List, [], ◌∷◌, ◌++◌, length, get_or, drop, map, Option, Result, Ok, Err, IfOk, OnOk, ap, sym, ◌∙◌, rules}
use Rattle.std.specs.Option.{option_map}
use Rattle.std.proofs.lemmas.List.{at_drop_all, at_drop_more}
use Rattle.elaborate.specs.internal.Instances.{channel_use, variable_use, expression_in}
use Rattle.elaborate.specs.internal.Makers.{WithMade, Maker, ProcedureMaker, command, around, all_onto, last_of, arms_and_last, maker_of}
use Rattle.elaborate.specs.internal.BodyParts.{maker_of_guarded, maker_of_labelled, maker_of_arm}
use Rattle.elaborate.specs.declared.made.Made.{Made}
use Rattle.elaborate.specs.declared.instance.Instance.{Instance}
use Rattle.system.specs.declared.command.Action as tree
use Rattle.system.specs.declared.command.Action.TheViews as action
use Rattle.system.specs.declared.command.Arm as tree_arm
use Rattle.system.specs.declared.command.Command as tree_command
use Rattle.system.specs.declared.command.Guarded as tree_guarded
use Rattle.system.specs.declared.command.Labelled as tree_labelled
use Rattle.system.specs.declared.expression.Expression as tree_expression
use Rattle.system.specs.declared.expression.Use.{Use}
use Rattle.types.specs.declared.tree.Action.TheVariants as typed
use Rattle.types.specs.declared.tree.Arm.{Arm}
use Rattle.types.specs.declared.tree.ChannelUse.{ChannelUse}
use Rattle.types.specs.declared.tree.Command.{Command}
use Rattle.types.specs.declared.tree.Expression.{Expression}
use Rattle.types.specs.declared.tree.Guarded.{Guarded}
use Rattle.types.specs.declared.tree.Labelled.{Labelled}
use Rattle.types.specs.declared.tree.VariableUse.{VariableUse}
use Rattle.types.specs.declared.tree.Action.TheFolds.{the_lemmas}
use Rattle.value.specs.declared.width.Width.{Width}

-- ---- lists

module _ {A X : Type 0} (maker : A → Maker X) (parts : List A) (i : ℕ) (instance : Instance) where
  -- the part at this place is made, and stands behind those before it
  pub part_more : (part : A) (done more : List X) (x : X) (made made' : Made)
      → i < length parts → part ≡ get_or parts i part
      → x ≡ (maker part instance made).0 → made' ≡ (maker part instance made).1 → more ≡ done ++ x ∷ []
      → all_onto more (map maker (drop (i + 1) parts)) instance made' ≡ all_onto done (map maker (drop i parts)) instance made
  part_more part done more x made made' within here tree left behind =
      let rest : List (Maker X) = map maker (drop (i + 1) parts) in
      ap (λ (d : List X). all_onto d rest instance made') behind
      ∙ ap (λ (y : X). all_onto (done ++ y ∷ []) rest instance made') tree
      ∙ ap (λ (m : Made). all_onto (done ++ (maker part instance made).0 ∷ []) rest instance m) left
      ∙ ap (λ (p : A). all_onto done (map maker (p ∷ drop (i + 1) parts)) instance made) here
      ∙ sym (at_drop_more (λ (ps : List A). all_onto done (map maker ps) instance made) parts i part within)

  -- all parts are made
  pub parts_made : (done : List X) (made : Made) (all : WithMade (List X))
      → length parts ≤ i → all_onto done (map maker (drop i parts)) instance made ≡ all
      → ◌≡◌ {A = WithMade (List X)} (done, made) all
  parts_made done made all past is =
      sym (at_drop_all (λ (ps : List A). all_onto done (map maker ps) instance made) parts i past) ∙ is

-- ---- arms

module _ (ps : List ProcedureMaker) (instance : Instance) (made : Made) where
  pub guarded_makes : (a : Guarded)
      → ◌≡◌ {A = WithMade tree_guarded.Guarded} (maker_of_guarded ps a instance made)
      (record { guard = expression_in instance a.guard; body = (maker_of ps a.body instance made).0 }, (maker_of ps a.body instance made).1)
  guarded_makes a = search (rules, the_lemmas)

  pub labelled_makes : (a : Labelled)
      → ◌≡◌ {A = WithMade tree_labelled.Labelled} (maker_of_labelled ps a instance made)
      (record { labels = a.labels; body = (maker_of ps a.body instance made).0 }, (maker_of ps a.body instance made).1)
  labelled_makes a = search (rules, the_lemmas)

  pub arm_makes : (a : Arm)
      → ◌≡◌ {A = WithMade tree_arm.Arm} (maker_of_arm ps a instance made)
      (record { channel = channel_use instance a.channel; body = (maker_of ps a.body instance made).0 }, (maker_of ps a.body instance made).1)
  arm_makes a = search (rules, the_lemmas)

  -- an arm of its parts
  pub guarded_of_parts : (a : Guarded) (guard : tree_expression.Expression) (body : tree_command.Command)
      → guard ≡ expression_in instance a.guard → body ≡ (maker_of ps a.body instance made).0
      → ◌≡◌ {A = tree_guarded.Guarded} (record { guard = guard; body = body }) (maker_of_guarded ps a instance made).0
  guarded_of_parts a guard body g b =
      let whole : tree_expression.Expression → tree_command.Command → tree_guarded.Guarded = λ e c. record { guard = e; body = c } in
      ap (λ e. whole e body) g ∙ ap (whole (expression_in instance a.guard)) b
      ∙ sym (ap (λ (r : WithMade tree_guarded.Guarded). r.0) (guarded_makes a))

  pub labelled_of_parts : (a : Labelled) (labels : List ℕ) (body : tree_command.Command)
      → labels ≡ a.labels → body ≡ (maker_of ps a.body instance made).0
      → ◌≡◌ {A = tree_labelled.Labelled} (record { labels = labels; body = body }) (maker_of_labelled ps a instance made).0
  labelled_of_parts a labels body l b =
      let whole : List ℕ → tree_command.Command → tree_labelled.Labelled = λ ls c. record { labels = ls; body = c } in
      ap (λ ls. whole ls body) l ∙ ap (whole a.labels) b
      ∙ sym (ap (λ (r : WithMade tree_labelled.Labelled). r.0) (labelled_makes a))

  pub arm_of_parts : (a : Arm) (channel : Use) (body : tree_command.Command)
      → channel ≡ channel_use instance a.channel → body ≡ (maker_of ps a.body instance made).0
      → ◌≡◌ {A = tree_arm.Arm} (record { channel = channel; body = body }) (maker_of_arm ps a instance made).0
  arm_of_parts a channel body u b =
      let whole : Use → tree_command.Command → tree_arm.Arm = λ x c. record { channel = x; body = c } in
      ap (λ x. whole x body) u ∙ ap (whole (channel_use instance a.channel)) b
      ∙ sym (ap (λ (r : WithMade tree_arm.Arm). r.0) (arm_makes a))

  -- what is made then
  pub guarded_left : (a : Guarded) (made' : Made) → made' ≡ (maker_of ps a.body instance made).1 → made' ≡ (maker_of_guarded ps a instance made).1
  guarded_left a made' is = is ∙ sym (ap (λ (r : WithMade tree_guarded.Guarded). r.1) (guarded_makes a))

  pub labelled_left : (a : Labelled) (made' : Made) → made' ≡ (maker_of ps a.body instance made).1 → made' ≡ (maker_of_labelled ps a instance made).1
  labelled_left a made' is = is ∙ sym (ap (λ (r : WithMade tree_labelled.Labelled). r.1) (labelled_makes a))

  pub arm_left : (a : Arm) (made' : Made) → made' ≡ (maker_of ps a.body instance made).1 → made' ≡ (maker_of_arm ps a instance made).1
  arm_left a made' is = is ∙ sym (ap (λ (r : WithMade tree_arm.Arm). r.1) (arm_makes a))

-- ---- commands

module _ (ps : List ProcedureMaker) (c : Command) (instance : Instance) (made : Made) where
  pub continue_makes : c.action ≡ typed.Continue
      → ◌≡◌ {A = WithMade tree_command.Command} (command c.line tree.Continue, made) (maker_of ps c instance made)
  continue_makes is = search (rules, the_lemmas)

  pub halt_makes : c.action ≡ typed.Halt
      → ◌≡◌ {A = WithMade tree_command.Command} (command c.line tree.Halt, made) (maker_of ps c instance made)
  halt_makes is = search (rules, the_lemmas)

  pub assign_makes : (x : VariableUse) (w : Width) (e : Expression) → c.action ≡ typed.Assign x w e
      → ◌≡◌ {A = WithMade tree_command.Command} (command c.line (tree.Assign (variable_use instance x) w (expression_in instance e)), made) (maker_of ps c instance made)
  assign_makes x w e is = search (rules, the_lemmas)

  pub send_makes : (u : ChannelUse) (w : Width) (e : Expression) → c.action ≡ typed.Send u w e
      → ◌≡◌ {A = WithMade tree_command.Command} (command c.line (tree.Send (channel_use instance u) w (expression_in instance e)), made) (maker_of ps c instance made)
  send_makes u w e is = search (rules, the_lemmas)

  pub receive_makes : (u : ChannelUse) (x : VariableUse) → c.action ≡ typed.Receive u x
      → ◌≡◌ {A = WithMade tree_command.Command} (command c.line (tree.Receive (channel_use instance u) (variable_use instance x)), made) (maker_of ps c instance made)
  receive_makes u x is = search (rules, the_lemmas)

  pub sync_makes : (u : ChannelUse) → c.action ≡ typed.Sync u
      → ◌≡◌ {A = WithMade tree_command.Command} (command c.line (tree.Sync (channel_use instance u)), made) (maker_of ps c instance made)
  sync_makes u is = search (rules, the_lemmas)

  pub loop_makes : (body : Command) → c.action ≡ typed.Loop body
      → around c.line action.Loop (maker_of ps body instance made) ≡ maker_of ps c instance made
  loop_makes body is = search (rules, the_lemmas)

  pub while_makes : (e : Expression) (body : Command) → c.action ≡ typed.While e body
      → around c.line (action.While (expression_in instance e)) (maker_of ps body instance made) ≡ maker_of ps c instance made
  while_makes e body is = search (rules, the_lemmas)

  pub input_makes : (u : ChannelUse) (body : Command) → c.action ≡ typed.Input u body
      → around c.line (action.Input (channel_use instance u)) (maker_of ps body instance made) ≡ maker_of ps c instance made
  input_makes u body is = search (rules, the_lemmas)

  pub select_makes : (arms : List Arm) → c.action ≡ typed.Select arms
      → around c.line action.Select (all_onto [] (map (maker_of_arm ps) arms) instance made) ≡ maker_of ps c instance made
  select_makes arms is = search (rules, the_lemmas)

  pub arbitrate_makes : (arms : List Arm) → c.action ≡ typed.Arbitrate arms
      → around c.line action.Arbitrate (all_onto [] (map (maker_of_arm ps) arms) instance made) ≡ maker_of ps c instance made
  arbitrate_makes arms is = search (rules, the_lemmas)

  pub sequence_makes : (children : List Command) → c.action ≡ typed.Sequence children
      → around c.line action.Sequence (all_onto [] (map (maker_of ps) children) instance made) ≡ maker_of ps c instance made
  sequence_makes children is = search (rules, the_lemmas)

  pub parallel_makes : (children : List Command) → c.action ≡ typed.Parallel children
      → around c.line action.Parallel (all_onto [] (map (maker_of ps) children) instance made) ≡ maker_of ps c instance made
  parallel_makes children is = search (rules, the_lemmas)

  pub if_makes : (arms : List Guarded) (last : Option Command) → c.action ≡ typed.If arms last
      → around c.line (λ r. action.If r.0 r.1) (arms_and_last (map (maker_of_guarded ps) arms) (option_map (maker_of ps) last) instance made) ≡ maker_of ps c instance made
  if_makes arms last is = search (rules, the_lemmas)

  pub case_makes : (e : Expression) (arms : List Labelled) (last : Option Command) → c.action ≡ typed.Case e arms last
      → around c.line (λ r. action.Case (expression_in instance e) r.0 r.1) (arms_and_last (map (maker_of_labelled ps) arms) (option_map (maker_of ps) last) instance made)
      ≡ maker_of ps c instance made
  case_makes e arms last is = search (rules, the_lemmas)

-- something and what is made then, known one by one
pub both_are : {X : Type 0} (x : X) (made : Made) (r : WithMade X) → x ≡ r.0 → made ≡ r.1 → ◌≡◌ {A = WithMade X} (x, made) r
both_are {X} x made r e m =
    let pair : X → Made → WithMade X = λ y n. (y, n) in
    ap (λ (y : X). pair y made) e ∙ ap (pair r.0) m

-- arms and a last one
pub with_last : {X : Type 0} (arms : List (Maker X)) (last : Option (Maker tree_command.Command)) (instance : Instance) (made between after : Made)
    (all : List X) (end : Option tree_command.Command)
    → all ≡ (all_onto [] arms instance made).0 → between ≡ (all_onto [] arms instance made).1
    → end ≡ (last_of last instance between).0 → after ≡ (last_of last instance between).1
    → ◌≡◌ {A = WithMade (List X × Option tree_command.Command)} ((all, end), after) (arms_and_last arms last instance made)
with_last {X} arms last instance made between after all end all_is between_is end_is after_is =
    let pair : List X → WithMade (Option tree_command.Command) → WithMade (List X × Option tree_command.Command) = λ xs e. ((xs, e.0), e.1) in
    ap (pair all) (both_are end after (last_of last instance between) end_is after_is)
    ∙ ap (λ (m : Made). pair all (last_of last instance m)) between_is
    ∙ ap (λ (xs : List X). pair xs (last_of last instance (all_onto [] arms instance made).1)) all_is

-- a command around what was made
pub made_around : {X : Type 0} (line : ℕ) (f : X → tree.Action) (x : X) (made : Made) (r : WithMade X) (whole : WithMade tree_command.Command)
    → ◌≡◌ {A = WithMade X} (x, made) r → around line f r ≡ whole
    → ◌≡◌ {A = WithMade tree_command.Command} (command line (f x), made) whole
made_around line f x made r whole part_is is = ap (around line f) part_is ∙ is

-- what is answered, if anything
pub answers_tree : {E : Type 0} (answer : Result tree_command.Command E) (tree : tree_command.Command) (made : Made) (whole : WithMade tree_command.Command)
    → ◌≡◌ {A = WithMade tree_command.Command} (tree, made) whole → IfOk answer (λ t. t ≡ tree) → IfOk answer (λ t. t ≡ whole.0)
answers_tree (Ok t) tree made whole is same = same ∙ ap (λ (r : WithMade tree_command.Command). r.0) is
answers_tree (Err e) tree made whole is same = tt

pub answers_made : {E : Type 0} (answer : Result tree_command.Command E) (tree : tree_command.Command) (made : Made) (whole : WithMade tree_command.Command)
    → ◌≡◌ {A = WithMade tree_command.Command} (tree, made) whole → OnOk answer (made ≡ whole.1)
answers_made (Ok t) tree made whole is = ap (λ (r : WithMade tree_command.Command). r.1) is
answers_made (Err e) tree made whole is = tt

-- what is answered for a form is what is answered for the command
pub told_tree : {E : Type 0} (answer : Result tree_command.Command E) (r whole : WithMade tree_command.Command)
    → ◌≡◌ {A = WithMade tree_command.Command} r whole → IfOk answer (λ t. t ≡ r.0) → IfOk answer (λ t. t ≡ whole.0)
told_tree (Ok t) r whole is same = same ∙ ap (λ (x : WithMade tree_command.Command). x.0) is
told_tree (Err e) r whole is same = tt

pub told_made : {E : Type 0} (answer : Result tree_command.Command E) (made : Made) (r whole : WithMade tree_command.Command)
    → ◌≡◌ {A = WithMade tree_command.Command} r whole → OnOk answer (made ≡ r.1) → OnOk answer (made ≡ whole.1)
told_made (Ok t) made r whole is same = same ∙ ap (λ (x : WithMade tree_command.Command). x.1) is
told_made (Err e) made r whole is same = tt
