-- What is counted before a system is made is the size of what is made.
use Rattle.std.proofs.Common.{◌≡◌, ℕ, zero, suc, ◌+◌, ◌-◌, ◌<◌, ◌≤◌, max, List, [], ◌∷◌, ◌++◌, Option, Some, None, length, take, drop, map, option_map, refl, ap, sym, ◌∙◌, subst, arith, length-append, slice_index_or}
use Rattle.elaborate.specs.Body as body
use Rattle.elaborate.specs.Body.{Call, Part, plain, both, all, if_any, first_of, part_of, action_part, arm_part, command_part, guarded_part, labelled_part}
use Rattle.elaborate.specs.Naming as naming
use Rattle.elaborate.specs.Naming.{Names, channel_use, variable_use, expression_in, operator_of, channel_at}
use Rattle.elaborate.specs.Size as size
use Rattle.elaborate.specs.Size.{nothing, plain_nodes, beside, around, all_beside, last_size, expression_size, command_size}
use Rattle.elaborate.specs.declared.count.Size.{Size}
use Rattle.elaborate.specs.SourceSize as counting
use Rattle.elaborate.specs.SourceSize.{whole, size_of}
use Rattle.elaborate.specs.internal.SizeParts as counted
use Rattle.elaborate.proofs.PartFolds.{PartOnLine, part_of_action, part_of_arm, part_of_guarded, part_of_labelled, With, moved}
use Rattle.elaborate.proofs.TreeSizes.{size_of_arm, size_of_guarded, size_of_labelled, size_arm, size_guarded, size_labelled, size_continue, size_halt, size_assign, size_send, size_receive, size_sync, size_loop, size_while, size_if, size_case, size_input, size_select, size_arbitrate, size_sequence, size_parallel, size_constant, size_variable, size_received, size_binary, size_not, size_cast}
use Rattle.system.specs.declared.command.Action as tree
use Rattle.system.specs.declared.command.Action.TheViews as action
use Rattle.system.specs.declared.command.Arm as tree_arm
use Rattle.system.specs.declared.command.Command as tree_command
use Rattle.system.specs.declared.command.Guarded as tree_guarded
use Rattle.system.specs.declared.command.Labelled as tree_labelled
use Rattle.types.specs.declared.tree.Action.{Action}
use Rattle.types.specs.declared.tree.Arm.{Arm}
use Rattle.types.specs.declared.tree.Command.{Command}
use Rattle.types.specs.declared.tree.Guarded.{Guarded}
use Rattle.types.specs.declared.tree.Labelled.{Labelled}
use Rattle.types.specs.declared.tree.Expression.{Expression}
use Rattle.types.specs.declared.tree.Expression.TheOpen.{Expression-F}
use Rattle.types.specs.declared.tree.Expression.TheFolds.{map-Expression, fold-roll-Expression, ind-Expression}
use Rattle.types.specs.declared.tree.Expression.TheViews.{roll-Expression}
use Rattle.types.specs.declared.tree.Action.TheOpen.{Action-F}
use Rattle.types.specs.declared.tree.Action.TheFolds.{map-Action, fold-Action, fold-roll-Action, fold-roll-Arm, fold-roll-Command, fold-roll-Guarded, fold-roll-Labelled, ind-Command}
use Rattle.types.specs.declared.tree.Action.TheViews.{roll-Action, roll-Arm, roll-Command, roll-Guarded, roll-Labelled}
use Rattle.system.specs.declared.expression.Expression as named

abbrev pub Bodies : Type 0
Bodies = List tree_command.Command

-- ---- numbers and sizes

-- a number of each element, together
abbrev pub total_of : {X : Type 0} → (X → ℕ) → List X → ℕ
total_of f [] = 0
total_of f (x ∷ xs) = f x + total_of f xs

abbrev pub own_number : ℕ → ℕ
own_number n = n

abbrev pub nodes_of : tree_command.Command → ℕ
nodes_of c = (command_size c).nodes

pub total_take : {X : Type 0} (f : X → ℕ) (m n : ℕ) (xs : List X)
    → total_of f (take (m + n) xs) ≡ total_of f (take m xs) + total_of f (take n (drop m xs))
total_take f zero n xs = let e : zero + n ≡ n = omega arith in rw e (omega arith)
total_take f (suc m) n [] = let e : suc m + n ≡ suc (m + n) = omega arith in rw e (omega (arith, none n))
  where
    none : (n : ℕ) → total_of f (take n []) ≡ 0
    none zero = refl
    none (suc n) = refl
total_take f (suc m) n (x ∷ xs) = let e : suc m + n ≡ suc (m + n) = omega arith in rw e (omega (arith, total_take f m n xs))

abbrev sized : ℕ → ℕ → Size
sized n l = record { nodes = n; levels = l }

pub same_sized : (a b c d : ℕ) → a ≡ c → b ≡ d → sized a b ≡ sized c d
same_sized a b c d e f = ap (λ n. sized n b) e ∙ ap (sized c) f

-- so many nodes more, that are in no command
abbrev pub more : Size → ℕ → Size
more s n = record { nodes = s.nodes + n; levels = s.levels }

more_beside : (a b : Size) (m n : ℕ) → beside (more a m) (more b n) ≡ more (beside a b) (m + n)
more_beside a b m n = same_sized _ _ _ _ (omega arith) refl

more_around : (a : Size) (n : ℕ) → around (more a n) ≡ more (around a) n
more_around a n = same_sized _ _ _ _ (omega arith) refl

more_after : (e a : Size) (n : ℕ) → beside e (more a n) ≡ more (beside e a) n
more_after e a n = same_sized _ _ _ _ (omega arith) refl

pub none_more : (a : Size) → a ≡ more a 0
none_more a = same_sized _ _ _ _ (omega arith) refl

-- sizes that are put together one after another
all_onto_is : (before : Size) (xs : List Size) → counting.all_beside whole before xs ≡ beside before (all_beside xs)
all_onto_is before [] = same_sized _ _ _ _ (omega arith) (omega arith)
all_onto_is before (x ∷ xs) =
    all_onto_is (beside before x) xs
    ∙ regroup before x (all_beside xs)
  where
    regroup : (a b c : Size) → beside (beside a b) c ≡ beside a (beside b c)
    regroup a b c = same_sized _ _ _ _ (omega arith) (omega arith)

all_is : (xs : List Size) → counting.all_beside whole nothing xs ≡ all_beside xs
all_is xs = all_onto_is nothing xs ∙ same_sized _ _ _ _ (omega arith) (omega arith)

-- ---- expressions

abbrev ExpressionCounts : Expression → Type 0
ExpressionCounts e = (names : Names) → expression_size (expression_in names e) ≡ counting.expression_size whole e

-- the layer of an expression, whose size is that of its parts
expression_layer_counts : (names : Names) (y : Expression-F (With ExpressionCounts)) →
    expression_size (naming.expression_layer names (map-Expression Expression named.Expression (expression_in names) (map-Expression (With ExpressionCounts) Expression (λ e. e.0) y)))
    ≡ counting.expression_layer whole (map-Expression Expression Size (counting.expression_size whole) (map-Expression (With ExpressionCounts) Expression (λ e. e.0) y))
expression_layer_counts names (Expression-F.Constant v) = size_constant v
expression_layer_counts names (Expression-F.Variable x w) = size_variable (variable_use names x) w
expression_layer_counts names (Expression-F.Received c w) = size_received (channel_at names c) w
expression_layer_counts names (Expression-F.Binary op a b) =
    size_binary (operator_of op) (expression_in names a.0) (expression_in names b.0)
    ∙ (ap (λ s. beside (plain_nodes 1) (beside s (expression_size (expression_in names b.0)))) (a.1 names)
    ∙ ap (λ s. beside (plain_nodes 1) (beside (counting.expression_size whole a.0) s)) (b.1 names))
expression_layer_counts names (Expression-F.Not a) =
    size_not (expression_in names a.0) ∙ ap (beside (plain_nodes 1)) (a.1 names)
expression_layer_counts names (Expression-F.Cast a w) =
    size_cast (expression_in names a.0) w ∙ ap (beside (plain_nodes 1)) (a.1 names)

expression_counts : (e : Expression) → ExpressionCounts e
expression_counts =
    ind-Expression ExpressionCounts
    (λ x y e. subst (λ z. ExpressionCounts (roll-Expression z)) e
    (λ names.
    ap expression_size (fold-roll-Expression named.Expression (naming.expression_layer names) _)
    ∙ (expression_layer_counts names y ∙ sym (fold-roll-Expression Size (counting.expression_layer whole) _))))

-- ---- commands

-- sizes of the earlier procedures
module _ (sizes : List Size) where
  abbrev pub size_at : ℕ → Size
  size_at p = slice_index_or sizes p (counting.around whole nothing)

  -- what is counted for each of these calls is the size of its body, and so many nodes more
  abbrev pub Matches : List Call → Bodies → List ℕ → Type 0
  Matches [] bs ns = Unit {0}
  Matches (c ∷ cs) [] ns = ⊥
  Matches (c ∷ cs) (b ∷ bs) [] = ⊥
  Matches (c ∷ cs) (b ∷ bs) (n ∷ ns) = (size_at c.procedure ≡ more (command_size b) n) × Matches cs bs ns

  first_match : (cs ds : List Call) (bs : Bodies) (ns : List ℕ) → Matches (cs ++ ds) bs ns → Matches cs bs ns
  first_match [] ds bs ns h = tt
  first_match (c ∷ cs) ds [] ns h = h
  first_match (c ∷ cs) ds (b ∷ bs) [] h = h
  first_match (c ∷ cs) ds (b ∷ bs) (n ∷ ns) h = (h.0, first_match cs ds bs ns h.1)

  next_match : (cs ds : List Call) (bs : Bodies) (ns : List ℕ) → Matches (cs ++ ds) bs ns → Matches ds (drop (length cs) bs) (drop (length cs) ns)
  next_match [] ds bs ns h = h
  next_match (c ∷ cs) ds [] ns h = absurd h
  next_match (c ∷ cs) ds (b ∷ bs) [] h = absurd h
  next_match (c ∷ cs) ds (b ∷ bs) (n ∷ ns) h = next_match cs ds bs ns h.1

  -- What is counted for a part is the size of what it becomes, and the nodes more of its calls; and what it becomes has no
  -- fewer nodes than the bodies of its calls.
  pub record Counts {X : Type 0} (μ : X → Size) (s : Size) (p : Part X) : Type 0 where
    pub exact : (names : Names) (bs : Bodies) (ns : List ℕ) → Matches p.calls bs ns → s ≡ more (μ (p.becomes names bs)) (total_of own_number (take (length p.calls) ns))
    pub bounds : (names : Names) (bs : Bodies) → total_of nodes_of (take (length p.calls) bs) ≤ (μ (p.becomes names bs)).nodes

  plain_counts : {X : Type 0} (μ : X → Size) (s : Size) (f : Names → X) → ((names : Names) → μ (f names) ≡ s) → Counts μ s (plain f)
  plain_counts μ s f e = record { exact = λ names bs ns h. sym (e names) ∙ none_more (μ (f names)); bounds = λ names bs. omega arith }

  around_counts : {X Y : Type 0} {μ : X → Size} {s : Size} {p : Part X} → Counts μ s p → (ν : Y → Size) (g : Size → Size) (f : Names → X → Y)
      → ((names : Names) (x : X) → ν (f names x) ≡ g (μ x)) → ((a : Size) (n : ℕ) → g (more a n) ≡ more (g a) n) → ((a : Size) → a.nodes ≤ (g a).nodes)
      → Counts ν (g s) (body.around f p)
  around_counts {μ = μ} {s = s} {p = p} h ν g f e m l = record {
    exact = λ names bs ns matches.
        let n = total_of own_number (take (length p.calls) ns) in
        ap g (h.exact names bs ns matches) ∙ (m (μ (p.becomes names bs)) n ∙ ap (λ (t : Size). more t n) (sym (e names (p.becomes names bs))));
    bounds = λ names bs.
        let one = h.bounds names bs in
        let two = l (μ (p.becomes names bs)) in
        let three : (ν (f names (p.becomes names bs))).nodes ≡ (g (μ (p.becomes names bs))).nodes = ap (λ (t : Size). t.nodes) (e names (p.becomes names bs)) in
        omega (arith, one, two, three);
  }

  both_counts : {X Y : Type 0} {μ : X → Size} {ν : Y → Size} {s t : Size} {p : Part X} {q : Part Y} → Counts μ s p → Counts ν t q
      → Counts (λ (r : X × Y). beside (μ r.0) (ν r.1)) (beside s t) (both p q)
  both_counts {μ = μ} {ν = ν} {s = s} {t = t} {p = p} {q = q} h k = record {
    exact = λ names bs ns matches.
        let first = h.exact names bs ns (first_match p.calls q.calls bs ns matches) in
        let next = k.exact names (drop (length p.calls) bs) (drop (length p.calls) ns) (next_match p.calls q.calls bs ns matches) in
        let a = μ (p.becomes names bs) in
        let b = ν (q.becomes names (drop (length p.calls) bs)) in
        let m = total_of own_number (take (length p.calls) ns) in
        let n = total_of own_number (take (length q.calls) (drop (length p.calls) ns)) in
        let together : m + n ≡ total_of own_number (take (length (p.calls ++ q.calls)) ns) =
        sym (ap (λ k. total_of own_number (take k ns)) (length-append p.calls q.calls) ∙ total_take own_number (length p.calls) (length q.calls) ns) in
        ap (λ u. beside u t) first ∙ (ap (beside (more a m)) next ∙ (more_beside a b m n ∙ ap (more (beside a b)) together));
    bounds = λ names bs.
        let one = h.bounds names bs in
        let two = k.bounds names (drop (length p.calls) bs) in
        let together : total_of nodes_of (take (length (p.calls ++ q.calls)) bs)
        ≡ total_of nodes_of (take (length p.calls) bs) + total_of nodes_of (take (length q.calls) (drop (length p.calls) bs)) =
        ap (λ k. total_of nodes_of (take k bs)) (length-append p.calls q.calls) ∙ total_take nodes_of (length p.calls) (length q.calls) bs in
        omega (arith, one, two, together);
  }

  -- lists of parts
  listed_counts : {Z X : Type 0} (μ : X → Size) (s : Z → Size) (p : Z → Part X) (ys : List (With (λ z. Counts μ (s z) (p z))))
      → Counts (λ (xs : List X). all_beside (map μ xs)) (all_beside (map s (map (λ e. e.0) ys))) (all (map p (map (λ e. e.0) ys)))
  listed_counts {X = X} μ s p [] = plain_counts (λ (xs : List X). all_beside (map μ xs)) nothing (λ names. []) (λ names. refl)
  listed_counts {X = X} μ s p (y ∷ ys) =
      around_counts (both_counts y.1 (listed_counts μ s p ys)) (λ (xs : List X). all_beside (map μ xs))
      (λ a. a) (λ names r. r.0 ∷ r.1) (λ names r. refl) (λ a n. refl) (λ a. omega arith)

  all_counts : {Z X : Type 0} (μ : X → Size) (s : Z → Size) (p : Z → Part X) (ys : List (With (λ z. Counts μ (s z) (p z))))
      → Counts (λ (xs : List X). all_beside (map μ xs)) (counting.all_beside whole nothing (map s (map (λ e. e.0) ys))) (all (map p (map (λ e. e.0) ys)))
  all_counts {X = X} μ s p ys =
      subst (λ t. Counts (λ (xs : List X). all_beside (map μ xs)) t (all (map p (map (λ e. e.0) ys)))) (sym (all_is (map s (map (λ e. e.0) ys)))) (listed_counts μ s p ys)

  -- the parts of a command
  abbrev counted_action : Action → Size
  counted_action = fold-Action Size Size Size Size Size (counting.action_size whole sizes) counting.arm_size counting.command_size (counting.guarded_size whole) counting.labelled_size

  abbrev ActionCounts : Action → Type 0
  ActionCounts a = (line : ℕ) → Counts command_size (counted_action a) (part_of_action a line)

  abbrev ArmCounts : Arm → Type 0
  ArmCounts a = Counts size_of_arm (counted.size_of_arm whole sizes a) (part_of_arm a)

  abbrev CommandCounts : Command → Type 0
  CommandCounts c = Counts command_size (size_of whole sizes c) (part_of c)

  abbrev GuardedCounts : Guarded → Type 0
  GuardedCounts a = Counts size_of_guarded (counted.size_of_guarded whole sizes a) (part_of_guarded a)

  abbrev LabelledCounts : Labelled → Type 0
  LabelledCounts a = Counts size_of_labelled (counted.size_of_labelled whole sizes a) (part_of_labelled a)

  -- what stands behind an `else`
  last_counts : (last : Option (With CommandCounts))
      → Counts (λ (c : Option tree_command.Command). last_size (option_map command_size c)) (counting.last_size (option_map (size_of whole sizes) (option_map (λ e. e.0) last)))
      (if_any (option_map part_of (option_map (λ e. e.0) last)))
  last_counts None = plain_counts (λ (c : Option tree_command.Command). last_size (option_map command_size c)) nothing (λ names. None) (λ names. refl)
  last_counts (Some c) =
      around_counts c.1 (λ (c : Option tree_command.Command). last_size (option_map command_size c))
      (λ a. a) (λ names x. Some x) (λ names x. refl) (λ a n. refl) (λ a. omega arith)

  arms_count : {Z X : Type 0} (μ : X → Size) (s : Z → Size) (p : Z → Part X) (ys : List (With (λ z. Counts μ (s z) (p z)))) (last : Option (With CommandCounts))
      → Counts (λ (r : List X × Option tree_command.Command). beside (all_beside (map μ r.0)) (last_size (option_map command_size r.1)))
      (beside (counting.all_beside whole nothing (map s (map (λ e. e.0) ys))) (counting.last_size (option_map (size_of whole sizes) (option_map (λ e. e.0) last))))
      (both (all (map p (map (λ e. e.0) ys))) (if_any (option_map part_of (option_map (λ e. e.0) last))))
  arms_count {X = X} μ s p ys last =
      both_counts (all_counts μ s p ys) (last_counts last)

  -- a command around a part
  command_counts : {X : Type 0} {μ : X → Size} {s : Size} {p : Part X} → Counts μ s p → (f : Names → X → tree_command.Command)
      → ((names : Names) (x : X) → command_size (f names x) ≡ around (μ x)) → Counts command_size (around s) (body.around f p)
  command_counts h f e = around_counts h command_size around f e more_around (λ a. omega arith)

  -- a command around an expression and a part
  with_expression : {X : Type 0} {μ : X → Size} {s : Size} {p : Part X} → Counts μ s p → (x : Expression) (f : Names → X → tree_command.Command)
      → ((names : Names) (y : X) → command_size (f names y) ≡ around (beside (expression_size (expression_in names x)) (μ y)))
      → Counts command_size (around (beside (counting.expression_size whole x) s)) (body.around f p)
  with_expression {μ = μ} h x f e =
      around_counts h command_size (λ a. around (beside (counting.expression_size whole x) a)) f
      (λ names y. e names y ∙ ap (λ (a : Size). around (beside a (μ y))) (expression_counts x names))
      (λ a n. same_sized _ _ _ _ (omega arith) refl) (λ a. omega arith)

  layer_counts : (y : Action-F (With ActionCounts) (With ArmCounts) (With CommandCounts) (With GuardedCounts) (With LabelledCounts)) (line : ℕ) →
      Counts command_size
      (counting.action_size whole sizes (map-Action Action Arm Command Guarded Labelled Size Size Size Size Size
      counted_action (counted.size_of_arm whole sizes) (size_of whole sizes) (counted.size_of_guarded whole sizes) (counted.size_of_labelled whole sizes)
      (map-Action (With ActionCounts) (With ArmCounts) (With CommandCounts) (With GuardedCounts) (With LabelledCounts) Action Arm Command Guarded Labelled
      (λ e. e.0) (λ e. e.0) (λ e. e.0) (λ e. e.0) (λ e. e.0) y)))
      (action_part (map-Action Action Arm Command Guarded Labelled PartOnLine (Part tree_arm.Arm) (Part tree_command.Command) (Part tree_guarded.Guarded) (Part tree_labelled.Labelled)
      part_of_action part_of_arm part_of part_of_guarded part_of_labelled
      (map-Action (With ActionCounts) (With ArmCounts) (With CommandCounts) (With GuardedCounts) (With LabelledCounts) Action Arm Command Guarded Labelled
      (λ e. e.0) (λ e. e.0) (λ e. e.0) (λ e. e.0) (λ e. e.0) y)) line)
  layer_counts Action-F.Continue line = plain_counts command_size (around nothing) (λ names. body.command line tree.Continue) (λ names. size_continue line)
  layer_counts Action-F.Halt line = plain_counts command_size (around nothing) (λ names. body.command line tree.Halt) (λ names. size_halt line)
  layer_counts (Action-F.Assign x w e) line =
      plain_counts command_size (around (counting.expression_size whole e)) (λ names. body.command line (tree.Assign (variable_use names x) w (expression_in names e)))
      (λ names. size_assign line (variable_use names x) w (expression_in names e) ∙ ap around (expression_counts e names))
  layer_counts (Action-F.Send c w e) line =
      plain_counts command_size (around (counting.expression_size whole e)) (λ names. body.command line (tree.Send (channel_use names c) w (expression_in names e)))
      (λ names. size_send line (channel_use names c) w (expression_in names e) ∙ ap around (expression_counts e names))
  layer_counts (Action-F.Receive c x) line =
      plain_counts command_size (around nothing) (λ names. body.command line (tree.Receive (channel_use names c) (variable_use names x)))
      (λ names. size_receive line (channel_use names c) (variable_use names x))
  layer_counts (Action-F.Sync c) line =
      plain_counts command_size (around nothing) (λ names. body.command line (tree.Sync (channel_use names c))) (λ names. size_sync line (channel_use names c))
  layer_counts (Action-F.Loop b) line =
      command_counts b.1 (λ names t. body.command line (action.Loop t)) (λ names t. size_loop line t)
  layer_counts (Action-F.While e b) line =
      with_expression b.1 e (λ names t. body.command line (action.While (expression_in names e) t)) (λ names t. size_while line (expression_in names e) t)
  layer_counts (Action-F.If arms None) line =
      command_counts (arms_count size_of_guarded (counted.size_of_guarded whole sizes) part_of_guarded arms None)
      (λ names r. body.command line (action.If r.0 r.1)) (λ names r. size_if line r.0 r.1)
  layer_counts (Action-F.If arms (Some last)) line =
      command_counts (arms_count size_of_guarded (counted.size_of_guarded whole sizes) part_of_guarded arms (Some last))
      (λ names r. body.command line (action.If r.0 r.1)) (λ names r. size_if line r.0 r.1)
  layer_counts (Action-F.Case e arms None) line =
      with_expression (arms_count size_of_labelled (counted.size_of_labelled whole sizes) part_of_labelled arms None) e
      (λ names r. body.command line (action.Case (expression_in names e) r.0 r.1)) (λ names r. size_case line (expression_in names e) r.0 r.1)
  layer_counts (Action-F.Case e arms (Some last)) line =
      with_expression (arms_count size_of_labelled (counted.size_of_labelled whole sizes) part_of_labelled arms (Some last)) e
      (λ names r. body.command line (action.Case (expression_in names e) r.0 r.1)) (λ names r. size_case line (expression_in names e) r.0 r.1)
  layer_counts (Action-F.Input c b) line =
      command_counts b.1 (λ names t. body.command line (action.Input (channel_use names c) t)) (λ names t. size_input line (channel_use names c) t)
  layer_counts (Action-F.Select arms) line =
      command_counts (all_counts size_of_arm (counted.size_of_arm whole sizes) part_of_arm arms) (λ names these. body.command line (action.Select these)) (λ names these. size_select line these)
  layer_counts (Action-F.Arbitrate arms) line =
      command_counts (all_counts size_of_arm (counted.size_of_arm whole sizes) part_of_arm arms) (λ names these. body.command line (action.Arbitrate these)) (λ names these. size_arbitrate line these)
  layer_counts (Action-F.Sequence children) line =
      command_counts (all_counts command_size (size_of whole sizes) part_of children) (λ names these. body.command line (action.Sequence these)) (λ names these. size_sequence line these)
  layer_counts (Action-F.Parallel children) line =
      command_counts (all_counts command_size (size_of whole sizes) part_of children) (λ names these. body.command line (action.Parallel these)) (λ names these. size_parallel line these)
  layer_counts (Action-F.Call p arguments) line = call_counts (record { procedure = p; arguments = arguments })
    where
      alone : (n : ℕ) → n ≡ total_of own_number (take 1 (n ∷ []))
      alone n = omega arith

      call_counts : (c : Call) → Counts command_size (size_at c.procedure) (record { calls = c ∷ []; becomes = λ names bs. first_of bs })
      call_counts c = record { exact = one c; bounds = few }
        where
          one : (c : Call) (names : Names) (bs : Bodies) (ns : List ℕ) → Matches (c ∷ []) bs ns
              → size_at c.procedure ≡ more (command_size (first_of bs)) (total_of own_number (take 1 ns))
          one c names [] ns h = absurd h
          one c names (b ∷ bs) [] h = absurd h
          one c names (b ∷ bs) (n ∷ ns) h = h.0 ∙ ap (more (command_size b)) (alone n)

          few : (names : Names) (bs : Bodies) → total_of nodes_of (take 1 bs) ≤ (command_size (first_of bs)).nodes
          few names [] = omega arith
          few names (b ∷ bs) = omega arith

  -- a command
  pub counts : (c : Command) → CommandCounts c
  counts =
      ind-Command ActionCounts ArmCounts CommandCounts GuardedCounts LabelledCounts
      (λ x y e. subst (λ z. ActionCounts (roll-Action z)) e
      (moved (λ (s : Size) (p : PartOnLine). (line : ℕ) → Counts command_size s (p line))
      (fold-roll-Action Size Size Size Size Size (counting.action_size whole sizes) counting.arm_size counting.command_size (counting.guarded_size whole) counting.labelled_size _)
      (fold-roll-Action PartOnLine (Part tree_arm.Arm) (Part tree_command.Command) (Part tree_guarded.Guarded) (Part tree_labelled.Labelled) action_part arm_part command_part guarded_part labelled_part _)
      (layer_counts y)))
      (λ x y e. subst (λ z. ArmCounts (roll-Arm z)) e
      (moved (λ (s : Size) (p : Part tree_arm.Arm). Counts size_of_arm s p)
      (fold-roll-Arm Size Size Size Size Size (counting.action_size whole sizes) counting.arm_size counting.command_size (counting.guarded_size whole) counting.labelled_size _)
      (fold-roll-Arm PartOnLine (Part tree_arm.Arm) (Part tree_command.Command) (Part tree_guarded.Guarded) (Part tree_labelled.Labelled) action_part arm_part command_part guarded_part labelled_part _)
      (around_counts y.body.1 size_of_arm (λ a. a)
      (λ names b. record { channel = channel_use names y.channel; body = b }) (λ names b. size_arm (channel_use names y.channel) b) (λ a n. refl) (λ a. omega arith))))
      (λ x y e. subst (λ z. CommandCounts (roll-Command z)) e
      (moved (λ (s : Size) (p : Part tree_command.Command). Counts command_size s p)
      (fold-roll-Command Size Size Size Size Size (counting.action_size whole sizes) counting.arm_size counting.command_size (counting.guarded_size whole) counting.labelled_size _)
      (fold-roll-Command PartOnLine (Part tree_arm.Arm) (Part tree_command.Command) (Part tree_guarded.Guarded) (Part tree_labelled.Labelled) action_part arm_part command_part guarded_part labelled_part _)
      (y.action.1 y.line)))
      (λ x y e. subst (λ z. GuardedCounts (roll-Guarded z)) e
      (moved (λ (s : Size) (p : Part tree_guarded.Guarded). Counts size_of_guarded s p)
      (fold-roll-Guarded Size Size Size Size Size (counting.action_size whole sizes) counting.arm_size counting.command_size (counting.guarded_size whole) counting.labelled_size _)
      (fold-roll-Guarded PartOnLine (Part tree_arm.Arm) (Part tree_command.Command) (Part tree_guarded.Guarded) (Part tree_labelled.Labelled) action_part arm_part command_part guarded_part labelled_part _)
      (around_counts y.body.1 size_of_guarded (beside (counting.expression_size whole y.guard))
      (λ names b. record { guard = expression_in names y.guard; body = b })
      (λ names b. size_guarded (expression_in names y.guard) b ∙ ap (λ (a : Size). beside a (command_size b)) (expression_counts y.guard names))
      (more_after (counting.expression_size whole y.guard)) (λ a. omega arith))))
      (λ x y e. subst (λ z. LabelledCounts (roll-Labelled z)) e
      (moved (λ (s : Size) (p : Part tree_labelled.Labelled). Counts size_of_labelled s p)
      (fold-roll-Labelled Size Size Size Size Size (counting.action_size whole sizes) counting.arm_size counting.command_size (counting.guarded_size whole) counting.labelled_size _)
      (fold-roll-Labelled PartOnLine (Part tree_arm.Arm) (Part tree_command.Command) (Part tree_guarded.Guarded) (Part tree_labelled.Labelled) action_part arm_part command_part guarded_part labelled_part _)
      (around_counts y.body.1 size_of_labelled (λ a. a)
      (λ names b. record { labels = y.labels; body = b }) (λ names b. size_labelled y.labels b) (λ a n. refl) (λ a. omega arith))))
