-- Sizes that are cut above their limits on the way are the whole sizes cut at the end.
use Rattle.std.proofs.Common.{◌≡◌, ℕ, zero, suc, ◌+◌, ◌-◌, ◌<◌, ◌≤◌, max, min, List, [], ◌∷◌, ◌++◌, Some, None, length, get_or, drop, map, refl, ap, sym, ◌∙◌, subst, arith, slice_index_or, Bool, IsTrue, ◌↔◌}
use Rattle.std.proofs.lemmas.List.{at_drop_more}
use Rattle.elaborate.specs.Size.{nothing, IsSmall}
use Rattle.elaborate.specs.SourceSize.{Cut, whole, plain_nodes, beside, around, expression_layer, expression_size, all_beside, action_size, arm_size, command_size, guarded_size, labelled_size, size_of, procedure_size, sizes_onto, system_size}
use Rattle.elaborate.specs.internal.Limited.{limited}
use Rattle.elaborate.specs.internal.SizeParts.{size_of_guarded, size_of_labelled, size_of_arm}
use Rattle.elaborate.specs.declared.count.Size.{Size}
use Rattle.types.specs.declared.tree.Procedure.{Procedure}
use Rattle.types.specs.declared.tree.Expression.{Expression}
use Rattle.types.specs.declared.tree.Expression.TheOpen.{Expression-F}
use Rattle.types.specs.declared.tree.Expression.TheFolds.{map-Expression, fold-roll-Expression, ind-Expression}
use Rattle.types.specs.declared.tree.Expression.TheViews.{roll-Expression}
use Rattle.types.specs.declared.tree.Action.{Action}
use Rattle.types.specs.declared.tree.Arm.{Arm}
use Rattle.types.specs.declared.tree.Command.{Command}
use Rattle.types.specs.declared.tree.Guarded.{Guarded}
use Rattle.types.specs.declared.tree.Labelled.{Labelled}
use Rattle.types.specs.declared.tree.Action.TheOpen.{Action-F}
use Rattle.types.specs.declared.tree.Action.TheFolds.{map-Action, fold-Action, fold-roll-Action, fold-roll-Arm, fold-roll-Command, fold-roll-Guarded, fold-roll-Labelled, ind-Command}
use Rattle.types.specs.declared.tree.Action.TheViews.{roll-Action, roll-Arm, roll-Command, roll-Guarded, roll-Labelled}

-- one procedure more
pub sizes_more : (ps : List Procedure) (i : ℕ) (p : Procedure) (sizes : List Size) (s : Size) → i < length ps → p ≡ get_or ps i p
    → s ≡ procedure_size limited sizes p
    → sizes_onto limited (sizes ++ s ∷ []) (drop (i + 1) ps) ≡ sizes_onto limited sizes (drop i ps)
sizes_more ps i p sizes s lt is new =
    sym
    (at_drop_more (sizes_onto limited sizes) ps i p lt
    ∙ (ap (λ q. sizes_onto limited (sizes ++ procedure_size limited sizes q ∷ []) (drop (i + 1) ps)) (sym is)
    ∙ ap (λ t. sizes_onto limited (sizes ++ t ∷ []) (drop (i + 1) ps)) (sym new)))

-- a size by its two numbers
sized : ℕ → ℕ → Size
sized n l = record { nodes = n; levels = l }

same_sized : (a b c d : ℕ) → a ≡ c → b ≡ d → let s : Size = record { nodes = a; levels = b } in let t : Size = record { nodes = c; levels = d } in s ≡ t
unfolding sized
same_sized a b c d e f = ap (λ n. sized n b) e ∙ ap (sized c) f

beside_cut : (a b : Size) → beside limited (limited a) (limited b) ≡ limited (beside whole a b)
beside_cut a b = same_sized _ _ _ _ (nodes_cut a.nodes b.nodes) (levels_cut a.levels b.levels)
  where
    nodes_cut : (m n : ℕ) → min (min m 16385 + min n 16385) 16385 ≡ min (m + n) 16385
    nodes_cut m n = omega arith

    levels_cut : (m n : ℕ) → min (max (min m 1026) (min n 1026)) 1026 ≡ min (max m n) 1026
    levels_cut m n = omega arith

around_cut : (a : Size) → around limited (limited a) ≡ limited (around whole a)
around_cut a = same_sized _ _ _ _ (nodes_cut a.nodes) (levels_cut a.levels)
  where
    nodes_cut : (m : ℕ) → min (min m 16385 + 1) 16385 ≡ min (m + 1) 16385
    nodes_cut m = omega arith

    levels_cut : (m : ℕ) → min (min m 1026 + 1) 1026 ≡ min (m + 1) 1026
    levels_cut m = omega arith

-- parts that agree
beside_both : (a b s t : Size) → s ≡ limited a → t ≡ limited b → beside limited s t ≡ limited (beside whole a b)
beside_both a b s t e f = ap (λ u. beside limited u t) e ∙ (ap (beside limited (limited a)) f ∙ beside_cut a b)

around_both : (a s : Size) → s ≡ limited a → around limited s ≡ limited (around whole a)
around_both a s e = ap (around limited) e ∙ around_cut a

all_cut : (before : Size) (xs : List Size) → all_beside limited (limited before) (map limited xs) ≡ limited (all_beside whole before xs)
all_cut before [] = refl
all_cut before (x ∷ xs) = ap (λ s. all_beside limited s (map limited xs)) (beside_cut before x) ∙ all_cut (beside whole before x) xs

all_both : (xs ys : List Size) → ys ≡ map limited xs → all_beside limited nothing ys ≡ limited (all_beside whole nothing xs)
all_both xs ys e = ap (all_beside limited nothing) e ∙ all_cut nothing xs

called_cut : (called : List Size) (k : ℕ) → slice_index_or (map limited called) k (around limited nothing) ≡ limited (slice_index_or called k (around whole nothing))
called_cut [] k = refl
called_cut (s ∷ called) zero = refl
called_cut (s ∷ called) (suc k) = called_cut called k

-- an element with its proof
abbrev With : {X : Type 0} → (X → Type 0) → Type 0
With {X = X} P = (x : X) × P x

-- expressions
abbrev ExpressionAgrees : Expression → Type 0
ExpressionAgrees e = expression_size limited e ≡ limited (expression_size whole e)

expression_layer_cut : (y : Expression-F (With ExpressionAgrees)) →
    expression_layer limited (map-Expression Expression Size (expression_size limited) (map-Expression (With ExpressionAgrees) Expression (λ e. e.0) y))
    ≡ limited (expression_layer whole (map-Expression Expression Size (expression_size whole) (map-Expression (With ExpressionAgrees) Expression (λ e. e.0) y)))
expression_layer_cut (Expression-F.Constant v) = refl
expression_layer_cut (Expression-F.Variable x w) = refl
expression_layer_cut (Expression-F.Received c w) = refl
expression_layer_cut (Expression-F.Binary op a b) =
    beside_both (plain_nodes whole 1) (beside whole (expression_size whole a.0) (expression_size whole b.0)) (plain_nodes limited 1) _ refl
    (beside_both (expression_size whole a.0) (expression_size whole b.0) _ _ a.1 b.1)
expression_layer_cut (Expression-F.Not a) = beside_both (plain_nodes whole 1) (expression_size whole a.0) (plain_nodes limited 1) _ refl a.1
expression_layer_cut (Expression-F.Cast a w) = beside_both (plain_nodes whole 1) (expression_size whole a.0) (plain_nodes limited 1) _ refl a.1

expression_cut : (e : Expression) → ExpressionAgrees e
expression_cut =
    ind-Expression ExpressionAgrees
    (λ x y e. subst (λ z. ExpressionAgrees (roll-Expression z)) e
    (fold-roll-Expression Size (expression_layer limited) _
    ∙ (expression_layer_cut y ∙ ap limited (sym (fold-roll-Expression Size (expression_layer whole) _)))))

-- commands
abbrev action_of : Cut → List Size → Action → Size
action_of cut called = fold-Action Size Size Size Size Size (action_size cut called) arm_size command_size (guarded_size cut) labelled_size

abbrev ActionAgrees : List Size → Action → Type 0
ActionAgrees called a = action_of limited (map limited called) a ≡ limited (action_of whole called a)

abbrev ArmAgrees : List Size → Arm → Type 0
ArmAgrees called a = size_of_arm limited (map limited called) a ≡ limited (size_of_arm whole called a)

abbrev CommandAgrees : List Size → Command → Type 0
CommandAgrees called c = size_of limited (map limited called) c ≡ limited (size_of whole called c)

abbrev GuardedAgrees : List Size → Guarded → Type 0
GuardedAgrees called a = size_of_guarded limited (map limited called) a ≡ limited (size_of_guarded whole called a)

abbrev LabelledAgrees : List Size → Labelled → Type 0
LabelledAgrees called a = size_of_labelled limited (map limited called) a ≡ limited (size_of_labelled whole called a)

mapped_cut : {X : Type 0} (f g : X → Size) (ys : List (With (λ x. f x ≡ limited (g x)))) → map f (map (λ y. y.0) ys) ≡ map limited (map g (map (λ y. y.0) ys))
mapped_cut f g [] = refl
mapped_cut f g (y ∷ ys) =
    ap (λ s. s ∷ map f (map (λ y. y.0) ys)) y.1 ∙ ap (λ ss. limited (g y.0) ∷ ss) (mapped_cut f g ys)

action_layer_cut : (called : List Size)
    (y : Action-F (With (ActionAgrees called)) (With (ArmAgrees called)) (With (CommandAgrees called)) (With (GuardedAgrees called)) (With (LabelledAgrees called))) →
    action_size limited (map limited called) (map-Action Action Arm Command Guarded Labelled Size Size Size Size Size
    (action_of limited (map limited called)) (size_of_arm limited (map limited called)) (size_of limited (map limited called)) (size_of_guarded limited (map limited called)) (size_of_labelled limited (map limited called))
    (map-Action (With (ActionAgrees called)) (With (ArmAgrees called)) (With (CommandAgrees called)) (With (GuardedAgrees called)) (With (LabelledAgrees called)) Action Arm Command Guarded Labelled
    (λ e. e.0) (λ e. e.0) (λ e. e.0) (λ e. e.0) (λ e. e.0) y))
    ≡ limited (action_size whole called (map-Action Action Arm Command Guarded Labelled Size Size Size Size Size
    (action_of whole called) (size_of_arm whole called) (size_of whole called) (size_of_guarded whole called) (size_of_labelled whole called)
    (map-Action (With (ActionAgrees called)) (With (ArmAgrees called)) (With (CommandAgrees called)) (With (GuardedAgrees called)) (With (LabelledAgrees called)) Action Arm Command Guarded Labelled
    (λ e. e.0) (λ e. e.0) (λ e. e.0) (λ e. e.0) (λ e. e.0) y)))
action_layer_cut called Action-F.Continue = refl
action_layer_cut called Action-F.Halt = refl
action_layer_cut called (Action-F.Assign x w e) = around_both (expression_size whole e) _ (expression_cut e)
action_layer_cut called (Action-F.Send c w e) = around_both (expression_size whole e) _ (expression_cut e)
action_layer_cut called (Action-F.Receive c x) = refl
action_layer_cut called (Action-F.Sync c) = refl
action_layer_cut called (Action-F.Loop body) = around_both (size_of whole called body.0) _ body.1
action_layer_cut called (Action-F.While e body) =
    around_both (beside whole (expression_size whole e) (size_of whole called body.0)) _
    (beside_both (expression_size whole e) (size_of whole called body.0) _ _ (expression_cut e) body.1)
action_layer_cut called (Action-F.If arms None) =
    let all = all_both _ _ (mapped_cut (size_of_guarded limited (map limited called)) (size_of_guarded whole called) arms) in
    around_both _ _ (beside_both _ nothing _ nothing all refl)
action_layer_cut called (Action-F.If arms (Some last)) =
    let all = all_both _ _ (mapped_cut (size_of_guarded limited (map limited called)) (size_of_guarded whole called) arms) in
    around_both _ _ (beside_both _ (size_of whole called last.0) _ _ all last.1)
action_layer_cut called (Action-F.Case e arms None) =
    let all = all_both _ _ (mapped_cut (size_of_labelled limited (map limited called)) (size_of_labelled whole called) arms) in
    around_both _ _ (beside_both (expression_size whole e) _ _ _ (expression_cut e) (beside_both _ nothing _ nothing all refl))
action_layer_cut called (Action-F.Case e arms (Some last)) =
    let all = all_both _ _ (mapped_cut (size_of_labelled limited (map limited called)) (size_of_labelled whole called) arms) in
    around_both _ _ (beside_both (expression_size whole e) _ _ _ (expression_cut e) (beside_both _ (size_of whole called last.0) _ _ all last.1))
action_layer_cut called (Action-F.Input c body) = around_both (size_of whole called body.0) _ body.1
action_layer_cut called (Action-F.Select arms) =
    around_both _ _ (all_both _ _ (mapped_cut (size_of_arm limited (map limited called)) (size_of_arm whole called) arms))
action_layer_cut called (Action-F.Arbitrate arms) =
    around_both _ _ (all_both _ _ (mapped_cut (size_of_arm limited (map limited called)) (size_of_arm whole called) arms))
action_layer_cut called (Action-F.Sequence children) =
    around_both _ _ (all_both _ _ (mapped_cut (size_of limited (map limited called)) (size_of whole called) children))
action_layer_cut called (Action-F.Parallel children) =
    around_both _ _ (all_both _ _ (mapped_cut (size_of limited (map limited called)) (size_of whole called) children))
action_layer_cut called (Action-F.Call p arguments) = called_cut called p

command_cut : (called : List Size) (c : Command) → CommandAgrees called c
command_cut called =
    ind-Command (ActionAgrees called) (ArmAgrees called) (CommandAgrees called) (GuardedAgrees called) (LabelledAgrees called)
    (λ x y e. subst (λ z. ActionAgrees called (roll-Action z)) e
    (fold-roll-Action Size Size Size Size Size (action_size limited (map limited called)) arm_size command_size (guarded_size limited) labelled_size _
    ∙ (action_layer_cut called y
    ∙ ap limited (sym (fold-roll-Action Size Size Size Size Size (action_size whole called) arm_size command_size (guarded_size whole) labelled_size _)))))
    (λ x y e. subst (λ z. ArmAgrees called (roll-Arm z)) e
    (fold-roll-Arm Size Size Size Size Size (action_size limited (map limited called)) arm_size command_size (guarded_size limited) labelled_size _
    ∙ (y.body.1
    ∙ ap limited (sym (fold-roll-Arm Size Size Size Size Size (action_size whole called) arm_size command_size (guarded_size whole) labelled_size _)))))
    (λ x y e. subst (λ z. CommandAgrees called (roll-Command z)) e
    (fold-roll-Command Size Size Size Size Size (action_size limited (map limited called)) arm_size command_size (guarded_size limited) labelled_size _
    ∙ (y.action.1
    ∙ ap limited (sym (fold-roll-Command Size Size Size Size Size (action_size whole called) arm_size command_size (guarded_size whole) labelled_size _)))))
    (λ x y e. subst (λ z. GuardedAgrees called (roll-Guarded z)) e
    (fold-roll-Guarded Size Size Size Size Size (action_size limited (map limited called)) arm_size command_size (guarded_size limited) labelled_size _
    ∙ (beside_both (expression_size whole y.guard) (size_of whole called y.body.0) _ _ (expression_cut y.guard) y.body.1
    ∙ ap limited (sym (fold-roll-Guarded Size Size Size Size Size (action_size whole called) arm_size command_size (guarded_size whole) labelled_size _)))))
    (λ x y e. subst (λ z. LabelledAgrees called (roll-Labelled z)) e
    (fold-roll-Labelled Size Size Size Size Size (action_size limited (map limited called)) arm_size command_size (guarded_size limited) labelled_size _
    ∙ (y.body.1
    ∙ ap limited (sym (fold-roll-Labelled Size Size Size Size Size (action_size whole called) arm_size command_size (guarded_size whole) labelled_size _)))))

-- procedures
procedure_cut : (called : List Size) (p : Procedure) → procedure_size limited (map limited called) p ≡ limited (procedure_size whole called p)
procedure_cut called p =
    beside_both (plain_nodes whole (length p.locals)) (size_of whole called p.body) (plain_nodes limited (length p.locals)) _ refl
    (command_cut called p.body)

mapped_push : (called : List Size) (s : Size) → map limited called ++ limited s ∷ [] ≡ map limited (called ++ s ∷ [])
mapped_push [] s = refl
mapped_push (t ∷ called) s = ap (λ r. limited t ∷ r) (mapped_push called s)

sizes_cut : (called : List Size) (ps : List Procedure) → sizes_onto limited (map limited called) ps ≡ map limited (sizes_onto whole called ps)
sizes_cut called [] = refl
sizes_cut called (p ∷ ps) =
    ap (λ s. sizes_onto limited (map limited called ++ s ∷ []) ps) (procedure_cut called p)
    ∙ (ap (λ r. sizes_onto limited r ps) (mapped_push called (procedure_size whole called p))
    ∙ sizes_cut (called ++ procedure_size whole called p ∷ []) ps)

length_mapped : (sizes : List Size) → length (map limited sizes) ≡ length sizes
length_mapped [] = refl
length_mapped (s ∷ sizes) = ap suc (length_mapped sizes)

-- the size of a system is the whole one, cut
pub system_cut : (ps : List Procedure) (ports values : ℕ) → system_size limited ps ports values ≡ limited (system_size whole ps ports values)
system_cut ps ports values =
    let sizes = sizes_onto whole [] ps in
    let e : sizes_onto limited [] ps ≡ map limited sizes = sizes_cut [] ps in
    let last : slice_index_or (sizes_onto limited [] ps) (length (sizes_onto limited [] ps) - 1) (around limited nothing)
    ≡ limited (slice_index_or sizes (length sizes - 1) (around whole nothing)) =
    ap (λ r. slice_index_or r (length r - 1) (around limited nothing)) e
    ∙ (ap (λ n. slice_index_or (map limited sizes) (n - 1) (around limited nothing)) (length_mapped sizes) ∙ called_cut sizes (length sizes - 1)) in
    beside_both (slice_index_or sizes (length sizes - 1) (around whole nothing)) (beside whole (plain_nodes whole ports) (plain_nodes whole values)) _ _ last
    (beside_both (plain_nodes whole ports) (plain_nodes whole values) (plain_nodes limited ports) (plain_nodes limited values) refl refl)

-- a size that is cut is within the limits exactly where the whole one is
pub small_within : (s t : Size) → s ≡ limited t → s.nodes ≤ 16384 → s.levels ≤ 1025 → IsSmall t
small_within s t e n l =
    let en : s.nodes ≡ min t.nodes 16385 = ap (λ (u : Size). u.nodes) e in
    let el : s.levels ≡ min t.levels 1026 = ap (λ (u : Size). u.levels) e in
    (omega (arith, en, n), omega (arith, el, l))

pub small_nodes : (s t : Size) → s ≡ limited t → IsSmall t → s.nodes ≤ 16384
small_nodes s t e small = let en : s.nodes ≡ min t.nodes 16385 = ap (λ (u : Size). u.nodes) e in omega (arith, en, small.0)

pub small_levels : (s t : Size) → s ≡ limited t → IsSmall t → s.levels ≤ 1025
small_levels s t e small = let el : s.levels ≡ min t.levels 1026 = ap (λ (u : Size). u.levels) e in omega (arith, el, small.1)

-- the same of a test
pub small_decided : (b : Bool) (s t : Size) → s ≡ limited t → IsTrue b ↔ IsSmall s → IsTrue b ↔ IsSmall t
small_decided b s t e d = (
  λ h. let small = d.0 h in small_within s t e small.0 small.1,
  λ small. d.1 (small_nodes s t e small, small_levels s t e small),
)
