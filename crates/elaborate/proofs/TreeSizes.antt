-- The size of each form of a command and of an expression.
use Rattle.std.proofs.Common.{◌≡◌, ℕ, ◌+◌, ◌≤◌, max, List, [], ◌∷◌, Option, Some, None, map, option_map, length, refl, ap, ◌∙◌, arith, rules}
use Rattle.elaborate.specs.Body.{command, nothing_to_do}
use Rattle.elaborate.specs.Size.{nothing, plain_nodes, beside, around, all_beside, last_size, expression_layer, expression_size, action_size, arm_size, command_layer, guarded_size, labelled_size, command_size}
use Rattle.elaborate.specs.declared.count.Size.{Size}
use Rattle.system.specs.declared.command.Action as tree
use Rattle.system.specs.declared.command.Action.TheViews as action
use Rattle.system.specs.declared.command.Arm.{Arm}
use Rattle.system.specs.declared.command.Command.{Command}
use Rattle.system.specs.declared.command.Guarded.{Guarded}
use Rattle.system.specs.declared.command.Labelled.{Labelled}
use Rattle.system.specs.declared.command.Action.TheFolds.{fold-Action, fold-Arm, fold-Guarded, fold-Labelled, the_lemmas}
use Rattle.system.specs.declared.expression.Expression as named
use Rattle.system.specs.declared.expression.Expression.TheViews as expression
use Rattle.system.specs.declared.expression.Expression.TheFolds as expressions
use Rattle.system.specs.declared.expression.Operator as elaborated
use Rattle.system.specs.declared.expression.Use.{Use}
use Rattle.value.specs.Word.{Word}

-- the size of what stands in a command
abbrev pub size_of_action : tree.Action → Size
size_of_action = fold-Action Size Size Size Size Size action_size arm_size command_layer guarded_size labelled_size

abbrev pub size_of_arm : Arm → Size
size_of_arm = fold-Arm Size Size Size Size Size action_size arm_size command_layer guarded_size labelled_size

abbrev pub size_of_guarded : Guarded → Size
size_of_guarded = fold-Guarded Size Size Size Size Size action_size arm_size command_layer guarded_size labelled_size

abbrev pub size_of_labelled : Labelled → Size
size_of_labelled = fold-Labelled Size Size Size Size Size action_size arm_size command_layer guarded_size labelled_size

pub size_command : (c : Command) → command_size c ≡ around (size_of_action c.action)
size_command c = search (rules, the_lemmas)

-- every command is a node
pub some_node : (c : Command) → 1 ≤ (command_size c).nodes
some_node c = let e : (command_size c).nodes ≡ (size_of_action c.action).nodes + 1 = ap (λ (s : Size). s.nodes) (size_command c) in omega (arith, e)

pub size_arm : (c : Use) (b : Command) → let a : Arm = record { channel = c; body = b } in size_of_arm a ≡ command_size b
size_arm c b = search (rules, the_lemmas)

pub size_guarded : (e : named.Expression) (b : Command) → let a : Guarded = record { guard = e; body = b } in size_of_guarded a ≡ beside (expression_size e) (command_size b)
size_guarded e b = search (rules, the_lemmas)

pub size_labelled : (ns : List ℕ) (b : Command) → let a : Labelled = record { labels = ns; body = b } in size_of_labelled a ≡ command_size b
size_labelled ns b = search (rules, the_lemmas)

pub size_continue : (line : ℕ) → command_size (command line tree.Continue) ≡ around nothing
size_continue line =
    let is : size_of_action tree.Continue ≡ nothing = search (rules, the_lemmas) in
    size_command (command line tree.Continue) ∙ ap around is

pub size_halt : (line : ℕ) → command_size (command line tree.Halt) ≡ around nothing
size_halt line =
    let is : size_of_action tree.Halt ≡ nothing = search (rules, the_lemmas) in
    size_command (command line tree.Halt) ∙ ap around is

pub size_assign : (line : ℕ) (x : Use) (w : ℕ) (e : named.Expression) → command_size (command line (tree.Assign x w e)) ≡ around (expression_size e)
size_assign line x w e =
    let is : size_of_action (tree.Assign x w e) ≡ (expression_size e) = search (rules, the_lemmas) in
    size_command (command line (tree.Assign x w e)) ∙ ap around is

pub size_send : (line : ℕ) (c : Use) (w : ℕ) (e : named.Expression) → command_size (command line (tree.Send c w e)) ≡ around (expression_size e)
size_send line c w e =
    let is : size_of_action (tree.Send c w e) ≡ (expression_size e) = search (rules, the_lemmas) in
    size_command (command line (tree.Send c w e)) ∙ ap around is

pub size_receive : (line : ℕ) (c x : Use) → command_size (command line (tree.Receive c x)) ≡ around nothing
size_receive line c x =
    let is : size_of_action (tree.Receive c x) ≡ nothing = search (rules, the_lemmas) in
    size_command (command line (tree.Receive c x)) ∙ ap around is

pub size_sync : (line : ℕ) (c : Use) → command_size (command line (tree.Sync c)) ≡ around nothing
size_sync line c =
    let is : size_of_action (tree.Sync c) ≡ nothing = search (rules, the_lemmas) in
    size_command (command line (tree.Sync c)) ∙ ap around is

pub size_loop : (line : ℕ) (b : Command) → command_size (command line (action.Loop b)) ≡ around (command_size b)
size_loop line b =
    let is : size_of_action (action.Loop b) ≡ (command_size b) = search (rules, the_lemmas) in
    size_command (command line (action.Loop b)) ∙ ap around is

pub size_while : (line : ℕ) (e : named.Expression) (b : Command) → command_size (command line (action.While e b)) ≡ around (beside (expression_size e) (command_size b))
size_while line e b =
    let is : size_of_action (action.While e b) ≡ (beside (expression_size e) (command_size b)) = search (rules, the_lemmas) in
    size_command (command line (action.While e b)) ∙ ap around is

pub size_if : (line : ℕ) (arms : List Guarded) (last : Option Command)
    → command_size (command line (action.If arms last)) ≡ around (beside (all_beside (map size_of_guarded arms)) (last_size (option_map command_size last)))
size_if line arms last =
    let is : size_of_action (action.If arms last) ≡ (beside (all_beside (map size_of_guarded arms)) (last_size (option_map command_size last))) = search (rules, the_lemmas) in
    size_command (command line (action.If arms last)) ∙ ap around is

pub size_case : (line : ℕ) (e : named.Expression) (arms : List Labelled) (last : Option Command)
    → command_size (command line (action.Case e arms last))
    ≡ around (beside (expression_size e) (beside (all_beside (map size_of_labelled arms)) (last_size (option_map command_size last))))
size_case line e arms last =
    let is : size_of_action (action.Case e arms last) ≡ (beside (expression_size e) (beside (all_beside (map size_of_labelled arms)) (last_size (option_map command_size last)))) = search (rules, the_lemmas) in
    size_command (command line (action.Case e arms last)) ∙ ap around is

pub size_input : (line : ℕ) (c : Use) (b : Command) → command_size (command line (action.Input c b)) ≡ around (command_size b)
size_input line c b =
    let is : size_of_action (action.Input c b) ≡ (command_size b) = search (rules, the_lemmas) in
    size_command (command line (action.Input c b)) ∙ ap around is

pub size_select : (line : ℕ) (arms : List Arm) → command_size (command line (action.Select arms)) ≡ around (all_beside (map size_of_arm arms))
size_select line arms =
    let is : size_of_action (action.Select arms) ≡ (all_beside (map size_of_arm arms)) = search (rules, the_lemmas) in
    size_command (command line (action.Select arms)) ∙ ap around is

pub size_arbitrate : (line : ℕ) (arms : List Arm) → command_size (command line (action.Arbitrate arms)) ≡ around (all_beside (map size_of_arm arms))
size_arbitrate line arms =
    let is : size_of_action (action.Arbitrate arms) ≡ (all_beside (map size_of_arm arms)) = search (rules, the_lemmas) in
    size_command (command line (action.Arbitrate arms)) ∙ ap around is

pub size_sequence : (line : ℕ) (cs : List Command) → command_size (command line (action.Sequence cs)) ≡ around (all_beside (map command_size cs))
size_sequence line cs =
    let is : size_of_action (action.Sequence cs) ≡ (all_beside (map command_size cs)) = search (rules, the_lemmas) in
    size_command (command line (action.Sequence cs)) ∙ ap around is

pub size_parallel : (line : ℕ) (cs : List Command) → command_size (command line (action.Parallel cs)) ≡ around (all_beside (map command_size cs))
size_parallel line cs =
    let is : size_of_action (action.Parallel cs) ≡ (all_beside (map command_size cs)) = search (rules, the_lemmas) in
    size_command (command line (action.Parallel cs)) ∙ ap around is

-- expressions
pub size_constant : (v : Word) → expression_size (named.Constant v) ≡ plain_nodes 1
size_constant v = search (rules, expressions.the_lemmas)

pub size_variable : (x : Use) (w : ℕ) → expression_size (named.Variable x w) ≡ plain_nodes 1
size_variable x w = search (rules, expressions.the_lemmas)

pub size_received : (c w : ℕ) → expression_size (named.Received c w) ≡ plain_nodes 1
size_received c w = search (rules, expressions.the_lemmas)

pub size_binary : (op : elaborated.Operator) (a b : named.Expression)
    → expression_size (expression.Binary op a b) ≡ beside (plain_nodes 1) (beside (expression_size a) (expression_size b))
size_binary op a b = search (rules, expressions.the_lemmas)

pub size_not : (a : named.Expression) → expression_size (expression.Not a) ≡ beside (plain_nodes 1) (expression_size a)
size_not a = search (rules, expressions.the_lemmas)

pub size_cast : (a : named.Expression) (w : ℕ) → expression_size (expression.Cast a w) ≡ beside (plain_nodes 1) (expression_size a)
size_cast a w = search (rules, expressions.the_lemmas)
