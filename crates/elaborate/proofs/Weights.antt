-- How much there is to do before a command is made, its calls included: what each recursion has less of.
use Rattle.std.proofs.Common.{ℕ, ◌+◌, ◌≤◌, ◌<◌, ◌≡◌, suc, zero, List, [], ◌∷◌, Option, Some, None, map, take, length, get_or, arith, rules, ap}
use Rattle.types.specs.declared.tree.Command.{Command}
use Rattle.types.specs.declared.tree.Guarded.{Guarded}
use Rattle.types.specs.declared.tree.Labelled.{Labelled}
use Rattle.types.specs.declared.tree.Arm.{Arm}
use Rattle.types.specs.declared.tree.Procedure.{Procedure}
use Rattle.types.specs.declared.tree.Action.TheOpen.{Action-F, Arm-F, Command-F, Guarded-F, Labelled-F}
use Rattle.types.specs.declared.tree.Action.TheFolds.{fold-Command, fold-Guarded, fold-Labelled, fold-Arm, the_lemmas}

-- all numbers together
abbrev pub total : List ℕ → ℕ
total [] = 0
total (n ∷ ns) = n + total ns

abbrev pub last_weight : Option ℕ → ℕ
last_weight None = 0
last_weight (Some n) = n

-- a command weighs more than its parts and a list of them
abbrev pub action_weight : Action-F ℕ ℕ ℕ ℕ ℕ → ℕ
action_weight Action-F.Continue = 2
action_weight Action-F.Halt = 2
action_weight (Action-F.Assign x w e) = 2
action_weight (Action-F.Send c w e) = 2
action_weight (Action-F.Receive c x) = 2
action_weight (Action-F.Sync c) = 2
action_weight (Action-F.Loop body) = body + 2
action_weight (Action-F.While e body) = body + 3
action_weight (Action-F.If arms last) = total arms + last_weight last + 3
action_weight (Action-F.Case e arms last) = total arms + last_weight last + 3
action_weight (Action-F.Input c body) = body + 3
action_weight (Action-F.Select arms) = total arms + 3
action_weight (Action-F.Arbitrate arms) = total arms + 3
action_weight (Action-F.Sequence children) = total children + 3
action_weight (Action-F.Parallel children) = total children + 3
action_weight (Action-F.Call p arguments) = 2

abbrev pub arm_weight : Arm-F ℕ ℕ ℕ ℕ ℕ → ℕ
arm_weight a = a.body

abbrev pub command_weight : Command-F ℕ ℕ ℕ ℕ ℕ → ℕ
command_weight c = c.action

abbrev pub guarded_weight : Guarded-F ℕ ℕ ℕ ℕ ℕ → ℕ
guarded_weight a = a.body

abbrev pub labelled_weight : Labelled-F ℕ ℕ ℕ ℕ ℕ → ℕ
labelled_weight a = a.body

abbrev pub weight : Command → ℕ
weight = fold-Command ℕ ℕ ℕ ℕ ℕ action_weight arm_weight command_weight guarded_weight labelled_weight

abbrev pub weight_of_guarded : Guarded → ℕ
weight_of_guarded = fold-Guarded ℕ ℕ ℕ ℕ ℕ action_weight arm_weight command_weight guarded_weight labelled_weight

abbrev pub weight_of_labelled : Labelled → ℕ
weight_of_labelled = fold-Labelled ℕ ℕ ℕ ℕ ℕ action_weight arm_weight command_weight guarded_weight labelled_weight

abbrev pub weight_of_arm : Arm → ℕ
weight_of_arm = fold-Arm ℕ ℕ ℕ ℕ ℕ action_weight arm_weight command_weight guarded_weight labelled_weight

-- the bodies of procedures
abbrev pub weights : List Procedure → ℕ
weights [] = 0
weights (p ∷ ps) = weight p.body + weights ps

-- a procedure and those before it weigh no more than all
pub weights_before : (ps : List Procedure) (k : ℕ) (p : Procedure) → k < length ps
    → weight (get_or ps k p).body + weights (take k ps) ≤ weights ps
weights_before [] k p h = absurd (omega (arith, h))
weights_before (q ∷ ps) zero p h = let r : weight q.body + 0 ≤ weight q.body + weights ps = omega arith in r
weights_before (q ∷ ps) (suc k) p h =
    let lt : k < length ps = omega (arith, h) in
    let r : weight (get_or ps k p).body + (weight q.body + weights (take k ps)) ≤ weight q.body + weights ps = omega (arith, weights_before ps k p lt) in
    r

-- an element weighs no more than all
pub element_weight : {X : Type 0} (f : X → ℕ) (xs : List X) (i : ℕ) (x : X) → i < length xs → f (get_or xs i x) ≤ total (map f xs)
element_weight f [] i x h = absurd (omega (arith, h))
element_weight f (y ∷ ys) zero x h = let r : f y ≤ f y + total (map f ys) = omega arith in r
element_weight f (y ∷ ys) (suc i) x h =
    let lt : i < length ys = omega (arith, h) in
    let r : f (get_or ys i x) ≤ f y + total (map f ys) = omega (arith, element_weight f ys i x lt) in r

-- an arm weighs what its body does
pub arm_weighs : (a : Arm) → weight_of_arm a ≡ weight a.body
arm_weighs a = search (rules, the_lemmas)

pub guarded_weighs : (a : Guarded) → weight_of_guarded a ≡ weight a.body
guarded_weighs a = search (rules, the_lemmas)

pub labelled_weighs : (a : Labelled) → weight_of_labelled a ≡ weight a.body
labelled_weighs a = search (rules, the_lemmas)

-- an element that is the one at its place
pub item_weight : {X : Type 0} (f : X → ℕ) (xs : List X) (i : ℕ) (x : X) → i < length xs → x ≡ get_or xs i x → f x ≤ total (map f xs)
item_weight f xs i x h is = omega (arith, element_weight f xs i x h, ap f is)

-- the body of an arm
pub arm_item : (xs : List Arm) (i : ℕ) (x : Arm) → i < length xs → x ≡ get_or xs i x → weight x.body ≤ total (map weight_of_arm xs)
arm_item xs i x h is = omega (arith, item_weight weight_of_arm xs i x h is, arm_weighs x)

pub guarded_item : (xs : List Guarded) (i : ℕ) (x : Guarded) → i < length xs → x ≡ get_or xs i x → weight x.body ≤ total (map weight_of_guarded xs)
guarded_item xs i x h is = omega (arith, item_weight weight_of_guarded xs i x h is, guarded_weighs x)

pub labelled_item : (xs : List Labelled) (i : ℕ) (x : Labelled) → i < length xs → x ≡ get_or xs i x → weight x.body ≤ total (map weight_of_labelled xs)
labelled_item xs i x h is = omega (arith, item_weight weight_of_labelled xs i x h is, labelled_weighs x)

-- a procedure that is the one at its place
pub entered_weight : (ps : List Procedure) (k : ℕ) (p : Procedure) → k < length ps → p ≡ get_or ps k p
    → weight p.body + weights (take k ps) ≤ weights ps
entered_weight ps k p h is =
    let e : weight p.body ≡ weight (get_or ps k p).body = ap (λ (q : Procedure). weight q.body) is in omega (arith, weights_before ps k p h, e)
