-- What every system opens with is well formed.
use Rattle.std.proofs.Common.{ℕ, zero, suc, ◌+◌, List, [], ◌∷◌, Some, None, map, sym, subst, arith}
use Rattle.syntax.specs.Lists.{Every}
use Rattle.value.specs.Word.{Word}
use Rattle.system.specs.Expression.{constant}
use Rattle.system.specs.Residual.{Residual, done, send, sync}
use Rattle.system.specs.Translation.{OnChannel, OnGuard, OnLabels, in_sequence, in_parallel, arms_of, action_layer, arm_layer, command_layer, guarded_layer, labelled_layer, residual_of, feed_from, syncs_from, branch_of, opening_residual}
use Rattle.system.specs.declared.command.Action.{Action}
use Rattle.system.specs.declared.command.Arm.{Arm}
use Rattle.system.specs.declared.command.Command.{Command}
use Rattle.system.specs.declared.command.Guarded.{Guarded}
use Rattle.system.specs.declared.command.Labelled.{Labelled}
use Rattle.system.specs.declared.command.Action.TheOpen.{Action-F}
use Rattle.system.specs.declared.command.Action.TheFolds.{map-Action, fold-Action, fold-Arm, fold-Guarded, fold-Labelled, fold-roll-Action, fold-roll-Arm, fold-roll-Command, fold-roll-Guarded, fold-roll-Labelled, ind-Command}
use Rattle.system.specs.declared.command.Action.TheViews.{roll-Action, roll-Arm, roll-Command, roll-Guarded, roll-Labelled}
use Rattle.system.specs.declared.system.System.{System}
use Rattle.system.specs.declared.system.Branch.{Branch}
use Rattle.system.specs.declared.system.Branch.TheVariants.{Feed, Drain, Syncs}
use Rattle.runs.proofs.public.WellFormed.{StartsFrom, BranchesFrom, WellFormed, WellFormedArms, starts-within, starts-mono, formed-within, branches-along, branches-mono, formed-along}

-- a sequence of well formed children starts from its first number
in_sequence-formed : (n : ℕ) (rs : List Residual) → Every WellFormed rs → WellFormed (in_sequence n rs) × StartsFrom n (in_sequence n rs)
in_sequence-formed n [] h = (tt, tt)
in_sequence-formed n (r ∷ rs) h =
    let rest = in_sequence-formed (suc n) rs h.1 in
    let later = starts-mono (n + 1) (suc n) (in_sequence (suc n) rs) (omega arith) rest.1 in
    (formed-within n r (in_sequence (suc n) rs) h.0 rest.0 later, starts-within n n r (in_sequence (suc n) rs) (omega arith) later)

-- a parallel of well formed children has branches from its first number
in_parallel-formed : (n : ℕ) (rs : List Residual) → Every WellFormed rs → WellFormed (in_parallel n rs) × BranchesFrom n (in_parallel n rs)
in_parallel-formed n [] h = (tt, tt)
in_parallel-formed n (r ∷ rs) h =
    let rest = in_parallel-formed (suc n) rs h.1 in
    let later = branches-mono (n + 1) (suc n) (in_parallel (suc n) rs) (omega arith) rest.1 in
    (formed-along n r (in_parallel (suc n) rs) h.0 rest.0 later, branches-along n n r (in_parallel (suc n) rs) (omega arith) later)

-- each element of a list is mapped to a well formed residual
every-mapped : {X : Type 0} (f : X → Residual) → ((x : X) → WellFormed (f x)) → (xs : List X) → Every WellFormed (map f xs)
every-mapped f h [] = tt
every-mapped f h (x ∷ xs) = (h x, every-mapped f h xs)

-- the environment's sends start from their first act
feed-formed : (k c w : ℕ) (vs : List Word) → WellFormed (feed_from k c w vs) × StartsFrom k (feed_from k c w vs)
feed-formed k c w [] = (tt, tt)
feed-formed k c w (v ∷ vs) =
    let rest = feed-formed (suc k) c w vs in
    let later = starts-mono (k + 1) (suc k) (feed_from (suc k) c w vs) (omega arith) rest.1 in (
      formed-within k (send c w (constant v)) (feed_from (suc k) c w vs) tt rest.0 later,
      starts-within k k (send c w (constant v)) (feed_from (suc k) c w vs) (omega arith) later,
    )

-- and so do its syncs
syncs-formed : (k c n : ℕ) → WellFormed (syncs_from k c n) × StartsFrom k (syncs_from k c n)
syncs-formed k c zero = (tt, tt)
syncs-formed k c (suc n) =
    let rest = syncs-formed (suc k) c n in
    let later = starts-mono (k + 1) (suc k) (syncs_from (suc k) c n) (omega arith) rest.1 in
    (formed-within k (sync c) (syncs_from (suc k) c n) tt rest.0 later, starts-within k k (sync c) (syncs_from (suc k) c n) (omega arith) later)

-- the environment's branch on each port is well formed
branch-formed : (b : Branch) → WellFormed (branch_of b)
branch-formed (Feed c w vs) = (feed-formed 0 c w vs).0
branch-formed (Drain c) = tt
branch-formed (Syncs c n) = (syncs-formed 0 c n).0

-- well formed arms, and a well formed else
arms_of-formed : (rs : List Residual) (r : Residual) → Every WellFormed rs → WellFormed r
    → WellFormedArms (arms_of rs None) × WellFormedArms (arms_of rs (Some r))
arms_of-formed [] r h k = (tt, (k, tt))
arms_of-formed (q ∷ rs) r h k = let rest = arms_of-formed rs r h.1 k in ((h.0, rest.0), (h.0, rest.1))

-- what each part of a command is to do
abbrev of_action : Action → Residual
of_action = fold-Action Residual OnChannel Residual OnGuard OnLabels action_layer arm_layer command_layer guarded_layer labelled_layer

-- what an arm on a channel is to do
abbrev of_arm : Arm → OnChannel
of_arm = fold-Arm Residual OnChannel Residual OnGuard OnLabels action_layer arm_layer command_layer guarded_layer labelled_layer

-- what an arm with a guard is to do
abbrev of_guarded : Guarded → OnGuard
of_guarded = fold-Guarded Residual OnChannel Residual OnGuard OnLabels action_layer arm_layer command_layer guarded_layer labelled_layer

-- what an arm with labels is to do
abbrev of_labelled : Labelled → OnLabels
of_labelled = fold-Labelled Residual OnChannel Residual OnGuard OnLabels action_layer arm_layer command_layer guarded_layer labelled_layer

-- what the parts are to do is well formed
abbrev FormedAction : Action → Type 0
FormedAction a = WellFormed (of_action a)

-- of an arm on a channel
abbrev FormedArm : Arm → Type 0
FormedArm a = WellFormed (of_arm a).body

-- of a command
abbrev FormedCommand : Command → Type 0
FormedCommand c = WellFormed (residual_of c)

-- of an arm with a guard
abbrev FormedGuarded : Guarded → Type 0
FormedGuarded a = WellFormed (of_guarded a).body

-- of an arm with labels
abbrev FormedLabelled : Labelled → Type 0
FormedLabelled a = WellFormed (of_labelled a).body

-- an element with its proof
abbrev With : {X : Type 0} → (X → Type 0) → Type 0
With {X = X} P = (x : X) × P x

-- arms in a list with the proofs that they are well formed
arms-formed : {X Z : Type 0} (P : X → Type 0) (f : X → Z) (body : Z → Residual) (r : Residual) → ((x : X) → P x → WellFormed (body (f x)))
    → (ys : List (With P)) → WellFormed r
    → WellFormedArms (arms_of (map body (map f (map (λ y. y.0) ys))) None) × WellFormedArms (arms_of (map body (map f (map (λ y. y.0) ys))) (Some r))
arms-formed P f body r h ys k = arms_of-formed (map body (map f (map (λ y. y.0) ys))) r (go ys) k
  where
    go : (ys : List (With P)) → Every WellFormed (map body (map f (map (λ y. y.0) ys)))
    go [] = tt
    go (y ∷ ys) = (h y.0 y.1, go ys)

-- children in a list with the proofs that they are well formed
children-formed : (ys : List (With FormedCommand)) → Every WellFormed (map residual_of (map (λ y. y.0) ys))
children-formed [] = tt
children-formed (y ∷ ys) = (y.1, children-formed ys)

-- one layer of a command over well formed parts
layer-formed : (y : Action-F (With FormedAction) (With FormedArm) (With FormedCommand) (With FormedGuarded) (With FormedLabelled)) →
    WellFormed (action_layer (map-Action Action Arm Command Guarded Labelled Residual OnChannel Residual OnGuard OnLabels of_action of_arm residual_of of_guarded of_labelled
    (map-Action (With FormedAction) (With FormedArm) (With FormedCommand) (With FormedGuarded) (With FormedLabelled) Action Arm Command Guarded Labelled
    (λ e. e.0) (λ e. e.0) (λ e. e.0) (λ e. e.0) (λ e. e.0) y)))
layer-formed Action-F.Continue = tt
layer-formed Action-F.Halt = tt
layer-formed (Action-F.Assign x w e) = tt
layer-formed (Action-F.Send c w e) = tt
layer-formed (Action-F.Receive c x) = tt
layer-formed (Action-F.Sync c) = tt
layer-formed (Action-F.Loop body) = body.1
layer-formed (Action-F.While e body) = body.1
layer-formed (Action-F.If arms None) = (arms-formed FormedGuarded of_guarded (λ a. a.body) done (λ x h. h) arms tt).0
layer-formed (Action-F.If arms (Some last)) = (arms-formed FormedGuarded of_guarded (λ a. a.body) (residual_of last.0) (λ x h. h) arms last.1).1
layer-formed (Action-F.Case e arms None) = (arms-formed FormedLabelled of_labelled (λ a. a.body) done (λ x h. h) arms tt).0
layer-formed (Action-F.Case e arms (Some last)) = (arms-formed FormedLabelled of_labelled (λ a. a.body) (residual_of last.0) (λ x h. h) arms last.1).1
layer-formed (Action-F.Input c body) = (body.1, tt)
layer-formed (Action-F.Select arms) = (arms-formed FormedArm of_arm (λ a. a.body) done (λ x h. h) arms tt).0
layer-formed (Action-F.Arbitrate arms) = (arms-formed FormedArm of_arm (λ a. a.body) done (λ x h. h) arms tt).0
layer-formed (Action-F.Sequence children) = (in_sequence-formed 0 (map residual_of (map (λ y. y.0) children)) (children-formed children)).0
layer-formed (Action-F.Parallel children) = (in_parallel-formed 0 (map residual_of (map (λ y. y.0) children)) (children-formed children)).0

-- what a command is to do is well formed
pub residual_of-formed : (c : Command) → WellFormed (residual_of c)
residual_of-formed =
    ind-Command FormedAction FormedArm FormedCommand FormedGuarded FormedLabelled
    (λ x y e. subst (λ z. WellFormed (of_action (roll-Action z))) e
    (subst WellFormed (sym (fold-roll-Action Residual OnChannel Residual OnGuard OnLabels action_layer arm_layer command_layer guarded_layer labelled_layer _)) (layer-formed y)))
    (λ x y e. subst (λ z. WellFormed (of_arm (roll-Arm z)).body) e
    (subst (λ (a : OnChannel). WellFormed a.body) (sym (fold-roll-Arm Residual OnChannel Residual OnGuard OnLabels action_layer arm_layer command_layer guarded_layer labelled_layer _)) y.body.1))
    (λ x y e. subst (λ z. WellFormed (residual_of (roll-Command z))) e
    (subst WellFormed (sym (fold-roll-Command Residual OnChannel Residual OnGuard OnLabels action_layer arm_layer command_layer guarded_layer labelled_layer _)) y.action.1))
    (λ x y e. subst (λ z. WellFormed (of_guarded (roll-Guarded z)).body) e
    (subst (λ (a : OnGuard). WellFormed a.body) (sym (fold-roll-Guarded Residual OnChannel Residual OnGuard OnLabels action_layer arm_layer command_layer guarded_layer labelled_layer _)) y.body.1))
    (λ x y e. subst (λ z. WellFormed (of_labelled (roll-Labelled z)).body) e
    (subst (λ (a : OnLabels). WellFormed a.body) (sym (fold-roll-Labelled Residual OnChannel Residual OnGuard OnLabels action_layer arm_layer command_layer guarded_layer labelled_layer _)) y.body.1))

-- every opening state of a system is well formed
pub opening-formed : (system : System) → WellFormed (opening_residual system)
opening-formed system =
    let environment = in_parallel-formed 1 (map branch_of system.environment) (every-mapped branch_of branch-formed system.environment) in
    formed-along 0 (residual_of system.main) (in_parallel 1 (map branch_of system.environment)) (residual_of-formed system.main) environment.0
    (branches-mono (0 + 1) 1 (in_parallel 1 (map branch_of system.environment)) (omega arith) environment.1)
