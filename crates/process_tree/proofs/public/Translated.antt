-- The tree of a system is to do what the system is to do.
use Rattle.std.proofs.Common.{◌≡◌, ℕ, zero, suc, ◌+◌, true, false, List, [], ◌∷◌, Some, None, map, refl, sym, ap, ap₂, ◌∙◌, subst, arith}
use Rattle.value.specs.Word.{Word}
use Rattle.system.specs.Expression.{constant, by_guards, by_labels}
use Rattle.system.specs.Residual.{Residual, arm, send, sync, test, choose, within, along}
use Rattle.system.specs.Translation as translation
use Rattle.system.specs.Translation.{in_sequence, in_parallel, arms_of, action_layer, arm_layer, command_layer, guarded_layer, labelled_layer, expression_of, residual_of, feed_from, syncs_from, branch_of, opening_residual}
use Rattle.system.specs.internal.ArmParts.{arm_of as to_do_arm, guarded_of as to_do_guarded, labelled_of as to_do_labelled}
use Rattle.system.specs.declared.command.Action.{Action}
use Rattle.system.specs.declared.command.Arm.{Arm}
use Rattle.system.specs.declared.command.Command.{Command}
use Rattle.system.specs.declared.command.Guarded.{Guarded}
use Rattle.system.specs.declared.command.Labelled.{Labelled}
use Rattle.system.specs.declared.command.Action.TheOpen.{Action-F}
use Rattle.system.specs.declared.command.Action.TheFolds.{map-Action, fold-Action, fold-roll-Action, fold-roll-Arm, fold-roll-Command, fold-roll-Guarded, fold-roll-Labelled, ind-Command}
use Rattle.system.specs.declared.command.Action.TheViews.{roll-Action, roll-Arm, roll-Command, roll-Guarded, roll-Labelled}
use Rattle.system.specs.declared.system.System.{System}
use Rattle.system.specs.declared.system.Branch.{Branch}
use Rattle.system.specs.declared.system.Branch.TheVariants.{Feed, Drain, Syncs}
use Rattle.process_tree.specs.Code.{Code}
use Rattle.process_tree.specs.Proc.{started}
use Rattle.process_tree.specs.Remaining.{again, residual, residual_arms, residual_sequence, residual_parallel, remaining}
use Rattle.process_tree.specs.Translation.{row_of, row_with, OnChannel, OnGuard, OnLabels, action_code, arm_code, command_code, guarded_code, labelled_code, code_of, feed_of, syncs_of, port_of, system_code}
use Rattle.process_tree.specs.internal.Arms.{guarded_of, labelled_of, arm_of}
use Rattle.process_tree.proofs.public.Puts.{left-started}

-- one more
next : (n : ℕ) → n + 1 ≡ suc n
next n = omega arith

-- an action in the tree
abbrev action_of : Action → Code
action_of = fold-Action Code OnChannel Code OnGuard OnLabels action_code arm_code command_code guarded_code labelled_code

-- what it is to do
abbrev to_do_action : Action → Residual
to_do_action = fold-Action Residual translation.OnChannel Residual translation.OnGuard translation.OnLabels action_layer arm_layer command_layer guarded_layer labelled_layer

-- the two agree
abbrev AgreeAction : Action → Type 0
AgreeAction a = residual (action_of a) ≡ to_do_action a

abbrev AgreeArm : Arm → Type 0
AgreeArm a = ((arm_of a).0 ≡ (to_do_arm a).channel) × (residual (arm_of a).1 ≡ (to_do_arm a).body)

abbrev AgreeCommand : Command → Type 0
AgreeCommand c = residual (code_of c) ≡ residual_of c

abbrev AgreeGuarded : Guarded → Type 0
AgreeGuarded a = ((guarded_of a).0 ≡ (to_do_guarded a).guard) × (residual (guarded_of a).1 ≡ (to_do_guarded a).body)

abbrev AgreeLabelled : Labelled → Type 0
AgreeLabelled a = ((labelled_of a).0 ≡ (to_do_labelled a).labels) × (residual (labelled_of a).1 ≡ (to_do_labelled a).body)

-- an element with its proof
abbrev With : {X : Type 0} → (X → Type 0) → Type 0
With {X = X} P = (x : X) × P x

-- what stands at the front of arms
fronts : {X Z W H : Type 0} (P : X → Type 0) (f : X → Z) (g : X → W) (h : Z → H) (i : W → H) → ((x : X) → P x → h (f x) ≡ i (g x))
    → (ys : List (With P)) → map h (map f (map (λ y. y.0) ys)) ≡ map i (map g (map (λ y. y.0) ys))
fronts P f g h i e [] = refl
fronts P f g h i e (y ∷ ys) = ap₂ (λ z zs. z ∷ zs) (e y.0 y.1) (fronts P f g h i e ys)

-- arms without an else
bodies : {X Z W : Type 0} (P : X → Type 0) (f : X → Z) (g : X → W) (h : Z → Code) (i : W → Residual) → ((x : X) → P x → residual (h (f x)) ≡ i (g x))
    → (ys : List (With P)) → residual_arms (row_with (map h (map f (map (λ y. y.0) ys))) None) ≡ arms_of (map i (map g (map (λ y. y.0) ys))) None
bodies P f g h i e [] = refl
bodies P f g h i e (y ∷ ys) = ap₂ arm (e y.0 y.1) (bodies P f g h i e ys)

-- arms with an else
bodies-else : {X Z W : Type 0} (P : X → Type 0) (f : X → Z) (g : X → W) (h : Z → Code) (i : W → Residual) → ((x : X) → P x → residual (h (f x)) ≡ i (g x))
    → (c : Code) (r : Residual) → residual c ≡ r
    → (ys : List (With P)) → residual_arms (row_with (map h (map f (map (λ y. y.0) ys))) (Some c)) ≡ arms_of (map i (map g (map (λ y. y.0) ys))) (Some r)
bodies-else P f g h i e c r k [] = ap (λ r. arms_of [] (Some r)) k
bodies-else P f g h i e c r k (y ∷ ys) = ap₂ arm (e y.0 y.1) (bodies-else P f g h i e c r k ys)

-- children one after another
sequence-agrees : (ys : List (With AgreeCommand)) (n : ℕ)
    → residual_sequence n (row_of (map code_of (map (λ y. y.0) ys))) ≡ in_sequence n (map residual_of (map (λ y. y.0) ys))
sequence-agrees [] n = refl
sequence-agrees (y ∷ ys) n =
    ap₂ (within n) y.1 (sequence-agrees ys (n + 1) ∙ ap (λ m. in_sequence m (map residual_of (map (λ y. y.0) ys))) (next n))

-- children side by side
parallel-agrees : (ys : List (With AgreeCommand)) (n : ℕ)
    → residual_parallel n (row_of (map code_of (map (λ y. y.0) ys))) ≡ in_parallel n (map residual_of (map (λ y. y.0) ys))
parallel-agrees [] n = refl
parallel-agrees (y ∷ ys) n =
    ap₂ (along n) y.1 (parallel-agrees ys (n + 1) ∙ ap (λ m. in_parallel m (map residual_of (map (λ y. y.0) ys))) (next n))

-- arms on channels
choose-agrees : (ys : List (With AgreeArm))
    → choose (map (λ a. a.0) (map arm_of (map (λ y. y.0) ys))) (residual_arms (row_with (map (λ a. a.1) (map arm_of (map (λ y. y.0) ys))) None))
    ≡ translation.choose_of (map to_do_arm (map (λ y. y.0) ys))
choose-agrees ys =
    ap₂ choose (fronts AgreeArm arm_of to_do_arm (λ a. a.0) (λ a. a.channel) (λ x h. h.0) ys)
    (bodies AgreeArm arm_of to_do_arm (λ a. a.1) (λ a. a.body) (λ x h. h.1) ys)

-- one layer of a command over parts that agree
layer-agrees : (y : Action-F (With AgreeAction) (With AgreeArm) (With AgreeCommand) (With AgreeGuarded) (With AgreeLabelled)) →
    residual (action_code (map-Action Action Arm Command Guarded Labelled Code OnChannel Code OnGuard OnLabels action_of arm_of code_of guarded_of labelled_of
    (map-Action (With AgreeAction) (With AgreeArm) (With AgreeCommand) (With AgreeGuarded) (With AgreeLabelled) Action Arm Command Guarded Labelled
    (λ e. e.0) (λ e. e.0) (λ e. e.0) (λ e. e.0) (λ e. e.0) y)))
    ≡ action_layer (map-Action Action Arm Command Guarded Labelled Residual translation.OnChannel Residual translation.OnGuard translation.OnLabels
    to_do_action to_do_arm residual_of to_do_guarded to_do_labelled
    (map-Action (With AgreeAction) (With AgreeArm) (With AgreeCommand) (With AgreeGuarded) (With AgreeLabelled) Action Arm Command Guarded Labelled
    (λ e. e.0) (λ e. e.0) (λ e. e.0) (λ e. e.0) (λ e. e.0) y))
layer-agrees Action-F.Continue = refl
layer-agrees Action-F.Halt = refl
layer-agrees (Action-F.Assign x w e) = refl
layer-agrees (Action-F.Send c w e) = refl
layer-agrees (Action-F.Receive c x) = refl
layer-agrees (Action-F.Sync c) = refl
layer-agrees (Action-F.Loop body) = ap (again 0 None) body.1
layer-agrees (Action-F.While e body) = ap (again 0 (Some (expression_of e))) body.1
layer-agrees (Action-F.If arms None) =
    ap₂ test (ap (λ gs. by_guards gs false) (fronts AgreeGuarded guarded_of to_do_guarded (λ a. a.0) (λ a. a.guard) (λ x h. h.0) arms))
    (bodies AgreeGuarded guarded_of to_do_guarded (λ a. a.1) (λ a. a.body) (λ x h. h.1) arms)
layer-agrees (Action-F.If arms (Some last)) =
    ap₂ test (ap (λ gs. by_guards gs true) (fronts AgreeGuarded guarded_of to_do_guarded (λ a. a.0) (λ a. a.guard) (λ x h. h.0) arms))
    (bodies-else AgreeGuarded guarded_of to_do_guarded (λ a. a.1) (λ a. a.body) (λ x h. h.1) (code_of last.0) (residual_of last.0) last.1 arms)
layer-agrees (Action-F.Case e arms None) =
    ap₂ test (ap (λ ls. by_labels (expression_of e) ls false) (fronts AgreeLabelled labelled_of to_do_labelled (λ a. a.0) (λ a. a.labels) (λ x h. h.0) arms))
    (bodies AgreeLabelled labelled_of to_do_labelled (λ a. a.1) (λ a. a.body) (λ x h. h.1) arms)
layer-agrees (Action-F.Case e arms (Some last)) =
    ap₂ test (ap (λ ls. by_labels (expression_of e) ls true) (fronts AgreeLabelled labelled_of to_do_labelled (λ a. a.0) (λ a. a.labels) (λ x h. h.0) arms))
    (bodies-else AgreeLabelled labelled_of to_do_labelled (λ a. a.1) (λ a. a.body) (λ x h. h.1) (code_of last.0) (residual_of last.0) last.1 arms)
layer-agrees (Action-F.Input c body) = ap (λ r. choose (c.number ∷ []) (arms_of (r ∷ []) None)) body.1
layer-agrees (Action-F.Select arms) = choose-agrees arms
layer-agrees (Action-F.Arbitrate arms) = choose-agrees arms
layer-agrees (Action-F.Sequence children) = sequence-agrees children 0
layer-agrees (Action-F.Parallel children) = parallel-agrees children 0

-- a command of the tree is to do what the command of the system is to do
pub commands-agree : (c : Command) → residual (code_of c) ≡ residual_of c
commands-agree =
    ind-Command AgreeAction AgreeArm AgreeCommand AgreeGuarded AgreeLabelled
    (λ x y e. subst (λ z. AgreeAction (roll-Action z)) e
    (ap residual (fold-roll-Action Code OnChannel Code OnGuard OnLabels action_code arm_code command_code guarded_code labelled_code _)
    ∙ layer-agrees y
    ∙ sym (fold-roll-Action Residual translation.OnChannel Residual translation.OnGuard translation.OnLabels action_layer arm_layer command_layer guarded_layer labelled_layer _)))
    (λ x y e. subst (λ z. AgreeArm (roll-Arm z)) e (
      ap (λ (a : OnChannel). a.0) (fold-roll-Arm Code OnChannel Code OnGuard OnLabels action_code arm_code command_code guarded_code labelled_code _)
          ∙ sym (ap (λ (a : translation.OnChannel). a.channel) (fold-roll-Arm Residual translation.OnChannel Residual translation.OnGuard translation.OnLabels action_layer arm_layer command_layer guarded_layer labelled_layer _)),
      ap (λ (a : OnChannel). residual a.1) (fold-roll-Arm Code OnChannel Code OnGuard OnLabels action_code arm_code command_code guarded_code labelled_code _)
          ∙ y.body.1
          ∙ sym (ap (λ (a : translation.OnChannel). a.body) (fold-roll-Arm Residual translation.OnChannel Residual translation.OnGuard translation.OnLabels action_layer arm_layer command_layer guarded_layer labelled_layer _)),
    ))
    (λ x y e. subst (λ z. AgreeCommand (roll-Command z)) e
    (ap residual (fold-roll-Command Code OnChannel Code OnGuard OnLabels action_code arm_code command_code guarded_code labelled_code _)
    ∙ y.action.1
    ∙ sym (fold-roll-Command Residual translation.OnChannel Residual translation.OnGuard translation.OnLabels action_layer arm_layer command_layer guarded_layer labelled_layer _)))
    (λ x y e. subst (λ z. AgreeGuarded (roll-Guarded z)) e (
      ap (λ (a : OnGuard). a.0) (fold-roll-Guarded Code OnChannel Code OnGuard OnLabels action_code arm_code command_code guarded_code labelled_code _)
          ∙ sym (ap (λ (a : translation.OnGuard). a.guard) (fold-roll-Guarded Residual translation.OnChannel Residual translation.OnGuard translation.OnLabels action_layer arm_layer command_layer guarded_layer labelled_layer _)),
      ap (λ (a : OnGuard). residual a.1) (fold-roll-Guarded Code OnChannel Code OnGuard OnLabels action_code arm_code command_code guarded_code labelled_code _)
          ∙ y.body.1
          ∙ sym (ap (λ (a : translation.OnGuard). a.body) (fold-roll-Guarded Residual translation.OnChannel Residual translation.OnGuard translation.OnLabels action_layer arm_layer command_layer guarded_layer labelled_layer _)),
    ))
    (λ x y e. subst (λ z. AgreeLabelled (roll-Labelled z)) e (
      ap (λ (a : OnLabels). a.0) (fold-roll-Labelled Code OnChannel Code OnGuard OnLabels action_code arm_code command_code guarded_code labelled_code _)
          ∙ sym (ap (λ (a : translation.OnLabels). a.labels) (fold-roll-Labelled Residual translation.OnChannel Residual translation.OnGuard translation.OnLabels action_layer arm_layer command_layer guarded_layer labelled_layer _)),
      ap (λ (a : OnLabels). residual a.1) (fold-roll-Labelled Code OnChannel Code OnGuard OnLabels action_code arm_code command_code guarded_code labelled_code _)
          ∙ y.body.1
          ∙ sym (ap (λ (a : translation.OnLabels). a.body) (fold-roll-Labelled Residual translation.OnChannel Residual translation.OnGuard translation.OnLabels action_layer arm_layer command_layer guarded_layer labelled_layer _)),
    ))

-- the environment's sends
feed-agrees : (n c w : ℕ) (vs : List Word) → residual_sequence n (feed_of c w vs) ≡ feed_from n c w vs
feed-agrees n c w [] = refl
feed-agrees n c w (v ∷ vs) = ap (within n (send c w (constant v))) (feed-agrees (n + 1) c w vs ∙ ap (λ m. feed_from m c w vs) (next n))

-- and its syncs
syncs-agree : (n c m : ℕ) → residual_sequence n (syncs_of c m) ≡ syncs_from n c m
syncs-agree n c zero = refl
syncs-agree n c (suc m) = ap (within n (sync c)) (syncs-agree (n + 1) c m ∙ ap (λ i. syncs_from i c m) (next n))

-- a port
port-agrees : (b : Branch) → residual (port_of b) ≡ branch_of b
port-agrees (Feed c w vs) = feed-agrees 0 c w vs
port-agrees (Drain c) = refl
port-agrees (Syncs c n) = syncs-agree 0 c n

-- the ports
ports-agree : (n : ℕ) (bs : List Branch) → residual_parallel n (row_of (map port_of bs)) ≡ in_parallel n (map branch_of bs)
ports-agree n [] = refl
ports-agree n (b ∷ bs) = ap₂ (along n) (port-agrees b) (ports-agree (n + 1) bs ∙ ap (λ m. in_parallel m (map branch_of bs)) (next n))

-- of the tree of a system that has made no move is left what the system opens with
pub systems-open-alike : (system : System) → remaining [] (started (system_code system)) ≡ opening_residual system
systems-open-alike system =
    left-started (system_code system) [] ∙ ap₂ (along 0) (commands-agree system.main) (ports-agree 1 system.environment)
