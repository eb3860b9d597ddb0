-- What a command is to do fits the command, at each place and whichever arms are taken.
use Rattle.std.proofs.Common.{◌≡◌, ◌∙◌, ℕ, suc, ◌+◌, ◌*◌, ◌%◌, ◌==◌, List, [], ◌∷◌, ◌++◌, Bool, true, false, if◌then◌else◌, map, length, Option, Some, None, refl, sym, ap, subst, arith, eq-eqb}
use Rattle.std.specs.Prelude.{slice_get, not, option_map, option_and_then}
use Rattle.std.specs.Option.{option_or}
use Rattle.std.proofs.lemmas.List.{length-map}
use Rattle.std.proofs.lemmas.Option.{slice_get_past}
use Rattle.address.specs.declared.Entry.TheVariants.{Ordered, Branch}
use Rattle.system.specs.Residual.{Residual}
use Rattle.system.specs.Translation.{OnChannel, OnGuard, OnLabels, in_sequence, in_parallel, arms_of, action_layer, arm_layer, command_layer, guarded_layer, labelled_layer, residual_of}
use Rattle.system.specs.internal.ArmParts.{arm_of, guarded_of, labelled_of}
use Rattle.system.specs.declared.command.Action.{Action, out-Action}
use Rattle.system.specs.declared.command.Arm.{Arm, out-Arm}
use Rattle.system.specs.declared.command.Command.{Command}
use Rattle.system.specs.declared.command.Guarded.{Guarded, out-Guarded}
use Rattle.system.specs.declared.command.Labelled.{Labelled, out-Labelled}
use Rattle.system.specs.declared.command.Action.TheOpen.{Action-F, Arm-F, Command-F, Guarded-F, Labelled-F}
use Rattle.system.specs.declared.command.Action.TheFolds.{map-Action, fold-Action, fold-roll-Action, fold-roll-Arm, fold-roll-Command, fold-roll-Guarded, fold-roll-Labelled, ind-Command}
use Rattle.system.specs.declared.command.Action.TheViews.{roll-Action, roll-Arm, roll-Command, roll-Guarded, roll-Labelled, out-roll-Action, out-roll-Arm, out-roll-Command, out-roll-Guarded, out-roll-Labelled}
use Rattle.system_places.specs.TakenArms.{ArmsByPlace, Doing, doing, is_place, else_at, guarded_at, labelled_at, channel_arm_at, part}
use Rattle.runs.specs.Moves.{Place}
use Rattle.acting_places.proofs.Placed.{Fits, FitArms, within-fits, along-fits}

-- what an action is to do
abbrev pub action-residual : Action → Residual
action-residual = fold-Action Residual OnChannel Residual OnGuard OnLabels action_layer arm_layer command_layer guarded_layer labelled_layer

-- at each place, whichever arms are taken
abbrev FitsAt : Command → Residual → Type 0
FitsAt c r = (t : ArmsByPlace) (p : Place) → Fits t p c r

abbrev HoldsAction : Action → Type 0
HoldsAction a = (t : ArmsByPlace) (p : Place) (c : Command) → doing c ≡ out-Action a → Fits t p c (action-residual a)

abbrev HoldsArm : Arm → Type 0
HoldsArm a = FitsAt (out-Arm a).body (arm_of a).body

abbrev HoldsCommand : Command → Type 0
HoldsCommand c = FitsAt c (residual_of c)

abbrev HoldsGuarded : Guarded → Type 0
HoldsGuarded a = FitsAt (out-Guarded a).body (guarded_of a).body

abbrev HoldsLabelled : Labelled → Type 0
HoldsLabelled a = FitsAt (out-Labelled a).body (labelled_of a).body

-- an element with its proof
abbrev With : {X : Type 0} → (X → Type 0) → Type 0
With {X = X} P = (x : X) × P x

-- numbers of turns and of their bodies
even : (n : ℕ) → ((2 * n) % 2 == 0) ≡ true
even n = let z : (2 * n) % 2 ≡ 0 = omega arith in ap (λ (k : ℕ). k == 0) z

odd : (n : ℕ) → not ((2 * n + 1) % 2 == 0) ≡ true
odd n = let z : (2 * n + 1) % 2 ≡ 1 = omega arith in ap (λ (k : ℕ). not (k == 0)) z

if-true : {X : Type 0} (b : Bool) (x y : X) → b ≡ true → (if b then x else y) ≡ x
if-true true x y h = refl
if-true false x y h = cc

-- children one after another
sequence-fits : (t : ArmsByPlace) (p : Place) (c : Command) (ys : List (With HoldsCommand)) (j : ℕ) →
    ((k : ℕ) (d : Command) → slice_get (map (λ y. y.0) ys) k ≡ Some d → part (t p) (doing c) (Ordered (j + k)) ≡ Some d) →
    Fits t p c (in_sequence j (map residual_of (map (λ y. y.0) ys)))
sequence-fits t p c [] j there = tt
sequence-fits t p c (y ∷ ys) j there =
    let first : j + 0 ≡ j = omega arith in
    within-fits t p c j (residual_of y.0) (in_sequence (suc j) (map residual_of (map (λ z. z.0) ys)))
    (record {
      command = y.0;
      there = subst (λ (k : ℕ). part (t p) (doing c) (Ordered k) ≡ Some y.0) first (there 0 y.0 refl);
      holds = y.1 t (p ++ Ordered j ∷ []);
    })
    (sequence-fits t p c ys (suc j) (λ k d at.
    let next : j + suc k ≡ suc j + k = omega arith in
    subst (λ (n : ℕ). part (t p) (doing c) (Ordered n) ≡ Some d) next (there (suc k) d at)))

-- children side by side
parallel-fits : (t : ArmsByPlace) (p : Place) (c : Command) (ys : List (With HoldsCommand)) (j : ℕ) →
    ((k : ℕ) (d : Command) → slice_get (map (λ y. y.0) ys) k ≡ Some d → part (t p) (doing c) (Branch (j + k)) ≡ Some d) →
    Fits t p c (in_parallel j (map residual_of (map (λ y. y.0) ys)))
parallel-fits t p c [] j there = tt
parallel-fits t p c (y ∷ ys) j there =
    let first : j + 0 ≡ j = omega arith in
    along-fits t p c j (residual_of y.0) (in_parallel (suc j) (map residual_of (map (λ z. z.0) ys)))
    (record {
      command = y.0;
      there = subst (λ (k : ℕ). part (t p) (doing c) (Branch k) ≡ Some y.0) first (there 0 y.0 refl);
      holds = y.1 t (p ++ Branch j ∷ []);
    })
    (parallel-fits t p c ys (suc j) (λ k d at.
    let next : j + suc k ≡ suc j + k = omega arith in
    subst (λ (n : ℕ). part (t p) (doing c) (Branch n) ≡ Some d) next (there (suc k) d at)))

-- arm k of the choice stands at p.1 where it was taken
abbrev ArmThere : ArmsByPlace → Place → Command → (ℕ → Option Command) → Type 0
ArmThere t p c f = (k : ℕ) (d : Command) → t p ≡ Some k → f k ≡ Some d → part (t p) (doing c) (Ordered 1) ≡ Some d

-- arms in order, the first numbered j
rows-fit : {X W : Type 0} (P : X → Type 0) (body : X → Command) (g : X → W) (i : W → Residual) (t : ArmsByPlace) (p : Place) (c : Command) (f : ℕ → Option Command) →
    ArmThere t p c f → ((x : X) → P x → FitsAt (body x) (i (g x))) → (ys : List (With P)) (j : ℕ) (last : Option Residual) →
    ((k : ℕ) (x : X) → slice_get (map (λ y. y.0) ys) k ≡ Some x → f (j + k) ≡ Some (body x)) →
    FitArms t p c (j + length ys) (arms_of [] last) → FitArms t p c j (arms_of (map i (map g (map (λ y. y.0) ys))) last)
rows-fit P body g i t p c f there each [] j last at rest = let same : j + 0 ≡ j = omega arith in subst (λ (k : ℕ). FitArms t p c k (arms_of [] last)) same rest
rows-fit P body g i t p c f there each (y ∷ ys) j last at rest =
    let first : j + 0 ≡ j = omega arith in
    let count : j + length (y ∷ ys) ≡ suc j + length ys = omega arith in (
      (λ is. record {
        command = body y.0;
        there = there j (body y.0) is (subst (λ (k : ℕ). f k ≡ Some (body y.0)) first (at 0 y.0 refl));
        holds = each y.0 y.1 t (p ++ Ordered 1 ∷ []);
      }),
      rows-fit P body g i t p c f there each ys (suc j) last
          (λ k x is. let next : j + suc k ≡ suc j + k = omega arith in subst (λ (n : ℕ). f n ≡ Some (body x)) next (at (suc k) x is))
          (subst (λ (k : ℕ). FitArms t p c k (arms_of [] last)) count rest),
    )

-- the arm of this number
arm-held : {X : Type 0} (body : X → Command) (xs : List X) (last : Option Command) (k : ℕ) (x : X) → slice_get xs k ≡ Some x →
    option_or (option_map body (slice_get xs k)) (else_at (length xs) last k) ≡ Some (body x)
arm-held body xs last k x at = ap (λ o. option_or (option_map body o) (else_at (length xs) last k)) at

-- the `else`, behind all arms
else-held : {X : Type 0} (body : X → Command) (xs : List X) (d : Command) (k : ℕ) → k ≡ length xs →
    option_or (option_map body (slice_get xs k)) (else_at (length xs) (Some d) k) ≡ Some d
else-held body xs d k is =
    ap (λ o. option_or (option_map body o) (else_at (length xs) (Some d) k)) (slice_get_past xs k (omega arith))
    ∙ if-true (k == length xs) (Some d) None (eq-eqb k (length xs) is)

taken-one : (f : ℕ → Option Command) (o : Option ℕ) (k : ℕ) (d : Command) → o ≡ Some k → f k ≡ Some d → option_and_then f o ≡ Some d
taken-one f o k d is at = ap (option_and_then f) is ∙ at

-- behind all arms
behind : {X : Type 0} (P : X → Type 0) (ys : List (With P)) → 0 + length ys ≡ length (map (λ y. y.0) ys)
behind P ys = let mapped : length (map (λ y. y.0) ys) ≡ length ys = length-map ys (λ y. y.0) in omega arith

-- one layer of a command over parts that fit
layer-fits : (y : Action-F (With HoldsAction) (With HoldsArm) (With HoldsCommand) (With HoldsGuarded) (With HoldsLabelled)) (t : ArmsByPlace) (p : Place) (c : Command) →
    doing c ≡ map-Action (With HoldsAction) (With HoldsArm) (With HoldsCommand) (With HoldsGuarded) (With HoldsLabelled) Action Arm Command Guarded Labelled
    (λ e. e.0) (λ e. e.0) (λ e. e.0) (λ e. e.0) (λ e. e.0) y →
    Fits t p c (action_layer (map-Action Action Arm Command Guarded Labelled Residual OnChannel Residual OnGuard OnLabels
    action-residual arm_of residual_of guarded_of labelled_of
    (map-Action (With HoldsAction) (With HoldsArm) (With HoldsCommand) (With HoldsGuarded) (With HoldsLabelled) Action Arm Command Guarded Labelled
    (λ e. e.0) (λ e. e.0) (λ e. e.0) (λ e. e.0) (λ e. e.0) y)))
layer-fits Action-F.Continue t p c is = tt
layer-fits Action-F.Halt t p c is = tt
layer-fits (Action-F.Assign x w e) t p c is = ap (λ (d : Doing). is_place d []) is
layer-fits (Action-F.Send x w e) t p c is = (ap (λ (d : Doing). is_place d (Ordered 0 ∷ [])) is, ap (λ (d : Doing). is_place d (Ordered 1 ∷ [])) is)
layer-fits (Action-F.Receive x y) t p c is = ap (λ (d : Doing). is_place d []) is
layer-fits (Action-F.Sync x) t p c is = (ap (λ (d : Doing). is_place d (Ordered 0 ∷ [])) is, ap (λ (d : Doing). is_place d (Ordered 1 ∷ [])) is)
layer-fits (Action-F.Loop body) t p c is = λ n le. (
  ap (λ (d : Doing). is_place d (Ordered (2 * n) ∷ [])) is ∙ even n,
  record {
    command = body.0;
    there = ap (λ (d : Doing). part (t p) d (Ordered (2 * n + 1))) is ∙ if-true (not ((2 * n + 1) % 2 == 0)) (Some body.0) None (odd n);
    holds = body.1 t (p ++ Ordered (2 * n + 1) ∷ []);
  },
)
layer-fits (Action-F.While e body) t p c is = λ n le. (
  ap (λ (d : Doing). is_place d (Ordered (2 * n) ∷ [])) is ∙ even n,
  record {
    command = body.0;
    there = ap (λ (d : Doing). part (t p) d (Ordered (2 * n + 1))) is ∙ if-true (not ((2 * n + 1) % 2 == 0)) (Some body.0) None (odd n);
    holds = body.1 t (p ++ Ordered (2 * n + 1) ∷ []);
  },
)
layer-fits (Action-F.If arms None) t p c is = (
  ap (λ (d : Doing). is_place d (Ordered 0 ∷ [])) is,
  rows-fit HoldsGuarded (λ a. (out-Guarded a).body) guarded_of (λ a. a.body) t p c (guarded_at (map (λ y. y.0) arms) None)
      (λ k d one at. ap (λ (x : Doing). part (t p) x (Ordered 1)) is ∙ taken-one (guarded_at (map (λ y. y.0) arms) None) (t p) k d one at)
      (λ x h. h) arms 0 None
      (λ k x at. let same : k ≡ 0 + k = omega arith in
      subst (λ (n : ℕ). guarded_at (map (λ y. y.0) arms) None n ≡ Some (out-Guarded x).body) same (arm-held (λ a. (out-Guarded a).body) (map (λ y. y.0) arms) None k x at))
      tt,
)
layer-fits (Action-F.If arms (Some last)) t p c is = (
  ap (λ (d : Doing). is_place d (Ordered 0 ∷ [])) is,
  rows-fit HoldsGuarded (λ a. (out-Guarded a).body) guarded_of (λ a. a.body) t p c (guarded_at (map (λ y. y.0) arms) (Some last.0))
      (λ k d one at. ap (λ (x : Doing). part (t p) x (Ordered 1)) is ∙ taken-one (guarded_at (map (λ y. y.0) arms) (Some last.0)) (t p) k d one at)
      (λ x h. h) arms 0 (Some (residual_of last.0))
      (λ k x at. let same : k ≡ 0 + k = omega arith in
      subst (λ (n : ℕ). guarded_at (map (λ y. y.0) arms) (Some last.0) n ≡ Some (out-Guarded x).body) same
      (arm-held (λ a. (out-Guarded a).body) (map (λ y. y.0) arms) (Some last.0) k x at)) (
        (λ one. record {
          command = last.0;
          there = ap (λ (x : Doing). part (t p) x (Ordered 1)) is
              ∙ taken-one (guarded_at (map (λ y. y.0) arms) (Some last.0)) (t p) (0 + length arms) last.0 one
              (else-held (λ a. (out-Guarded a).body) (map (λ y. y.0) arms) last.0 (0 + length arms) (behind HoldsGuarded arms));
          holds = last.1 t (p ++ Ordered 1 ∷ []);
        }),
        tt,
      ),
)
layer-fits (Action-F.Case e arms None) t p c is = (
  ap (λ (d : Doing). is_place d (Ordered 0 ∷ [])) is,
  rows-fit HoldsLabelled (λ a. (out-Labelled a).body) labelled_of (λ a. a.body) t p c (labelled_at (map (λ y. y.0) arms) None)
      (λ k d one at. ap (λ (x : Doing). part (t p) x (Ordered 1)) is ∙ taken-one (labelled_at (map (λ y. y.0) arms) None) (t p) k d one at)
      (λ x h. h) arms 0 None
      (λ k x at. let same : k ≡ 0 + k = omega arith in
      subst (λ (n : ℕ). labelled_at (map (λ y. y.0) arms) None n ≡ Some (out-Labelled x).body) same (arm-held (λ a. (out-Labelled a).body) (map (λ y. y.0) arms) None k x at))
      tt,
)
layer-fits (Action-F.Case e arms (Some last)) t p c is = (
  ap (λ (d : Doing). is_place d (Ordered 0 ∷ [])) is,
  rows-fit HoldsLabelled (λ a. (out-Labelled a).body) labelled_of (λ a. a.body) t p c (labelled_at (map (λ y. y.0) arms) (Some last.0))
      (λ k d one at. ap (λ (x : Doing). part (t p) x (Ordered 1)) is ∙ taken-one (labelled_at (map (λ y. y.0) arms) (Some last.0)) (t p) k d one at)
      (λ x h. h) arms 0 (Some (residual_of last.0))
      (λ k x at. let same : k ≡ 0 + k = omega arith in
      subst (λ (n : ℕ). labelled_at (map (λ y. y.0) arms) (Some last.0) n ≡ Some (out-Labelled x).body) same
      (arm-held (λ a. (out-Labelled a).body) (map (λ y. y.0) arms) (Some last.0) k x at)) (
        (λ one. record {
          command = last.0;
          there = ap (λ (x : Doing). part (t p) x (Ordered 1)) is
              ∙ taken-one (labelled_at (map (λ y. y.0) arms) (Some last.0)) (t p) (0 + length arms) last.0 one
              (else-held (λ a. (out-Labelled a).body) (map (λ y. y.0) arms) last.0 (0 + length arms) (behind HoldsLabelled arms));
          holds = last.1 t (p ++ Ordered 1 ∷ []);
        }),
        tt,
      ),
)
layer-fits (Action-F.Input x body) t p c is = (
  ap (λ (d : Doing). is_place d (Ordered 0 ∷ [])) is,
  ap (λ (d : Doing). is_place d (Ordered 2 ∷ [])) is,
  (
    (λ one. record { command = body.0; there = ap (λ (d : Doing). part (t p) d (Ordered 1)) is; holds = body.1 t (p ++ Ordered 1 ∷ []) }),
    tt,
  ),
)
layer-fits (Action-F.Select arms) t p c is = (
  ap (λ (d : Doing). is_place d (Ordered 0 ∷ [])) is,
  ap (λ (d : Doing). is_place d (Ordered 2 ∷ [])) is,
  rows-fit HoldsArm (λ a. (out-Arm a).body) arm_of (λ a. a.body) t p c (channel_arm_at (map (λ y. y.0) arms))
      (λ k d one at. ap (λ (x : Doing). part (t p) x (Ordered 1)) is ∙ taken-one (channel_arm_at (map (λ y. y.0) arms)) (t p) k d one at)
      (λ x h. h) arms 0 None
      (λ k x at. let same : k ≡ 0 + k = omega arith in
      subst (λ (n : ℕ). channel_arm_at (map (λ y. y.0) arms) n ≡ Some (out-Arm x).body) same (ap (option_map (λ a. (out-Arm a).body)) at))
      tt,
)
layer-fits (Action-F.Arbitrate arms) t p c is = (
  ap (λ (d : Doing). is_place d (Ordered 0 ∷ [])) is,
  ap (λ (d : Doing). is_place d (Ordered 2 ∷ [])) is,
  rows-fit HoldsArm (λ a. (out-Arm a).body) arm_of (λ a. a.body) t p c (channel_arm_at (map (λ y. y.0) arms))
      (λ k d one at. ap (λ (x : Doing). part (t p) x (Ordered 1)) is ∙ taken-one (channel_arm_at (map (λ y. y.0) arms)) (t p) k d one at)
      (λ x h. h) arms 0 None
      (λ k x at. let same : k ≡ 0 + k = omega arith in
      subst (λ (n : ℕ). channel_arm_at (map (λ y. y.0) arms) n ≡ Some (out-Arm x).body) same (ap (option_map (λ a. (out-Arm a).body)) at))
      tt,
)
layer-fits (Action-F.Sequence children) t p c is =
    sequence-fits t p c children 0 (λ k d at.
    let same : 0 + k ≡ k = omega arith in
    ap (λ (x : Doing). part (t p) x (Ordered (0 + k))) is ∙ ap (slice_get (map (λ y. y.0) children)) same ∙ at)
layer-fits (Action-F.Parallel children) t p c is =
    parallel-fits t p c children 0 (λ k d at.
    let same : 0 + k ≡ k = omega arith in
    ap (λ (x : Doing). part (t p) x (Branch (0 + k))) is ∙ ap (slice_get (map (λ y. y.0) children)) same ∙ at)

-- from the parts of an arm or a command to the whole
arm-step : (z : Arm-F Action Arm Command Guarded Labelled) → HoldsCommand z.body → HoldsArm (roll-Arm z)
arm-step z h t p =
    subst (λ (d : Command). Fits t p d (arm_of (roll-Arm z)).body) (sym (ap (λ a. a.body) (out-roll-Arm z)))
    (subst (λ (r : Residual). Fits t p z.body r)
    (sym (ap (λ (a : OnChannel). a.body) (fold-roll-Arm Residual OnChannel Residual OnGuard OnLabels action_layer arm_layer command_layer guarded_layer labelled_layer z)))
    (h t p))

guarded-step : (z : Guarded-F Action Arm Command Guarded Labelled) → HoldsCommand z.body → HoldsGuarded (roll-Guarded z)
guarded-step z h t p =
    subst (λ (d : Command). Fits t p d (guarded_of (roll-Guarded z)).body) (sym (ap (λ a. a.body) (out-roll-Guarded z)))
    (subst (λ (r : Residual). Fits t p z.body r)
    (sym (ap (λ (a : OnGuard). a.body) (fold-roll-Guarded Residual OnChannel Residual OnGuard OnLabels action_layer arm_layer command_layer guarded_layer labelled_layer z)))
    (h t p))

labelled-step : (z : Labelled-F Action Arm Command Guarded Labelled) → HoldsCommand z.body → HoldsLabelled (roll-Labelled z)
labelled-step z h t p =
    subst (λ (d : Command). Fits t p d (labelled_of (roll-Labelled z)).body) (sym (ap (λ a. a.body) (out-roll-Labelled z)))
    (subst (λ (r : Residual). Fits t p z.body r)
    (sym (ap (λ (a : OnLabels). a.body) (fold-roll-Labelled Residual OnChannel Residual OnGuard OnLabels action_layer arm_layer command_layer guarded_layer labelled_layer z)))
    (h t p))

command-step : (z : Command-F Action Arm Command Guarded Labelled) → HoldsAction z.action → HoldsCommand (roll-Command z)
command-step z h t p =
    subst (λ (r : Residual). Fits t p (roll-Command z) r)
    (sym (fold-roll-Command Residual OnChannel Residual OnGuard OnLabels action_layer arm_layer command_layer guarded_layer labelled_layer z))
    (h t p (roll-Command z) (ap (λ c. out-Action c.action) (out-roll-Command z)))

-- what a command is to do fits it
pub command-fits : (c : Command) (t : ArmsByPlace) (p : Place) → Fits t p c (residual_of c)
command-fits =
    ind-Command HoldsAction HoldsArm HoldsCommand HoldsGuarded HoldsLabelled
    (λ x y e. subst (λ z. HoldsAction (roll-Action z)) e
    (λ t p c is.
    subst (λ (r : Residual). Fits t p c r)
    (sym (fold-roll-Action Residual OnChannel Residual OnGuard OnLabels action_layer arm_layer command_layer guarded_layer labelled_layer _))
    (layer-fits y t p c (is ∙ out-roll-Action _))))
    (λ x y e. subst (λ z. HoldsArm (roll-Arm z)) e (arm-step _ y.body.1))
    (λ x y e. subst (λ z. HoldsCommand (roll-Command z)) e (command-step _ y.action.1))
    (λ x y e. subst (λ z. HoldsGuarded (roll-Guarded z)) e (guarded-step _ y.body.1))
    (λ x y e. subst (λ z. HoldsLabelled (roll-Labelled z)) e (labelled-step _ y.body.1))
