-- The branches of a system, its body's first: each event of a run acts in one of them.
use Rattle.std.proofs.Common.{◌≡◌, ◌∙◌, ℕ, zero, suc, ◌+◌, ◌-◌, ◌==◌, ◌<◌, List, [], ◌∷◌, Bool, true, false, if◌then◌else◌, map, Option, Some, None, length, refl, sym, ap, subst, arith}
use Rattle.std.specs.Prelude.{nat_lt, nat_le}
use Rattle.std.proofs.lemmas.Bool.Decides.{nat_tests}
use Rattle.std.proofs.lemmas.List.{length-map}
use Rattle.syntax.specs.Lists.{Every}
use Rattle.address.specs.declared.Entry.TheVariants.{Branch}
use Rattle.system.specs.Named.{as_number}
use Rattle.system.specs.Residual.{Residual}
use Rattle.system.specs.Translation.{OnChannel, OnGuard, OnLabels, in_parallel, opening_residual, residual_of, branch_of, action_layer, arm_layer, command_layer, guarded_layer, labelled_layer}
use Rattle.system.specs.declared.command.Action.{Action, out-Action}
use Rattle.system.specs.declared.command.Action.TheOpen.{Action-F}
use Rattle.system.specs.declared.command.Action.TheFolds.{map-Action, fold-Action, fold-Arm, fold-Guarded, fold-Labelled, fold-roll-Action, fold-roll-Command}
use Rattle.system.specs.declared.command.Action.TheViews.{roll-out-Action, roll-out-Command}
use Rattle.system.specs.declared.command.Arm.{Arm}
use Rattle.system.specs.declared.command.Command.{Command, out-Command}
use Rattle.system.specs.declared.command.Guarded.{Guarded}
use Rattle.system.specs.declared.command.Labelled.{Labelled}
use Rattle.system.specs.declared.system.System.{System}
use Rattle.system_places.specs.SystemBranches.{children_of_parallel, parallel_of, count_of, branches_of, child_number, branch_within, branch_of_port, branch_at}
use Rattle.runs.specs.Moves.{Place, Move, Local}
use Rattle.runs.specs.Events.{Located, places_of, acting, acting_at}
use Rattle.runs.specs.Steps.{State, Moves, Run, opening}
use Rattle.runs.specs.declared.event.Event.{Event}
use Rattle.runs.specs.declared.event.Kind.{Kind}
use Rattle.runs.specs.declared.event.Kind.TheVariants.{Assign, Test, Turn, Meet, Open, Close, Sync}
use Rattle.runs.proofs.public.Lists.{every-in}
use Rattle.runs.proofs.public.Options.{some-injective}
use Rattle.runs.proofs.public.Stepping.{place-moves}
use Rattle.acting_places.specs.Branches.{all_branches, HasFewBranches, EventsLieInBranches}
use Rattle.acting_places.proofs.Shapes.{Shape, InPart, Keeps, parallel-shape, shape-along, local-part, local-shape}

-- nothing is known of a part
abbrev Any : ℕ → Residual → Type 0
Any k r = Unit {0}

-- what is left of a body: of a parallel its branches
abbrev BodyShape : Option (List Command) → Residual → Type 0
BodyShape None r = Unit {0}
BodyShape (Some children) r = Shape Any (length children) r

-- what is left of a system: its body in branch 0 of the root, and the environment behind it
abbrev Part : Option (List Command) → ℕ → Residual → Type 0
Part p zero r = BodyShape p r
Part p (suc k) r = Unit {0}

-- ---- what a system opens with
-- an action that is a parallel
abbrev action-residual : Action → Residual
action-residual = fold-Action Residual OnChannel Residual OnGuard OnLabels action_layer arm_layer command_layer guarded_layer labelled_layer

command-is : (c : Command) → residual_of c ≡ action-residual (out-Command c).action
command-is c =
    ap residual_of (sym (roll-out-Command c))
    ∙ fold-roll-Command Residual OnChannel Residual OnGuard OnLabels action_layer arm_layer command_layer guarded_layer labelled_layer (out-Command c)

layer-shape : (y : Action-F Action Arm Command Guarded Labelled) (children : List Command) → children_of_parallel y ≡ Some children →
    Shape Any (length children)
    (action_layer (map-Action Action Arm Command Guarded Labelled Residual OnChannel Residual OnGuard OnLabels
    action-residual
    (fold-Arm Residual OnChannel Residual OnGuard OnLabels action_layer arm_layer command_layer guarded_layer labelled_layer)
    residual_of
    (fold-Guarded Residual OnChannel Residual OnGuard OnLabels action_layer arm_layer command_layer guarded_layer labelled_layer)
    (fold-Labelled Residual OnChannel Residual OnGuard OnLabels action_layer arm_layer command_layer guarded_layer labelled_layer) y))
layer-shape (Action-F.Parallel cs) children is =
    let size : length cs ≡ length children = ap length (some-injective cs children is) in
    let mapped : length (map residual_of cs) ≡ length cs = length-map cs residual_of in
    parallel-shape Any (length children) 0 (map residual_of cs) (λ i r at. tt) (omega arith)
layer-shape _ children is = cc

pub body-shape : (c : Command) (children : List Command) → parallel_of c ≡ Some children → Shape Any (length children) (residual_of c)
body-shape c children is =
    subst (λ (r : Residual). Shape Any (length children) r)
    (sym (command-is c ∙ ap action-residual (sym (roll-out-Action (out-Command c).action))
    ∙ fold-roll-Action Residual OnChannel Residual OnGuard OnLabels action_layer arm_layer command_layer guarded_layer labelled_layer (out-Action (out-Command c).action)))
    (layer-shape (out-Action (out-Command c).action) children is)

body-any : (c : Command) → BodyShape (parallel_of c) (residual_of c)
body-any c = pick (parallel_of c) refl
  where
    pick : (p : Option (List Command)) → parallel_of c ≡ p → BodyShape p (residual_of c)
    pick None is = tt
    pick (Some children) is = body-shape c children is

-- the parts of a system
abbrev PartOf : System → ℕ → Residual → Type 0
PartOf system = Part (parallel_of system.main)

opening-shape : (system : System) → Shape (PartOf system) (suc (length system.environment)) (opening_residual system)
opening-shape system =
    let n : ℕ = suc (length system.environment) in
    let mapped : length (map branch_of system.environment) ≡ length system.environment = length-map system.environment branch_of in
    shape-along (PartOf system) n 0 (residual_of system.main) (in_parallel 1 (map branch_of system.environment)) (omega arith) (body-any system.main)
    (parallel-shape (PartOf system) n 1 (map branch_of system.environment)
    (λ i r at. let next : suc i ≡ 1 + i = omega arith in subst (λ (k : ℕ). PartOf system k r) next tt) (omega arith))

-- ---- a part makes its moves in a branch of the system
-- nothing is asked of a move
abbrev Each : ℕ → Place → Move → Type 0
Each k a m = Unit {0}

keeps-any : Keeps Any Each
keeps-any k c a m t q l w = tt

keeps-part : (p : Option (List Command)) → Keeps (Part p) Each
keeps-part None zero c a m t q l w = tt
keeps-part (Some children) zero c a m t q l w = local-shape Any Each keeps-any (length children) c a m t q l (λ k b at. tt)
keeps-part p (suc k) c a m t q l w = tt

if-true : {X : Type 0} (b : Bool) (x y : X) → b ≡ true → (if b then x else y) ≡ x
if-true true x y h = refl
if-true false x y h = cc

if-false : {X : Type 0} (b : Bool) (x y : X) → b ≡ false → (if b then x else y) ≡ y
if-false true x y h = cc
if-false false x y h = refl

child-there : (children : List Command) (k : ℕ) (rest b : Place) → b ≡ Branch k ∷ rest → k < length children → child_number children b ≡ Some k
child-there children k rest b at less =
    let on : nat_lt k (length children) ≡ true = grind (arith, nat_tests) in
    ap (child_number children) at ∙ if-true (nat_lt k (length children)) (Some k) None on

body-lies : (p : Option (List Command)) (c : Residual) (b : Place) (m : Move) (t : Residual) → BodyShape p c → Local c b m t →
    (j : ℕ) × (branch_within p b ≡ Some j) × (j < count_of p)
body-lies None c b m t s l = (0, refl, omega arith)
body-lies (Some children) c b m t s l =
    let part = local-part Any (length children) c b m t s l in
    (part.number, child-there children part.number part.inside b part.at part.few, part.few)

-- the place lies in a branch
abbrev pub Lies : System → Place → Type 0
Lies system a = (k : ℕ) × (branch_at system a ≡ Some k) × (k < all_branches system)

port-lies : (system : System) (i : ℕ) (b : Place) → HasFewBranches system → suc i < suc (length system.environment) → Lies system (Branch (suc i) ∷ b)
port-lies system i b few less =
    let off : (suc i == 0) ≡ false = grind (arith, nat_tests) in
    let within : nat_le (suc i) (length system.environment) ≡ true = grind (arith, nat_tests) in
    let number : branches_of system.main + (suc i - 1) ≡ branches_of system.main + i = omega arith in
    let small : nat_le (branches_of system.main + i) 4294967295 ≡ true = grind (arith, nat_tests) in (
      branches_of system.main + i,
      if-false (suc i == 0) (branch_within (parallel_of system.main) b) (branch_of_port system (suc i)) off
          ∙ if-true (nat_le (suc i) (length system.environment)) (as_number (branches_of system.main + (suc i - 1))) None within
          ∙ ap as_number number ∙ if-true (nat_le (branches_of system.main + i) 4294967295) (Some (branches_of system.main + i)) None small,
      omega arith,
    )

number-lies : (system : System) (n : ℕ) (b : Place) (c : Residual) (m : Move) (t : Residual) → HasFewBranches system → n < suc (length system.environment) →
    PartOf system n c → Local c b m t → Lies system (Branch n ∷ b)
number-lies system zero b c m t few less s l =
    let in_body = body-lies (parallel_of system.main) c b m t s l in
    let count : in_body.0 < branches_of system.main = in_body.2 in
    (in_body.0, in_body.1, omega arith)
number-lies system (suc i) b c m t few less s l = port-lies system i b few less

part-lies : (system : System) (a : Place) (m : Move) → HasFewBranches system → InPart (PartOf system) (suc (length system.environment)) a m → Lies system a
part-lies system a m few part =
    subst (λ (p : Place). Lies system p) (sym part.at)
    (number-lies system part.number part.inside part.child m part.after few part.few part.holds part.moves)

-- ---- the events of a run
module _ (system : System) (few : HasFewBranches system) where
  moves-lie : (r : Residual) (ls : List Located) (q : Residual) → Shape (PartOf system) (suc (length system.environment)) r → Moves r ls q →
      Every (λ l. Lies system l.place) ls × Shape (PartOf system) (suc (length system.environment)) q
  moves-lie r [] q s moves = (tt, subst (λ (x : Residual). Shape (PartOf system) (suc (length system.environment)) x) moves s)
  moves-lie r (l ∷ ls) q s moves =
      let one = local-part (PartOf system) (suc (length system.environment)) r l.place l.move moves.0 s moves.1 in
      let after =
      local-shape (PartOf system) Each (keeps-part (parallel_of system.main)) (suc (length system.environment)) r l.place l.move moves.0 s moves.1 (λ k b at. tt) in
      let more = moves-lie moves.0 ls q after moves.2 in
      ((part-lies system l.place l.move few one, more.0), more.1)

  -- the acting place is one of the places
  acting-lies : (kind : Kind) (a : Place) (b : Option Place) → Lies system a → Every (Lies system) (places_of b) → Lies system (acting_at kind a b)
  acting-lies Assign a b h k = h
  acting-lies Test a b h k = h
  acting-lies Turn a b h k = h
  acting-lies Sync a b h k = h
  acting-lies Meet a None h k = h
  acting-lies Open a None h k = h
  acting-lies Close a None h k = h
  acting-lies Meet a (Some b) h k = k.0
  acting-lies Open a (Some b) h k = k.0
  acting-lies Close a (Some b) h k = k.0

  run-lies : (S T : State) (h : List Event) → Shape (PartOf system) (suc (length system.environment)) S.residual → Run S h T → Every (λ e. Lies system (acting e)) h
  run-lies S T [] s r = tt
  run-lies S T (e ∷ h) s r =
      let moved = moves-lie S.residual r.1.moves r.0.residual s r.1.moved in
      let at = place-moves S.store r.1.moves e (Lies system) r.1.makes moved.0 in
      (acting-lies e.kind e.first e.second at.0 at.1, run-lies r.0 T h moved.1 r.2)

pub events-lie : EventsLieInBranches
events-lie system h T e few r i = every-in (λ (f : Event). Lies system (acting f)) h e (run-lies system few (opening system) T h (opening-shape system) r) i
