-- The branches of a system: what each is to do fits what is known of it, and still does behind moves.
use Rattle.std.proofs.Common.{◌≡◌, inl, inr, ℕ, zero, suc, ◌+◌, ◌-◌, List, [], ◌∷◌, ◌++◌, Bool, true, false, if◌then◌else◌, length, map, Option, Some, None, refl, sym, ap, ◌∙◌, subst, arith}
use Rattle.std.specs.Prelude.{nat_lt, nat_le, ◌==◌}
use Rattle.std.proofs.lemmas.Bool.Decides.{nat_tests}
use Rattle.std.proofs.lemmas.List.{length-map}
use Rattle.address.specs.declared.Entry.TheVariants.{Branch}
use Rattle.syntax.specs.Lists.{Every}
use Rattle.system.specs.Named.{as_number}
use Rattle.system.specs.Residual.{Residual, done, beside, along}
use Rattle.system.specs.Translation.{OnChannel, OnGuard, OnLabels, residual_of, branch_of, in_parallel, opening_residual, action_layer, arm_layer, command_layer, guarded_layer, labelled_layer}
use Rattle.system.specs.declared.command.Action.{Action, out-Action}
use Rattle.system.specs.declared.command.Action.TheOpen.{Action-F}
use Rattle.system.specs.declared.command.Action.TheFolds.{map-Action, fold-Action, fold-Arm, fold-Guarded, fold-Labelled, fold-roll-Action, fold-roll-Command}
use Rattle.system.specs.declared.command.Action.TheViews.{roll-out-Action, roll-out-Command}
use Rattle.system.specs.declared.command.Arm.{Arm}
use Rattle.system.specs.declared.command.Command.{Command, out-Command}
use Rattle.system.specs.declared.command.Guarded.{Guarded}
use Rattle.system.specs.declared.command.Labelled.{Labelled}
use Rattle.system.specs.declared.system.System.{System}
use Rattle.system_places.specs.SystemBranches.{children_of_parallel, count_of, parallel_of, branches_of, branch_at, branch_within, branch_of_port, child_number}
use Rattle.runs.specs.Moves.{Place, Move, Local}
use Rattle.runs.specs.Events.{Located}
use Rattle.runs.specs.Steps.{State, Moves, Run}
use Rattle.runs.specs.declared.event.Event.{Event}
use Rattle.runs.proofs.public.Options.{some-injective}
use Rattle.idle_branches.specs.internal.Known.{Known, Fits, FitsMove, FitEach, parts, parts_of}
use Rattle.idle_branches.specs.internal.Sights.{child_of, number_at, number_within}
use Rattle.idle_branches.proofs.FitsLemmas.{moved}

-- ---- a body that is a parallel
abbrev action-residual : Action → Residual
action-residual = fold-Action Residual OnChannel Residual OnGuard OnLabels action_layer arm_layer command_layer guarded_layer labelled_layer

command-is : (c : Command) → residual_of c ≡ action-residual (out-Command c).action
command-is c =
    ap residual_of (sym (roll-out-Command c))
    ∙ fold-roll-Command Residual OnChannel Residual OnGuard OnLabels action_layer arm_layer command_layer guarded_layer labelled_layer (out-Command c)

layer-parallel : (y : Action-F Action Arm Command Guarded Labelled) (children : List Command) → children_of_parallel y ≡ Some children →
    (action_layer (map-Action Action Arm Command Guarded Labelled Residual OnChannel Residual OnGuard OnLabels
    action-residual
    (fold-Arm Residual OnChannel Residual OnGuard OnLabels action_layer arm_layer command_layer guarded_layer labelled_layer)
    residual_of
    (fold-Guarded Residual OnChannel Residual OnGuard OnLabels action_layer arm_layer command_layer guarded_layer labelled_layer)
    (fold-Labelled Residual OnChannel Residual OnGuard OnLabels action_layer arm_layer command_layer guarded_layer labelled_layer) y))
    ≡ in_parallel 0 (map residual_of children)
layer-parallel (Action-F.Parallel cs) children is = ap (λ (ds : List Command). in_parallel 0 (map residual_of ds)) (some-injective cs children is)
layer-parallel _ children is = cc

parallel-body : (c : Command) (children : List Command) → parallel_of c ≡ Some children → residual_of c ≡ in_parallel 0 (map residual_of children)
parallel-body c children is =
    (command-is c ∙ ap action-residual (sym (roll-out-Action (out-Command c).action))
    ∙ fold-roll-Action Residual OnChannel Residual OnGuard OnLabels action_layer arm_layer command_layer guarded_layer labelled_layer (out-Action (out-Command c).action))
    ∙ layer-parallel (out-Action (out-Command c).action) children is

-- a number behind a test
pub number-is : (b : Bool) (j k : ℕ) → (if b then Some j else None) ≡ Some k → j ≡ k
number-is true j k is = some-injective j k is
number-is false j k is = cc

pub port-is : (b : Bool) (o : Option ℕ) (k : ℕ) → (if b then o else None) ≡ Some k → o ≡ Some k
port-is true o k is = is
port-is false o k is = cc

-- branches side by side, each of which fits
abbrev Chain : (ℕ → Residual → Type 0) → Residual → Type 0
Chain G done = Unit {0}
Chain G (beside k child rest) = G k child × Chain G rest
Chain G _ = ⊥

-- a finished branch is erased
chain-along : (G : ℕ → Residual → Type 0) (k : ℕ) (child rest : Residual) → G k child → Chain G rest → Chain G (along k child rest)
chain-along G k done rest f g = g
chain-along G k _ rest f g = (f, g)

-- the move is one of a branch
record InOne (G : ℕ → Residual → Type 0) (a : Place) (m : Move) : Type 0 where
  pub branch : ℕ
  pub way : Place
  pub child : Residual
  pub left : Residual
  pub is : a ≡ Branch branch ∷ way
  pub fits : G branch child
  pub makes : Local child way m left

-- moves of a branch keep that it fits
abbrev Stays : (ℕ → Residual → Type 0) → Type 0
Stays G = (k : ℕ) (r : Residual) (a : Place) (m : Move) (q : Residual) → G k r → Local r a m q → G k q

record ChainMoved (G : ℕ → Residual → Type 0) (a : Place) (m : Move) (q : Residual) : Type 0 where
  pub left : Chain G q
  pub one : InOne G a m

chain-moved : (G : ℕ → Residual → Type 0) → Stays G → (r : Residual) (a : Place) (m : Move) (q : Residual)
    → Chain G r → Local r a m q → ChainMoved G a m q
chain-moved G stays done a m q f h = absurd h
chain-moved G stays (beside k child rest) a m q f (inl (b, t, is, h, e)) = record {
  left = subst (λ (r : Residual). Chain G r) (sym e) (chain-along G k t rest (stays k child b m t f.0 h) f.1);
  one = record { branch = k; way = b; child = child; left = t; is = is; fits = f.0; makes = h };
}
chain-moved G stays (beside k child rest) a m q f (inr (t, h, e)) =
    let below = chain-moved G stays rest a m t f.1 h in
    record {
      left = subst (λ (r : Residual). Chain G r) (sym e) (chain-along G k child t f.0 below.left);
      one = below.one;
    }
chain-moved G stays _ a m q f h = absurd f

module _ (known : ℕ → Known) where
  -- a branch
  abbrev FitsAt : ℕ → Residual → Type 0
  FitsAt k r = Fits (known k) r

  at-stays : Stays FitsAt
  at-stays k r a m q f h = (moved (known k) r a m q f h).left

  -- the body, which is one branch or several
  abbrev FitsBody : Option (List Command) → Residual → Type 0
  FitsBody None r = FitsAt 0 r
  FitsBody (Some children) r = Chain FitsAt r

  body-stays : (o : Option (List Command)) (r : Residual) (a : Place) (m : Move) (q : Residual) → FitsBody o r → Local r a m q → FitsBody o q
  body-stays None r a m q f h = at-stays 0 r a m q f h
  body-stays (Some children) r a m q f h = (chain-moved FitsAt at-stays r a m q f h).left

  -- the body and the ports
  abbrev FitsPart : Option (List Command) → ℕ → ℕ → Residual → Type 0
  FitsPart o n zero r = FitsBody o r
  FitsPart o n (suc k) r = FitsAt (n + k) r

  part-stays : (o : Option (List Command)) (n : ℕ) → Stays (FitsPart o n)
  part-stays o n zero r a m q f h = body-stays o r a m q f h
  part-stays o n (suc k) r a m q f h = at-stays (n + k) r a m q f h

  -- the whole
  abbrev pub FitsWhole : System → Residual → Type 0
  FitsWhole system r = Chain (FitsPart (parallel_of system.main) (branches_of system.main)) r

  -- what fits each of several branches fits them side by side
  chain-of : (from : ℕ) (rs : List Residual) → FitEach known from rs → Chain FitsAt (in_parallel from rs)
  chain-of from [] f = tt
  chain-of from (r ∷ rs) f =
      let next : from + 1 ≡ suc from = omega arith in
      chain-along FitsAt from r (in_parallel (suc from) rs) f.0
      (chain-of (suc from) rs (subst (λ (k : ℕ). FitEach known k rs) next f.1))

  ports-of : (o : Option (List Command)) (n from : ℕ) (rs : List Residual) → FitEach known (n + from) rs
      → Chain (FitsPart o n) (in_parallel (suc from) rs)
  ports-of o n from [] f = tt
  ports-of o n from (r ∷ rs) f =
      let next : n + from + 1 ≡ n + suc from = omega arith in
      chain-along (FitsPart o n) (suc from) r (in_parallel (suc (suc from)) rs) f.0
      (ports-of o n (suc from) rs (subst (λ (k : ℕ). FitEach known k rs) next f.1))

  -- two lists
  pub each-left : (from : ℕ) (xs ys : List Residual) → FitEach known from (xs ++ ys) → FitEach known from xs
  each-left from [] ys f = tt
  each-left from (x ∷ xs) ys f = (f.0, each-left (from + 1) xs ys f.1)

  pub each-right : (from : ℕ) (xs ys : List Residual) → FitEach known from (xs ++ ys) → FitEach known (from + length xs) ys
  each-right from [] ys f = let same : from ≡ from + 0 = omega arith in subst (λ (k : ℕ). FitEach known k ys) same f
  each-right from (x ∷ xs) ys f =
      let same : from + 1 + length xs ≡ from + suc (length xs) = omega arith in
      subst (λ (k : ℕ). FitEach known k ys) same (each-right (from + 1) xs ys f.1)

  pub each-both : (from : ℕ) (xs ys : List Residual) → FitEach known from xs → FitEach known (from + length xs) ys → FitEach known from (xs ++ ys)
  each-both from [] ys f g = let same : from + 0 ≡ from = omega arith in subst (λ (k : ℕ). FitEach known k ys) same g
  each-both from (x ∷ xs) ys f g =
      let same : from + suc (length xs) ≡ from + 1 + length xs = omega arith in
      (f.0, each-both (from + 1) xs ys f.1 (subst (λ (k : ℕ). FitEach known k ys) same g))

  -- the body
  body-of : (main : Command) (o : Option (List Command)) → o ≡ parallel_of main → FitEach known 0 (parts_of main o) → FitsBody o (residual_of main)
  body-of main None is f = f.0
  body-of main (Some children) is f =
      let same : residual_of main ≡ in_parallel 0 (map residual_of children) = parallel-body main children (sym is) in
      subst (λ (r : Residual). Chain FitsAt r) (sym same) (chain-of 0 (map residual_of children) f)

  count-is : (main : Command) (o : Option (List Command)) → length (parts_of main o) ≡ count_of o
  count-is main None = refl
  count-is main (Some children) = length-map children residual_of

  -- what the system opens with
  pub whole-opens : (system : System) → FitEach known 0 (parts system) → FitsWhole system (opening_residual system)
  whole-opens system f =
      let o = parallel_of system.main in
      let n = branches_of system.main in
      let body = parts_of system.main o in
      let ports = map branch_of system.environment in
      let count : length body ≡ n = count-is system.main o in
      let from : 0 + length body ≡ n + 0 = omega (arith, count) in
      chain-along (FitsPart o n) 0 (residual_of system.main) (in_parallel 1 ports)
      (body-of system.main o refl (each-left 0 body ports f))
      (ports-of o n 0 ports (subst (λ (k : ℕ). FitEach known k ports) from (each-right 0 body ports f)))

  -- a move in a branch of the body
  body-makes : (o : Option (List Command)) (child : Residual) (way : Place) (m : Move) (left : Residual) (k : ℕ) → FitsBody o child
      → Local child way m left → branch_within o way ≡ Some k → FitsMove (known k) m
  body-makes None child way m left k f h is =
      subst (λ (j : ℕ). FitsMove (known j) m) (some-injective 0 k is) (moved (known 0) child way m left f h).made
  body-makes (Some children) child way m left k f h is =
      let one = (chain-moved FitsAt at-stays child way m left f h).one in
      let at : child_number children (Branch one.branch ∷ one.way) ≡ Some k = ap (child_number children) (sym one.is) ∙ is in
      let same : one.branch ≡ k = number-is (nat_lt one.branch (length children)) one.branch k at in
      subst (λ (j : ℕ). FitsMove (known j) m) same (moved (known one.branch) one.child one.way m one.left one.fits one.makes).made

  -- a move in a branch of the system
  part-makes : (system : System) (n : ℕ) (child : Residual) (way : Place) (m : Move) (left : Residual) (k : ℕ)
      → FitsPart (parallel_of system.main) (branches_of system.main) n child → Local child way m left
      → branch_at system (Branch n ∷ way) ≡ Some k → FitsMove (known k) m
  part-makes system zero child way m left k f h is = body-makes (parallel_of system.main) child way m left k f h is
  part-makes system (suc i) child way m left k f h is =
      let off : (suc i == 0) ≡ false = grind (arith, nat_tests) in
      let at : branch_of_port system (suc i) ≡ Some k =
      sym (ap (λ (b : Bool). if b then branch_within (parallel_of system.main) way else branch_of_port system (suc i)) off) ∙ is in
      let port : as_number (branches_of system.main + (suc i - 1)) ≡ Some k = port-is (nat_le (suc i) (length system.environment)) _ k at in
      let number : branches_of system.main + (suc i - 1) ≡ k = number-is (nat_le (branches_of system.main + (suc i - 1)) 4294967295) _ k port in
      let same : branches_of system.main + i ≡ k = omega arith in
      subst (λ (j : ℕ). FitsMove (known j) m) same (moved (known (branches_of system.main + i)) child way m left f h).made

  -- what is left of a system behind a move, and the move
  pub whole-moved : (system : System) (r : Residual) (a : Place) (m : Move) (q : Residual) → FitsWhole system r → Local r a m q → FitsWhole system q
  whole-moved system r a m q f h =
      (chain-moved (FitsPart (parallel_of system.main) (branches_of system.main)) (part-stays (parallel_of system.main) (branches_of system.main)) r a m q f h).left

  pub whole-makes : (system : System) (r : Residual) (a : Place) (m : Move) (q : Residual) (k : ℕ) → FitsWhole system r → Local r a m q
      → branch_at system a ≡ Some k → FitsMove (known k) m
  whole-makes system r a m q k f h is =
      let one = (chain-moved (FitsPart (parallel_of system.main) (branches_of system.main)) (part-stays (parallel_of system.main) (branches_of system.main)) r a m q f h).one in
      part-makes system one.branch one.child one.way m one.left k one.fits one.makes (ap (branch_at system) (sym one.is) ∙ is)

  -- the branch to which a move belongs
  body-number : (o : Option (List Command)) (child : Residual) (way : Place) (m : Move) (left : Residual) → FitsBody o child
      → Local child way m left → (g : ℕ) × (number_within o way ≡ Some g) × FitsMove (known g) m
  body-number None child way m left f h = (0, refl, (moved (known 0) child way m left f h).made)
  body-number (Some children) child way m left f h =
      let one = (chain-moved FitsAt at-stays child way m left f h).one in
      (one.branch, ap child_of one.is, (moved (known one.branch) one.child one.way m one.left one.fits one.makes).made)

  part-number : (system : System) (n : ℕ) (child : Residual) (way : Place) (m : Move) (left : Residual)
      → FitsPart (parallel_of system.main) (branches_of system.main) n child → Local child way m left
      → (g : ℕ) × (number_at system (Branch n ∷ way) ≡ Some g) × FitsMove (known g) m
  part-number system zero child way m left f h = body-number (parallel_of system.main) child way m left f h
  part-number system (suc i) child way m left f h =
      (branches_of system.main + i, refl, (moved (known (branches_of system.main + i)) child way m left f h).made)

  pub whole-number : (system : System) (r : Residual) (a : Place) (m : Move) (q : Residual) → FitsWhole system r → Local r a m q
      → (g : ℕ) × (number_at system a ≡ Some g) × FitsMove (known g) m
  whole-number system r a m q f h =
      let one = (chain-moved (FitsPart (parallel_of system.main) (branches_of system.main)) (part-stays (parallel_of system.main) (branches_of system.main)) r a m q f h).one in
      let part = part-number system one.branch one.child one.way m one.left one.fits one.makes in
      (part.0, ap (number_at system) one.is ∙ part.1, part.2)

  -- moves one after another
  abbrev pub FitsLocated : System → Located → Type 0
  FitsLocated system l = (k : ℕ) → branch_at system l.place ≡ Some k → FitsMove (known k) l.move

  pub moves-fit : (system : System) (r : Residual) (ls : List Located) (q : Residual) → FitsWhole system r → Moves r ls q → Every (FitsLocated system) ls
  moves-fit system r [] q f h = tt
  moves-fit system r (l ∷ ls) q f (t, h, hs) =
      ((λ k is. whole-makes system r l.place l.move t k f h is), moves-fit system t ls q (whole-moved system r l.place l.move t f h) hs)

  pub moves-keep : (system : System) (r : Residual) (ls : List Located) (q : Residual) → FitsWhole system r → Moves r ls q → FitsWhole system q
  moves-keep system r [] q f h = subst (λ (t : Residual). FitsWhole system t) h f
  moves-keep system r (l ∷ ls) q f (t, h, hs) = moves-keep system t ls q (whole-moved system r l.place l.move t f h) hs

  pub run-keeps : (system : System) (S T : State) (h : List Event) → FitsWhole system S.residual → Run S h T → FitsWhole system T.residual
  run-keeps system S T [] f r = subst (λ (U : State). FitsWhole system U.residual) r f
  run-keeps system S T (e ∷ h) f (U, step, run) = run-keeps system U T h (moves-keep system S.residual step.moves U.residual f step.moved) run
