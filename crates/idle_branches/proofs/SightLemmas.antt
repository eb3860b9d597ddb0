-- What is seen of processes, and where the branches of a system stand among them.
use Rattle.std.proofs.Common.{◌≡◌, inl, inr, ℕ, zero, suc, ◌+◌, ◌<◌, ◌≤◌, List, [], ◌∷◌, Bool, true, false, cond, map, length, Option, Some, None, slice_get, refl, sym, ap, ◌∙◌, subst, arith, rules}
use Rattle.std.specs.Prelude.{nat_lt}
use Rattle.std.specs.Global.{Box, Vec}
use Rattle.std.proofs.lemmas.Bool.Decides.{nat_tests}
use Rattle.address.specs.declared.Entry.{Entry}
use Rattle.address.specs.declared.Entry.TheVariants.{Ordered, Branch}
use Rattle.syntax.specs.Lists.{In}
use Rattle.system.specs.Expression.{Decision, Store}
use Rattle.system.specs.declared.command.Command.{Command}
use Rattle.system.specs.declared.system.System.{System}
use Rattle.system_places.specs.SystemBranches.{branches_of, count_of, parallel_of}
use Rattle.runs.specs.Moves.{Place}
use Rattle.runs.proofs.public.Lists.{in-parts}
use Rattle.runs.proofs.public.Options.{none-some, some-injective}
use Rattle.process_tree.specs.Children.{proc_at}
use Rattle.process_tree.specs.Code.{Codes}
use Rattle.process_tree.specs.Proc.{Proc, Procs, no_procs, proc, parallel, sequence, took, unopened}
use Rattle.process_tree.specs.Remaining.{Received, remaining}
use Rattle.process_tree.specs.Tidy.{Tidy}
use Rattle.process_tree.specs.View.{await_view, proc_view, procs_of}
use Rattle.process_tree.specs.internal.Parts.{gate_view, tested_view}
use Rattle.process_tree.specs.declared.code.Await.{Await}
use Rattle.process_tree.specs.declared.code.Code.TheFolds.{the_lemmas as code_lemmas}
use Rattle.process_tree.specs.declared.proc.Proc as made
use Rattle.process_tree.specs.declared.proc.Gate as made_gate
use Rattle.process_tree.specs.declared.proc.Gate.{Gate}
use Rattle.process_tree.specs.declared.proc.Gate.TheFolds.{the_lemmas}
use Rattle.process_tree.specs.declared.proc.Tested as made_tested
use Rattle.process_tree.specs.declared.proc.Tested.{Tested}
use Rattle.local_actions.specs.Actions.{Offered}
use Rattle.local_actions.specs.Walk.{action_at}
use Rattle.local_actions.specs.declared.action.LocalAction.{LocalAction}
use Rattle.local_actions.specs.internal.Listed.{Listing, at_work, behind, listed, listed_parallel, nothing, one_after, open_actions}
use Rattle.local_actions.proofs.public.Endings.{CameTo}
use Rattle.local_actions.proofs.public.Exactly.{behind-in}
use Rattle.local_actions.proofs.public.OneByOne.{step-here}
use Rattle.local_actions.proofs.public.Walked.{offers-exactly}
use Rattle.idle_branches.specs.declared.sight.Sight.{Sight}
use Rattle.idle_branches.specs.internal.Sights.{AreSeen, IsBranch, IsChild, IsSeen, NoChild, Sees, child_of, number_at, number_within}

-- ---- lists of actions
-- nothing is known
pub all-unknown : (rs : List LocalAction) → AreSeen Sight.Unknown rs
all-unknown [] = tt
all-unknown (r ∷ rs) = (tt, all-unknown rs)

pub sees-unknown : (p : Proc) → Sees Sight.Unknown p
sees-unknown p s env = all-unknown (listed s env p).actions

-- arms that wait
pub opens-act : (k : ℕ) (cs : List ℕ) → AreSeen Sight.Acts (open_actions k cs)
opens-act k [] = tt
opens-act k (c ∷ cs) = (refl, opens-act (suc k) cs)

-- one entry further out
pub seen-behind : (sight : Sight) (x : Entry) (rs : List LocalAction) → AreSeen sight rs → AreSeen sight (behind x rs)
seen-behind sight x [] h = tt
seen-behind sight x (r ∷ rs) h = (h.0, seen-behind sight x rs h.1)

-- one of them
pub seen-one : (sight : Sight) (x : LocalAction) (rs : List LocalAction) → AreSeen sight rs → In x rs → IsSeen sight x.action
seen-one sight x [] h i = absurd i
seen-one sight x (r ∷ rs) h i = elim i [
  | inl same ↦ subst (λ (y : LocalAction). IsSeen sight y.action) (sym same) h.0
  | inr more ↦ seen-one sight x rs h.1 more
]

-- a child that is not finished
pub seen-child : (sight : Sight) (i : ℕ) (x rest : Listing) → x.over ≡ false → AreSeen sight x.actions
    → AreSeen sight (one_after i x rest).actions
seen-child sight i x rest unfinished h =
    subst (λ (b : Bool). AreSeen sight (cond b rest (at_work (behind (Ordered i) x.actions))).actions) (sym unfinished)
    (seen-behind sight (Ordered i) x.actions h)

-- one that is
pub seen-past : (sight : Sight) (i : ℕ) (x rest : Listing) → x.over ≡ true → AreSeen sight rest.actions
    → AreSeen sight (one_after i x rest).actions
seen-past sight i x rest over h =
    subst (λ (b : Bool). AreSeen sight (cond b rest (at_work (behind (Ordered i) x.actions))).actions) (sym over) h

-- one behind which nothing comes
pub seen-only : (sight : Sight) (i : ℕ) (x : Listing) → AreSeen sight x.actions → AreSeen sight (one_after i x nothing).actions
seen-only sight i x h = pick x.over
  where
    pick : (b : Bool) → AreSeen sight (cond b nothing (at_work (behind (Ordered i) x.actions))).actions
    pick true = tt
    pick false = seen-behind sight (Ordered i) x.actions h

-- the child of a sequence that is at work
pub seen-here : (sight : Sight) (i : ℕ) (ps : Procs) (p : Proc) → proc_at ps i ≡ Some p
    → ((s : Store) (env : Received) → (listed s env p).over ≡ false) → CameTo i ps → Sees sight p → Sees sight (sequence ps)
seen-here sight i ps p at unfinished came sees s env =
    subst (λ (l : Listing). AreSeen sight l.actions) (sym (step-here s env ps i p at (unfinished s env)) ∙ came s env)
    (seen-behind sight (Ordered i) (listed s env p).actions (sees s env))

-- ---- branches
-- what is listed of a parallel is of one of its children
record InOne (s : Store) (env : Received) (n : ℕ) (ps : Procs) (x : LocalAction) : Type 0 where
  pub number : ℕ
  pub child : Proc
  pub way : Place
  pub there : proc_at ps number ≡ Some child
  pub place : x.place ≡ Branch (n + number) ∷ way
  pub inner : In (action_at way x.action) (listed s env child).actions

in-one : (s : Store) (env : Received) (n : ℕ) (ps : Procs) (x : LocalAction) → In x (listed_parallel s env n ps).actions → InOne s env n ps x
in-one s env n no_procs x h = absurd h
in-one s env n (proc p ps) x h = elim (in-parts x (behind (Branch n) (listed s env p).actions) (listed_parallel s env (n + 1) ps).actions h) [
  | inl here ↦
      let deep = behind-in (Branch n) x (listed s env p).actions here in
      let same : n ≡ n + 0 = omega arith in
      record {
        number = 0;
        child = p;
        way = deep.rest;
        there = refl;
        place = deep.is ∙ ap (λ (m : ℕ). Branch m ∷ deep.rest) same;
        inner = deep.inner;
      }
  | inr later ↦
      let deep = in-one s env (n + 1) ps x later in
      let same : n + 1 + deep.number ≡ n + suc deep.number = omega arith in
      record {
        number = suc deep.number;
        child = deep.child;
        way = deep.way;
        there = deep.there;
        place = deep.place ∙ ap (λ (m : ℕ). Branch m ∷ deep.way) same;
        inner = deep.inner;
      }
]

-- the same from 0 on
record InChild (s : Store) (env : Received) (ps : Procs) (x : LocalAction) : Type 0 where
  pub number : ℕ
  pub child : Proc
  pub way : Place
  pub there : proc_at ps number ≡ Some child
  pub place : x.place ≡ Branch number ∷ way
  pub inner : In (action_at way x.action) (listed s env child).actions

in-child : (s : Store) (env : Received) (ps : Procs) (x : LocalAction) → In x (listed_parallel s env 0 ps).actions → InChild s env ps x
in-child s env ps x h =
    let one = in-one s env 0 ps x h in
    let same : 0 + one.number ≡ one.number = omega arith in
    record {
      number = one.number;
      child = one.child;
      way = one.way;
      there = one.there;
      place = one.place ∙ ap (λ (m : ℕ). Branch m ∷ one.way) same;
      inner = one.inner;
    }

-- what is seen of the body and of the ports
pub parts-seen : (system : System) (o : Option (List Command)) (body : Proc) (ports : Procs) (k : ℕ) (sight : Sight)
    → parallel_of system.main ≡ o
    → ((s : Store) (env : Received) (y : LocalAction) → In y (listed s env body).actions → number_within o y.place ≡ Some k → IsSeen sight y.action)
    → ((i : ℕ) (q : Proc) → proc_at ports i ≡ Some q → count_of o + i ≡ k → Sees sight q)
    → IsBranch system (proc body ports) k sight
parts-seen system o body ports k sight is in-body in-ports s env x among at =
    let one = in-child s env (proc body ports) x among in
    by one.number one.child one.way one.there one.place one.inner
  where
    by : (m : ℕ) (child : Proc) (way : Place) → proc_at (proc body ports) m ≡ Some child → x.place ≡ Branch m ∷ way
        → In (action_at way x.action) (listed s env child).actions → IsSeen sight x.action
    by zero child way there place inner =
        in-body s env (action_at way x.action)
        (subst (λ (p : Proc). In (action_at way x.action) (listed s env p).actions) (sym (some-injective body child there)) inner)
        (subst (λ (q : Option (List Command)). number_within q way ≡ Some k) is (sym (ap (number_at system) place) ∙ at))
    by (suc i) child way there place inner =
        let number : branches_of system.main + i ≡ k = some-injective (branches_of system.main + i) k (sym (ap (number_at system) place) ∙ at) in
        seen-one sight (action_at way x.action) (listed s env child).actions
        (in-ports i child there (subst (λ (q : Option (List Command)). count_of q + i ≡ k) is number) s env) inner

-- a body that is one branch
pub alone-body : (body : Proc) (ports : Procs) (sight : Sight) → Sees sight body
    → (system : System) → parallel_of system.main ≡ None → IsBranch system (proc body ports) 0 sight
alone-body body ports sight sees system is =
    parts-seen system None body ports 0 sight is
    (λ s env y among at. seen-one sight y (listed s env body).actions (sees s env) among)
    (λ i q there number. absurd (omega (arith, number)))

pub alone-port : (body : Proc) (ports : Procs) (k j : ℕ) (sight : Sight) → k ≡ j + 1
    → ((p : Proc) → proc_at ports j ≡ Some p → Sees sight p)
    → (system : System) → parallel_of system.main ≡ None → IsBranch system (proc body ports) k sight
alone-port body ports k j sight more sees system is =
    parts-seen system None body ports k sight is
    (λ s env y among at. absurd (let none : 0 ≡ k = some-injective 0 k at in omega (arith, none, more)))
    (λ i q there number. let same : i ≡ j = omega (arith, number, more) in sees q (sym (ap (proc_at ports) same) ∙ there))

-- a body that is several
pub beside-body : (body : Proc) (ports : Procs) (count k : ℕ) (sight : Sight) → k < count → IsChild body k sight
    → (system : System) (children : List Command) → parallel_of system.main ≡ Some children → length children ≡ count
    → IsBranch system (proc body ports) k sight
beside-body body ports count k sight less sees system children is size =
    parts-seen system (Some children) body ports k sight is sees
    (λ i q there number. absurd (omega (arith, number, size, less)))

pub beside-port : (body : Proc) (ports : Procs) (count k j : ℕ) (sight : Sight) (has : Bool) → k ≡ count + j → has ≡ false
    → NoChild body k has → ((p : Proc) → proc_at ports j ≡ Some p → Sees sight p)
    → (system : System) (children : List Command) → parallel_of system.main ≡ Some children → length children ≡ count
    → IsBranch system (proc body ports) k sight
beside-port body ports count k j sight has more off none sees system children is size =
    parts-seen system (Some children) body ports k sight is
    (λ s env y among at. absurd (none off s env y among at))
    (λ i q there number. let same : i ≡ j = omega (arith, number, size, more) in sees q (sym (ap (proc_at ports) same) ∙ there))

-- a child of a parallel
pub child-seen : (ps : Procs) (k : ℕ) (sight : Sight) → ((p : Proc) → proc_at ps k ≡ Some p → Sees sight p) → IsChild (parallel ps) k sight
child-seen ps k sight sees s env x among at =
    let one = in-child s env ps x among in
    let same : one.number ≡ k = some-injective one.number k (sym (ap child_of one.place) ∙ at) in
    seen-one sight (action_at one.way x.action) (listed s env one.child).actions
    (sees one.child (sym (ap (proc_at ps) same) ∙ one.there) s env) one.inner

pub no-child : (ps : Procs) (k : ℕ) (has : Bool) → (has ≡ false → proc_at ps k ≡ None) → NoChild (parallel ps) k has
no-child ps k has none off s env x among at =
    let one = in-child s env ps x among in
    let same : one.number ≡ k = some-injective one.number k (sym (ap child_of one.place) ∙ at) in
    none-some one.child (sym (none off) ∙ sym (ap (proc_at ps) same) ∙ one.there)

-- the process of a number
pub got-at : (xs : List made.Proc) (i : ℕ) (x : made.Proc) → slice_get xs i ≡ Some x → proc_at (procs_of (map proc_view xs)) i ≡ Some (proc_view x)
got-at [] i x h = none-some x h
got-at (y ∷ xs) zero x h = ap (λ (z : made.Proc). Some (proc_view z)) (some-injective y x h)
got-at (y ∷ xs) (suc i) x h = got-at xs i x h

pub none-at : (xs : List made.Proc) (i : ℕ) → slice_get xs i ≡ None → proc_at (procs_of (map proc_view xs)) i ≡ None
none-at [] i h = refl
none-at (y ∷ xs) zero h = none-some y (sym h)
none-at (y ∷ xs) (suc i) h = none-at xs i h

-- ---- the forms in memory
pub unopened-view : (g : Gate) (ds : List ℕ) (cs : Codes) → g ≡ made_gate.Unopened → gate_view g ds cs ≡ unopened ds cs
unopened-view g ds cs is = ap (λ (x : Gate). gate_view x ds cs) is ∙ view
  where
    view : gate_view made_gate.Unopened ds cs ≡ unopened ds cs
    view = search (rules, the_lemmas)

pub await-channels : (a : Await) → (await_view a).0 ≡ a.channels
await-channels a = search (rules, code_lemmas)

pub took-seen : (sight : Sight) (d : Decision) (cs : Codes) (t : Tested) (j : ℕ) (body : Box made.Proc) (p : made.Proc)
    → t ≡ made_tested.Took j body → p ≡ body.value → Sees sight (proc_view p) → Sees sight (tested_view t d cs)
took-seen sight d cs t j body p is here sees =
    subst (λ (x : Proc). Sees sight x) (sym (ap (λ (z : Tested). tested_view z d cs) is ∙ view))
    (subst (λ (x : made.Proc). Sees sight (took d cs j (proc_view x))) here
    (λ s env. seen-only sight 1 (listed s env (proc_view p)) (sees s env)))
  where
    view : tested_view (made_tested.Took j body) d cs ≡ took d cs j (proc_view body.value)
    view = search (rules, the_lemmas)

pub parallel-view : (ps : Vec made.Proc) → proc_view (made.Parallel ps) ≡ parallel (procs_of (map proc_view ps.items))
parallel-view ps = search (rules, the_lemmas)

-- a number that is not less
pub not-below : (k n : ℕ) → nat_lt k n ≡ false → n ≤ k
not-below k n is = grind (arith, nat_tests)

-- ---- the whole
-- what a tidy tree offers is listed of it
pub offered-listed : (s : Store) (p : Proc) (x : LocalAction) → Tidy p
    → Offered (record { residual = remaining [] p; store = s }) x → In x (listed s [] p).actions
offered-listed s p x tidy offered = ((offers-exactly s p (listed s [] p).actions tidy refl).exactly x).1 offered
