-- Where the events of a branch act, and what a list that has them all gives to a step of the branch.
use Rattle.std.proofs.Common.{◌≡◌, ◌⊎◌, inl, inr, ℕ, suc, ◌+◌, ◌-◌, ◌==◌, ◌<◌, ◌≤◌, if◌then◌else◌, List, [], ◌∷◌, ◌++◌, Bool, true, false, cond, length, take, drop, Option, Some, None, refl, sym, ◌∙◌, ap, subst, slice_get, arith}
use Rattle.std.specs.Prelude.{nat_lt, nat_le, filter, Result, Ok, Err, IfOk}
use Rattle.std.proofs.lemmas.Bool.{eqb-true}
use Rattle.std.proofs.lemmas.Bool.Decides.{nat_tests}
use Rattle.syntax.specs.Lists.{In, Every}
use Rattle.address.specs.declared.Entry.TheVariants.{Ordered, Branch}
use Rattle.system.specs.Named.{as_number}
use Rattle.system.specs.declared.command.Command.{Command}
use Rattle.system.specs.declared.system.System.{System}
use Rattle.system_places.specs.SystemBranches.{parallel_of, count_of, branches_of, child_number, branch_within, branch_of_port, branch_at}
use Rattle.runs.specs.InOrder.{InOrder}
use Rattle.runs.specs.Moves.{Place}
use Rattle.runs.specs.Events.{acting}
use Rattle.runs.specs.Choices.{choice_of}
use Rattle.runs.specs.Ready.{Sooner, ReadyList, Chosen}
use Rattle.runs.specs.Steps.{State}
use Rattle.runs.specs.declared.event.Event.{Event}
use Rattle.runs.specs.declared.event.Choice.{Choice}
use Rattle.runs.proofs.public.Lists.{every-in, in-parts, in-right}
use Rattle.runs.proofs.public.ReadyLists.{sooner-asymmetric}
use Rattle.runs.proofs.public.SortedLists.{same-elements}
use Rattle.local_actions.specs.Actions.{Under}
use Rattle.allowed_events.specs.ReadyBelow.{ReadyBelow}
use Rattle.machine.specs.Branching.{is_branch}
use Rattle.machine.specs.internal.Sites.{IsAtSite, ReadyWith, site_among}
use Rattle.machine.specs.declared.branch.Site.{Site}
use Rattle.machine.specs.declared.branch.Site.TheVariants.{Child, Body, Port, Unknown}
use Rattle.machine.proofs.public.Entries.{parts-at}

-- the branch of a place is that of this number: it lies in the body, or at a port
abbrev pub InBody : System → ℕ → Place → Type 0
InBody system k a = (rest : Place) × (a ≡ Branch 0 ∷ rest) × (is_branch k (branch_within (parallel_of system.main) rest) ≡ true)

abbrev pub AtPort : System → ℕ → Place → Type 0
AtPort system k a = (n : ℕ) × (rest : Place) × (a ≡ Branch n ∷ rest) × (n ≡ 0 → ⊥) × (branches_of system.main + (n - 1) ≡ k)

numbered : (x k : ℕ) → is_branch k (as_number x) ≡ true → x ≡ k
numbered x k = pick (nat_le x 4294967295)
  where
    pick : (b : Bool) → is_branch k (if b then Some x else None) ≡ true → x ≡ k
    pick true h = eqb-true x k h
    pick false h = cc

port-number : (system : System) (k n : ℕ) → is_branch k (branch_of_port system n) ≡ true → branches_of system.main + (n - 1) ≡ k
port-number system k n = pick (nat_le n (length system.environment))
  where
    pick : (b : Bool) → is_branch k (if b then as_number (branches_of system.main + (n - 1)) else None) ≡ true → branches_of system.main + (n - 1) ≡ k
    pick true h = numbered (branches_of system.main + (n - 1)) k h
    pick false h = cc

pub lies : (system : System) (k : ℕ) (a : Place) → is_branch k (branch_at system a) ≡ true → InBody system k a ⊎ AtPort system k a
lies system k [] h = cc
lies system k (Ordered n ∷ rest) h = cc
lies system k (Branch n ∷ rest) h = pick (n == 0) refl h
  where
    pick : (b : Bool) → (n == 0) ≡ b → is_branch k (if b then branch_within (parallel_of system.main) rest else branch_of_port system n) ≡ true →
        InBody system k (Branch n ∷ rest) ⊎ AtPort system k (Branch n ∷ rest)
    pick true is h = inl (rest, ap (λ (m : ℕ). Branch m ∷ rest) (eqb-true n 0 is), h)
    pick false is h = inr (n, rest, refl, (λ (zero_is : n ≡ 0). let off : (n == 0) ≡ true = grind (arith, nat_tests) in cc), port-number system k n h)

-- within the body the number is less than that of its branches, and that of the child
child-within : (children : List Command) (k : ℕ) (way : Place) → is_branch k (child_number children way) ≡ true →
    (k < length children) × ((rest : Place) × (way ≡ Branch k ∷ rest))
child-within children k [] h = cc
child-within children k (Ordered n ∷ rest) h = cc
child-within children k (Branch n ∷ rest) h = pick (nat_lt n (length children)) refl h
  where
    pick : (b : Bool) → nat_lt n (length children) ≡ b → is_branch k (if b then Some n else None) ≡ true →
        (k < length children) × ((way : Place) × (Branch n ∷ rest ≡ Branch k ∷ way))
    pick true is h =
        let one : n ≡ k = eqb-true n k h in
        let less : n < length children = grind (arith, nat_tests) in
        (subst (λ (m : ℕ). m < length children) one less, (rest, ap (λ (m : ℕ). Branch m ∷ rest) one))
    pick false is h = cc

pub body-within : (p : Option (List Command)) (k : ℕ) (way : Place) → is_branch k (branch_within p way) ≡ true → k < count_of p
body-within None k way h = let is : 0 ≡ k = eqb-true 0 k h in omega arith
body-within (Some children) k way h = (child-within children k way h).0

-- of a body that is a parallel
pub at-child : (system : System) (children : List Command) (k : ℕ) (a : Place) → parallel_of system.main ≡ Some children → k < length children →
    is_branch k (branch_at system a) ≡ true → Under (Branch 0 ∷ Branch k ∷ []) a
at-child system children k a is less h =
    elim (lies system k a h) [
      | inl b ↦
          let inside : is_branch k (child_number children b.0) ≡ true =
          subst (λ (p : Option (List Command)). is_branch k (branch_within p b.0) ≡ true) is b.2 in
          let way = (child-within children k b.0 inside).1 in
          (way.0, b.1 ∙ ap (λ (r : Place). Branch 0 ∷ r) way.1)
      | inr p ↦
          let count : branches_of system.main ≡ length children = ap count_of is in
          let number = p.4 in
          absurd (omega arith)
    ]

-- of another
pub at-body : (system : System) (k : ℕ) (a : Place) → parallel_of system.main ≡ None → k < 1 → is_branch k (branch_at system a) ≡ true → Under (Branch 0 ∷ []) a
at-body system k a is less h =
    elim (lies system k a h) [
      | inl b ↦ (b.0, b.1)
      | inr p ↦
          let count : branches_of system.main ≡ 1 = ap count_of is in
          let number = p.4 in
          absurd (omega arith)
    ]

-- of a port
pub at-port : (system : System) (k n : ℕ) (a : Place) → branches_of system.main ≤ k → n ≡ k - branches_of system.main + 1 → is_branch k (branch_at system a) ≡ true →
    Under (Branch n ∷ []) a
at-port system k n a past is h =
    elim (lies system k a h) [
      | inl b ↦ let less : k < branches_of system.main = body-within (parallel_of system.main) k b.0 b.2 in absurd (omega arith)
      | inr p ↦
          let m : ℕ = p.0 in
          let other_than_zero : m ≡ 0 → ⊥ = p.3 in
          let number : branches_of system.main + (m - 1) ≡ k = p.4 in
          let one : m ≡ n = omega arith in
          (p.1, p.2 ∙ ap (λ (i : ℕ). Branch i ∷ p.1) one)
    ]

-- behind the branches of the body
behind-body : (system : System) (k count : ℕ) (a : Place) → branches_of system.main ≡ count → count ≤ k → is_branch k (branch_at system a) ≡ true →
    IsAtSite k (cond (nat_lt (k - count + 1) 4294967296) (Port (k - count + 1)) Unknown) a
behind-body system k count a is past h = pick (nat_lt (k - count + 1) 4294967296)
  where
    pick : (b : Bool) → IsAtSite k (cond b (Port (k - count + 1)) Unknown) a
    pick true = at-port system k (k - count + 1) a (omega (arith, is, past)) (ap (λ (n : ℕ). k - n + 1) (sym is)) h
    pick false = (a, refl)

among : (system : System) (k count : ℕ) (body : Site) (a : Place) → branches_of system.main ≡ count → (k < count → IsAtSite k body a) →
    is_branch k (branch_at system a) ≡ true → IsAtSite k (site_among count k body) a
among system k count body a is here h = pick (nat_lt k count) refl
  where
    pick : (b : Bool) → nat_lt k count ≡ b →
        IsAtSite k (cond b body (cond (nat_lt (k - count + 1) 4294967296) (Port (k - count + 1)) Unknown)) a
    pick true on = let less : k < count = grind (arith, nat_tests) in here less
    pick false off = let past : count ≤ k = grind (arith, nat_tests) in behind-body system k count a is past h

pub site-parallel : (system : System) (children : List Command) (k : ℕ) (site : Site) → parallel_of system.main ≡ Some children →
    site ≡ site_among (length children) k Child → (a : Place) → is_branch k (branch_at system a) ≡ true → IsAtSite k site a
site-parallel system children k site is told a h =
    subst (λ (s : Site). IsAtSite k s a) (sym told) (among system k (length children) Child a (ap count_of is) (λ less. at-child system children k a is less h) h)

pub site-other : (system : System) (k : ℕ) (site : Site) → parallel_of system.main ≡ None → site ≡ site_among 1 k Body → (a : Place) →
    is_branch k (branch_at system a) ≡ true → IsAtSite k site a
site-other system k site is told a h =
    subst (λ (s : Site). IsAtSite k s a) (sym told) (among system k 1 Body a (ap count_of is) (λ less. at-body system k a is less h) h)

-- the events below a place that has all that pass the test
pub ready-with : {E : Type 0} (T : State) (test : Event → Bool) (p : Place) (r : Result (List Event) E) → ((e : Event) → test e ≡ true → Under p (acting e)) →
    IfOk r (λ es. ReadyBelow T p es) → IfOk r (λ es. ReadyWith T test es)
ready-with T test p (Ok es) covers below = record {
  allowed = λ e i. ((below.exactly e).0 i).0;
  all = λ e a on. (below.exactly e).1 (a, covers e on);
  in_order = below.in_order;
}
ready-with T test p (Err x) covers below = tt

-- which of a list pass
pick-of : (test : Event → Bool) (f : Event) (es : List Event) (e : Event) (b : Bool) → test f ≡ b → (In e (filter test es) → In e es × (test e ≡ true)) →
    In e (cond b (f ∷ filter test es) (filter test es)) → In e (f ∷ es) × (test e ≡ true)
pick-of test f es e true on more i = elim i [ inl is ↦ (inl is, ap test is ∙ on) | inr later ↦ let rest = more later in (inr rest.0, rest.1) ]
pick-of test f es e false off more i = let rest = more i in (inr rest.0, rest.1)

in-filter : (test : Event → Bool) (es : List Event) (e : Event) → In e (filter test es) → In e es × (test e ≡ true)
in-filter test [] e i = absurd i
in-filter test (f ∷ es) e i = pick-of test f es e (test f) refl (λ j. in-filter test es e j) i

pick-to : (test : Event → Bool) (f : Event) (es : List Event) (e : Event) (b : Bool) → test f ≡ b → test e ≡ true → (In e es → In e (filter test es)) → In e (f ∷ es) →
    In e (cond b (f ∷ filter test es) (filter test es))
pick-to test f es e true is on more i = elim i [ inl one ↦ inl one | inr later ↦ inr (more later) ]
pick-to test f es e false is on more i = elim i [ inl one ↦ let off : test f ≡ true = sym (ap test one) ∙ on in cc | inr later ↦ more later ]

filter-in : (test : Event → Bool) (es : List Event) (e : Event) → In e es → test e ≡ true → In e (filter test es)
filter-in test [] e i on = absurd i
filter-in test (f ∷ es) e i on = pick-to test f es e (test f) refl on (λ j. filter-in test es e j on) i

every-pick : (P : Event → Type 0) (f : Event) (es : List Event) (b : Bool) → P f → Every P es → Every P (cond b (f ∷ es) es)
every-pick P f es true first rest = (first, rest)
every-pick P f es false first rest = rest

every-filter : (test : Event → Bool) (P : Event → Type 0) (es : List Event) → Every P es → Every P (filter test es)
every-filter test P [] h = tt
every-filter test P (f ∷ es) h = every-pick P f (filter test es) (test f) h.0 (every-filter test P es h.1)

order-pick : (f : Event) (es : List Event) (b : Bool) → Every (Sooner f) es → InOrder Sooner es → InOrder Sooner (cond b (f ∷ es) es)
order-pick f es true first rest = (first, rest)
order-pick f es false first rest = rest

filter-order : (test : Event → Bool) (es : List Event) → InOrder Sooner es → InOrder Sooner (filter test es)
filter-order test [] h = tt
filter-order test (f ∷ es) h = order-pick f (filter test es) (test f) (every-filter test (Sooner f) es h.0) (filter-order test es h.1)

-- a list with all that pass the test has the same of them as the ready list
pub filter-same : (T : State) (test : Event → Bool) (es bs : List Event) → ReadyList T es → ReadyWith T test bs → filter test bs ≡ filter test es
filter-same T test es bs ready some =
    same-elements Event Sooner sooner-asymmetric (filter test bs) (filter test es) (filter-order test bs some.in_order) (filter-order test es ready.in_order)
    (λ e i. let of = in-filter test bs e i in filter-in test es e ((ready.exactly e).1 (some.allowed e of.0)) of.1)
    (λ e i. let of = in-filter test es e i in filter-in test bs e (some.all e ((ready.exactly e).0 of.0) of.1) of.1)

order-right : (xs ys : List Event) → InOrder Sooner (xs ++ ys) → InOrder Sooner ys
order-right [] ys h = h
order-right (x ∷ xs) ys h = order-right xs ys h.1

-- the first that passes a stronger test is the one that its choice means, where both tests tell the same of events with one acting address
pub with-chosen : (T : State) (test strong : Event → Bool) (bs : List Event) (i : ℕ) (e : Event) → ((x y : Event) → acting x ≡ acting y → strong x ≡ strong y) →
    ((x : Event) → strong x ≡ true → test x ≡ true) → ReadyWith T test bs → slice_get bs i ≡ Some e → strong e ≡ true →
    Every (λ f. strong f ≡ false) (take i bs) → Chosen T (choice_of e) e
with-chosen T test strong bs i e same weaker some at on before =
    let parts = parts-at bs i e at in
    let sorted : InOrder Sooner (e ∷ drop (suc i) bs) =
    order-right (take i bs) (e ∷ drop (suc i) bs) (subst (λ (k : List Event). InOrder Sooner k) parts some.in_order) in
    record {
      allowed = some.allowed e (subst (λ (k : List Event). In e k) (sym parts) (in-right e (take i bs) (e ∷ drop (suc i) bs) (inl refl)));
      choice = refl;
      least = λ f a one less.
          let acts : acting f ≡ acting e = ap (λ (c : Choice). c.place) one in
          let arms : (choice_of f).arm ≡ (choice_of e).arm = ap (λ (c : Choice). c.arm) one in
          let passes : strong f ≡ true = same f e acts ∙ on in
          let sooner : Sooner f e = inr (acts, inr (arms, less)) in
          elim (in-parts f (take i bs) (e ∷ drop (suc i) bs) (subst (λ (k : List Event). In f k) parts (some.all f a (weaker f passes)))) [
            | inl u ↦ let off : strong f ≡ false = every-in (λ g. strong g ≡ false) (take i bs) f before u in cc
            | inr (inl u) ↦ let itself : Sooner e e = subst (λ (g : Event). Sooner g e) u sooner in sooner-asymmetric e e itself itself
            | inr (inr u) ↦ sooner-asymmetric f e sooner (every-in (Sooner e) (drop (suc i) bs) f sorted.0 u)
          ];
    }
