-- Whose turn it is, and the next step of those that are ready.
use Rattle.std.proofs.Common.{◌≡◌, ℕ, zero, suc, ◌+◌, ◌-◌, ◌<◌, ◌≤◌, List, [], ◌∷◌, length, get_or, Bool, true, false, cond, Option, None, Some, inl, inr, refl, sym, ◌∙◌, ap, subst, arith}
use Rattle.std.specs.List.{filter}
use Rattle.std.specs.Prelude.{slice_get, unwrap_or}
use Rattle.std.proofs.lemmas.Bool.{cases_lt, eq-eqb, eqb-true, le-ltb, lt-ltb}
use Rattle.std.proofs.lemmas.Option.{slice_get-get_or, slice_get_within}
use Rattle.system.specs.declared.system.System.{System}
use Rattle.system_places.specs.SystemBranches.{branch_at, branch_count}
use Rattle.runs.specs.Events.{acting}
use Rattle.runs.specs.Object.{Reaches}
use Rattle.runs.specs.Ready.{ReadyList}
use Rattle.runs.specs.Steps.{State}
use Rattle.runs.specs.declared.event.Event.{Event}
use Rattle.machine.specs.Branching.{is_branch}
use Rattle.locked_execution.specs.AtDesk.{AtDesk, execution}
use Rattle.dap_moves.specs.Moves.{acts}
use Rattle.dap_moves.specs.Passing.{IsIdle, IsNext, MayGo, MayStep, NoneSooner, turns_to}
use Rattle.dap_moves.specs.Running.{NothingGoes}
use Rattle.dap_moves.specs.internal.Turning.{ActsFirst, AllBefore, IsNearest, Nearer, NoneActs, NoneNearer, branch_for}

-- how far it is to a branch, from the turn on or around the end
turns-on : (count turn k : ℕ) → turn ≤ k → turns_to count turn k ≡ k - turn
turns-on count turn k h = ap (λ (b : Bool). cond b ((k + count) - turn) (k - turn)) (le-ltb k turn h)

turns-around : (count turn k : ℕ) → k < turn → turns_to count turn k ≡ (k + count) - turn
turns-around count turn k h = ap (λ (b : Bool). cond b ((k + count) - turn) (k - turn)) (lt-ltb k turn h)

-- none comes before the branch whose turn it is
sooner-own : (d : AtDesk) (turn : ℕ) → NoneSooner d None turn turn
sooner-own d turn = λ j may less.
    let here = turns-on (branch_count d.machine.checked) turn turn (omega arith) in
    let bad : turns_to (branch_count d.machine.checked) turn j < turn - turn =
    subst (λ (n : ℕ). turns_to (branch_count d.machine.checked) turn j < n) here less in
    absurd (omega (arith, bad))

-- nor before one that steps alone
never-less : (n : ℕ) → n < n → ⊥
never-less n h = omega arith

pub sooner-alone : (d : AtDesk) (turn k : ℕ) → NoneSooner d (Some k) turn k
sooner-alone d turn k = λ j may less.
    let count = branch_count d.machine.checked in
    absurd (never-less (turns_to count turn k) (subst (λ (n : ℕ). turns_to count turn n < turns_to count turn k) may less))

-- the branch for which there is no memory to look
pub meant_may : (d : AtDesk) (only : Option ℕ) (turn k : ℕ) → k ≡ unwrap_or only turn → MayGo only k × NoneSooner d only turn k
meant_may d None turn k is = (tt, subst (λ (n : ℕ). NoneSooner d None turn n) (sym is) (sooner-own d turn))
meant_may d (Some only) turn k is = (is, subst (λ (n : ℕ). NoneSooner d (Some only) turn n) (sym is) (sooner-alone d turn only))

-- branches from the turn on
on-first : (count turn j k : ℕ) → turn ≤ k → k < count → j < turn → turns_to count turn j < turns_to count turn k → ⊥
on-first count turn j k from within before less =
    let there = turns-around count turn j before in
    let here = turns-on count turn k from in
    let bad : (j + count) - turn < k - turn =
    subst (λ (n : ℕ). n < k - turn) there (subst (λ (n : ℕ). turns_to count turn j < n) here less) in
    omega (arith, bad)

on-order : (count turn j k : ℕ) → turn ≤ k → turn ≤ j → turns_to count turn j < turns_to count turn k → j < k
on-order count turn j k from behind less =
    let there = turns-on count turn j behind in
    let here = turns-on count turn k from in
    let it : j - turn < k - turn =
    subst (λ (n : ℕ). n < k - turn) there (subst (λ (n : ℕ). turns_to count turn j < n) here less) in
    omega (arith, it)

pub sooner-on : (d : AtDesk) (only : Option ℕ) (turn k count : ℕ) → only ≡ None → count ≡ branch_count d.machine.checked → turn ≤ k → k < count →
    ((j : ℕ) → turn ≤ j → j < k → IsIdle d j) → NoneSooner d only turn k
sooner-on d only turn k count all is from within idle =
    let all_count = branch_count d.machine.checked in
    subst (λ (o : Option ℕ). NoneSooner d o turn k) (sym all)
    (λ j may less. elim (cases_lt j turn) [
      | inl before ↦ absurd (on-first all_count turn j k from (subst (λ (n : ℕ). k < n) is within) before less)
      | inr behind ↦ idle j behind (on-order all_count turn j k from behind less)
    ])

-- and those before it
around-order : (count turn j k : ℕ) → k < turn → j < turn → turns_to count turn j < turns_to count turn k → j < k
around-order count turn j k from before less =
    let there = turns-around count turn j before in
    let here = turns-around count turn k from in
    let it : (j + count) - turn < (k + count) - turn =
    subst (λ (n : ℕ). n < (k + count) - turn) there (subst (λ (n : ℕ). turns_to count turn j < n) here less) in
    omega (arith, it)

pub sooner-around : (d : AtDesk) (only : Option ℕ) (turn k count : ℕ) → only ≡ None → count ≡ branch_count d.machine.checked → k < turn →
    ((j : ℕ) → turn ≤ j → j < count → IsIdle d j) → ((j : ℕ) → 0 ≤ j → j < k → IsIdle d j) → NoneSooner d only turn k
sooner-around d only turn k count all is from above below =
    let all_count = branch_count d.machine.checked in
    subst (λ (o : Option ℕ). NoneSooner d o turn k) (sym all)
    (λ j may less. elim (cases_lt j turn) [
      | inl before ↦ below j (omega arith) (around-order all_count turn j k from before less)
      | inr behind ↦ above j behind (subst (λ (n : ℕ). j < n) (sym is) may)
    ])

-- the branch in which an event acts
branch-some : (k : ℕ) (o : Option ℕ) → is_branch k o ≡ true → o ≡ Some k
branch-some k None h = absurd (cc)
branch-some k (Some b) h = ap (λ (n : ℕ). Some n) (eqb-true b k h)

branch-is : (k : ℕ) (o : Option ℕ) → o ≡ Some k → is_branch k o ≡ true
branch-is k o h = ap (λ (x : Option ℕ). is_branch k x) h ∙ eq-eqb k k refl

cond-some : (b : Bool) (o : Option ℕ) (k : ℕ) → cond b o None ≡ Some k → (b ≡ true) × (o ≡ Some k)
cond-some true o k h = (refl, h)
cond-some false o k h = absurd (cc)

acts-at : (system : System) (only : Option ℕ) (k : ℕ) (e : Event) → branch_for system only e ≡ Some k → branch_at system (acting e) ≡ Some k
acts-at system None k e h = h
acts-at system (Some one) k e h = (cond-some (acts system one e) (branch_at system (acting e)) k h).1

may-go : (system : System) (only : Option ℕ) (k : ℕ) (e : Event) → branch_for system only e ≡ Some k → MayGo only k
may-go system None k e h = tt
may-go system (Some one) k e h =
    let both = cond-some (acts system one e) (branch_at system (acting e)) k h in
    let own : Some k ≡ Some one = sym both.1 ∙ branch-some one (branch_at system (acting e)) both.0 in
    cc

acts-for : (system : System) (only : Option ℕ) (k : ℕ) (e : Event) → MayGo only k → acts system k e ≡ true → branch_for system only e ≡ Some k
acts-for system None k e may h = branch-some k (branch_at system (acting e)) h
acts-for system (Some one) k e may h =
    ap (λ (b : Bool). cond b (branch_at system (acting e)) None) (ap (λ (n : ℕ). acts system n e) (sym may) ∙ h)
    ∙ branch-some k (branch_at system (acting e)) h

may-step : (d : AtDesk) (only : Option ℕ) (k : ℕ) → MayStep d only k → MayGo only k
may-step d None k h = tt
may-step d (Some one) k h = h

not-true : (b : Bool) → (b ≡ true → ⊥) → b ≡ false
not-true true h = absurd (h refl)
not-true false h = refl

-- the first of the events that pass a test
first-in : (test : Event → Bool) (es : List Event) (i : ℕ) (e : Event) → slice_get es i ≡ Some e → test e ≡ true →
    ((n : ℕ) (f : Event) → n < i → slice_get es n ≡ Some f → test f ≡ false) → slice_get (filter test es) 0 ≡ Some e
first-in test [] i e there is none = absurd (cc)
first-in test (x ∷ xs) zero e there is none =
    let same : x ≡ e = cc in
    ap (λ (b : Bool). slice_get (cond b (x ∷ filter test xs) (filter test xs)) 0) (ap test same ∙ is) ∙ there
first-in test (x ∷ xs) (suc i) e there is none =
    ap (λ (b : Bool). slice_get (cond b (x ∷ filter test xs) (filter test xs)) 0) (none 0 x (omega arith) refl)
    ∙ first-in test xs i e there is (λ n f less at. none (suc n) f (omega arith) at)

-- where none passes
none-in : (test : Event → Bool) (es : List Event) → ((n : ℕ) (f : Event) → slice_get es n ≡ Some f → test f ≡ false) → filter test es ≡ []
none-in test [] none = refl
none-in test (x ∷ xs) none =
    ap (λ (b : Bool). cond b (x ∷ filter test xs) (filter test xs)) (none 0 x refl)
    ∙ none-in test xs (λ n f at. none (suc n) f at)

-- the nearest of the events that are ready is the next step
not-nearer : (a b : ℕ) → a ≤ b → b < a → ⊥
not-nearer a b h k = omega arith

idle-sooner : (d : AtDesk) (only : Option ℕ) (turn k : ℕ) (es : List Event) (e : Event) → ((T : State) × Reaches (execution d) T × ReadyList T es) →
    IsNearest d.machine.checked only turn (branch_count d.machine.checked) es k e → NoneSooner d only turn k
idle-sooner d only turn k es e ready near = λ j may less.
    let system = d.machine.checked in
    let count = branch_count d.machine.checked in (
      ready.0,
      es,
      ready.1,
      ready.2,
      none-in (acts system j) es (λ n f at.
          not-true (acts system j f) (λ on.
          not-nearer (turns_to count turn k) (turns_to count turn j)
          (near.none (suc n) n f (omega arith) at j (acts-for system only j f (may-step d only j may) on)) less)),
    )

next-here : (d : AtDesk) (only : Option ℕ) (turn k : ℕ) (es : List Event) (e : Event) → ((T : State) × Reaches (execution d) T × ReadyList T es) →
    IsNearest d.machine.checked only turn (branch_count d.machine.checked) es k e → IsNext d only turn k e
next-here d only turn k es e ready near =
    let system = d.machine.checked in
    let may = may-go system only k e near.acts.here in
    record {
      state = ready.0;
      ready = es;
      reaches = ready.1;
      listed = ready.2;
      first =
          first-in (acts system k) es near.acts.index e near.acts.there
          (branch-is k (branch_at system (acting e)) (acts-at system only k e near.acts.here))
          (λ n f less at. not-true (acts system k f) (λ on. near.acts.none n f less at (acts-for system only k f may on)));
      may = may;
      sooner = idle-sooner d only turn k es e ready near;
    }

pub next_of_nearest : (d : AtDesk) (system : System) (only : Option ℕ) (turn count k : ℕ) (es fs : List Event) (e : Event) → system ≡ d.machine.checked →
    fs ≡ es → count ≡ branch_count d.machine.checked → ((T : State) × Reaches (execution d) T × ReadyList T es) →
    IsNearest system only turn count fs k e → IsNext d only turn k e
next_of_nearest d system only turn count k es fs e same list is ready near =
    next-here d only turn k es e ready
    (subst (λ (n : ℕ). IsNearest d.machine.checked only turn n es k e) is
    (subst (λ (xs : List Event). IsNearest d.machine.checked only turn count xs k e) list
    (subst (λ (s : System). IsNearest s only turn count fs k e) same near)))

-- nothing goes where no event that is ready acts in a branch that may step
pub nothing_goes : (d : AtDesk) (system : System) (only : Option ℕ) (es fs : List Event) → system ≡ d.machine.checked → fs ≡ es →
    ((T : State) × Reaches (execution d) T × ReadyList T es) → NoneActs system only fs → NothingGoes d only
nothing_goes d system only es fs same list ready none = λ k may.
    let own = d.machine.checked in
    let here : NoneActs own only es =
    subst (λ (xs : List Event). NoneActs own only xs) list (subst (λ (s : System). NoneActs s only fs) same none) in (
      ready.0,
      es,
      ready.1,
      ready.2,
      none-in (acts own k) es (λ n f at.
          not-true (acts own k f) (λ on.
          let some = acts-for own only k f (may-step d only k may) on in
          let bad : None ≡ Some k = sym (here n f at) ∙ some in
          absurd (cc))),
    )

-- one event more
at-index : (es : List Event) (i : ℕ) (x : Event) → i < length es → x ≡ get_or es i x → slice_get es i ≡ Some x
at-index es i x less is = slice_get-get_or es i x less ∙ ap (λ (y : Event). Some y) (sym is)

pub all-more : (P : Event → Type 0) (es : List Event) (i : ℕ) (x : Event) → i < length es → x ≡ get_or es i x → AllBefore P es i → P x →
    AllBefore P es (i + 1)
all-more P es i x less is before here = λ n f below at. elim (cases_lt n i) [
  | inl sooner ↦ before n f sooner at
  | inr there ↦ let same : n ≡ i = omega (arith, below, there) in
      let one : Some x ≡ Some f = sym (at-index es i x less is) ∙ sym (ap (λ (m : ℕ). slice_get es m) same) ∙ at in
      let it : x ≡ f = cc in subst P it here
]

pub all-none : (P : Event → Type 0) (es : List Event) → AllBefore P es 0
all-none P es = λ n f below at. absurd (omega (arith, below))

-- all of them
pub all-whole : (P : Event → Type 0) (es : List Event) (i : ℕ) → length es ≤ i → AllBefore P es i → (n : ℕ) → AllBefore P es n
all-whole P es i past before n = λ m f below at.
    before m f (let within : m < length es = slice_get_within es m f at in omega (arith, past, within)) at

-- the first event that acts in a branch that may step
pub first_found : (system : System) (only : Option ℕ) (es : List Event) (i k : ℕ) (e : Event) → i < length es → e ≡ get_or es i e →
    AllBefore (λ f. branch_for system only f ≡ None) es i → branch_for system only e ≡ Some k → ActsFirst system only es k e
first_found system only es i k e less is before here = record {
  here = here;
  index = i;
  there = at-index es i e less is;
  none = λ n f below at some. let bad : None ≡ Some k = sym (before n f below at) ∙ some in absurd (cc);
}

pub none_found : (system : System) (only : Option ℕ) (es : List Event) (i : ℕ) → length es ≤ i →
    AllBefore (λ f. branch_for system only f ≡ None) es i → NoneActs system only es
none_found system only es i past before = λ n f at.
    all-whole (λ f. branch_for system only f ≡ None) es i past before (suc n) n f (omega arith) at

-- of one that was found and another, the one that is next
only-one : (k j : ℕ) (o : Option ℕ) → o ≡ Some k → o ≡ Some j → k ≡ j
only-one k j o h g = let both : Some k ≡ Some j = sym h ∙ g in cc

below-both : (a b c : ℕ) → a < b → b ≤ c → a ≤ c
below-both a b c h k = omega arith

same-turns : (a b : ℕ) → a ≡ b → a ≤ b
same-turns a b h = omega arith

pub nearer_absent : (system : System) (only : Option ℕ) (turn count : ℕ) (other e : Event) (k : ℕ) → branch_for system only other ≡ None →
    Nearer system only turn count other k e k e
nearer_absent system only turn count other e k is =
    inl (refl, refl, λ j some. let bad : None ≡ Some j = sym is ∙ some in absurd (cc))

-- one event more
abbrev pub IsSoFar : System → Option ℕ → ℕ → ℕ → List Event → ℕ → ℕ → Event → Type 0
IsSoFar system only turn count es i k e = ActsFirst system only es k e × NoneNearer system only turn count es i k

so-far-same : (system : System) (only : Option ℕ) (turn count : ℕ) (es : List Event) (i k : ℕ) (e other : Event) → i < length es →
    other ≡ get_or es i other → IsSoFar system only turn count es i k e →
    ((j : ℕ) → branch_for system only other ≡ Some j → turns_to count turn k ≤ turns_to count turn j) → IsSoFar system only turn count es (i + 1) k e
so-far-same system only turn count es i k e other less is h far = (
  h.0,
  all-more (λ (f : Event). (j : ℕ) → branch_for system only f ≡ Some j → turns_to count turn k ≤ turns_to count turn j) es i other less is h.1 far,
)

so-far-other : (system : System) (only : Option ℕ) (turn count : ℕ) (es : List Event) (i k next : ℕ) (e other : Event) → i < length es →
    other ≡ get_or es i other → IsSoFar system only turn count es i k e → branch_for system only other ≡ Some next →
    turns_to count turn next < turns_to count turn k → IsSoFar system only turn count es (i + 1) next other
so-far-other system only turn count es i k next e other less is h here closer = (
  record {
    here = here;
    index = i;
    there = at-index es i other less is;
    none = λ n f below at some. not-nearer (turns_to count turn k) (turns_to count turn next) (h.1 n f below at next some) closer;
  },
  all-more (λ (f : Event). (j : ℕ) → branch_for system only f ≡ Some j → turns_to count turn next ≤ turns_to count turn j) es i other less is
      (λ n f below at j some.
      below-both (turns_to count turn next) (turns_to count turn k) (turns_to count turn j) closer (h.1 n f below at j some))
      (λ j some.
      same-turns (turns_to count turn next) (turns_to count turn j)
      (ap (λ (n : ℕ). turns_to count turn n) (only-one next j (branch_for system only other) here some))),
)

pub so_far_more : (system : System) (only : Option ℕ) (turn count : ℕ) (es : List Event) (i k next : ℕ) (e f other : Event) → i < length es →
    other ≡ get_or es i other → IsSoFar system only turn count es i k e → Nearer system only turn count other k e next f →
    IsSoFar system only turn count es (i + 1) next f
so_far_more system only turn count es i k next e f other less is h near = elim near [
  | inl same ↦
      subst (λ (n : ℕ). IsSoFar system only turn count es (i + 1) n f) (sym same.0)
      (subst (λ (g : Event). IsSoFar system only turn count es (i + 1) k g) (sym same.1)
      (so-far-same system only turn count es i k e other less is h same.2))
  | inr taken ↦
      subst (λ (g : Event). IsSoFar system only turn count es (i + 1) next g) (sym taken.0)
      (so-far-other system only turn count es i k next e other less is h taken.1 taken.2)
]

pub so_far_none : (system : System) (only : Option ℕ) (turn count : ℕ) (es : List Event) (k : ℕ) (e : Event) → ActsFirst system only es k e →
    IsSoFar system only turn count es 0 k e
so_far_none system only turn count es k e h =
    (h, all-none (λ (f : Event). (j : ℕ) → branch_for system only f ≡ Some j → turns_to count turn k ≤ turns_to count turn j) es)

pub so_far_all : (system : System) (only : Option ℕ) (turn count : ℕ) (es : List Event) (i k : ℕ) (e : Event) → length es ≤ i →
    IsSoFar system only turn count es i k e → IsNearest system only turn count es k e
so_far_all system only turn count es i k e past h = record {
  acts = h.0;
  none = λ n. all-whole (λ (f : Event). (j : ℕ) → branch_for system only f ≡ Some j → turns_to count turn k ≤ turns_to count turn j) es i past h.1 n;
}
