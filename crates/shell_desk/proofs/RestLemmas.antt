-- Who sleeps has no step, so that a turn of those that are awake is one of all.
use Rattle.std.proofs.Common.{◌≡◌, inl, inr, ℕ, zero, suc, List, [], ◌∷◌, ◌++◌, Bool, true, false, cond, Option, Some, None, refl, sym, ap, ◌∙◌, subst, eq-eqb}
use Rattle.std.proofs.lemmas.Bool.{eqb-true}
use Rattle.std.specs.Bool.{MatchBool}
use Rattle.std.specs.Prelude.{filter}
use Rattle.syntax.specs.Lists.{In}
use Rattle.system_places.specs.SystemBranches.{branch_at, branch_count}
use Rattle.runs.specs.Events.{acting}
use Rattle.runs.specs.Live.{events}
use Rattle.runs.specs.Object.{Object, Reaches, with_event}
use Rattle.runs.specs.Sound.{Sound}
use Rattle.runs.specs.Steps.{State, Allowed, Run, Step}
use Rattle.runs.specs.declared.event.Event.{Event}
use Rattle.runs.proofs.public.Effects.{sound-formed}
use Rattle.runs.proofs.public.Orders.{run-formed, run-part}
use Rattle.runs.proofs.public.ReadyLists.{ready-list}
use Rattle.runs.proofs.public.StateLaws.{reaches-one}
use Rattle.runs.proofs.public.Tickets.{events-join}
use Rattle.idle_branches.specs.Idle.{AreEnds, IdleIn, Passes, StaysIdle}
use Rattle.idle_branches.specs.declared.ends.Ends.{Ends}
use Rattle.machine.specs.AtMachine.{AtMachine, object}
use Rattle.machine.specs.Branching.{StepsBranch, acts_in, in_branch, is_branch}
use Rattle.machine.specs.declared.branch.BranchReply.{BranchReply}
use Rattle.locked_execution.specs.AtDesk.{AtDesk, breaks_of, execution}
use Rattle.locked_execution.specs.Performs.{branch_reply}
use Rattle.locked_execution.specs.declared.command.Command.{Command}
use Rattle.locked_execution.specs.declared.command.Reply.{Reply}
use Rattle.shell_desk.specs.AtBench.{AtBench}
use Rattle.shell_desk.specs.Does.{Asked, InTurn, OneTurn, first_of, is_busy, next_of}
use Rattle.shell_desk.specs.internal.Sleeping.{AwakeInTurn, IsAsleep, PassesNow, Resting, Rests, SleepsBehind}

-- ---- lists by a test
pick-none : {X : Type 0} (p : X → Bool) (x : X) (xs : List X) (b : Bool) → p x ≡ b → (p x ≡ true → ⊥) → filter p xs ≡ []
    → cond b (x ∷ filter p xs) (filter p xs) ≡ []
pick-none p x xs true is not rest = absurd (not is)
pick-none p x xs false is not rest = rest

filter-none : {X : Type 0} (p : X → Bool) (xs : List X) → ((x : X) → In x xs → p x ≡ true → ⊥) → filter p xs ≡ []
filter-none p [] none = refl
filter-none p (x ∷ xs) none = pick-none p x xs (p x) refl (none x (inl refl)) (filter-none p xs (λ y i. none y (inr i)))

not-nil : {X : Type 0} (x : X) (xs : List X) → x ∷ xs ≡ [] → ⊥
not-nil x xs h = cc

pick-out : {X : Type 0} (p : X → Bool) (y : X) (xs : List X) (x : X) (b : Bool) → p y ≡ b → p x ≡ true → In x (y ∷ xs)
    → cond b (y ∷ filter p xs) (filter p xs) ≡ [] → (In x xs → filter p xs ≡ [] → ⊥) → ⊥
pick-out p y xs x true is on i none rest = not-nil y (filter p xs) none
pick-out p y xs x false is on (inl same) none rest = let off : p y ≡ true = sym (ap p same) ∙ on in cc
pick-out p y xs x false is on (inr later) none rest = rest later none

none-filter : {X : Type 0} (p : X → Bool) (xs : List X) (x : X) → filter p xs ≡ [] → In x xs → p x ≡ true → ⊥
none-filter p [] x none i on = absurd i
none-filter p (y ∷ xs) x none i on = pick-out p y xs x (p y) refl on i none (λ later nil. none-filter p xs x nil later on)

-- ---- which branch
branch-is : (k : ℕ) (o : Option ℕ) → is_branch k o ≡ true → o ≡ Some k
branch-is k None h = cc
branch-is k (Some b) h = ap (λ (n : ℕ). Some n) (eqb-true b k h)

is-in : (k : ℕ) (o : Option ℕ) → o ≡ Some k → is_branch k o ≡ true
is-in k o is = ap (is_branch k) is ∙ same k
  where
    same : (n : ℕ) → is_branch n (Some n) ≡ true
    same n = eq-eqb n n refl

-- ---- a branch without a step
-- what is known of a bench at every moment
abbrev pub Good : AtBench → Type 0
Good b = Sound (execution b.desk)

-- it is idle when it is asked
pub asked-idle : (b : AtBench) (k : ℕ) → Good b → Rests b k → Asked b (Command.Branch k) Reply.Idle b
asked-idle b k good rests =
    let T : State = good.runs.0 in
    let reaches : Reaches (execution b.desk) T = good.runs.1 in
    let formed = run-formed (execution b.desk).opening T (events b.desk.machine.live) (sound-formed (execution b.desk) good) reaches in
    let ready = ready-list T formed in
    let none : in_branch b.desk.machine k ready.0 ≡ [] =
    filter-none (acts_in b.desk.machine k) ready.0
    (λ x i on. rests T reaches x ((ready.1.exactly x).0 i) (branch-is k (branch_at b.desk.machine.checked (acting x)) on)) in
    (inl (BranchReply.Idle, refl, (T, ready.0, reaches, ready.1, (none, refl)), refl, refl, refl), refl, refl, refl, refl, refl)

-- where the machine is the same, a branch still has none
rests-same : (b m : AtBench) (k : ℕ) → m.desk.machine ≡ b.desk.machine → Rests b k → Rests m k
rests-same b m k same rests =
    subst (λ (h : AtMachine). (T : State) → Reaches (object h) T → IdleIn h.checked T k) (sym same) rests

-- one that was asked and is idle
rests-asked : (b : AtBench) (k : ℕ) (h' : AtMachine) → Sound (execution b.desk)
    → StepsBranch b.desk.machine k (breaks_of b.desk b.session) BranchReply.Idle h' → Rests b k
rests-asked b k h' sound (T, es, reaches, ready, (none, same)) U other x allowed acts =
    let one : U ≡ T = reaches-one (execution b.desk) U T sound other reaches in
    let here : Allowed T x = subst (λ (S : State). Allowed S x) one allowed in
    none-filter (acts_in b.desk.machine k) es x none ((ready.exactly x).1 here) (is-in k (branch_at b.desk.machine.checked (acting x)) acts)

-- one to whom a step brings none
rests-stepped : StaysIdle → (ends : Ends) (b : AtBench) (h' : AtMachine) (e : Event) (k : ℕ) → Good b → AreEnds b.desk.machine.checked ends
    → h'.checked ≡ b.desk.machine.checked → object h' ≡ with_event (execution b.desk) e → PassesNow ends h' e k → Rests b k
    → (T : State) → Reaches (object h') T → IdleIn h'.checked T k
rests-stepped law ends b h' e k good are system more passes rests T reaches =
    let all : Reaches (with_event (execution b.desk) e) T = subst (λ (o : Object). Reaches o T) more reaches in
    let joined : Run (execution b.desk).opening (events b.desk.machine.live ++ e ∷ []) T =
    subst (λ (es : List Event). Run (execution b.desk).opening es T)
    (events-join b.desk.machine.live ((b.desk.machine.next, e) ∷ [])) all in
    let parts = run-part (execution b.desk).opening T (events b.desk.machine.live) (e ∷ []) joined in
    let step : Step parts.middle e T = subst (λ (S : State). Step parts.middle e S) parts.second.2 parts.second.1 in
    subst (λ s. IdleIn s T k) (sym system)
    (law b.desk.machine.checked ends (events b.desk.machine.live) parts.middle T e k are parts.first step
    (subst (λ s. Passes s ends T e k) system (passes (subst (λ s. AreEnds s ends) (sym system) are) T reaches))
    (rests parts.middle parts.first))

-- ---- one command
module _ (law : StaysIdle) (ends : Ends) where
  -- where nothing changed
  unmoved : (b m : AtBench) (asleep s : List ℕ) → m.desk.machine ≡ b.desk.machine
      → ((i : ℕ) → IsAsleep s i → IsAsleep asleep i) → Resting ends b asleep → Resting ends m s
  unmoved b m asleep s same only (are, rests) = (
    subst (λ (h : AtMachine). AreEnds h.checked ends) (sym same) are,
    λ i sleeps. rests-same b m i same (rests i (only i sleeps)),
  )

  -- a reply to a step of a branch, and who sleeps behind it
  rests-behind : (b m : AtBench) (k : ℕ) (answer : BranchReply) (asleep s : List ℕ) → Good b
      → StepsBranch b.desk.machine k (breaks_of b.desk b.session) answer m.desk.machine → m.desk.machine.checked ≡ b.desk.machine.checked
      → SleepsBehind ends m.desk.machine k (branch_reply answer) asleep s → Resting ends b asleep → Resting ends m s
  rests-behind b m k (BranchReply.Stepped t e) asleep s good (T, es, reaches, ready, (free, steps)) system behind (are, rests) = (
    subst (λ c. AreEnds c ends) (sym system) are,
    λ i sleeps. elim (behind i sleeps) [
      | inl old ↦ rests-stepped law ends b m.desk.machine e i good are system steps.4 old.1 (rests i old.0)
      | inr now ↦ now (subst (λ c. AreEnds c ends) (sym system) are)
    ],
  )
  rests-behind b m k (BranchReply.Stopped line) asleep s good (T, es, reaches, ready, (kept, same)) system behind resting =
      unmoved b m asleep s same behind resting
  rests-behind b m k BranchReply.Idle asleep s good (T, es, reaches, ready, (none, same)) system behind (are, rests) = (
    subst (λ (h : AtMachine). AreEnds h.checked ends) (sym same) are,
    λ i sleeps. elim (behind i sleeps) [
      | inl old ↦ rests-same b m i same (rests i old)
      | inr is ↦ rests-same b m i same
          (subst (λ (n : ℕ). Rests b n) (sym is) (rests-asked b k m.desk.machine good (T, es, reaches, ready, (none, same))))
    ],
  )
  rests-behind b m k (BranchReply.Refused why) asleep s good (T, es, reaches, ready, (first, same)) system behind resting =
      unmoved b m asleep s same behind resting

  -- the same of what is asked
  pub rests-on : (b m : AtBench) (k : ℕ) (r : Reply) (asleep s : List ℕ) → Good b → Asked b (Command.Branch k) r m
      → SleepsBehind ends m.desk.machine k r asleep s → Resting ends b asleep → Resting ends m s
  rests-on b m k r asleep s good (inl (answer, is, steps, system, breaks, marks), _, _, _, _, _) behind resting =
      rests-behind b m k answer asleep s good steps system
      (subst (λ (q : Reply). SleepsBehind ends m.desk.machine k q asleep s) is behind) resting
  rests-on b m k r asleep s good (inr (wanted, is, same), _, _, _, _, _) behind resting =
      unmoved b m asleep s (ap (λ (d : AtDesk). d.machine) same)
      (subst (λ (q : Reply). SleepsBehind ends m.desk.machine k q asleep s) is behind) resting

  -- who is idle leaves the machine
  idle-same : (b m : AtBench) (k : ℕ) (r : Reply) → is_busy r ≡ false → Asked b (Command.Branch k) r m → m.desk.machine ≡ b.desk.machine
  idle-same b m k r idle (inr (wanted, is, same), _, _, _, _, _) = ap (λ (d : AtDesk). d.machine) same
  idle-same b m k r idle (inl (answer, is, steps, system, breaks, marks), _, _, _, _, _) =
      by-answer answer steps (sym (ap is_busy is) ∙ idle)
    where
      by-answer : (answer : BranchReply) → StepsBranch b.desk.machine k (breaks_of b.desk b.session) answer m.desk.machine
          → is_busy (branch_reply answer) ≡ false → m.desk.machine ≡ b.desk.machine
      by-answer (BranchReply.Stepped t e) steps no-step = cc
      by-answer (BranchReply.Stopped line) steps no-step = cc
      by-answer BranchReply.Idle (T, es, reaches, ready, (none, same)) no-step = same
      by-answer (BranchReply.Refused why) steps no-step = cc

  good-same : (b m : AtBench) → m.desk.machine ≡ b.desk.machine → Good b → Good m
  good-same b m same good =
      subst (λ (h : AtMachine). Sound (object h)) (sym same) good

  -- a turn of those that are awake is one of all
  in-turn : (count left k : ℕ) (b b' : AtBench) (asleep asleep' : List ℕ) (reply : Reply) → Good b → Resting ends b asleep
      → AwakeInTurn ends count b asleep left k reply b' asleep' → InTurn count b left k reply b' × Resting ends b' asleep'
  in-turn count zero k b b' asleep asleep' reply good resting (is, same, alike) = (
    (is, same),
    subst (λ (c : AtBench). Resting ends c asleep') (sym same) (subst (λ (s : List ℕ). Resting ends b s) (sym alike) resting),
  )
  in-turn count (suc left) k b b' asleep asleep' reply good resting (inl (sleeps, more)) =
      let rest = in-turn count left (next_of count k) b b' asleep asleep' reply good resting more in
      ((Reply.Idle, b, asked-idle b k good (resting.1 k sleeps), rest.0), rest.1)
  in-turn count (suc left) k b b' asleep asleep' reply good resting (inr (r, m, s, asked, behind, next)) =
      by-busy (is_busy r) refl next
      (λ idle more. in-turn count left (next_of count k) m b' s asleep' reply (good-same b m (idle-same b m k r idle asked) good) now more)
    where
      now : Resting ends m s
      now = rests-on b m k r asleep s good asked behind resting

      by-busy : (busy : Bool) → is_busy r ≡ busy
          → MatchBool busy ((reply ≡ r) × (b' ≡ m) × (asleep' ≡ s)) (AwakeInTurn ends count m s left (next_of count k) reply b' asleep')
          → (is_busy r ≡ false → AwakeInTurn ends count m s left (next_of count k) reply b' asleep'
          → InTurn count m left (next_of count k) reply b' × Resting ends b' asleep')
          → ((q : Reply) × (n : AtBench) × Asked b (Command.Branch k) q n
          × MatchBool (is_busy q) ((reply ≡ q) × (b' ≡ n)) (InTurn count n left (next_of count k) reply b')) × Resting ends b' asleep'
      by-busy true is (told, same, alike) go-on = (
        (r, m, asked, subst (λ (t : Bool). MatchBool t ((reply ≡ r) × (b' ≡ m)) (InTurn count m left (next_of count k) reply b')) (sym is) (told, same)),
        subst (λ (c : AtBench). Resting ends c asleep') (sym same) (subst (λ (u : List ℕ). Resting ends m u) (sym alike) now),
      )
      by-busy false is more go-on =
          let rest = go-on is more in (
            (r, m, asked, subst (λ (t : Bool). MatchBool t ((reply ≡ r) × (b' ≡ m)) (InTurn count m left (next_of count k) reply b')) (sym is) rest.0),
            rest.1,
          )

  pub one-turn : (b b' : AtBench) (asleep asleep' : List ℕ) (reply : Reply) → Good b → Resting ends b asleep
      → AwakeInTurn ends (branch_count b.desk.machine.checked) b asleep (branch_count b.desk.machine.checked)
      (first_of (branch_count b.desk.machine.checked) b.turn) reply b' asleep'
      → OneTurn b reply b' × Resting ends b' asleep'
  one-turn b b' asleep asleep' reply good resting h =
      in-turn (branch_count b.desk.machine.checked) (branch_count b.desk.machine.checked)
      (first_of (branch_count b.desk.machine.checked) b.turn) b b' asleep asleep' reply good resting h
