-- Who sleeps, where some are woken or one falls asleep.
use Rattle.std.proofs.Common.{◌≡◌, ◌≢◌, ◌⊎◌, inl, inr, ℕ, zero, suc, ◌+◌, ◌-◌, ◌<◌, ◌≤◌, List, [], ◌∷◌, length, drop, get_or, Option, Some, None, refl, sym, ap, ◌∙◌, subst, arith}
use Rattle.std.specs.Prelude.{replicate, slice_set}
use Rattle.std.proofs.lemmas.Bool.{cases_order}
use Rattle.std.proofs.lemmas.List.{drop_more, drop_all}
use Rattle.address.specs.Places.{Before}
use Rattle.memchr.specs.Find as find
use Rattle.memchr.specs.Find.{is_byte}
use Rattle.syntax.specs.Lists.{In}
use Rattle.system.specs.declared.system.System.{System}
use Rattle.system_places.specs.SystemBranches.{branch_at}
use Rattle.runs.specs.Moves.{Place}
use Rattle.runs.specs.Events.{places, places_of}
use Rattle.runs.specs.Live.{events}
use Rattle.runs.specs.Object.{Reaches}
use Rattle.runs.specs.Sound.{Sound}
use Rattle.runs.specs.Steps.{State}
use Rattle.runs.specs.WellFormed.{WellFormed}
use Rattle.runs.specs.declared.event.Event.{Event}
use Rattle.runs.proofs.public.Effects.{sound-formed}
use Rattle.runs.proofs.public.Orders.{run-formed}
use Rattle.runs.proofs.public.StateLaws.{reaches-one}
use Rattle.local_actions.specs.Actions.{Offered}
use Rattle.local_actions.specs.declared.action.LocalAction.{LocalAction}
use Rattle.idle_branches.specs.Glance.{IsFaced, Tells}
use Rattle.idle_branches.specs.Idle.{AreEnds, Faces, GivesWhatIsKnown, HasBehind, IdleIn, given_on}
use Rattle.idle_branches.specs.declared.ends.Ends.{Ends}
use Rattle.idle_branches.specs.declared.glance.Glance.{Glance}
use Rattle.idle_branches.specs.internal.Known.{list_at}
use Rattle.machine.specs.AtMachine.{AtMachine, object}
use Rattle.locked_execution.specs.declared.command.Reply.{Reply}
use Rattle.shell_desk.specs.internal.Sleeping.{ActsOnOne, AllSleep, AreGiven, FacedAt, FacedBy, FacesNow, IsAsleep, NoneSleeps, PassesAt, PassesNow, RestsNow, SleepBehindEvent, SleepBehindPlaces, SleepBut, SleepButActing, SleepButAt, SleepButFaced, SleepButFacedAt, SleepButThese, SleepsBehind, TellsNow, acting_on, faced_by}

-- nothing is something
none-some : {X : Type 0} (x : X) → None ≡ Some x → ⊥
none-some x h = cc

some-same : {X : Type 0} (x y : X) → Some x ≡ Some y → x ≡ y
some-same x y h = cc

-- the mark of one that is awake is that of none that is asleep
not-marked : (mark : ℕ) → Some 0 ≡ Some (suc mark) → ⊥
not-marked mark h = cc

-- who is woken does not sleep
pub woken : (asleep : List ℕ) (k : ℕ) → SleepBut k asleep (slice_set asleep k 0)
woken [] k i (mark, h) = absurd (none-some (suc mark) h)
woken (x ∷ xs) zero zero (mark, h) = absurd (not-marked mark h)
woken (x ∷ xs) zero (suc i) h = (h, λ e. omega arith)
woken (x ∷ xs) (suc k) zero h = (h, λ e. omega arith)
woken (x ∷ xs) (suc k) (suc i) h =
    let rest : IsAsleep xs i × (i ≢ k) = woken xs k i h in
    (rest.0, λ e. rest.1 (omega arith))

-- nobody behind the last sleeps
pub none-behind : (asleep : List ℕ) (k : ℕ) → length asleep ≤ k → SleepBut k asleep asleep
none-behind [] k past i (mark, h) = absurd (none-some (suc mark) h)
none-behind (x ∷ xs) zero past i h = absurd (omega arith)
none-behind (x ∷ xs) (suc k) past zero h = (h, λ e. omega arith)
none-behind (x ∷ xs) (suc k) past (suc i) h =
    let rest : IsAsleep xs i × (i ≢ k) = none-behind xs k (omega arith) i h in
    (rest.0, λ e. rest.1 (omega arith))

-- who falls asleep
pub lulled : (asleep : List ℕ) (k i : ℕ) → IsAsleep (slice_set asleep k 1) i → IsAsleep asleep i ⊎ (i ≡ k)
lulled [] k i h = inl h
lulled (x ∷ xs) zero zero h = inr refl
lulled (x ∷ xs) zero (suc i) h = inl h
lulled (x ∷ xs) (suc k) zero h = inl h
lulled (x ∷ xs) (suc k) (suc i) h = elim (lulled xs k i h) [ inl old ↦ inl old | inr e ↦ inr (ap suc e) ]

-- there are as many marks
pub as-many : (asleep : List ℕ) (k mark : ℕ) → length (slice_set asleep k mark) ≡ length asleep
as-many [] k mark = refl
as-many (x ∷ xs) zero mark = refl
as-many (x ∷ xs) (suc k) mark = ap suc (as-many xs k mark)

-- all others sleep as before
pub others-sleep : (asleep : List ℕ) (k i : ℕ) → i ≢ k → IsAsleep asleep i → IsAsleep (slice_set asleep k 0) i
others-sleep [] k i other (mark, h) = absurd (none-some (suc mark) h)
others-sleep (x ∷ xs) zero zero other h = absurd (other refl)
others-sleep (x ∷ xs) zero (suc i) other h = h
others-sleep (x ∷ xs) (suc k) zero other h = h
others-sleep (x ∷ xs) (suc k) (suc i) other h = others-sleep xs k i (λ e. other (ap suc e)) h

-- and who slept does
pub still-sleeps : (asleep : List ℕ) (k i : ℕ) → IsAsleep asleep i → IsAsleep (slice_set asleep k 1) i
still-sleeps [] k i (mark, h) = absurd (none-some (suc mark) h)
still-sleeps (x ∷ xs) zero zero h = (0, refl)
still-sleeps (x ∷ xs) zero (suc i) h = h
still-sleeps (x ∷ xs) (suc k) zero h = h
still-sleeps (x ∷ xs) (suc k) (suc i) h = still-sleeps xs k i h

-- all are awake
pub all-awake : (n : ℕ) → NoneSleeps (replicate n 0)
all-awake zero k (mark, h) = none-some (suc mark) h
all-awake (suc n) zero (mark, h) = not-marked mark h
all-awake (suc n) (suc k) h = all-awake n k h

pub awake-of : (xs : List ℕ) (n : ℕ) → xs ≡ replicate n 0 → NoneSleeps xs
awake-of xs n e = subst (λ (ys : List ℕ). NoneSleeps ys) (sym e) (all-awake n)

-- ---- one after another is woken
abbrev Kept : (List ℕ) → (List ℕ) → List ℕ → List ℕ → Type 0
Kept all rest before after = (i : ℕ) → IsAsleep after i → IsAsleep before i × (In i all → In i rest)

pub each-begins : (all : List ℕ) (asleep : List ℕ) → Kept all (drop 0 all) asleep asleep
each-begins all asleep i h = (h, λ among. among)

pub each-more : (all : List ℕ) (n x : ℕ) (before between after : List ℕ) → n < length all → x ≡ get_or all n 0
    → Kept all (drop n all) before between → SleepBut x between after → Kept all (drop (n + 1) all) before after
each-more all n x before between after less is kept but i h =
    let one : IsAsleep between i × (i ≢ x) = but i h in
    let old = kept i one.0 in (
      old.0,
      λ among. elim (subst (λ (rest : List ℕ). In i rest) (drop_more all n 0 less) (old.1 among)) [
        | inl e ↦ absurd (one.1 (e ∙ sym is))
        | inr more ↦ more
      ],
    )

pub each-ends : (all : List ℕ) (n : ℕ) (before after : List ℕ) → length all ≤ n → Kept all (drop n all) before after
    → SleepButThese all before after
each-ends all n before after past kept i h =
    let old = kept i h in
    (old.0, λ among. subst (λ (rest : List ℕ). In i rest) (drop_all n all past) (old.1 among))

-- ---- by one action after another
abbrev pub KeptFaced : Ends → List LocalAction → List LocalAction → List ℕ → List ℕ → Type 0
KeptFaced ends all rest before after =
    (i : ℕ) → IsAsleep after i → IsAsleep before i × (FacedBy ends all i → FacedBy ends rest i)

pub faced-begins : (ends : Ends) (all : List LocalAction) (asleep : List ℕ) → KeptFaced ends all (drop 0 all) asleep asleep
faced-begins ends all asleep i h = (h, λ faced. faced)

pub faced-more : (ends : Ends) (all : List LocalAction) (n : ℕ) (x : LocalAction) (before between after : List ℕ) → n < length all
    → x ≡ get_or all n x → KeptFaced ends all (drop n all) before between → SleepButThese (faced_by ends x) between after
    → KeptFaced ends all (drop (n + 1) all) before after
faced-more ends all n x before between after less is kept but i h =
    let one : IsAsleep between i × (In i (faced_by ends x) → ⊥) = but i h in
    let old = kept i one.0 in (
      old.0,
      λ faced. others one.1 (old.1 faced),
    )
  where
    others : (In i (faced_by ends x) → ⊥) → FacedBy ends (drop n all) i → FacedBy ends (drop (n + 1) all) i
    others not (y, among, on) = elim (subst (λ (rest : List LocalAction). In y rest) (drop_more all n x less) among) [
      | inl e ↦ absurd (not (subst (λ (z : LocalAction). In i (faced_by ends z)) (e ∙ sym is) on))
      | inr more ↦ (y, more, on)
    ]

pub faced-ends : (ends : Ends) (all : List LocalAction) (n : ℕ) (before after : List ℕ) → length all ≤ n
    → KeptFaced ends all (drop n all) before after → SleepButFaced ends all before after
faced-ends ends all n before after past kept i h =
    let old = kept i h in (
      old.0,
      λ faced. none (subst (λ (rest : List LocalAction). FacedBy ends rest i) (drop_all n all past) (old.1 faced)),
    )
  where
    none : FacedBy ends [] i → ⊥
    none (y, among, on) = absurd among

-- ---- at a place
-- the branch in which it lies
pub there-woken : (system : System) (a : Place) (j : ℕ) (before after : List ℕ) → branch_at system a ≡ Some j
    → SleepBut j before after → SleepButAt system a before after
there-woken system a j before after is but i h =
    let one = but i h in
    (one.0, λ at. one.1 (sym (some-same j i (sym is ∙ at))))

pub none-there : (system : System) (a : Place) (asleep : List ℕ) → branch_at system a ≡ None → SleepButAt system a asleep asleep
none-there system a asleep is i h = (h, λ at. none-some i (sym is ∙ at))

-- those that are faced by what is offered behind it
pub faced-woken : (ends : Ends) (h : AtMachine) (a : Place) (S : State) (offers : List LocalAction) (before after : List ℕ)
    → Sound (object h) → Reaches (object h) S → HasBehind S a offers → SleepButFaced ends offers before after
    → SleepButFacedAt ends h a before after
faced-woken ends h a S offers before after sound here has woken i sleeps =
    let one = woken i sleeps in
    (one.0, λ are faced. not one.1 faced)
  where
    not : (FacedBy ends offers i → ⊥) → FacedAt ends h a i → ⊥
    not none (T, x, reaches, offered, behind, on) =
        let same : T ≡ S = reaches-one (object h) T S sound reaches here in
        none (x, has x (subst (λ (U : State). Offered U x) same offered) behind, on)

-- ---- by one channel after another
abbrev pub KeptActing : Ends → List ℕ → List ℕ → List ℕ → List ℕ → Type 0
KeptActing ends all rest before after =
    (i : ℕ) → IsAsleep after i → IsAsleep before i × (ActsOnOne ends all i → ActsOnOne ends rest i)

pub acting-begins : (ends : Ends) (all : List ℕ) (asleep : List ℕ) → KeptActing ends all (drop 0 all) asleep asleep
acting-begins ends all asleep i h = (h, λ acts. acts)

pub acting-more : (ends : Ends) (all : List ℕ) (n x : ℕ) (before between after : List ℕ) → n < length all → x ≡ get_or all n 0
    → KeptActing ends all (drop n all) before between → SleepButThese (list_at ends.used.acting.items x) between after
    → KeptActing ends all (drop (n + 1) all) before after
acting-more ends all n x before between after less is kept but i h =
    let one : IsAsleep between i × (In i (list_at ends.used.acting.items x) → ⊥) = but i h in
    let old = kept i one.0 in
    (old.0, λ acts. others one.1 (old.1 acts))
  where
    others : (In i (list_at ends.used.acting.items x) → ⊥) → ActsOnOne ends (drop n all) i → ActsOnOne ends (drop (n + 1) all) i
    others not (c, among, on) = elim (subst (λ (rest : List ℕ). In c rest) (drop_more all n 0 less) among) [
      | inl e ↦ absurd (not (subst (λ (d : ℕ). In i (list_at ends.used.acting.items d)) (e ∙ sym is) on))
      | inr more ↦ (c, more, on)
    ]

pub acting-ends : (ends : Ends) (all : List ℕ) (n : ℕ) (before after : List ℕ) → length all ≤ n
    → KeptActing ends all (drop n all) before after → SleepButActing ends all before after
acting-ends ends all n before after past kept i h =
    let old = kept i h in
    (old.0, λ acts. none (subst (λ (rest : List ℕ). ActsOnOne ends rest i) (drop_all n all past) (old.1 acts)))
  where
    none : ActsOnOne ends [] i → ⊥
    none (c, among, on) = absurd among

-- what is offered behind a place is on one of the channels on which its branch gives
pub acting-woken : GivesWhatIsKnown → (ends : Ends) (h : AtMachine) (a : Place) (channels : List ℕ) (before after : List ℕ)
    → AreGiven h.checked ends a channels → SleepButActing ends channels before after → SleepButFacedAt ends h a before after
acting-woken law ends h a channels before after (k, is, same) woken i sleeps =
    let one = woken i sleeps in
    (one.0, λ are faced. not are one.1 faced)
  where
    on : (o : Option ℕ) → In i (acting_on ends o) → ((c : ℕ) → o ≡ Some c → In c channels) → ActsOnOne ends channels i
    on None acts given = absurd acts
    on (Some c) acts given = (c, given c refl, acts)

    not : AreEnds h.checked ends → (ActsOnOne ends channels i → ⊥) → FacedAt ends h a i → ⊥
    not are none (T, x, reaches, offered, behind, acts) =
        none (on (given_on x.action) acts
        (λ c given. subst (λ (cs : List ℕ). In c cs) (sym same)
        (law h.checked ends (events h.live) T a x k c are reaches offered behind is given)))

-- the state is one of runs
pub state-formed : (h : AtMachine) (S : State) → Sound (object h) → Reaches (object h) S → WellFormed S.residual
state-formed h S sound reaches =
    run-formed (object h).opening S (events h.live) (sound-formed (object h) sound) reaches

pub faced-all-woken : (ends : Ends) (h : AtMachine) (a : Place) (before after : List ℕ) → NoneSleeps after
    → SleepButFacedAt ends h a before after
faced-all-woken ends h a before after none i sleeps = absurd (none i sleeps)

-- one place alone
at-one : (ends : Ends) (h : AtMachine) (a : Place) (i : ℕ) → PassesAt ends h a i → (b : Place) → In b (a ∷ []) → PassesAt ends h b i
at-one ends h a i passes b among = elim among [
  | inl same ↦ subst (λ (c : Place). PassesAt ends h c i) (sym same) passes
  | inr bad ↦ absurd bad
]

-- the branch in which the place lies, and those that are faced there
pub wakes-at : (ends : Ends) (h : AtMachine) (a : Place) (before between after : List ℕ)
    → SleepButAt h.checked a before between → SleepButFacedAt ends h a between after
    → SleepBehindPlaces ends h (a ∷ []) before after
wakes-at ends h a before between after one faced i sleeps =
    let later = faced i sleeps in
    let sooner = one i later.0 in
    let passes : PassesAt ends h a i = record { elsewhere = sooner.1; faced_by_none = later.1 } in
    inl (sooner.0, at-one ends h a i passes)

-- another branch than that of the place, which is not faced there
passes-other : (ends : Ends) (h : AtMachine) (a : Place) (k i : ℕ) → branch_at h.checked a ≡ Some k → i ≢ k
    → ((T : State) (x : LocalAction) → Reaches (object h) T → Offered T x → Before a x.place → In i (faced_by ends x) → ⊥)
    → PassesAt ends h a i
passes-other ends h a k i at other none = record {
  elsewhere = λ there. other (sym (some-same k i (sym at ∙ there)));
  faced_by_none = λ are faced. unfaced faced;
}
  where
    unfaced : FacedAt ends h a i → ⊥
    unfaced (T, x, reaches, offered, behind, acts) = none T x reaches offered behind acts

-- a branch that may have a step, and faces those on one channel at most
pub acts-at : (ends : Ends) (h : AtMachine) (a : Place) (k : ℕ) (faced : Option ℕ) (before between after : List ℕ)
    → branch_at h.checked a ≡ Some k → FacesNow (Glance.Acts faced) h a → SleepButThese (acting_on ends faced) before between
    → SleepBut k between after → SleepBehindPlaces ends h (a ∷ []) before after
acts-at ends h a k faced before between after at faces woken but i sleeps =
    let one = but i sleeps in
    let old = woken i one.0 in
    inl (
      old.0,
      at-one ends h a i (passes-other ends h a k i at one.1
          (λ T x reaches offered behind acts.
          old.1 (subst (λ (o : Option ℕ). In i (acting_on ends o)) (faces T x reaches offered behind) acts))),
    )

-- one that has no step
pub rests-at : (ends : Ends) (h : AtMachine) (a : Place) (k : ℕ) (faced : Option ℕ) (before between after : List ℕ)
    → branch_at h.checked a ≡ Some k → TellsNow (Glance.Rests faced) ends h k → FacesNow (Glance.Rests faced) h a
    → SleepButThese (acting_on ends faced) before between → ((i : ℕ) → IsAsleep after i → IsAsleep between i ⊎ (i ≡ k))
    → SleepBehindPlaces ends h (a ∷ []) before after
rests-at ends h a k faced before between after at tells faces woken lulls i sleeps = elim (cases_order i k) [
  | inl same ↦ inr (rests same)
  | inr order ↦ elim (lulls i sleeps) [
    | inl kept ↦ inl (
      (woken i kept).0,
      at-one ends h a i (passes-other ends h a k i at (apart order)
          (λ T x reaches offered behind acts.
          (woken i kept).1 (subst (λ (o : Option ℕ). In i (acting_on ends o)) (faces T x reaches offered behind) acts))),
    )
    | inr same ↦ inr (rests same)
  ]
]
  where
    rests : i ≡ k → RestsNow ends h i
    rests same are T reaches = subst (λ (n : ℕ). IdleIn h.checked T n) (sym same) (tells are T reaches)

    apart : (i < k) ⊎ (k < i) → i ≢ k
    apart (inl less) same = omega arith
    apart (inr more) same = omega arith

-- no channel is faced
pub nobody-faced : (ends : Ends) (asleep : List ℕ) → SleepButThese (acting_on ends None) asleep asleep
nobody-faced ends asleep i sleeps = (sleeps, λ none. none)

-- what a look tells of the state of a machine
pub tells-now : (told : Glance) (ends : Ends) (h : AtMachine) (k : ℕ) (S : State) → Sound (object h) → Reaches (object h) S
    → (AreEnds h.checked ends → Tells told h.checked S k) → TellsNow told ends h k
tells-now told ends h k S sound here tells are T reaches =
    subst (λ (U : State). Tells told h.checked U k) (sym (reaches-one (object h) T S sound reaches here)) (tells are)

pub faces-now : (told : Glance) (h : AtMachine) (a : Place) (S : State) → Sound (object h) → Reaches (object h) S
    → ((x : LocalAction) → Offered S x → Before a x.place → IsFaced told x.action) → FacesNow told h a
faces-now told h a S sound here faces T x reaches offered behind =
    faces x (subst (λ (U : State). Offered U x) (reaches-one (object h) T S sound reaches here) offered) behind

pub place-all-woken : (ends : Ends) (h : AtMachine) (a : Place) (before after : List ℕ) → NoneSleeps after
    → SleepBehindPlaces ends h (a ∷ []) before after
place-all-woken ends h a before after none i sleeps = absurd (none i sleeps)

pub no-place : (ends : Ends) (h : AtMachine) (asleep : List ℕ) → SleepBehindPlaces ends h [] asleep asleep
no-place ends h asleep i sleeps = inl (sleeps, λ a among. absurd among)

-- both sides of a step
pub wakes-event : (ends : Ends) (h : AtMachine) (e : Event) (before between after : List ℕ)
    → SleepBehindPlaces ends h (e.first ∷ []) before between → SleepBehindPlaces ends h (places_of e.second) between after
    → SleepBehindEvent ends h e before after
wakes-event ends h e before between after one other i sleeps = elim (other i sleeps) [
  | inr rests ↦ inr rests
  | inl later ↦ elim (one i later.0) [
    | inr rests ↦ inr rests
    | inl sooner ↦ inl (
      sooner.0,
      passes (λ a among. elim among [ inl same ↦ sooner.1 a (inl same) | inr more ↦ later.1 a more ]),
    )
  ]
]
  where
    passes : ((a : Place) → In a (places e) → PassesAt ends h a i) → PassesNow ends h e i
    passes at are T reaches = record {
      apart = λ part. (at part.0 part.1).elsewhere part.2;
      faces_none = λ faced. faces at are T reaches faced;
    }
      where
        faces : ((a : Place) → In a (places e) → PassesAt ends h a i) → AreEnds h.checked ends → (T : State) → Reaches (object h) T
            → Faces ends T e i → ⊥
        faces at are T reaches (x, c, (offered, (a, among, behind)), given, acts) =
            (at a among).faced_by_none are
            (T, x, reaches, offered, behind, subst (λ (o : Option ℕ). In i (acting_on ends o)) (sym given) acts)

-- a mark that is not that of one that is awake
marked : (xs : List ℕ) (k : ℕ) → k < length xs → (find.Passes (is_byte 0) xs k → ⊥) → IsAsleep xs k
marked [] k less other = absurd (omega arith)
marked (zero ∷ xs) zero less other = absurd (other refl)
marked (suc mark ∷ xs) zero less other = (mark, refl)
marked (x ∷ xs) (suc k) less other = marked xs k (omega arith) other

-- who is asleep among those that are left behind some
left-asleep : (xs : List ℕ) (from k : ℕ) → IsAsleep (drop from xs) k → IsAsleep xs (from + k)
left-asleep xs zero k h = let same : k ≡ 0 + k = omega arith in subst (λ (j : ℕ). IsAsleep xs j) same h
left-asleep [] (suc from) k (mark, h) = absurd (none-some (suc mark) h)
left-asleep (x ∷ xs) (suc from) k h =
    let same : suc (from + k) ≡ suc from + k = omega arith in
    subst (λ (j : ℕ). IsAsleep (x ∷ xs) j) same (left-asleep xs from k h)

-- among those that are left, none of the first so many is awake
pub asleep-up-to : (xs hay : List ℕ) (from n end : ℕ) → hay ≡ drop from xs → n ≤ length hay → n ≤ end
    → find.Nowhere (find.Passes (is_byte 0) hay) 0 end → AllSleep xs from (from + n)
asleep-up-to xs hay from n end left within less none i low high =
    let k : ℕ = i - from in
    let here : from + k ≡ i = omega arith in
    let one : IsAsleep hay k = marked hay k (omega arith) (none k (omega arith) (omega arith)) in
    subst (λ (j : ℕ). IsAsleep xs j) here (left-asleep xs from k (subst (λ (ys : List ℕ). IsAsleep ys k) left one))

-- none of no branches is awake
pub none-between : (xs : List ℕ) (from to : ℕ) → to ≤ from → AllSleep xs from to
none-between xs from to past i low high = absurd (omega arith)

-- nor is one of fewer
pub fewer-sleep : (xs : List ℕ) (from to end : ℕ) → AllSleep xs from end → to ≤ end → AllSleep xs from to
fewer-sleep xs from to end all less i low high = all i low (omega arith)

-- behind another reply than that of a step the same sleep
pub kept-behind : (ends : Ends) (h : AtMachine) (k : ℕ) (reply : Reply) (asleep : List ℕ)
    → ((t : ℕ) (e : Event) → reply ≡ Reply.Stepped t e → ⊥) → SleepsBehind ends h k reply asleep asleep
kept-behind ends h k (Reply.Stepped t e) asleep none = absurd (none t e refl)
kept-behind ends h k (Reply.Undone t e) asleep none = λ i sleeps. sleeps
kept-behind ends h k (Reply.Rolled n) asleep none = λ i sleeps. sleeps
kept-behind ends h k (Reply.Blamed t) asleep none = λ i sleeps. sleeps
kept-behind ends h k (Reply.Ready es) asleep none = λ i sleeps. sleeps
kept-behind ends h k (Reply.Consequences ts) asleep none = λ i sleeps. sleeps
kept-behind ends h k (Reply.Live l) asleep none = λ i sleeps. sleeps
kept-behind ends h k (Reply.Value v) asleep none = λ i sleeps. sleeps
kept-behind ends h k (Reply.Stopped line) asleep none = λ i sleeps. sleeps
kept-behind ends h k Reply.Idle asleep none = λ i sleeps. inl sleeps
kept-behind ends h k Reply.Done asleep none = λ i sleeps. sleeps
kept-behind ends h k (Reply.Refused why) asleep none = λ i sleeps. sleeps
