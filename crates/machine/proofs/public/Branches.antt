-- What a step of a branch takes, from the list of the ready events.
use Rattle.std.proofs.Common.{◌≡◌, ◌⊎◌, inl, inr, ℕ, suc, ◌+◌, ◌<◌, ◌≤◌, List, [], ◌∷◌, ◌++◌, Bool, true, false, cond, length, take, drop, get_or, Option, Some, None, refl, sym, ◌∙◌, ap, subst, slice_get}
use Rattle.std.specs.Prelude.{MatchOption, filter}
use Rattle.std.proofs.lemmas.List.Elements.{filter-append}
use Rattle.syntax.specs.Lists.{Every}
use Rattle.sharing_check.specs.declared.checked.Checked.{Checked}
use Rattle.system_places.specs.SystemBranches.{branch_at}
use Rattle.dependence.specs.EventPlaces.{line_after}
use Rattle.runs.specs.Moves.{Place}
use Rattle.runs.specs.Events.{acting}
use Rattle.runs.specs.Choices.{choice_of}
use Rattle.runs.specs.Steps.{State}
use Rattle.runs.specs.Ready.{ReadyList, Chosen}
use Rattle.runs.specs.Live.{events}
use Rattle.runs.specs.Object.{Reaches, most_live, last_ticket, with_event}
use Rattle.runs.specs.Does.{Steps, RefusesStep}
use Rattle.runs.specs.declared.event.Event.{Event}
use Rattle.runs.specs.declared.event.Choice.{Choice}
use Rattle.runs.specs.Commands.{Reply}
use Rattle.runs.specs.declared.command.Refusal.{Refusal}
use Rattle.runs.proofs.public.Options.{some-injective}
use Rattle.runs.proofs.public.Lists.{every-in, every-of, in-parts}
use Rattle.machine.specs.AtMachine.{AtMachine, object, at_machine}
use Rattle.machine.specs.internal.Histories.{execution}
use Rattle.machine.specs.internal.Choosing.{NotTaken, FirstAt, Takes, IsChosenAt, moves, line_of_first}
use Rattle.machine.specs.Branching.{is_branch, acts_in, in_branch, has_no_break, line_of, is_free, FirstFree, Branched, StepsBranch, SteppedIsStep, OthersLeave}
use Rattle.machine.specs.declared.history.History.{History}
use Rattle.machine.specs.declared.branch.BranchReply.{BranchReply}
use Rattle.machine.specs.declared.branch.BranchReply.TheVariants.{Stepped, Stopped, Idle, Refused}
use Rattle.machine.proofs.public.Entries.{parts-at, item-at}
use Rattle.machine.proofs.public.Gathering.{take-more, take-all}
use Rattle.machine.specs.internal.Sites.{ReadyWith}
use Rattle.machine.proofs.Sites.{with-chosen}
use Rattle.machine.proofs.Stepped.{chosen-first, not-taken}

-- the same execution of one system with the same marks is the same `AtMachine`
pub at_machine-same : (checked : Checked) (h h' : History) → execution checked h' ≡ execution checked h → h'.live.marked ≡ h.live.marked →
    at_machine checked h' ≡ at_machine checked h
at_machine-same checked h h' e marks = λ i. record { checked = checked; live = (e i).live; next = (e i).next; marked = marks i }

-- one more event that does not pass
pub fails-more : (test : Event → Bool) (es : List Event) (i : ℕ) (e : Event) (b : Bool) → Every (λ f. test f ≡ false) (take i es) → i < length es →
    e ≡ get_or es i e → b ≡ test e → b ≡ false → Every (λ f. test f ≡ false) (take (i + 1) es)
fails-more test es i e b before less is told off =
    subst (λ (k : List Event). Every (λ f. test f ≡ false) k) (sym (take-more es i e less is))
    (every-of (λ f. test f ≡ false) (take i es ++ e ∷ []) (λ f j. elim (in-parts f (take i es) (e ∷ []) j) [
      | inl u ↦ every-in (λ g. test g ≡ false) (take i es) f before u
      | inr (inl u) ↦ ap test u ∙ sym told ∙ off
      | inr (inr u) ↦ absurd u
    ]))

-- the first that does
pub passes-here : (test : Event → Bool) (es : List Event) (i : ℕ) (e : Event) (b : Bool) → Every (λ f. test f ≡ false) (take i es) → i < length es →
    e ≡ get_or es i e → b ≡ test e → b ≡ true → FirstAt test es i
passes-here test es i e b before less is told on = (e, item-at es i e less is, sym told ∙ on, before)

-- none passes
pub fails-all : (test : Event → Bool) (es : List Event) (i : ℕ) → length es ≤ i → Every (λ f. test f ≡ false) (take i es) → Every (λ f. test f ≡ false) es
fails-all test es i past none = subst (λ (k : List Event). Every (λ f. test f ≡ false) k) (take-all es i past) none

both-true : (a b : Bool) → cond a b false ≡ true → (a ≡ true) × (b ≡ true)
both-true true b h = (refl, h)
both-true false b h = cc

-- where none of the list passes both tests, none that passes the first passes the second
none-free : (acts free : Event → Bool) (es : List Event) → Every (λ e. cond (acts e) (free e) false ≡ false) es → Every (λ e. free e ≡ false) (filter acts es)
none-free acts free [] h = tt
none-free acts free (e ∷ es) h = pick (acts e) h.0 (none-free acts free es h.1)
  where
    pick : (b : Bool) → cond b (free e) false ≡ false → Every (λ f. free f ≡ false) (filter acts es) →
        Every (λ f. free f ≡ false) (cond b (e ∷ filter acts es) (filter acts es))
    pick true h rest = (h, rest)
    pick false h rest = rest

-- the first of the list that passes both tests is the first that passes the second among those that pass the first
first-free : (acts free : Event → Bool) (es : List Event) (i : ℕ) (e : Event) → slice_get es i ≡ Some e → cond (acts e) (free e) false ≡ true →
    Every (λ f. cond (acts f) (free f) false ≡ false) (take i es) → FirstFree free (filter acts es) e
first-free acts free es i e at on before =
    let both = both-true (acts e) (free e) on in
    record {
      before = filter acts (take i es);
      after = filter acts (drop (suc i) es);
      parts =
          ap (filter acts) (parts-at es i e at)
          ∙ filter-append acts (take i es) (e ∷ drop (suc i) es)
          ∙ ap (λ (b : Bool). filter acts (take i es) ++ cond b (e ∷ filter acts (drop (suc i) es)) (filter acts (drop (suc i) es))) both.0;
      is_free = both.1;
      kept_back = none-free acts free (take i es) before;
    }

-- it is the event that its choice means, where the test tells the same of events with one acting address
first-chosen : (test : Event → Bool) → ((x y : Event) → acting x ≡ acting y → test x ≡ test y) → (T : State) (es : List Event) (i : ℕ) (e : Event) →
    ReadyList T es → slice_get es i ≡ Some e → test e ≡ true → Every (λ f. test f ≡ false) (take i es) → Chosen T (choice_of e) e
first-chosen test same T es i e ready at on before =
    chosen-first T (choice_of e) es i e ready at refl (λ g j one.
    let off : test g ≡ false = every-in (λ f. test f ≡ false) (take i es) g before j in
    let passes : test g ≡ true = same g e (ap (λ (c : Choice). c.place) one) ∙ on in
    cc)

-- whether an event moves is told by its acting address
same-moves : (h : AtMachine) (k : ℕ) (breaks : List ℕ) (x y : Event) → acting x ≡ acting y → moves h k breaks x ≡ moves h k breaks y
same-moves h k breaks x y e =
    ap (λ (p : Place). cond (is_branch k (branch_at h.checked p)) (has_no_break breaks (line_after (events h.live) h.checked p)) false) e

pub moving-chosen : (h : AtMachine) (k : ℕ) (breaks : List ℕ) (T : State) (es : List Event) (i : ℕ) → ReadyList T es → (first : FirstAt (moves h k breaks) es i) →
    Chosen T (choice_of first.0) first.0
moving-chosen h k breaks T es i ready first = first-chosen (moves h k breaks) (same-moves h k breaks) T es i first.0 ready first.1 first.2 first.3

-- the event at the place is the one that is chosen
pub chosen-there : (T : State) (es : List Event) (i : ℕ) (e : Event) → IsChosenAt T es i → slice_get es i ≡ Some e → Chosen T (choice_of e) e
chosen-there T es i e chosen at =
    subst (λ (f : Event). Chosen T (choice_of f) f) (some-injective chosen.0 e (sym chosen.1 ∙ at)) chosen.2

-- the event at the place is taken
pub take-done : (h h' : AtMachine) (T : State) (e x f : Event) (entry : ℕ × Event) → Reaches (object h) T → Chosen T (choice_of e) e → x ≡ e → Some x ≡ Some f →
    length h.live < most_live → h.next ≤ last_ticket → entry ≡ (h.next, f) → object h' ≡ with_event (object h) f → Takes h e (Stepped entry.0 entry.1) h'
take-done h h' T e x f entry reaches chosen is found room left told after =
    let one : f ≡ e = sym (some-injective x f found) ∙ is in
    subst (λ (y : ℕ × Event). Takes h e (Stepped y.0 y.1) h') (sym (told ∙ ap (λ (g : Event). (h.next, g)) one))
    (refl, (refl, room, left, (T, reaches, chosen), after ∙ ap (with_event (object h)) one))

-- it is not
pub take-refused : (h : AtMachine) (T : State) (e x : Event) (why : Refusal) → Reaches (object h) T → Chosen T (choice_of e) e → x ≡ e →
    NotTaken (Some x) (length h.live) h.next why → RefusesStep (object h) (choice_of e) why
take-refused h T e x why reaches chosen is h-not =
    not-taken (object h) (choice_of e) (Some x) why T reaches (subst (λ (y : Event). Chosen T (choice_of e) y) (sym is) chosen) h-not

-- the same of a list with all events of the branch that are ready
pub moving-with : (h : AtMachine) (k : ℕ) (breaks : List ℕ) (T : State) (bs : List Event) (i : ℕ) → ReadyWith T (acts_in h k) bs → (first : FirstAt (moves h k breaks) bs i) →
    Chosen T (choice_of first.0) first.0
moving-with h k breaks T bs i some first =
    with-chosen T (acts_in h k) (moves h k breaks) bs i first.0 (same-moves h k breaks) (λ x on. (both-true (acts_in h k x) (is_free h breaks x) on).0) some first.1 first.2
    first.3

-- what was taken is the first free event of the branch, of any list with the same events of the branch as the ready list
pub taken-with : (h h' : AtMachine) (k : ℕ) (breaks : List ℕ) (T : State) (es bs : List Event) (i : ℕ) (reply : BranchReply) → Reaches (object h) T → ReadyList T es →
    in_branch h k bs ≡ in_branch h k es → (first : FirstAt (moves h k breaks) bs i) → Takes h first.0 reply h' → StepsBranch h k breaks reply h'
taken-with h h' k breaks T es bs i reply reaches ready one first takes = (
  T,
  es,
  reaches,
  ready,
  subst (λ (l : List Event). Branched h breaks l reply h') one
      (by-reply reply (first-free (acts_in h k) (is_free h breaks) bs i first.0 first.1 first.2 first.3) takes),
)
  where
    by-reply : (r : BranchReply) → FirstFree (is_free h breaks) (in_branch h k bs) first.0 → Takes h first.0 r h' → Branched h breaks (in_branch h k bs) r h'
    by-reply (Stepped t f) found w =
        subst (λ (g : Event). FirstFree (is_free h breaks) (in_branch h k bs) g × Steps (object h) (choice_of g) (Reply.Stepped t g) (object h')) (sym w.0) (found, w.1)
    by-reply (Refused why) found w = ((first.0, found, w.0), w.1)
    by-reply _ found w = absurd w

pub taken-branched : (h h' : AtMachine) (k : ℕ) (breaks : List ℕ) (T : State) (es : List Event) (i : ℕ) (reply : BranchReply) → Reaches (object h) T → ReadyList T es →
    (first : FirstAt (moves h k breaks) es i) → Takes h first.0 reply h' → StepsBranch h k breaks reply h'
taken-branched h h' k breaks T es i reply reaches ready first takes = taken-with h h' k breaks T es es i reply reaches ready refl first takes

-- breakpoints keep all back, or there is none
all-back : (h : AtMachine) (breaks : List ℕ) (es : List Event) (reply : BranchReply) → Every (λ e. is_free h breaks e ≡ false) es →
    MatchOption (line_of_first h es) (reply ≡ Idle) (λ line. reply ≡ Stopped line) → Branched h breaks es reply h
all-back h breaks [] reply none told = subst (λ (r : BranchReply). Branched h breaks [] r h) (sym told) (refl, refl)
all-back h breaks (e ∷ es) reply none told = by-line (line_of h e) refl none.0 told
  where
    by-line : (line : Option ℕ) → line_of h e ≡ line → has_no_break breaks line ≡ false → MatchOption line (reply ≡ Idle) (λ n. reply ≡ Stopped n) →
        Branched h breaks (e ∷ es) reply h
    by-line None is off said = cc
    by-line (Some n) is off said = subst (λ (r : BranchReply). Branched h breaks (e ∷ es) r h) (sym said) ((is, none), refl)

pub back-with : (h : AtMachine) (k : ℕ) (breaks : List ℕ) (T : State) (es bs : List Event) (reply : BranchReply) → Reaches (object h) T → ReadyList T es →
    in_branch h k bs ≡ in_branch h k es → Every (λ e. moves h k breaks e ≡ false) bs →
    MatchOption (line_of_first h (in_branch h k bs)) (reply ≡ Idle) (λ line. reply ≡ Stopped line) → StepsBranch h k breaks reply h
back-with h k breaks T es bs reply reaches ready one none told = (
  T,
  es,
  reaches,
  ready,
  subst (λ (l : List Event). Branched h breaks l reply h) one
      (all-back h breaks (in_branch h k bs) reply (none-free (acts_in h k) (is_free h breaks) bs none) told),
)

pub back-branched : (h : AtMachine) (k : ℕ) (breaks : List ℕ) (T : State) (es : List Event) (reply : BranchReply) → Reaches (object h) T → ReadyList T es →
    Every (λ e. moves h k breaks e ≡ false) es → MatchOption (line_of_first h (in_branch h k es)) (reply ≡ Idle) (λ line. reply ≡ Stopped line) →
    StepsBranch h k breaks reply h
back-branched h k breaks T es reply reaches ready none told = back-with h k breaks T es es reply reaches ready refl none told

pub stepped-is-step : SteppedIsStep
stepped-is-step h h' k t breaks e a = elim a [ inl b ↦ b.4.1 | inr b ↦ cc ]

pub others-leave : OthersLeave
others-leave h h' k breaks reply a = elim a [ inl b ↦ by-reply reply (in_branch h k b.1) b.4 | inr b ↦ inr b.1 ]
  where
    by-reply : (r : BranchReply) (es : List Event) → Branched h breaks es r h' → ((t : ℕ) × (e : Event) × (r ≡ Stepped t e)) ⊎ (h' ≡ h)
    by-reply (Stepped t e) es b = inl (t, e, refl)
    by-reply (Stopped line) es b = inr b.1
    by-reply Idle es b = inr b.1
    by-reply (Refused why) es b = inr b.1
