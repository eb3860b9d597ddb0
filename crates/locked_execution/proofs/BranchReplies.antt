-- A step in a branch has one reply.
use Rattle.std.proofs.Common.{◌≡◌, ◌⊎◌, inl, inr, ℕ, suc, List, [], ◌∷◌, ◌++◌, Bool, true, false, length, drop, get_or, Option, Some, None, refl, sym, ◌∙◌, ap, subst}
use Rattle.std.specs.Prelude.{MatchOption}
use Rattle.std.proofs.lemmas.Bool.{cases_lt}
use Rattle.syntax.specs.Lists.{In, Every}
use Rattle.runs.specs.Steps.{State}
use Rattle.runs.specs.Choices.{choice_of}
use Rattle.runs.specs.Ready.{Sooner, ReadyList, Chosen}
use Rattle.runs.specs.Live.{events}
use Rattle.runs.specs.Object.{Reaches, most_live, last_ticket, with_event}
use Rattle.runs.specs.Does.{CanStep, RefusesStep}
use Rattle.runs.specs.Sound.{Sound}
use Rattle.runs.specs.declared.event.Event.{Event}
use Rattle.runs.specs.Commands.{Command, Reply}
use Rattle.runs.specs.declared.command.Refusal.{Refusal}
use Rattle.runs.specs.declared.command.Refusal.TheVariants.{HistoryFull, Spent}
use Rattle.runs.proofs.public.Options.{some-injective}
use Rattle.runs.proofs.public.Lists.{every-in, in-right}
use Rattle.runs.proofs.public.Orders.{run-formed}
use Rattle.runs.proofs.public.Effects.{sound-formed}
use Rattle.runs.proofs.public.StateLaws.{reaches-one}
use Rattle.runs.proofs.public.ReadyLists.{ready-list, sooner-asymmetric}
use Rattle.runs.proofs.public.SortedLists.{same-elements}
use Rattle.runs.proofs.public.OneReplies.{one-reply}
use Rattle.machine.specs.AtMachine.{AtMachine, object}
use Rattle.machine.specs.Branching.{in_branch, is_free, FirstFree, AllKeptBack, Branched, StepsBranch}
use Rattle.machine.specs.internal.Choosing.{line_of_first, moves, FirstAt, Takes}
use Rattle.machine.specs.declared.branch.BranchReply.{BranchReply}
use Rattle.machine.specs.declared.branch.BranchReply.TheVariants.{Stepped, Stopped, Idle, Refused}
use Rattle.machine.proofs.public.Branches.{moving-chosen, taken-branched, back-branched}

-- one event alone is the first of a list that passes
one-first : (free : Event → Bool) (xs ys after later : List Event) (e f : Event) → xs ++ e ∷ after ≡ ys ++ f ∷ later → free e ≡ true → free f ≡ true →
    Every (λ g. free g ≡ false) xs → Every (λ g. free g ≡ false) ys → e ≡ f
one-first free [] [] after later e f same on too none never = ap (λ (l : List Event). get_or l 0 e) same
one-first free [] (y ∷ ys) after later e f same on too none never =
    let head : e ≡ y = ap (λ (l : List Event). get_or l 0 e) same in
    let off : free y ≡ false = never.0 in
    cc
one-first free (x ∷ xs) [] after later e f same on too none never =
    let head : x ≡ f = ap (λ (l : List Event). get_or l 0 e) same in
    let off : free x ≡ false = none.0 in
    cc
one-first free (x ∷ xs) (y ∷ ys) after later e f same on too none never =
    one-first free xs ys after later e f (ap (λ (l : List Event). drop 1 l) same) on too none.1 never.1

one-free : (free : Event → Bool) (es : List Event) (e f : Event) → FirstFree free es e → FirstFree free es f → e ≡ f
one-free free es e f h g =
    one-first free h.before g.before h.after g.after e f (sym h.parts ∙ g.parts) h.is_free g.is_free h.kept_back g.kept_back

-- where one is free, not all are kept back
some-free : (free : Event → Bool) (es : List Event) (e : Event) → FirstFree free es e → Every (λ f. free f ≡ false) es → ⊥
some-free free es e h none =
    let inside : In e es = subst (λ (l : List Event). In e l) (sym h.parts) (in-right e h.before (e ∷ h.after) (inl refl)) in
    let off : free e ≡ false = every-in (λ f. free f ≡ false) es e none inside in
    let on : free e ≡ true = h.is_free in
    cc

none-there : (free : Event → Bool) (es : List Event) (e : Event) → FirstFree free es e → es ≡ [] → ⊥
none-there free es e h empty = some-free free es e h (subst (λ (l : List Event). Every (λ f. free f ≡ false) l) (sym empty) tt)

back-every : (h : AtMachine) (breaks : List ℕ) (es : List Event) (line : ℕ) → AllKeptBack h breaks es line → Every (λ e. is_free h breaks e ≡ false) es
back-every h breaks [] line back = tt
back-every h breaks (e ∷ es) line back = back.1

back-there : (h : AtMachine) (breaks : List ℕ) (es : List Event) (line : ℕ) → AllKeptBack h breaks es line → es ≡ [] → ⊥
back-there h breaks es line back empty = subst (λ (l : List Event). AllKeptBack h breaks l line) empty back

one-line : (h : AtMachine) (breaks : List ℕ) (es : List Event) (m n : ℕ) → AllKeptBack h breaks es m → AllKeptBack h breaks es n → m ≡ n
one-line h breaks [] m n back again = absurd back
one-line h breaks (e ∷ es) m n back again = some-injective m n (sym back.0 ∙ again.0)

-- a step that is taken is not refused
taken-or-refused : (h p : AtMachine) (breaks : List ℕ) (es : List Event) (t : ℕ) (e f : Event) (why : Refusal) → Sound (object h) →
    Branched h breaks es (Stepped t e) p → FirstFree (is_free h breaks) es f → RefusesStep (object h) (choice_of f) why → ⊥
taken-or-refused h p breaks es t e f why s b first refuses =
    let same : e ≡ f = one-free (is_free h breaks) es e f b.0 first in
    let there : RefusesStep (object h) (choice_of e) why = subst (λ (g : Event). RefusesStep (object h) (choice_of g) why) (sym same) refuses in
    let told : Reply.Stepped t e ≡ Reply.Refused why =
    (one-reply (object h) (object p) (object h) (Command.Step (choice_of e)) (Reply.Stepped t e) (Reply.Refused why) s b.1 (there, refl)).0 in
    cc

-- a refusal tells its reason
abbrev reason : Refusal → Reply → Refusal
reason other (Reply.Refused why) = why
reason other _ = other

-- two replies, and the executions after them, are the same
abbrev Same : BranchReply → BranchReply → AtMachine → AtMachine → Type 0
Same reply other p q = (reply ≡ other) × (object p ≡ object q)

one-branched : (h p q : AtMachine) (breaks : List ℕ) (es : List Event) (reply other : BranchReply) → Sound (object h) →
    Branched h breaks es reply p → Branched h breaks es other q → Same reply other p q
one-branched h p q breaks es (Stepped t e) (Stepped u f) s b c =
    let same : e ≡ f = one-free (is_free h breaks) es e f b.0 c.0 in
    let tickets : t ≡ u = b.1.0 ∙ sym c.1.0 in
    ((λ i. Stepped (tickets i) (same i)), b.1.4 ∙ ap (with_event (object h)) same ∙ sym c.1.4)
one-branched h p q breaks es (Stepped t e) (Stopped line) s b c = absurd (some-free (is_free h breaks) es e b.0 (back-every h breaks es line c.0))
one-branched h p q breaks es (Stepped t e) Idle s b c = absurd (none-there (is_free h breaks) es e b.0 c.0)
one-branched h p q breaks es (Stepped t e) (Refused why) s b c = absurd (taken-or-refused h p breaks es t e c.0.0 why s b c.0.1 c.0.2)
one-branched h p q breaks es (Stopped line) (Stepped u f) s b c = absurd (some-free (is_free h breaks) es f c.0 (back-every h breaks es line b.0))
one-branched h p q breaks es (Stopped m) (Stopped n) s b c = (ap Stopped (one-line h breaks es m n b.0 c.0), ap object (b.1 ∙ sym c.1))
one-branched h p q breaks es (Stopped line) Idle s b c = absurd (back-there h breaks es line b.0 c.0)
one-branched h p q breaks es (Stopped line) (Refused why) s b c = absurd (some-free (is_free h breaks) es c.0.0 c.0.1 (back-every h breaks es line b.0))
one-branched h p q breaks es Idle (Stepped u f) s b c = absurd (none-there (is_free h breaks) es f c.0 b.0)
one-branched h p q breaks es Idle (Stopped line) s b c = absurd (back-there h breaks es line c.0 b.0)
one-branched h p q breaks es Idle Idle s b c = (refl, ap object (b.1 ∙ sym c.1))
one-branched h p q breaks es Idle (Refused why) s b c = absurd (none-there (is_free h breaks) es c.0.0 c.0.1 b.0)
one-branched h p q breaks es (Refused why) (Stepped u f) s b c = absurd (taken-or-refused h q breaks es u f b.0.0 why s c b.0.1 b.0.2)
one-branched h p q breaks es (Refused why) (Stopped line) s b c = absurd (some-free (is_free h breaks) es b.0.0 b.0.1 (back-every h breaks es line c.0))
one-branched h p q breaks es (Refused why) Idle s b c = absurd (none-there (is_free h breaks) es b.0.0 b.0.1 c.0)
one-branched h p q breaks es (Refused why) (Refused because) s b c =
    let same : b.0.0 ≡ c.0.0 = one-free (is_free h breaks) es b.0.0 c.0.0 b.0.1 c.0.1 in
    let there : RefusesStep (object h) (choice_of b.0.0) because =
    subst (λ (g : Event). RefusesStep (object h) (choice_of g) because) (sym same) c.0.2 in
    let told : Reply.Refused why ≡ Reply.Refused because =
    (one-reply (object h) (object h) (object h) (Command.Step (choice_of b.0.0)) (Reply.Refused why) (Reply.Refused because) s (b.0.2, refl) (there, refl)).0 in
    let one : why ≡ because = ap (λ (r : Reply). reason why r) told in
    (ap Refused one, ap object (b.1 ∙ sym c.1))

-- there is one ready list
one-list : (S : State) (es fs : List Event) → ReadyList S es → ReadyList S fs → es ≡ fs
one-list S es fs h g =
    same-elements Event Sooner sooner-asymmetric es fs h.in_order g.in_order
    (λ e i. (g.exactly e).1 ((h.exactly e).0 i)) (λ e i. (h.exactly e).1 ((g.exactly e).0 i))

-- at most one reply, and that determines the execution after it
pub one-branch : (h p q : AtMachine) (k : ℕ) (breaks : List ℕ) (reply other : BranchReply) → Sound (object h) →
    StepsBranch h k breaks reply p → StepsBranch h k breaks other q → Same reply other p q
one-branch h p q k breaks reply other s b c =
    let states : c.0 ≡ b.0 = reaches-one (object h) c.0 b.0 s c.2 b.2 in
    let lists : c.1 ≡ b.1 = one-list b.0 c.1 b.1 (subst (λ (T : State). ReadyList T c.1) states c.3) b.3 in
    one-branched h p q breaks (in_branch h k b.1) reply other s b.4
    (subst (λ (es : List Event). Branched h breaks (in_branch h k es) other q) lists c.4)

-- the first event of a list that passes, if there is one
first? : (test : Event → Bool) (es : List Event) → ((i : ℕ) × FirstAt test es i) ⊎ Every (λ e. test e ≡ false) es
first? test [] = inr tt
first? test (e ∷ es) = pick (test e) refl (first? test es)
  where
    pick : (b : Bool) → test e ≡ b → ((i : ℕ) × FirstAt test es i) ⊎ Every (λ f. test f ≡ false) es →
        ((i : ℕ) × FirstAt test (e ∷ es) i) ⊎ Every (λ f. test f ≡ false) (e ∷ es)
    pick true is rest = inl (0, (e, refl, is, tt))
    pick false is (inl found) = inl (suc found.0, (found.1.0, found.1.1, found.1.2, (is, found.1.3)))
    pick false is (inr none) = inr (is, none)

-- a reply to a step in a branch
abbrev Replied : AtMachine → ℕ → List ℕ → Type 0
Replied h k breaks =
    (reply : BranchReply) × (h' : AtMachine) × (h'.checked ≡ h.checked) × (h'.marked ≡ h.marked) × StepsBranch h k breaks reply h'

-- an event that is chosen is taken or refused
some-take : (h : AtMachine) (T : State) (e : Event) → Reaches (object h) T → Chosen T (choice_of e) e →
    (reply : BranchReply) × (h' : AtMachine) × (h'.checked ≡ h.checked) × (h'.marked ≡ h.marked) × Takes h e reply h'
some-take h T e r chosen =
    let can : CanStep (object h) (choice_of e) = (T, r, (e, chosen.allowed, chosen.choice)) in
    elim (cases_lt (length h.live) most_live) [
      | inr full ↦ (Refused HistoryFull, h, refl, refl, ((can, full), refl))
      | inl room ↦ elim (cases_lt last_ticket h.next) [
        | inl spent ↦ (Refused Spent, h, refl, refl, ((can, room, spent), refl))
        | inr left ↦ (
          Stepped h.next e,
          record { checked = h.checked; live = h.live ++ (h.next, e) ∷ []; next = suc h.next; marked = h.marked },
          refl,
          refl,
          (refl, (refl, room, left, (T, r, chosen), refl)),
        )
      ]
    ]

-- where all are kept back
some-back : (h : AtMachine) (k : ℕ) (breaks : List ℕ) (T : State) (es : List Event) → Reaches (object h) T → ReadyList T es →
    Every (λ e. moves h k breaks e ≡ false) es → Replied h k breaks
some-back h k breaks T es r ready none = pick (line_of_first h (in_branch h k es)) refl
  where
    told : (line : Option ℕ) (reply : BranchReply) → line_of_first h (in_branch h k es) ≡ line →
        MatchOption line (reply ≡ Idle) (λ n. reply ≡ Stopped n) → Replied h k breaks
    told line reply is says = (
      reply,
      h,
      refl,
      refl,
      back-branched h k breaks T es reply r ready none
          (subst (λ (o : Option ℕ). MatchOption o (reply ≡ Idle) (λ n. reply ≡ Stopped n)) (sym is) says),
    )

    pick : (line : Option ℕ) → line_of_first h (in_branch h k es) ≡ line → Replied h k breaks
    pick None is = told None Idle is refl
    pick (Some n) is = told (Some n) (Stopped n) is refl

pub some-branch : (h : AtMachine) (k : ℕ) (breaks : List ℕ) → Sound (object h) → Replied h k breaks
some-branch h k breaks s =
    let T : State = s.runs.0 in
    let r : Reaches (object h) T = s.runs.1 in
    let ready = ready-list T (run-formed (object h).opening T (events h.live) (sound-formed (object h) s) r) in
    elim (first? (moves h k breaks) ready.0) [
      | inr none ↦ some-back h k breaks T ready.0 r ready.1 none
      | inl found ↦
          let takes = some-take h T found.1.0 r (moving-chosen h k breaks T ready.0 found.0 ready.1 found.1) in
          (takes.0, takes.1, takes.2, takes.3, taken-branched h takes.1 k breaks T ready.0 found.0 takes.0 r ready.1 found.1 takes.4)
    ]
