-- What a step answers, from the state and the ready list.
use Rattle.std.proofs.Common.{◌≡◌, inl, inr, ℕ, suc, ◌<◌, ◌≤◌, List, length, take, drop, Option, Some, None, Result, Ok, Err, refl, sym, ◌∙◌, ap, subst, slice_get}
use Rattle.std.specs.Prelude.{IfOk, IsSome, MatchOption, MatchResult, Vec}
use Rattle.std.specs.Global.{Global}
use Rattle.syntax.specs.Lists.{In}
use Rattle.runs.specs.Steps.{State}
use Rattle.runs.specs.Choices.{choice_of}
use Rattle.runs.specs.Ready.{ReadyList, ChoiceAllowed, Chosen}
use Rattle.runs.specs.Object.{Object, Reaches, most_live, last_ticket, with_event}
use Rattle.runs.specs.Does.{Does, Answers, MayWantMemory, RefusesStep}
use Rattle.runs.specs.declared.event.Event.{Event}
use Rattle.runs.specs.declared.event.Choice.{Choice}
use Rattle.runs.specs.Commands.{Command, Reply}
use Rattle.runs.specs.declared.command.Refusal.{Refusal}
use Rattle.runs.specs.declared.command.Refusal.TheVariants.{NotReady, HistoryFull, Spent, Memory}
use Rattle.runs.proofs.public.ReadyLists.{first-chosen}
use Rattle.machine.specs.Results.{step_reply}
use Rattle.machine.specs.internal.Choosing.{NotTaken, IsLimit, TakesFound}
use Rattle.machine.proofs.public.Entries.{parts-at}

-- the first event of the ready list with the choice
pub chosen-first : (T : State) (c : Choice) (es : List Event) (i : ℕ) (e : Event) → ReadyList T es → slice_get es i ≡ Some e → choice_of e ≡ c →
    ((f : Event) → In f (take i es) → choice_of f ≡ c → ⊥) → Chosen T c e
chosen-first T c es i e ready at same none =
    first-chosen T c (take i es) (drop (suc i) es) e (subst (λ (k : List Event). ReadyList T k) (parts-at es i e at) ready) same none

-- the event that the choice means, where it was found
pub chosen-of : (T : State) (c : Choice) (found : Option Event) (e : Event) → MatchOption found (ChoiceAllowed T c → ⊥) (λ f. Chosen T c f) → found ≡ Some e →
    Chosen T c e
chosen-of T c found e told is = subst (λ (x : Option Event). MatchOption x (ChoiceAllowed T c → ⊥) (λ f. Chosen T c f)) is told

-- why a step is refused, from what was found
pub not-taken : (o : Object) (c : Choice) (found : Option Event) (why : Refusal) (T : State) → Reaches o T →
    MatchOption found (ChoiceAllowed T c → ⊥) (λ e. Chosen T c e) → NotTaken found (length o.live) o.next why → RefusesStep o c why
not-taken o c None NotReady T reaches none h = (T, reaches, none)
not-taken o c (Some e) NotReady T reaches one h = cc
not-taken o c None HistoryFull T reaches none h = let off = h.0 in cc
not-taken o c (Some e) HistoryFull T reaches one h = ((T, reaches, (e, one.allowed, one.choice)), h.1)
not-taken o c None Spent T reaches none h = let off = h.0 in cc
not-taken o c (Some e) Spent T reaches one h = ((T, reaches, (e, one.allowed, one.choice)), h.1, h.2)
not-taken o c found _ T reaches told h = absurd h

-- a limit is why what was found is not taken
pub limit-taken : (found : Option Event) (e : Event) (live next : ℕ) (why : Refusal) → found ≡ Some e → IsLimit live next why → NotTaken found live next why
limit-taken found e live next HistoryFull is h = (subst (λ (o : Option Event). IsSome o) (sym is) refl, h)
limit-taken found e live next Spent is h = (subst (λ (o : Option Event). IsSome o) (sym is) refl, h.0, h.1)
limit-taken found e live next _ is h = absurd h

-- a step that is taken
pub step-done : (o o' : Object) (c : Choice) (e : Event) (T : State) (entry : ℕ × Event) → Reaches o T → Chosen T c e →
    length o.live < most_live → o.next ≤ last_ticket → entry ≡ (o.next, e) → o' ≡ with_event o e →
    Does o (Command.Step c) (Reply.Stepped entry.0 entry.1) o'
step-done o o' c e T entry reaches chosen room left is after =
    subst (λ (x : ℕ × Event). Does o (Command.Step c) (Reply.Stepped x.0 x.1) o') (sym is) (refl, room, left, (T, reaches, chosen), after)

-- what is answered to a step, from what was found
pub found-answers : (o o' : Object) (c : Choice) (T : State) (found : Option Event) (told : Result (ℕ × Event) Refusal) → Reaches o T →
    MatchOption found (ChoiceAllowed T c → ⊥) (λ e. Chosen T c e) → TakesFound o found told o' → Answers o (Command.Step c) (step_reply told) o'
found-answers o o' c T found (Ok entry) reaches sought h =
    inl (step-done o o' c entry.1 T entry reaches (chosen-of T c found entry.1 sought h.0) h.1 h.2 h.3 h.4)
found-answers o o' c T found (Err Memory) reaches sought h = inr (tt, refl, h.1)
found-answers o o' c T found (Err NotReady) reaches sought h = inl (not-taken o c found NotReady T reaches sought h.0, h.1)
found-answers o o' c T found (Err HistoryFull) reaches sought h = inl (not-taken o c found HistoryFull T reaches sought h.0, h.1)
found-answers o o' c T found (Err Spent) reaches sought h = inl (not-taken o c found Spent T reaches sought h.0, h.1)
found-answers o o' c T found (Err _) reaches sought h = absurd h.0

-- what is answered where it may want memory alone
pub told-of : {A E : Type 0} (o : Object) (c : Command) (shown : Result A Refusal → Reply) (r : Result A E) (told : Result A Refusal) →
    shown (Err Memory) ≡ Reply.Refused Memory → IfOk r (λ value. Does o c (shown (Ok value)) o) → MayWantMemory o c →
    MatchResult r (λ value. told ≡ Ok value) (λ _. told ≡ Err Memory) → Answers o c (shown told) o
told-of o c shown (Ok value) told refused does wants is = inl (subst (λ t. Does o c (shown t) o) (sym is) does)
told-of o c shown (Err x) told refused does wants is = inr (wants, ap shown is ∙ refused, refl)

-- what holds of a value that was told
pub ok-told : {A E F : Type 0} (P : A → Type 0) (why : F) (r : Result A E) (told : Result A F) → IfOk r P →
    MatchResult r (λ value. told ≡ Ok value) (λ _. told ≡ Err why) → IfOk told P
ok-told P why (Ok value) told holds is = subst (λ t. IfOk t P) (sym is) holds
ok-told P why (Err x) told holds is = subst (λ t. IfOk t P) (sym is) tt

-- what holds of a list that was told holds of its vector
pub in-vec : {A E : Type 0} (P : List A → Type 0) (told : Result (List A) E) (made : Result (Vec A Global) E) → IfOk told P →
    IfOk made (λ v. told ≡ Ok v.items) → IfOk made (λ v. P v.items)
in-vec P told (Ok v) holds is = subst (λ t. IfOk t P) is holds
in-vec P told (Err e) holds is = tt
