-- What the past of an event, or that there is none, says of a question why.
use Rattle.std.proofs.Common.{◌≡◌, Bool, inl, inr, ℕ, List, Option, Some, None, subst, sym}
use Rattle.std.specs.Prelude.{MatchOption}
use Rattle.decimal.specs.Reading.{Reads}
use Rattle.system.specs.declared.system.System.{System}
use Rattle.runs.specs.Live.{Live, LastWriter, NoneAt, NoWriter}
use Rattle.past.specs.Past.{ListsPast}
use Rattle.past.specs.declared.past.Past.{Past}
use Rattle.machine.specs.AtMachine.{AtMachine}
use Rattle.questions.specs.Asking.{AnswersWhy, Explains, IsAboutNone, Tells, variable_of}
use Rattle.questions.specs.WhyText.{TellsIn}
use Rattle.questions.specs.declared.reason.Reason.{Reason}
use Rattle.questions.specs.declared.why.Why.{Why}

-- what is told of the past of the last event that wrote a variable
abbrev pub PastOfVariable : Bool → Live → ℕ → Option Past → Type 0
PastOfVariable all live x told =
    MatchOption told (NoWriter live x) (λ past. (t : ℕ) × LastWriter live x t × ListsPast all live t past)

-- a variable whose past is told
pub explains-value : (system : System) (live lent : Live) (subject : List ℕ) (x : ℕ) (all : Bool) (told : Option Past)
    (past : Past) → variable_of system subject ≡ Some x → lent ≡ live → PastOfVariable all lent x told → told ≡ Some past
    → Explains system live subject all (Reason.Value x past)
explains-value system live lent subject x all told past named same has is =
    (named, subst (λ l. PastOfVariable all l x (Some past)) same (subst (λ o. PastOfVariable all lent x o) is has))

-- a variable that no event wrote
pub explains-no-writer : (system : System) (live lent : Live) (subject : List ℕ) (x : ℕ) (all : Bool)
    (told : Option Past) → variable_of system subject ≡ Some x → lent ≡ live → PastOfVariable all lent x told → told ≡ None
    → Explains system live subject all Reason.Unwritten
explains-no-writer system live lent subject x all told named same has is =
    (x, named, subst (λ l. NoWriter l x) same (subst (λ o. PastOfVariable all lent x o) is has))

-- what is told of the past of the event of a ticket
abbrev pub PastOfEvent : Bool → Live → ℕ → Option Past → Type 0
PastOfEvent all live t told = MatchOption told (NoneAt live t) (λ past. ListsPast all live t past)

-- a ticket that an event has
pub explains-step : (system : System) (live lent : Live) (subject : List ℕ) (t : ℕ) (all : Bool) (told : Option Past)
    (past : Past) → variable_of system subject ≡ None → Reads subject t → lent ≡ live → PastOfEvent all lent t told
    → told ≡ Some past → Explains system live subject all (Reason.Step t past)
explains-step system live lent subject t all told past unnamed reads same has is =
    (unnamed, reads, subst (λ l. ListsPast all l t past) same (subst (λ o. PastOfEvent all lent t o) is has))

-- a ticket that no event has
pub explains-no-event : (system : System) (live lent : Live) (subject : List ℕ) (t : ℕ) (all : Bool) (told : Option Past)
    → variable_of system subject ≡ None → Reads subject t → lent ≡ live → PastOfEvent all lent t told → told ≡ None
    → Explains system live subject all Reason.Missing
explains-no-event system live lent subject t all told unnamed reads same has is =
    (t, unnamed, reads, subst (λ l. NoneAt l t) same (subst (λ o. PastOfEvent all lent t o) is has))

-- what tells a reason answers the question
pub answers : (system : System) (live : Live) (subject : List ℕ) (all : Bool) (reason : Reason) (why : Why)
    → Explains system live subject all reason → Tells reason why → AnswersWhy system live subject why
answers system live subject all (Reason.Value x past) (Why.Told lines) e h = (e.1.0, inl (x, e.0, e.1.1))
answers system live subject all (Reason.Step t past) (Why.Told lines) e h = (t, inr (e.0, e.1, e.2.live))
answers system live subject all Reason.Unwritten (Why.Refused why words) e h =
    subst (λ r. IsAboutNone system live subject r) (sym h) (inl e)
answers system live subject all Reason.Missing (Why.Refused why words) e h =
    subst (λ r. IsAboutNone system live subject r) (sym h) e
answers system live subject all Reason.Unknown (Why.Refused why words) e h =
    subst (λ r. IsAboutNone system live subject r) (sym h) (inr e)
answers system live subject all (Reason.Value x past) (Why.Refused why words) e h = absurd h
answers system live subject all (Reason.Step t past) (Why.Refused why words) e h = absurd h
answers system live subject all Reason.Unwritten (Why.Told lines) e h = absurd h
answers system live subject all Reason.Missing (Why.Told lines) e h = absurd h
answers system live subject all Reason.Unknown (Why.Told lines) e h = absurd h

-- what tells a reason in its words tells it
pub tells : (m : AtMachine) (subject : List ℕ) (reason : Reason) (why : Why) → TellsIn m subject reason why → Tells reason why
tells m subject (Reason.Value x past) (Why.Told lines) h = tt
tells m subject (Reason.Step t past) (Why.Told lines) h = tt
tells m subject Reason.Unwritten (Why.Refused why words) h = h.0
tells m subject Reason.Missing (Why.Refused why words) h = h.0
tells m subject Reason.Unknown (Why.Refused why words) h = h
tells m subject (Reason.Value x past) (Why.Refused why words) h = absurd h
tells m subject (Reason.Step t past) (Why.Refused why words) h = absurd h
tells m subject Reason.Unwritten (Why.Told lines) h = absurd h
tells m subject Reason.Missing (Why.Told lines) h = absurd h
tells m subject Reason.Unknown (Why.Told lines) h = absurd h
