-- The places of events that run: each is before those of later ones, or in another branch.
use Rattle.std.proofs.Common.{◌≡◌, inl, inr, ℕ, List, [], ◌∷◌, Some, subst, sym}
use Rattle.address.specs.Places.{Apart}
use Rattle.syntax.specs.Lists.{In}
use Rattle.system.specs.Expression.{Store}
use Rattle.system.specs.declared.system.System.{System}
use Rattle.runs.specs.Events.{Located, Makes, assigning, testing, turning, meeting, opening as opens_with_data, opening_without_data, shutting, syncing}
use Rattle.runs.specs.Live.{Live, Rising, events}
use Rattle.runs.specs.Moves.{Place}
use Rattle.runs.specs.Steps.{Run, State, opening}
use Rattle.runs.specs.declared.event.Event.{Event}
use Rattle.runs.proofs.public.DependsOnLaw.{earlier-by-tickets}
use Rattle.runs.proofs.public.FromOpening.{earlier_places}
use Rattle.runs.proofs.public.Options.{none-some, some-injective}
use Rattle.runs.proofs.public.Tickets.{event-in}
use Rattle.dependence.specs.internal.Tabled.{Placed}

-- the two places of an event are apart
makes-apart : (s : Store) (ls : List Located) (e : Event) (z : Place) → Makes s ls e → e.second ≡ Some z → Apart e.first z
makes-apart s ls e z (assigning a x w f) is = none-some z is
makes-apart s ls e z (testing a d k h) is = none-some z is
makes-apart s ls e z (turning a) is = none-some z is
makes-apart s ls e z (meeting a b c w f x h) is = subst (λ (y : Place). Apart a y) (some-injective b z is) h
makes-apart s ls e z (opens_with_data a b c w k f h) is = subst (λ (y : Place). Apart a y) (some-injective b z is) h
makes-apart s ls e z (opening_without_data a b c k h) is = subst (λ (y : Place). Apart a y) (some-injective b z is) h
makes-apart s ls e z (shutting a b c h) is = subst (λ (y : Place). Apart a y) (some-injective b z is) h
makes-apart s ls e z (syncing a b c h l) is = subst (λ (y : Place). Apart a y) (some-injective b z is) h

own-apart : (S T : State) (h : List Event) (e : Event) (z : Place) → Run S h T → In e h → e.second ≡ Some z → Apart e.first z
own-apart S T [] e z r i is = absurd i
own-apart S T (x ∷ h) e z r (inl same) is =
    subst (λ (f : Event). f.second ≡ Some z → Apart f.first z) (sym same) (makes-apart S.store r.1.moves x z r.1.makes) is
own-apart S T (x ∷ h) e z r (inr later) is = own-apart r.0 T h e z r.2 later is

pub run-placed : (system : System) (l : Live) (S : State) (low next : ℕ) → Run (opening system) (events l) S → Rising low l next → Placed l
run-placed system l S low next run rising = record {
  between = λ t u e f a b at-t at-u less ia ib.
      earlier_places system (events l) S e f a b run (earlier-by-tickets low next l t u e f rising at-t at-u less) ia ib;
  own = λ t e z live is. own-apart (opening system) S (events l) e z run (event-in l t e live) is;
}
