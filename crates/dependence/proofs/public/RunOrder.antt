-- The last of some events that run comes behind the others.
use Rattle.std.proofs.Common.{◌≡◌, inl, inr, ℕ, List, [], ◌∷◌, ◌++◌, Some, refl, sym, subst}
use Rattle.address.specs.Places.{Apart}
use Rattle.syntax.specs.Lists.{In}
use Rattle.system.specs.Expression.{Store}
use Rattle.runs.specs.Dependence.{Earlier}
use Rattle.runs.specs.Events.{Located, Makes, assigning, testing, turning, meeting, opening as opens_with_data, opening_without_data, shutting, syncing}
use Rattle.runs.specs.Live.{events, LiveAt}
use Rattle.runs.specs.Moves.{Place}
use Rattle.runs.specs.Steps.{Run, opening}
use Rattle.runs.specs.declared.event.Event.{Event}
use Rattle.runs.proofs.public.FromOpening.{earlier_places, ordered}
use Rattle.runs.proofs.public.Lists.{in-right}
use Rattle.runs.proofs.public.Options.{none-some, some-injective}
use Rattle.runs.proofs.public.Orders.{run-part}
use Rattle.runs.proofs.public.Tickets.{events-join, event-in}
use Rattle.dependence.specs.Laws.{LastComesBehind}

-- the two addresses of an event are apart
makes-apart : (s : Store) (ls : List Located) (e : Event) (z : Place) → Makes s ls e → e.second ≡ Some z → Apart e.first z
makes-apart s ls e z (assigning a x w f) is = none-some z is
makes-apart s ls e z (testing a d k h) is = none-some z is
makes-apart s ls e z (turning a) is = none-some z is
makes-apart s ls e z (meeting a b c w f x h) is = subst (λ (y : Place). Apart a y) (some-injective b z is) h
makes-apart s ls e z (opens_with_data a b c w k f h) is = subst (λ (y : Place). Apart a y) (some-injective b z is) h
makes-apart s ls e z (opening_without_data a b c k h) is = subst (λ (y : Place). Apart a y) (some-injective b z is) h
makes-apart s ls e z (shutting a b c h) is = subst (λ (y : Place). Apart a y) (some-injective b z is) h
makes-apart s ls e z (syncing a b c h l) is = subst (λ (y : Place). Apart a y) (some-injective b z is) h

-- what is in a list stands earlier than what is behind it
earlier-than-last : (h : List Event) (e f : Event) → In e h → Earlier (h ++ f ∷ []) e f
earlier-than-last [] e f i = absurd i
earlier-than-last (x ∷ h) e f i = elim i [
  | inl is ↦ inl (sym is, in-right f h (f ∷ []) (inl refl))
  | inr later ↦ inr (earlier-than-last h e f later)
]

pub last-comes-behind : LastComesBehind
last-comes-behind system l n f T shares run =
    let h : List Event = events l ++ f ∷ [] in
    let whole : Run (opening system) h T = subst (λ (k : List Event). Run (opening system) k T) (events-join l ((n, f) ∷ [])) run in
    let earlier : (t : ℕ) (e : Event) → LiveAt l t e → Earlier h e f = λ t e i. earlier-than-last (events l) e f (event-in l t e i) in
    let parts = run-part (opening system) T (events l) (f ∷ []) whole in
    let step = parts.second.1 in
    record {
      placed = λ t e a b i ia ib. earlier_places system h T e f a b whole (earlier t e i) ia ib;
      own = λ b is. makes-apart parts.middle.store step.moves f b step.makes is;
      channel = λ t e i one. ordered system h T e f shares whole (earlier t e i) (inl one);
    }
