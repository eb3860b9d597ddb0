-- Equal runs lead to one state, so the same events are ready there; and a choice took the same arm in both, so a place has one line.
use Rattle.std.proofs.Common.{◌≡◌, ◌⊎◌, ◌↔◌, inl, inr, ℕ, List, [], ◌∷◌, Bool, true, false, true≢false, Option, refl, sym, ◌∙◌, subst, ap}
use Rattle.std.proofs.Math.Path.{fun_ext}
use Rattle.syntax.specs.Lists.{In}
use Rattle.system.specs.declared.system.System.{System}
use Rattle.system_places.specs.TakenArms.{line_under}
use Rattle.runs.specs.Dependence.{Rearranged}
use Rattle.runs.specs.Events.{acting}
use Rattle.runs.specs.InOrder.{InOrder}
use Rattle.runs.specs.Live.{Live, events}
use Rattle.runs.specs.Moves.{Place}
use Rattle.runs.specs.Ready.{ReadyList, Sooner}
use Rattle.runs.specs.Steps.{State, Run, opening}
use Rattle.runs.specs.Tests.{same_place}
use Rattle.runs.specs.declared.event.Event.{Event}
use Rattle.runs.specs.internal.EventLaws.{same_place-decides}
use Rattle.runs.proofs.public.Elements.{in-rearranged, rearranged-in}
use Rattle.runs.proofs.public.FromOpening.{acting_once, one_state, respecting_orders}
use Rattle.runs.proofs.public.Lists.{every-in}
use Rattle.runs.proofs.public.ReadyLists.{sooner-asymmetric}
use Rattle.dependence.specs.EventPlaces.{at_choice, line_after, taken_by}
use Rattle.dependence.proofs.public.Taken.{none_taken, taken_by_the_event}
use Rattle.depth_laws.specs.Laws.{AreEqualRuns}

-- two lists in order that have the same events are one
heads : (e f : Event) (es fs : List Event) → InOrder Sooner (e ∷ es) → InOrder Sooner (f ∷ fs) → In e (f ∷ fs) → In f (e ∷ es) → e ≡ f
heads e f es fs order other (inl same) back = same
heads e f es fs order other (inr later) (inl same) = sym same
heads e f es fs order other (inr later) (inr back) =
    absurd (sooner-asymmetric e f (every-in (Sooner e) es f order.0 back) (every-in (Sooner f) fs e other.0 later))

-- an event behind the first is not the first
not-first : (e x : Event) (es : List Event) → InOrder Sooner (e ∷ es) → In x es → x ≡ e → ⊥
not-first e x es order in-es same =
    let self : Sooner e e = subst (λ (y : Event). Sooner e y) same (every-in (Sooner e) es x order.0 in-es) in
    sooner-asymmetric e e self self

behind : (e f : Event) (es fs : List Event) → e ≡ f → InOrder Sooner (e ∷ es) → ((x : Event) → In x (e ∷ es) → In x (f ∷ fs)) →
    (x : Event) → In x es → In x fs
behind e f es fs one order there x in-es = elim (there x (inr in-es)) [
  | inl first ↦ absurd (not-first e x es order in-es (first ∙ sym one))
  | inr later ↦ later
]

one-list : (es fs : List Event) → InOrder Sooner es → InOrder Sooner fs → ((x : Event) → In x es → In x fs) → ((x : Event) → In x fs → In x es) →
    es ≡ fs
one-list [] [] order other forth back = refl
one-list [] (f ∷ fs) order other forth back = absurd (back f (inl refl))
one-list (e ∷ es) [] order other forth back = absurd (forth e (inl refl))
one-list (e ∷ es) (f ∷ fs) order other forth back =
    let one : e ≡ f = heads e f es fs order other (forth e (inl refl)) (back f (inl refl)) in
    let rest : es ≡ fs =
    one-list es fs order.1 other.1 (behind e f es fs one order forth) (behind f e fs es (sym one) other back) in
    ap (λ (x : Event). x ∷ es) one ∙ ap (λ (xs : List Event). f ∷ xs) rest

pub ready-lists : (S : State) (es fs : List Event) → ReadyList S es → ReadyList S fs → es ≡ fs
ready-lists S es fs one other =
    one-list es fs one.in_order other.in_order (λ x is. (other.exactly x).1 ((one.exactly x).0 is))
    (λ x is. (one.exactly x).1 ((other.exactly x).0 is))

pub ready-agree : (system : System) (l m : Live) (S T : State) (es fs : List Event) → AreEqualRuns system l m →
    Run (opening system) (events l) S → Run (opening system) (events m) T → ReadyList S es → ReadyList T fs → es ≡ fs
ready-agree system l m S T es fs r run other one two =
    let there : Run (opening system) (events m) S = respecting_orders system (events l) (events m) S run r.forth in
    let same : T ≡ S = one_state system (events m) T S other there in
    ready-lists S es fs one (subst (λ (U : State). ReadyList U fs) same two)

-- whether an event of the list takes an arm of the choice
decided : (h : List Event) (p : Place) →
    ((e : Event) × In e h × (acting e ≡ at_choice p)) ⊎ ((e : Event) → In e h → acting e ≡ at_choice p → ⊥)
decided [] p = inr (λ e is at. absurd is)
decided (x ∷ h) p = by-test (same_place (acting x) (at_choice p)) refl (decided h p)
  where
    by-test : (b : Bool) → same_place (acting x) (at_choice p) ≡ b →
        ((e : Event) × In e h × (acting e ≡ at_choice p)) ⊎ ((e : Event) → In e h → acting e ≡ at_choice p → ⊥) →
        ((e : Event) × In e (x ∷ h) × (acting e ≡ at_choice p)) ⊎ ((e : Event) → In e (x ∷ h) → acting e ≡ at_choice p → ⊥)
    by-test true is rest = inl (x, inl refl, (same_place-decides (acting x) (at_choice p)).0 is)
    by-test false is (inl some) = inl (some.0, inr some.1, some.2)
    by-test false is (inr none) = inr (λ e within at. elim within [
      | inl same ↦
          true≢false (sym ((same_place-decides (acting x) (at_choice p)).1 (ap acting (sym same) ∙ at)) ∙ is)
      | inr later ↦ none e later at
    ])

one-arm : (system : System) (h g : List Event) (S : State) (p : Place) → Run (opening system) h S → Run (opening system) g S → Rearranged h g →
    taken_by h p ≡ taken_by g p
one-arm system h g S p run other same = elim (decided h p) [
  | inl some ↦
      taken_by_the_event acting_once system h S some.0 p run some.1 some.2
      ∙ sym (taken_by_the_event acting_once system g S some.0 p other (in-rearranged h g some.0 same some.1) some.2)
  | inr none ↦ none_taken h p none ∙ sym (none_taken g p (λ e is at. none e (rearranged-in h g e same is) at))
]

pub lines-agree : (system : System) (l m : Live) (place : Place) → AreEqualRuns system l m →
    line_after (events l) system place ≡ line_after (events m) system place
lines-agree system l m place r =
    let there : Run (opening system) (events m) r.state = respecting_orders system (events l) (events m) r.state r.runs r.forth in
    let arms : taken_by (events l) ≡ taken_by (events m) =
    fun_ext (λ (p : Place). one-arm system (events l) (events m) r.state p r.runs there r.forth.rearranged) in
    ap (λ (taken : Place → Option ℕ). line_under taken system place) arms
