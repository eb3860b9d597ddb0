-- Where the events stand in order, a conflict is one of neighbours.
use Rattle.std.proofs.Common.{◌≡◌, inl, inr, ℕ, ◌==◌, Bool, true, false, not, ◌&&◌, List, [], ◌∷◌, refl, sym, ap, ◌∙◌, subst}
use Rattle.std.specs.List.{list_any}
use Rattle.std.specs.declared.cmp.Ordering.TheVariants.{Less}
use Rattle.std.specs.Ordering.{ordering_reverse}
use Rattle.std.proofs.lemmas.Bool.{eqb-true, eqb-false, ne_eqb, not-true, not_from_false, and_parts, and_from, or_cases, or_left, or_right}
use Rattle.address.specs.Order.{order_of}
use Rattle.address.specs.internal.OrderLaws.{greater-not-less}
use Rattle.address.proofs.public.Total.{order-antisymmetric}
use Rattle.syntax.specs.Lists.{In}
use Rattle.runs.specs.Choices.{choice_of}
use Rattle.runs.specs.Events.{acting}
use Rattle.runs.specs.internal.EventLaws.{same_place-decides}
use Rattle.runs.specs.InOrder.{InOrder}
use Rattle.runs.specs.Live.{events}
use Rattle.runs.specs.Moves.{Place}
use Rattle.runs.specs.Ready.{Sooner}
use Rattle.runs.specs.Tests.{same_place}
use Rattle.runs.specs.declared.event.Event.{Event}
use Rattle.runs.proofs.public.Lists.{every-in}
use Rattle.dependence.specs.EventPlaces.{line_after, is_open_after}
use Rattle.machine.specs.AtMachine.{AtMachine}
use Rattle.source_view.specs.View.{is_line, acts_on, are_in_conflict, is_conflict_on}
use Rattle.source_view.specs.internal.Marking.{conflicts_with_next, neighbours_on}

-- events between two at one place act there too
between : (x y f : Event) → Sooner x y → Sooner y f → acting x ≡ acting f → acting x ≡ acting y
between x y f (inr at) after same = at.0
between x y f (inl less) (inr at) same = same ∙ sym at.0
between x y f (inl less) (inl more) same =
    let back : order_of (acting y) (acting x) ≡ Less = subst (λ (p : Place). order_of (acting y) p ≡ Less) (sym same) more in
    absurd (greater-not-less (sym (ap ordering_reverse less) ∙ sym (order-antisymmetric (acting y) (acting x)) ∙ back))

-- what it is to be in conflict
record Conflict (h : AtMachine) (e f : Event) : Type 0 where
  place : acting e ≡ acting f
  arms : (choice_of e).arm ≡ (choice_of f).arm → ⊥
  opens : is_open_after (events h.live) h.checked (acting e) ≡ true

conflict-is : (h : AtMachine) (e f : Event) → are_in_conflict h e f ≡ true → Conflict h e f
conflict-is h e f is =
    let parts = and_parts (same_place (acting e) (acting f)) (not ((choice_of e).arm == (choice_of f).arm) && is_open_after (events h.live) h.checked (acting e)) is in
    let others = and_parts (not ((choice_of e).arm == (choice_of f).arm)) (is_open_after (events h.live) h.checked (acting e)) parts.1 in
    record {
      place = (same_place-decides (acting e) (acting f)).0 parts.0;
      arms = eqb-false (choice_of e).arm (choice_of f).arm (not-true ((choice_of e).arm == (choice_of f).arm) others.0);
      opens = others.1;
    }

conflict-of : (h : AtMachine) (e f : Event) → Conflict h e f → are_in_conflict h e f ≡ true
conflict-of h e f c =
    and_from (same_place (acting e) (acting f)) (not ((choice_of e).arm == (choice_of f).arm) && is_open_after (events h.live) h.checked (acting e))
    ((same_place-decides (acting e) (acting f)).1 c.place)
    (and_from (not ((choice_of e).arm == (choice_of f).arm)) (is_open_after (events h.live) h.checked (acting e))
    (not_from_false ((choice_of e).arm == (choice_of f).arm) (ne_eqb (choice_of e).arm (choice_of f).arm c.arms))
    c.opens)

-- events at one place act on one line, and there a `select` opens for both or for none
acts-there : (h : AtMachine) (n : ℕ) (e f : Event) → acting e ≡ acting f → acts_on h n e ≡ true → acts_on h n f ≡ true
acts-there h n e f same acts = subst (λ (p : Place). is_line (line_after (events h.live) h.checked p) n ≡ true) same acts

opens-there : (h : AtMachine) (e f : Event) → acting e ≡ acting f → is_open_after (events h.live) h.checked (acting e) ≡ true →
    is_open_after (events h.live) h.checked (acting f) ≡ true
opens-there h e f same opens = subst (λ (p : Place). is_open_after (events h.live) h.checked p ≡ true) same opens

turned : (h : AtMachine) (e f : Event) → Conflict h e f → Conflict h f e
turned h e f c = record { place = sym c.place; arms = λ is. c.arms (sym is); opens = opens-there h e f c.place c.opens }

here : (h : AtMachine) (n : ℕ) (x : Event) (xs : List Event) → acts_on h n x ≡ true → conflicts_with_next h x xs ≡ true → neighbours_on h (x ∷ xs) n ≡ true
here h n x xs acts conflicts = or_left (acts_on h n x && conflicts_with_next h x xs) (neighbours_on h xs n) (and_from (acts_on h n x) (conflicts_with_next h x xs) acts conflicts)

later : (h : AtMachine) (n : ℕ) (x : Event) (xs : List Event) → neighbours_on h xs n ≡ true → neighbours_on h (x ∷ xs) n ≡ true
later h n x xs is = or_right (acts_on h n x && conflicts_with_next h x xs) (neighbours_on h xs n) is

same-place : (h : AtMachine) (x y : Event) (ys : List Event) (f : Event) → InOrder Sooner (x ∷ y ∷ ys) → In f ys → Conflict h x f → acting x ≡ acting y
same-place h x y ys f order is c = between x y f order.0.0 (every-in (Sooner y) ys f order.1.0 is) c.place

-- from an event to one behind it there are neighbours in conflict
onward : (h : AtMachine) (n : ℕ) (x : Event) (xs : List Event) (f : Event) → InOrder Sooner (x ∷ xs) → In f xs → acts_on h n x ≡ true → Conflict h x f →
    neighbours_on h (x ∷ xs) n ≡ true
onward h n x [] f order is acts c = elim is [ ]
onward h n x (y ∷ ys) f order (inl same) acts c = here h n x (y ∷ ys) acts (subst (λ (g : Event). are_in_conflict h x g ≡ true) same (conflict-of h x f c))
onward h n x (y ∷ ys) f order (inr is) acts c =
    by_arms ((choice_of x).arm == (choice_of y).arm) refl
    (λ c-on. onward h n y ys f order.1 is (acts-there h n x y (same-place h x y ys f order is c) acts) c-on)
  where
    same : acting x ≡ acting y
    same = same-place h x y ys f order is c

    by_arms : (b : Bool) → ((choice_of x).arm == (choice_of y).arm) ≡ b → (Conflict h y f → neighbours_on h (y ∷ ys) n ≡ true) →
        neighbours_on h (x ∷ y ∷ ys) n ≡ true
    by_arms true one on =
        later h n x (y ∷ ys)
        (on (record {
          place = sym same ∙ c.place;
          arms = λ e. c.arms (eqb-true (choice_of x).arm (choice_of y).arm one ∙ e);
          opens = opens-there h x y same c.opens;
        }))
    by_arms false two on =
        here h n x (y ∷ ys) acts
        (conflict-of h x y (record { place = same; arms = eqb-false (choice_of x).arm (choice_of y).arm two; opens = c.opens }))

-- where two events are in conflict, neighbours are
of-two : (h : AtMachine) (n : ℕ) (es : List Event) (e f : Event) → InOrder Sooner es → In e es → In f es → acts_on h n e ≡ true → Conflict h e f →
    neighbours_on h es n ≡ true
of-two h n [] e f order is there acts c = elim is [ ]
of-two h n (x ∷ xs) e f order (inl e-is) (inl f-is) acts c = absurd (c.arms (ap (λ (g : Event). (choice_of g).arm) (e-is ∙ sym f-is)))
of-two h n (x ∷ xs) e f order (inl e-is) (inr there) acts c =
    onward h n x xs f order there (subst (λ (g : Event). acts_on h n g ≡ true) e-is acts) (subst (λ (g : Event). Conflict h g f) e-is c)
of-two h n (x ∷ xs) e f order (inr is) (inl f-is) acts c =
    onward h n x xs e order is (subst (λ (g : Event). acts_on h n g ≡ true) f-is (acts-there h n e f c.place acts))
    (subst (λ (g : Event). Conflict h g e) f-is (turned h e f c))
of-two h n (x ∷ xs) e f order (inr is) (inr there) acts c = later h n x xs (of-two h n xs e f order.1 is there acts c)

-- an element that passes a test
found : (p : Event → Bool) (es : List Event) → list_any p es ≡ true → (e : Event) × In e es × (p e ≡ true)
found p [] is = absurd (cc)
found p (x ∷ xs) is =
    elim (or_cases (p x) (list_any p xs) is) [
      | inl here ↦ (x, inl refl, here)
      | inr more ↦ let rest = found p xs more in (rest.0, inr rest.1, rest.2)
    ]

passes : (p : Event → Bool) (es : List Event) (e : Event) → In e es → p e ≡ true → list_any p es ≡ true
passes p [] e is h = elim is [ ]
passes p (x ∷ xs) e (inl same) h = or_left (p x) (list_any p xs) (subst (λ (g : Event). p g ≡ true) same h)
passes p (x ∷ xs) e (inr is) h = or_right (p x) (list_any p xs) (passes p xs e is h)

-- neighbours in conflict are two events of the list
pair : (h : AtMachine) (n : ℕ) (es : List Event) → neighbours_on h es n ≡ true →
    (e : Event) × (f : Event) × In e es × In f es × (acts_on h n e ≡ true) × (are_in_conflict h e f ≡ true)
pair h n [] is = absurd (cc)
pair h n (x ∷ []) is =
    elim (or_cases (acts_on h n x && false) false is) [
      | inl here ↦ absurd (let no = (and_parts (acts_on h n x) false here).1 in cc)
      | inr more ↦ absurd (cc)
    ]
pair h n (x ∷ y ∷ ys) is =
    elim (or_cases (acts_on h n x && are_in_conflict h x y) (neighbours_on h (y ∷ ys) n) is) [
      | inl here ↦ let parts = and_parts (acts_on h n x) (are_in_conflict h x y) here in (x, y, inl refl, inr (inl refl), parts.0, parts.1)
      | inr more ↦ let rest = pair h n (y ∷ ys) more in (rest.0, rest.1, inr rest.2, inr rest.3, rest.4, rest.5)
    ]

same-test : (a b : Bool) → (a ≡ true → b ≡ true) → (b ≡ true → a ≡ true) → a ≡ b
same-test true b on back = sym (on refl)
same-test false true on back = back refl
same-test false false on back = refl

-- neighbours are in conflict exactly where two events are
pub neighbours-are-all : (h : AtMachine) (es : List Event) (n : ℕ) → InOrder Sooner es → neighbours_on h es n ≡ is_conflict_on h es n
neighbours-are-all h es n order = same-test (neighbours_on h es n) (is_conflict_on h es n) on back
  where
    on : neighbours_on h es n ≡ true → is_conflict_on h es n ≡ true
    on is =
        let two = pair h n es is in
        passes (λ e. acts_on h n e && list_any (are_in_conflict h e) es) es two.0 two.2
        (and_from (acts_on h n two.0) (list_any (are_in_conflict h two.0) es) two.4 (passes (are_in_conflict h two.0) es two.1 two.3 two.5))

    back : is_conflict_on h es n ≡ true → neighbours_on h es n ≡ true
    back is =
        let first = found (λ e. acts_on h n e && list_any (are_in_conflict h e) es) es is in
        let parts = and_parts (acts_on h n first.0) (list_any (are_in_conflict h first.0) es) first.2 in
        let second = found (are_in_conflict h first.0) es parts.1 in
        of-two h n es first.0 second.0 order first.1 second.1 parts.0 (conflict-is h first.0 second.0 second.2)
