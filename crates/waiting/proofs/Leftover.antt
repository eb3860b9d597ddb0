-- The actions that are left over are those that wait.
use Rattle.std.proofs.Common.{◌≡◌, ◌⊎◌, ◌↔◌, inl, inr, List, [], ◌∷◌, Bool, true, false, ◌||◌, cond, Option, Some, None, refl, sym, ◌∙◌, subst}
use Rattle.syntax.specs.Lists.{In, Every}
use Rattle.runs.specs.InOrder.{InOrder}
use Rattle.runs.specs.Events.{places, places_of}
use Rattle.runs.specs.Moves.{Place}
use Rattle.runs.specs.Ready.{ReadyList}
use Rattle.runs.specs.Steps.{State}
use Rattle.runs.specs.Tests.{same_place}
use Rattle.runs.specs.declared.event.Event.{Event}
use Rattle.runs.proofs.public.Lists.{every-of, every-in}
use Rattle.local_actions.specs.Actions.{OffersExactly, NotBehind, Precedes}
use Rattle.local_actions.specs.declared.action.LocalAction.{LocalAction}
use Rattle.local_actions.proofs.public.PlacedActions.{place-true, place-itself}
use Rattle.waiting.specs.Waits.{ArmsRise, ListsWaiting, Waits}
use Rattle.waiting.specs.Progress.{body_is_over, NoneAllowed, StandsLike}
use Rattle.waiting.proofs.InOneOrder.{all-rise, arms-once}
use Rattle.waiting.specs.internal.Among.{is_second, has_place, has_any, left_over, at_rest, progress_of}

pub or-parts : (a b : Bool) → (a || b) ≡ true → (a ≡ true) ⊎ (b ≡ true)
or-parts true b h = inl refl
or-parts false b h = inr h

pub or-left : (a b : Bool) → a ≡ true → (a || b) ≡ true
or-left true b h = refl
or-left false b h = cc

pub or-right : (a b : Bool) → b ≡ true → (a || b) ≡ true
or-right true b h = refl
or-right false b h = h

-- ---- an event has the place
second-in : (a : Place) (b : Option Place) → is_second a b ≡ true → In a (places_of b)
second-in a None h = cc
second-in a (Some b) h = inl (place-true a b h)

in-second : (a : Place) (b : Option Place) → In a (places_of b) → is_second a b ≡ true
in-second a None i = absurd i
in-second a (Some b) (inl is) = subst (λ (c : Place). same_place a c ≡ true) is (place-itself a)
in-second a (Some b) (inr i) = absurd i

has-in : (a : Place) (e : Event) → has_place a e ≡ true → In a (places e)
has-in a e h = elim (or-parts (same_place a e.first) (is_second a e.second) h) [
  | inl first ↦ inl (place-true a e.first first)
  | inr second ↦ inr (second-in a e.second second)
]

in-has : (a : Place) (e : Event) → In a (places e) → has_place a e ≡ true
in-has a e i = elim i [
  | inl is ↦ or-left (same_place a e.first) (is_second a e.second) (subst (λ (c : Place). same_place a c ≡ true) is (place-itself a))
  | inr later ↦ or-right (same_place a e.first) (is_second a e.second) (in-second a e.second later)
]

-- ---- one of the events has it
in-any : (a : Place) (es : List Event) (e : Event) → In e es → In a (places e) → has_any a es ≡ true
in-any a [] e i j = absurd i
in-any a (f ∷ es) e (inl is) j = or-left (has_place a f) (has_any a es) (in-has a f (subst (λ (g : Event). In a (places g)) is j))
in-any a (f ∷ es) e (inr i) j = or-right (has_place a f) (has_any a es) (in-any a es e i j)

any-in : (a : Place) (es : List Event) → has_any a es ≡ true → (e : Event) × In e es × In a (places e)
any-in a [] h = cc
any-in a (f ∷ es) h = elim (or-parts (has_place a f) (has_any a es) h) [
  | inl here ↦ (f, inl refl, has-in a f here)
  | inr later ↦ let rest = any-in a es later in (rest.0, inr rest.1, rest.2)
]

-- ---- the actions that are left over
in-cond : (b : Bool) (x y : LocalAction) (rest : List LocalAction) → In x (cond b rest (y ∷ rest)) → ((b ≡ false) × (x ≡ y)) ⊎ In x rest
in-cond true x y rest i = inr i
in-cond false x y rest (inl is) = inl (refl, is)
in-cond false x y rest (inr i) = inr i

cond-here : (b : Bool) (x : LocalAction) (rest : List LocalAction) → b ≡ false → In x (cond b rest (x ∷ rest))
cond-here true x rest h = cc
cond-here false x rest h = inl refl

cond-later : (b : Bool) (x y : LocalAction) (rest : List LocalAction) → In x rest → In x (cond b rest (y ∷ rest))
cond-later true x y rest i = i
cond-later false x y rest i = inr i

left-in : (es : List Event) (xs : List LocalAction) (x : LocalAction) → In x (left_over es xs) → In x xs × (has_any x.place es ≡ false)
left-in es [] x i = absurd i
left-in es (y ∷ xs) x i = elim (in-cond (has_any y.place es) x y (left_over es xs) i) [
  | inl here ↦ (inl here.1, subst (λ (z : LocalAction). has_any z.place es ≡ false) (sym here.1) here.0)
  | inr later ↦ let rest = left-in es xs x later in (inr rest.0, rest.1)
]

in-left : (es : List Event) (xs : List LocalAction) (x : LocalAction) → In x xs → has_any x.place es ≡ false → In x (left_over es xs)
in-left es [] x i h = absurd i
in-left es (y ∷ xs) x (inl is) h =
    subst (λ (z : LocalAction). In x (cond (has_any y.place es) (left_over es xs) (z ∷ left_over es xs))) is
    (cond-here (has_any y.place es) x (left_over es xs) (subst (λ (z : LocalAction). has_any z.place es ≡ false) is h))
in-left es (y ∷ xs) x (inr i) h = cond-later (has_any y.place es) x y (left_over es xs) (in-left es xs x i h)

-- in whatever order they were
module _ (before : LocalAction → LocalAction → Type 0) where
  cond-order : (b : Bool) (y : LocalAction) (rest : List LocalAction) → Every (before y) rest → InOrder before rest → InOrder before (cond b rest (y ∷ rest))
  cond-order true y rest e o = o
  cond-order false y rest e o = (e, o)

  left-order : (es : List Event) (xs : List LocalAction) → InOrder before xs → InOrder before (left_over es xs)
  left-order es [] o = tt
  left-order es (y ∷ xs) o =
      cond-order (has_any y.place es) y (left_over es xs)
      (every-of (before y) (left_over es xs) (λ x i. every-in (before y) xs x o.0 (left-in es xs x i).0))
      (left-order es xs o.1)

none-any : (a : Place) (es : List Event) (b : Bool) → has_any a es ≡ b → ((e : Event) → In e es → In a (places e) → ⊥) → b ≡ false
none-any a es true h none = let found = any-in a es h in absurd (none found.0 found.1 found.2)
none-any a es false h none = refl

-- of all that is offered, with all that is allowed, these wait
waits-exactly : (S : State) (xs : List LocalAction) (es : List Event) → OffersExactly S xs → ReadyList S es → (x : LocalAction) → In x (left_over es xs) ↔ Waits S x
waits-exactly S xs es offers ready x = (
  λ i.
      let found = left-in es xs x i in
      record {
        offered = (offers.exactly x).0 found.0;
        alone = λ e a j.
            let told : has_any x.place es ≡ true = in-any x.place es e ((ready.exactly e).1 a) j in
            let both : true ≡ false = sym told ∙ found.1 in
            cc;
      },
  λ w. in-left es xs x ((offers.exactly x).1 w.offered)
      (none-any x.place es (has_any x.place es) refl (λ e i j. w.alone e ((ready.exactly e).0 i) j)),
)

pub lists-waiting : (S : State) (xs : List LocalAction) (es : List Event) → OffersExactly S xs → InOrder NotBehind xs → InOrder Precedes xs → ReadyList S es
    → ListsWaiting S (left_over es xs)
lists-waiting S xs es offers order strict ready =
    let arms : InOrder ArmsRise (left_over es xs) = all-rise (left_over es xs) (left-order Precedes es xs strict) in record {
      exactly = waits-exactly S xs es offers ready;
      in_order = left-order NotBehind es xs order;
      arms = arms;
      once = arms-once (left_over es xs) arms;
    }

-- ---- how a state stands
rests : (S : State) (b : Bool) → body_is_over S.residual ≡ b → NoneAllowed S → StandsLike S (at_rest b)
rests S true h none = (none, h)
rests S false h none = (none, h)

pub stands-like : (S : State) (es : List Event) → ReadyList S es → StandsLike S (progress_of (body_is_over S.residual) es)
stands-like S [] ready = rests S (body_is_over S.residual) refl (λ e a. (ready.exactly e).1 a)
stands-like S (e ∷ es) ready = (e, (ready.exactly e).0 (inl refl))
