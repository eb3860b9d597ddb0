-- The first event of a list in order that has a choice is the one that the choice means.
use Rattle.std.proofs.Common.{◌≡◌, inl, inr, ℕ, suc, ◌+◌, ◌<◌, List, [], ◌∷◌, ◌++◌, Bool, true, false, cond, length, take, drop, get_or, Some, IsTrue, refl, sym, ◌∙◌, ap, subst, arith, slice_get}
use Rattle.std.proofs.lemmas.Bool.Decides.{nat_tests}
use Rattle.std.specs.Prelude.{nat_lt, ◌==◌, ◌↔◌}
use Rattle.std.specs.Ordering.{is_lt}
use Rattle.std.specs.declared.cmp.Ordering.{Ordering}
use Rattle.std.specs.declared.cmp.Ordering.TheVariants.{Less, Equal}
use Rattle.syntax.specs.Lists.{In}
use Rattle.address.specs.Order.{order_of}
use Rattle.address.specs.internal.OrderLaws.{less-not-equal}
use Rattle.address.proofs.public.Total.{order-itself}
use Rattle.runs.specs.Moves.{Place}
use Rattle.runs.specs.Events.{acting}
use Rattle.runs.specs.Steps.{State}
use Rattle.runs.specs.Choices.{choice_of}
use Rattle.runs.specs.InOrder.{InOrder}
use Rattle.runs.specs.Ready.{other, Sooner, ChoiceAllowed, Chosen}
use Rattle.runs.specs.declared.event.Event.{Event}
use Rattle.runs.specs.declared.event.Choice.{Choice}
use Rattle.runs.proofs.public.Lists.{in-right, in-parts, every-in}
use Rattle.runs.proofs.public.ReadyLists.{sooner-asymmetric}
use Rattle.allowed_events.specs.internal.Acting.{ReadyWith}
use Rattle.allowed_events.specs.internal.Choosing.{HasNone, FirstWith}
use Rattle.allowed_events.specs.internal.Sorting.{sooner_by, is_sooner}
use Rattle.allowed_events.proofs.Entries.{parts-at, got-at, item-at, take-next}

not-itself : (a : Place) → order_of a a ≡ Less → ⊥
not-itself a h = less-not-equal (sym h ∙ order-itself a)

-- in a list in order an event comes before each that stands after it
order-after : (before after : List Event) (e f : Event) → InOrder Sooner (before ++ e ∷ after) → In f after → Sooner e f
order-after [] after e f order i = every-in (Sooner e) after f order.0 i
order-after (x ∷ before) after e f order i = order-after before after e f order.1 i

-- a later event with the same choice has no lesser other address
not-less : (e f : Event) → Sooner e f → choice_of e ≡ choice_of f → order_of (other f) (other e) ≡ Less → ⊥
not-less e f h same less =
    sooner-asymmetric e f h (inr (sym (ap (λ (c : Choice). c.place) same), inr (sym (ap (λ (c : Choice). c.arm) same), less)))

module _ (S : State) (c : Choice) (es : List Event) (ready : ReadyWith S c es) where
  -- no event of the list has the choice
  chosen-none : HasNone c es → ChoiceAllowed S c → ⊥
  chosen-none none p = none p.0 (ready.complete p.0 p.1 p.2) p.2

  -- the first event of the list with the choice
  chosen-first : (i : ℕ) (e : Event) → slice_get es i ≡ Some e → choice_of e ≡ c → HasNone c (take i es) → Chosen S c e
  chosen-first i e at same none =
      let parts : es ≡ take i es ++ e ∷ drop (suc i) es = parts-at es i e at in
      let here : In e es = subst (λ (k : List Event). In e k) (sym parts) (in-right e (take i es) (e ∷ drop (suc i) es) (inl refl)) in
      record {
        allowed = ready.sound e here;
        choice = same;
        least = λ f a is less. elim (in-parts f (take i es) (e ∷ drop (suc i) es) (subst (λ (k : List Event). In f k) parts (ready.complete f a is))) [
          | inl u ↦ none f u is
          | inr (inl u) ↦ not-itself (other e) (subst (λ (x : Event). order_of (other x) (other e) ≡ Less) u less)
          | inr (inr u) ↦
              not-less e f (order-after (take i es) (drop (suc i) es) e f (subst (λ (k : List Event). InOrder Sooner k) parts ready.in_order) u) (same ∙ sym is) less
        ];
      }

-- the same, of the lists of the code
pub chosen-here : (S : State) (c : Choice) (es items slice : List Event) (i : ℕ) (x : Event) → ReadyWith S c es → items ≡ es → slice ≡ items →
    FirstWith c slice i → x ≡ get_or items i x → Chosen S c x
chosen-here S c es items slice i x ready ei is first taken =
    let at : slice_get es i ≡ Some first.0 = ap (λ (k : List Event). slice_get k i) (sym (is ∙ ei)) ∙ first.1 in
    let one : x ≡ first.0 = taken ∙ got-at items i first.0 x (ap (λ (k : List Event). slice_get k i) (sym is) ∙ first.1) in
    subst (λ (e : Event). Chosen S c e) (sym one)
    (chosen-first S c es ready i first.0 at first.2 (subst (λ (k : List Event). HasNone c (take i k)) (is ∙ ei) first.3))

pub chosen-nowhere : (S : State) (c : Choice) (es items slice : List Event) → ReadyWith S c es → items ≡ es → slice ≡ items → HasNone c slice →
    ChoiceAllowed S c → ⊥
chosen-nowhere S c es items slice ready ei is none = chosen-none S c es ready (subst (λ (k : List Event). HasNone c k) (is ∙ ei) none)

-- one more event without the choice
pub none-more : (c : Choice) (es : List Event) (i : ℕ) (e : Event) (b : Bool) → HasNone c (take i es) → i < length es → e ≡ get_or es i e →
    IsTrue b ↔ (choice_of e ≡ c) → b ≡ false → HasNone c (take (i + 1) es)
none-more c es i e b none less is tells told_false f j same =
    let next : take (suc i) es ≡ take i es ++ e ∷ [] = take-next es i e (item-at es i e less is) in
    let more : i + 1 ≡ suc i = omega arith in
    elim (in-parts f (take i es) (e ∷ []) (subst (λ (k : List Event). In f k) (ap (λ n. take n es) more ∙ next) j)) [
      | inl u ↦ none f u same
      | inr (inl u) ↦ let told_true : b ≡ true = tells.1 (ap choice_of (sym u) ∙ same) in cc
      | inr (inr u) ↦ u
    ]

same-arms : (m : ℕ) (q : Ordering) → cond (nat_lt m m) true (cond (m == m) (is_lt q) false) ≡ is_lt q
same-arms m q = grind (arith, nat_tests)

-- with one acting address and one arm the other address decides
pub sooner-by-other : (e f : Event) (o q : Ordering) (m n : ℕ) (b : Bool) → o ≡ Equal → o ≡ order_of (acting e) (acting f) →
    m ≡ (choice_of e).arm → n ≡ (choice_of f).arm → m ≡ n → q ≡ order_of (other e) (other f) → b ≡ is_lt q → b ≡ is_sooner e f
sooner-by-other e f o q m n b tied acts first second same others told =
    told
    ∙ ap is_lt others
    ∙ sym (same-arms (choice_of e).arm (order_of (other e) (other f)))
    ∙ ap (λ k. cond (nat_lt (choice_of e).arm k) true (cond ((choice_of e).arm == k) (is_lt (order_of (other e) (other f))) false)) (sym first ∙ same ∙ second)
    ∙ ap (λ p. sooner_by p (choice_of e).arm (choice_of f).arm (order_of (other e) (other f))) (sym tied ∙ acts)
