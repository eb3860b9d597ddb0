-- The events in which actions act, and the list of them.
use Rattle.std.proofs.Common.{◌≡◌, ◌⊎◌, inl, inr, ℕ, ◌==◌, List, [], ◌∷◌, ◌++◌, true, ◌&&◌, Option, Some, None, refl, sym, ◌∙◌, ap, subst}
use Rattle.std.proofs.lemmas.Bool.{eqb-true, eq-eqb, and_parts}
use Rattle.std.specs.Prelude.{◌↔◌}
use Rattle.std.specs.Ordering.{is_lt}
use Rattle.address.specs.Order.{order_of}
use Rattle.syntax.specs.Lists.{In}
use Rattle.runs.specs.Moves.{Place}
use Rattle.runs.specs.Events.{acting}
use Rattle.runs.specs.Steps.{State, Allowed}
use Rattle.runs.specs.WellFormed.{WellFormed}
use Rattle.runs.specs.internal.AllowedEvents.{those}
use Rattle.runs.specs.declared.event.Event.{Event}
use Rattle.runs.proofs.public.Lists.{in-left, in-right, in-parts}
use Rattle.runs.proofs.public.Options.{none-some, cond-some}
use Rattle.local_actions.specs.Actions.{Offered, Under}
use Rattle.local_actions.specs.declared.action.LocalAction.{LocalAction}
use Rattle.local_actions.specs.declared.action.ActionKind.{ActionKind}
use Rattle.local_actions.specs.declared.action.ActionKind.TheVariants.{Sends, Receives, Syncs, Opens, Releases, Closes}
use Rattle.channel_uses.specs.OnChannel.{is_partner_on}
use Rattle.allowed_events.specs.ReadyBelow.{ReadyBelow}
use Rattle.allowed_events.specs.internal.Acting.{ActedBy, ActedByOne, SortedOf}
use Rattle.allowed_events.specs.internal.Meeting.{solo, met, met_with}
use Rattle.allowed_events.proofs.FromActions.{ByActions, alone, meets, by_actions, actions_allowed, solo-acts, met-acts}
use Rattle.allowed_events.proofs.Listed.{in-those-first, those-in, in-met, met-in}

-- ---- a partner is on the channel on which the action looks
pub receives-on : (x : ActionKind) (c : ℕ) (v : Option ℕ) → x ≡ Receives c v → (b a : Place) (y : ActionKind) (e : Event) → met b x a y ≡ Some e → is_partner_on c y ≡ true
receives-on x c v is b a y e h = partner y (ap (λ (z : ActionKind). met b z a y) (sym is) ∙ h)
  where
    partner : (y : ActionKind) → met b (Receives c v) a y ≡ Some e → is_partner_on c y ≡ true
    partner (Sends f w read) h = eq-eqb f c (sym (eqb-true c f (cond-some (c == f) _ e h).0))
    partner _ h = none-some e h

pub opens-on : (x : ActionKind) (c k : ℕ) → x ≡ Opens c k → (b a : Place) (y : ActionKind) (e : Event) → met b x a y ≡ Some e → is_partner_on c y ≡ true
opens-on x c k is b a y e h = partner y (ap (λ (z : ActionKind). met b z a y) (sym is) ∙ h)
  where
    partner : (y : ActionKind) → met b (Opens c k) a y ≡ Some e → is_partner_on c y ≡ true
    partner (Sends f w read) h = eq-eqb f c (sym (eqb-true c f (cond-some (c == f) _ e h).0))
    partner (Syncs f) h = eq-eqb f c (sym (eqb-true c f (cond-some (c == f) _ e h).0))
    partner _ h = none-some e h

pub closes-on : (x : ActionKind) (c : ℕ) → x ≡ Closes c → (b a : Place) (y : ActionKind) (e : Event) → met b x a y ≡ Some e → is_partner_on c y ≡ true
closes-on x c is b a y e h = partner y (ap (λ (z : ActionKind). met b z a y) (sym is) ∙ h)
  where
    partner : (y : ActionKind) → met b (Closes c) a y ≡ Some e → is_partner_on c y ≡ true
    partner (Releases f) h = eq-eqb f c (sym (eqb-true c f (cond-some (c == f) _ e h).0))
    partner _ h = none-some e h

pub syncs-on : (x : ActionKind) (c : ℕ) → x ≡ Syncs c → (b a : Place) (y : ActionKind) (e : Event) → met b x a y ≡ Some e → is_partner_on c y ≡ true
syncs-on x c is b a y e h = partner y (ap (λ (z : ActionKind). met b z a y) (sym is) ∙ h)
  where
    partner : (y : ActionKind) → met b (Syncs c) a y ≡ Some e → is_partner_on c y ≡ true
    partner (Syncs f) h =
        let both = and_parts (c == f) (is_lt (order_of b a)) (cond-some ((c == f) && is_lt (order_of b a)) _ e h).0 in eq-eqb f c (sym (eqb-true c f both.0))
    partner _ h = none-some e h

-- ---- the events of one action
-- alone
pub in-alone : (o : Option Event) (e : Event) → In e (those o []) → o ≡ Some e
in-alone o e i = elim (those-in o e [] i) [ inl u ↦ u | inr u ↦ absurd u ]

pub acted-alone : (S : State) (x : LocalAction) (old new : List Event) (made : Option Event) → made ≡ solo x.place x.action → new ≡ old ++ those made [] → ((b a : Place) (y : ActionKind) → met b x.action a y ≡ None)
    → (e : Event) → In e new ↔ (In e old ⊎ ActedBy S x e)
acted-alone S x old new made is added none e = (
  λ i. elim (in-parts e old (those made []) (subst (λ (l : List Event). In e l) added i)) [
    | inl u ↦ inl u
    | inr u ↦ inr (inl (sym is ∙ in-alone made e u))
  ],
  λ h. subst (λ (l : List Event). In e l) (sym added) (elim h [
    | inl u ↦ in-left e old (those made []) u
    | inr (inl u) ↦ in-right e old (those made []) (in-those-first made e [] (is ∙ u))
    | inr (inr u) ↦ none-some e (sym (none x.place u.0.place u.0.action) ∙ u.2)
  ]),
)

-- and with others
pub acted-met : (S : State) (x : LocalAction) (c : ℕ) (others found : List LocalAction) (old mid new : List Event) (made : Option Event) → made ≡ solo x.place x.action → mid ≡ old ++ those made []
    → new ≡ mid ++ met_with x others → others ≡ found → ((y : LocalAction) → In y found ↔ (Offered S y × (is_partner_on c y.action ≡ true)))
    → ((b a : Place) (y : ActionKind) (e : Event) → met b x.action a y ≡ Some e → is_partner_on c y ≡ true) → (e : Event) → In e new ↔ (In e old ⊎ ActedBy S x e)
acted-met S x c others found old mid new made is first added same exactly looks e = (
  λ i. elim (in-parts e mid (met_with x others) (subst (λ (l : List Event). In e l) added i)) [
    | inl u ↦ elim (in-parts e old (those made []) (subst (λ (l : List Event). In e l) first u)) [
      | inl v ↦ inl v
      | inr v ↦ inr (inl (sym is ∙ in-alone made e v))
    ]
    | inr u ↦ let m = met-in x others e u in
        inr (inr (m.partner, ((exactly m.partner).0 (subst (λ (l : List LocalAction). In m.partner l) same m.there)).0, m.made))
  ],
  λ h. subst (λ (l : List Event). In e l) (sym added) (elim h [
    | inl u ↦ in-left e mid (met_with x others) (subst (λ (l : List Event). In e l) (sym first) (in-left e old (those made []) u))
    | inr (inl u) ↦ in-left e mid (met_with x others) (subst (λ (l : List Event). In e l) (sym first) (in-right e old (those made []) (in-those-first made e [] (is ∙ u))))
    | inr (inr u) ↦ in-right e mid (met_with x others)
        (in-met x u.0 others e (subst (λ (l : List LocalAction). In u.0 l) (sym same) ((exactly u.0).1 (u.1, looks x.place u.0.place u.0.action e u.2))) u.2)
  ]),
)

-- ---- the events of all of them
-- what is made, and what the others make
abbrev pub SoFar : State → List Event → List LocalAction → List LocalAction → Type 0
SoFar S es rest all = (e : Event) → (In e es ⊎ ActedByOne S rest e) ↔ ActedByOne S all e

pub so-far-start : (S : State) (es : List Event) (rest all : List LocalAction) → es ≡ [] → rest ≡ all → SoFar S es rest all
so-far-start S es rest all none same e = (
  λ h. elim h [
    | inl u ↦ absurd (subst (λ (l : List Event). In e l) none u)
    | inr u ↦ subst (λ (l : List LocalAction). ActedByOne S l e) same u
  ],
  λ h. inr (subst (λ (l : List LocalAction). ActedByOne S l e) (sym same) h),
)

pub so-far-step : (S : State) (old new : List Event) (x : LocalAction) (before rest all : List LocalAction) → before ≡ x ∷ rest → ((e : Event) → In e new ↔ (In e old ⊎ ActedBy S x e)) → SoFar S old before all
    → SoFar S new rest all
so-far-step S old new x before rest all is more h e = (
  λ k. (h e).0 (elim k [
    | inl u ↦ elim ((more e).0 u) [
      | inl v ↦ inl v
      | inr v ↦ inr (x, subst (λ (l : List LocalAction). In x l) (sym is) (inl refl), v)
    ]
    | inr u ↦ inr (u.0, subst (λ (l : List LocalAction). In u.0 l) (sym is) (inr u.1), u.2)
  ]),
  λ k. elim ((h e).1 k) [
    | inl u ↦ inl ((more e).1 (inl u))
    | inr u ↦ elim (subst (λ (l : List LocalAction). In u.0 l) is u.1) [
      | inl v ↦ inl ((more e).1 (inr (subst (λ (y : LocalAction). ActedBy S y e) v u.2)))
      | inr v ↦ inr (u.0, v, u.2)
    ]
  ],
)

pub so-far-end : (S : State) (es : List Event) (rest all : List LocalAction) → rest ≡ [] → SoFar S es rest all → (e : Event) → In e es ↔ ActedByOne S all e
so-far-end S es rest all none h e = (
  λ i. (h e).0 (inl i),
  λ k. elim ((h e).1 k) [
    | inl u ↦ u
    | inr u ↦ absurd (subst (λ (l : List LocalAction). In u.0 l) none u.1)
  ],
)

-- ---- where exactly those of the actions act that pass a test
-- they are allowed
pub acted-allowed : (S : State) (Q : LocalAction → Type 0) (found acting_actions : List LocalAction) (es : List Event) → WellFormed S.residual → ((x : LocalAction) → In x found ↔ (Offered S x × Q x)) → acting_actions ≡ found
    → ((e : Event) → In e es ↔ ActedByOne S acting_actions e) → (e : Event) → In e es → Allowed S e
acted-allowed S Q found acting_actions es w exactly same made e i =
    let one = (made e).0 i in
    let offered = ((exactly one.0).0 (subst (λ (l : List LocalAction). In one.0 l) same one.1)).0 in
    elim one.2 [
      | inl u ↦ actions_allowed S w e (alone one.0 offered u)
      | inr u ↦ actions_allowed S w e (meets one.0 u.0 offered u.1 u.2)
    ]

-- all of those are there whose acting action passes it
pub acted-all : (S : State) (Q : LocalAction → Type 0) (found acting_actions : List LocalAction) (es : List Event) → WellFormed S.residual → ((x : LocalAction) → In x found ↔ (Offered S x × Q x)) → acting_actions ≡ found
    → ((e : Event) → In e es ↔ ActedByOne S acting_actions e) → (e : Event) → Allowed S e → ((x : LocalAction) → acting e ≡ x.place → Q x) → In e es
acted-all S Q found acting_actions es w exactly same made e a passes = (made e).1 (acts (by_actions S e w a))
  where
    there : (x : LocalAction) → Offered S x → acting e ≡ x.place → In x acting_actions
    there x o is = subst (λ (l : List LocalAction). In x l) (sym same) ((exactly x).1 (o, passes x is))

    acts : ByActions S e → ActedByOne S acting_actions e
    acts (alone x o h) = (x, there x o (solo-acts x.place x.action e h), inl h)
    acts (meets x y o q h) = (x, there x o (met-acts x.place x.action y.place y.action e h), inr (y, q, h))

-- the place of the action that acts
acted-there : (S : State) (Q : LocalAction → Type 0) (found acting_actions : List LocalAction) (es : List Event) → ((x : LocalAction) → In x found ↔ (Offered S x × Q x)) → acting_actions ≡ found
    → ((e : Event) → In e es ↔ ActedByOne S acting_actions e) → (e : Event) → In e es → (x : LocalAction) × (acting e ≡ x.place) × Q x
acted-there S Q found acting_actions es exactly same made e i =
    let one = (made e).0 i in
    let passes = ((exactly one.0).0 (subst (λ (l : List LocalAction). In one.0 l) same one.1)).1 in (
      one.0,
      elim one.2 [
        | inl u ↦ solo-acts one.0.place one.0.action e u
        | inr u ↦ met-acts one.0.place one.0.action u.0.place u.0.action e u.2
      ],
      passes,
    )

-- ---- below a place
pub below-ready : (S : State) (p : Place) (found acting_actions : List LocalAction) (es sorted : List Event) → WellFormed S.residual → ((x : LocalAction) → In x found ↔ (Offered S x × Under p x.place))
    → acting_actions ≡ found → ((e : Event) → In e es ↔ ActedByOne S acting_actions e) → SortedOf es sorted → ReadyBelow S p sorted
below-ready S p found acting_actions es sorted w exactly same made s = record {
  exactly = λ e. (
    λ i.
        let j = (s.same e).0 i in
        let one = acted-there S (λ x. Under p x.place) found acting_actions es exactly same made e j in (
          acted-allowed S (λ x. Under p x.place) found acting_actions es w exactly same made e j,
          subst (λ (a : Place). Under p a) (sym one.1) one.2,
        ),
    λ h.
        (s.same e).1
        (acted-all S (λ x. Under p x.place) found acting_actions es w exactly same made e h.0 (λ x acts. subst (λ (a : Place). Under p a) acts h.1)),
  );
  in_order = s.in_order;
}
