-- The least event in which an action at the place of a choice acts, and opens its arm, is the one that the choice means.
use Rattle.std.proofs.Common.{◌≡◌, ◌⊎◌, inl, inr, ℕ, ◌==◌, ◌&&◌, List, [], ◌∷◌, Bool, true, false, cond, Option, Some, None, refl, sym, ◌∙◌, ap, subst}
use Rattle.std.specs.Prelude.{◌↔◌, MatchOption}
use Rattle.std.specs.Ordering.{is_lt}
use Rattle.std.specs.declared.cmp.Ordering.{Ordering}
use Rattle.std.specs.declared.cmp.Ordering.TheVariants.{Less, Equal, Greater}
use Rattle.syntax.specs.Lists.{In}
use Rattle.address.specs.Order.{order_of}
use Rattle.address.specs.internal.OrderLaws.{less-not-equal, greater-not-less}
use Rattle.address.proofs.public.Total.{order-itself, order-transitive, order-total}
use Rattle.runs.specs.Moves.{Place}
use Rattle.runs.specs.Events.{acting}
use Rattle.runs.specs.Choices.{choice_of}
use Rattle.runs.specs.Ready.{other, ChoiceAllowed, Chosen}
use Rattle.runs.specs.Steps.{State, Allowed}
use Rattle.runs.specs.WellFormed.{WellFormed}
use Rattle.runs.specs.internal.AllowedEvents.{those}
use Rattle.runs.specs.declared.event.Choice.{Choice}
use Rattle.runs.specs.declared.event.Event.{Event}
use Rattle.runs.proofs.public.Options.{none-some, some-injective, cond-some}
use Rattle.local_actions.specs.Actions.{Offered, opened_arm}
use Rattle.local_actions.specs.Walk.{action_at}
use Rattle.local_actions.specs.declared.action.LocalAction.{LocalAction}
use Rattle.local_actions.specs.declared.action.ActionKind.{ActionKind}
use Rattle.local_actions.specs.declared.action.ActionKind.TheVariants.{Assigns, Tests, Turns, Sends, Receives, Syncs, Opens, Releases, Closes}
use Rattle.channel_uses.specs.OnChannel.{is_partner_on}
use Rattle.allowed_events.specs.internal.Acting.{ActedBy}
use Rattle.allowed_events.specs.internal.Least.{is_less, least_of, LeastActed}
use Rattle.allowed_events.specs.internal.Meeting.{solo, met, met_with}
use Rattle.allowed_events.proofs.ActedActions.{in-alone}
use Rattle.allowed_events.proofs.FromActions.{ByActions, alone, meets, by_actions, actions_allowed, solo-acts, met-acts}
use Rattle.allowed_events.proofs.Listed.{in-those-first, in-met, met-in}

-- ---- the least of a list
not-itself : (a : Place) → order_of a a ≡ Less → ⊥
not-itself a h = less-not-equal (sym h ∙ order-itself a)

-- the other address of f is not less than that of e
abbrev NotLess : Event → Event → Type 0
NotLess f e = order_of (other f) (other e) ≡ Less → ⊥

-- none of these has a lesser one than m, which is one of them
record IsLeast (o : Option Event) (es : List Event) (m : Event) : Type 0 where
  among : (o ≡ Some m) ⊎ In m es
  least : (f : Event) → (o ≡ Some f) ⊎ In f es → NotLess f m

first-least : (e : Event) (es : List Event) (m : Event) → IsLeast (Some e) es m → IsLeast None (e ∷ es) m
first-least e es m r = record {
  among = elim r.among [ inl u ↦ inr (inl (sym (some-injective e m u))) | inr u ↦ inr (inr u) ];
  least = λ f i. elim i [
    | inl u ↦ none-some f u
    | inr (inl u) ↦ r.least f (inl (ap (λ (x : Event). Some x) (sym u)))
    | inr (inr u) ↦ r.least f (inr u)
  ];
}

less-least : (g e : Event) (es : List Event) (m : Event) → order_of (other e) (other g) ≡ Less → IsLeast (Some e) es m → IsLeast (Some g) (e ∷ es) m
less-least g e es m less r = record {
  among = elim r.among [ inl u ↦ inr (inl (sym (some-injective e m u))) | inr u ↦ inr (inr u) ];
  least = λ f i. elim i [
    | inl u ↦ λ l. r.least e (inl refl)
        (order-transitive (other e) (other g) (other m) less (subst (λ (x : Event). order_of (other x) (other m) ≡ Less) (sym (some-injective g f u)) l))
    | inr (inl u) ↦ r.least f (inl (ap (λ (x : Event). Some x) (sym u)))
    | inr (inr u) ↦ r.least f (inr u)
  ];
}

kept-least : (g e : Event) (es : List Event) (m : Event) → NotLess e g → IsLeast (Some g) es m → IsLeast (Some g) (e ∷ es) m
kept-least g e es m keeps r = record {
  among = elim r.among [ inl u ↦ inl u | inr u ↦ inr (inr u) ];
  least = λ f i. elim i [
    | inl u ↦ r.least f (inl u)
    | inr (inl u) ↦ λ l. higher (subst (λ (x : Event). order_of (other x) (other m) ≡ Less) u l)
    | inr (inr u) ↦ r.least f (inr u)
  ];
}
  where
    higher : order_of (other e) (other m) ≡ Less → ⊥
    higher l = elim (order-total (other g) (other m)) [
      | inl below ↦ r.least g (inl refl) below
      | inr (inl above) ↦ keeps (order-transitive (other e) (other m) (other g) l above)
      | inr (inr same) ↦ keeps (subst (λ (p : Place). order_of (other e) p ≡ Less) (sym same) l)
    ]

some-least : (o : Option Event) (es : List Event) (m : Event) → least_of o es ≡ Some m → IsLeast o es m
some-least o [] m h = record {
  among = inl h;
  least = λ f i. elim i [
    | inl u ↦ λ l. not-itself (other m) (subst (λ (x : Event). order_of (other x) (other m) ≡ Less) (some-injective f m (sym u ∙ h)) l)
    | inr u ↦ absurd u
  ];
}
some-least None (e ∷ es) m h = first-least e es m (some-least (Some e) es m h)
some-least (Some g) (e ∷ es) m h = pick (order_of (other e) (other g)) refl (some-least (cond (is_less e (Some g)) (Some e) (Some g)) es m h)
  where
    pick : (q : Ordering) → order_of (other e) (other g) ≡ q → IsLeast (cond (is_lt q) (Some e) (Some g)) es m → IsLeast (Some g) (e ∷ es) m
    pick Less is r = less-least g e es m is r
    pick Equal is r = kept-least g e es m (λ l. less-not-equal (sym l ∙ is)) r
    pick Greater is r = kept-least g e es m (λ l. greater-not-less (sym is ∙ l)) r

-- there is one where there was one, or where there is an event
stays-some : (o : Option Event) (e : Event) → cond (is_less e o) (Some e) o ≡ None → ⊥
stays-some None e h = none-some e (sym h)
stays-some (Some g) e h = pick (is_lt (order_of (other e) (other g))) h
  where
    pick : (b : Bool) → cond b (Some e) (Some g) ≡ None → ⊥
    pick true k = none-some e (sym k)
    pick false k = none-some g (sym k)

none-least : (o : Option Event) (es : List Event) → least_of o es ≡ None → (o ≡ None) × ((f : Event) → In f es → ⊥)
none-least o [] h = (h, λ f i. absurd i)
none-least o (e ∷ es) h = absurd (stays-some o e (none-least (cond (is_less e o) (Some e) o) es h).0)

-- one more list of one event at most
pub least-more : (o new made : Option Event) (rest : List Event) → new ≡ least_of o (those made []) → least_of new rest ≡ least_of o (those made rest)
least-more o new None rest h = ap (λ (p : Option Event). least_of p rest) h
least-more o new (Some e) rest h = ap (λ (p : Option Event). least_of p rest) h

-- one event at most
pub taken-so : (made o : Option Event) (b : Bool) → MatchOption made (b ≡ false) (λ e. b ≡ is_less e o) → cond b made o ≡ least_of o (those made [])
taken-so None o b h = ap (λ t. cond t None o) h
taken-so (Some e) o b h = ap (λ t. cond t (Some e) o) h

-- one alone is the least
pub taken-first : (made : Option Event) → made ≡ least_of None (those made [])
taken-first None = refl
taken-first (Some e) = refl

-- ---- the arm that an event opens
solo-arm : (a : Place) (x : ActionKind) (e : Event) → solo a x ≡ Some e → (choice_of e).arm ≡ opened_arm x
solo-arm a (Assigns x v read) e h = sym (ap (λ (f : Event). (choice_of f).arm) (some-injective _ e h))
solo-arm a (Tests k read) e h = sym (ap (λ (f : Event). (choice_of f).arm) (some-injective _ e h))
solo-arm a Turns e h = sym (ap (λ (f : Event). (choice_of f).arm) (some-injective _ e h))
solo-arm a _ e h = none-some e h

met-arm : (b : Place) (x : ActionKind) (a : Place) (y : ActionKind) (e : Event) → met b x a y ≡ Some e → (choice_of e).arm ≡ opened_arm x
met-arm b (Receives c x) a (Sends d v read) e h = sym (ap (λ (f : Event). (choice_of f).arm) (some-injective _ e (cond-some (c == d) _ e h).1))
met-arm b (Opens c k) a (Sends d v read) e h = sym (ap (λ (f : Event). (choice_of f).arm) (some-injective _ e (cond-some (c == d) _ e h).1))
met-arm b (Opens c k) a (Syncs d) e h = sym (ap (λ (f : Event). (choice_of f).arm) (some-injective _ e (cond-some (c == d) _ e h).1))
met-arm b (Closes c) a (Releases d) e h = sym (ap (λ (f : Event). (choice_of f).arm) (some-injective _ e (cond-some (c == d) _ e h).1))
met-arm b (Syncs c) a (Syncs d) e h = sym (ap (λ (f : Event). (choice_of f).arm) (some-injective _ e (cond-some ((c == d) && is_lt (order_of b a)) _ e h).1))
met-arm b x a y e h = none-some e h

acted-arm : (S : State) (x : LocalAction) (e : Event) → ActedBy S x e → (choice_of e).arm ≡ opened_arm x.action
acted-arm S x e h = elim h [ inl u ↦ solo-arm x.place x.action e u | inr u ↦ met-arm x.place x.action u.0.place u.0.action e u.2 ]

acted-place : (S : State) (x : LocalAction) (e : Event) → ActedBy S x e → acting e ≡ x.place
acted-place S x e h = elim h [ inl u ↦ solo-acts x.place x.action e u | inr u ↦ met-acts x.place x.action u.0.place u.0.action e u.2 ]

-- ---- the events of one action
-- the one that it makes alone
pub taken-alone : (S : State) (x : LocalAction) (made : Option Event) → made ≡ solo x.place x.action → ((b a : Place) (y : ActionKind) → met b x.action a y ≡ None) → LeastActed S x made
taken-alone S x made is none = record {
  events = those made [];
  exactly = λ e. (
    λ i. inl (sym is ∙ in-alone made e i),
    λ h. elim h [
      | inl u ↦ in-those-first made e [] (is ∙ u)
      | inr u ↦ none-some e (sym (none x.place u.0.place u.0.action) ∙ u.2)
    ],
  );
  taken = taken-first made;
}

-- those that it makes with others
pub taken-met : (S : State) (c : ℕ) (x : LocalAction) (others found : List LocalAction) (least : Option Event) → ((a : Place) → solo a x.action ≡ None)
    → others ≡ found → ((y : LocalAction) → In y found ↔ (Offered S y × (is_partner_on c y.action ≡ true)))
    → ((b a : Place) (y : ActionKind) (e : Event) → met b x.action a y ≡ Some e → is_partner_on c y ≡ true) → least ≡ least_of None (met_with x others) → LeastActed S x least
taken-met S c x others found least none is exactly looks taken = record {
  events = met_with x others;
  exactly = λ e. (
    λ i. let m = met-in x others e i in
        inr (m.partner, ((exactly m.partner).0 (subst (λ (l : List LocalAction). In m.partner l) is m.there)).0, m.made),
    λ h. elim h [
      | inl u ↦ none-some e (sym (none x.place) ∙ u)
      | inr u ↦ in-met x u.0 others e (subst (λ (l : List LocalAction). In u.0 l) (sym is) ((exactly u.0).1 (u.1, looks x.place u.0.place u.0.action e u.2))) u.2
    ],
  );
  taken = taken;
}

-- ---- the one that the choice means
choice-is : (e : Event) (c : Choice) → acting e ≡ c.place → (choice_of e).arm ≡ c.arm → choice_of e ≡ c
choice-is e c p q = λ i. record { place = p i; arm = q i }

module _ (S : State) (c : Choice) (found : Option ActionKind) (w : WellFormed S.residual)
    (exactly : (x : ActionKind) → (found ≡ Some x) ↔ (Offered S (action_at c.place x) × (opened_arm x ≡ c.arm))) where
  -- each event with the choice is made by the action that was found
  there : (e : Event) (x : LocalAction) → Offered S x → ActedBy S x e → choice_of e ≡ c → (found ≡ Some x.action) × ActedBy S (action_at c.place x.action) e
  there e x o acts is =
      let place : x.place ≡ c.place = sym (acted-place S x e acts) ∙ ap (λ (d : Choice). d.place) is in (
        (exactly x.action).1 (subst (λ (a : Place). Offered S (action_at a x.action)) place o, sym (acted-arm S x e acts) ∙ ap (λ (d : Choice). d.arm) is),
        subst (λ (a : Place). ActedBy S (action_at a x.action) e) place acts,
      )

  all-there : (e : Event) → ByActions S e → choice_of e ≡ c → (y : ActionKind) × (found ≡ Some y) × ActedBy S (action_at c.place y) e
  all-there e (alone x o h) is = let t = there e x o (inl h) is in (x.action, t.0, t.1)
  all-there e (meets x y o q h) is = let t = there e x o (inr (y, q, h)) is in (x.action, t.0, t.1)

  pub none-chosen : ((x : ActionKind) → found ≡ Some x → ⊥) → ChoiceAllowed S c → ⊥
  none-chosen none p = let t = all-there p.0 (by_actions S p.0 w p.1) p.2 in none t.0 t.1

  -- the least of the events of that action
  pub least-chosen : (x : LocalAction) (least : Option Event) → x.place ≡ c.place → found ≡ Some x.action → LeastActed S x least → MatchOption least (ChoiceAllowed S c → ⊥) (λ e. Chosen S c e)
  least-chosen x least at is l = pick least l.taken
    where
      offered : Offered S x
      offered = subst (λ (a : Place). Offered S (action_at a x.action)) (sym at) ((exactly x.action).0 is).0

      all : (e : Event) → Allowed S e → choice_of e ≡ c → In e l.events
      all e a same =
          let t = all-there e (by_actions S e w a) same in
          (l.exactly e).1 (subst (λ (y : ActionKind). ActedBy S (action_at x.place y) e) (some-injective t.0 x.action (sym t.1 ∙ is))
          (subst (λ (a : Place). ActedBy S (action_at a t.0) e) (sym at) t.2))

      with-choice : (e : Event) → ActedBy S x e → Allowed S e × (choice_of e ≡ c)
      with-choice e acts = (
        elim acts [
          | inl u ↦ actions_allowed S w e (alone x offered u)
          | inr u ↦ actions_allowed S w e (meets x u.0 offered u.1 u.2)
        ],
        choice-is e c (acted-place S x e acts ∙ at) (acted-arm S x e acts ∙ ((exactly x.action).0 is).1),
      )

      pick : (o : Option Event) → o ≡ least_of None l.events → MatchOption o (ChoiceAllowed S c → ⊥) (λ e. Chosen S c e)
      pick None is = λ p. (none-least None l.events (sym is)).1 p.0 (all p.0 p.1 p.2)
      pick (Some m) is =
          let it = some-least None l.events m (sym is) in
          let here : In m l.events = elim it.among [ inl u ↦ none-some m u | inr u ↦ u ] in
          let one = with-choice m ((l.exactly m).0 here) in
          record {
            allowed = one.0;
            choice = one.1;
            least = λ f a same less. it.least f (inr (all f a same)) less;
          }
