-- The ready list of a state: it exists, it is one, and the first event in it with a choice is the one that is meant.
use Rattle.std.proofs.Common.{◌≡◌, ◌⊎◌, ◌↔◌, inl, inr, ℕ, List, [], ◌∷◌, ◌++◌, refl, sym, ◌∙◌, ap, subst, arith}
use Rattle.std.specs.declared.cmp.Ordering.TheVariants.{Less}
use Rattle.std.specs.Ordering.{ordering_reverse}
use Rattle.std.proofs.lemmas.Bool.{cases_order, cases_eq}
use Rattle.syntax.specs.Lists.{In}
use Rattle.system.specs.Expression.{Store}
use Rattle.address.specs.Order.{order_of}
use Rattle.address.specs.internal.OrderLaws.{less-not-equal, greater-not-less}
use Rattle.address.proofs.public.Total.{order-itself, order-antisymmetric, order-transitive, order-total}
use Rattle.address.proofs.public.Places.{same?}
use Rattle.runs.specs.Moves.{Place}
use Rattle.runs.specs.Events.{Located, Makes, assigning, testing, turning, meeting, opening, opening_without_data, shutting, syncing, places, acting}
use Rattle.runs.specs.Steps.{State, Allowed}
use Rattle.runs.specs.internal.AllowedEvents.{allowed_events}
use Rattle.runs.specs.Choices.{choice_of}
use Rattle.runs.specs.InOrder.{InOrder}
use Rattle.runs.specs.Ready.{other, Sooner, ReadyList, ChoiceAllowed, Chosen}
use Rattle.runs.specs.declared.event.Event.{Event}
use Rattle.runs.specs.declared.event.Choice.{Choice}
use Rattle.runs.specs.declared.event.Kind.{Kind}
use Rattle.runs.specs.declared.event.Kind.TheVariants.{Meet, Open, Close, Sync}
use Rattle.runs.proofs.public.WellFormed.{WellFormed}
use Rattle.runs.proofs.OneEvent.{one_event}
use Rattle.runs.proofs.ChoiceMeansOne.{alike}
use Rattle.runs.proofs.public.Lists.{in-right, in-parts, every-in, every-of}
use Rattle.runs.proofs.AllowedEvents.{events-sound, events-complete}

-- order: one of three, and not both ways
not-both : (a b : Place) → order_of a b ≡ Less → order_of b a ≡ Less → ⊥
not-both a b h g = greater-not-less (sym (ap ordering_reverse g) ∙ sym (order-antisymmetric a b) ∙ h)

not-itself : (a : Place) → order_of a a ≡ Less → ⊥
not-itself a h = less-not-equal (sym h ∙ order-itself a)

arm-number : Event → ℕ
arm-number e = (choice_of e).arm

-- no event comes before one that comes before it
pub sooner-asymmetric : (e f : Event) → Sooner e f → Sooner f e → ⊥
sooner-asymmetric e f h g =
    elim h [
      | inl a ↦ elim g [ inl b ↦ not-both (acting e) (acting f) a b | inr b ↦ not-itself (acting e) (subst (λ (p : Place). order_of (acting e) p ≡ Less) b.0 a) ]
      | inr a ↦ elim g [
        | inl b ↦ not-itself (acting f) (subst (λ (p : Place). order_of (acting f) p ≡ Less) a.0 b)
        | inr b ↦ elim a.1 [
          | inl c ↦ elim b.1 [ inl d ↦ omega arith | inr d ↦ let same : (choice_of f).arm ≡ (choice_of e).arm = d.0 in omega arith ]
          | inr c ↦ let equal : (choice_of e).arm ≡ (choice_of f).arm = c.0 in
              elim b.1 [ inl d ↦ omega arith | inr d ↦ not-both (other e) (other f) c.1 d.1 ]
        ]
      ]
    ]

-- what comes before an earlier one comes before it
pub sooner-transitive : (e f g : Event) → Sooner e f → Sooner f g → Sooner e g
sooner-transitive e f g h k =
    elim h [
      | inl a ↦ elim k [
        | inl b ↦ inl (order-transitive (acting e) (acting f) (acting g) a b)
        | inr b ↦ inl (subst (λ (p : Place). order_of (acting e) p ≡ Less) b.0 a)
      ]
      | inr a ↦ elim k [
        | inl b ↦ inl (subst (λ (p : Place). order_of p (acting g) ≡ Less) (sym a.0) b)
        | inr b ↦ inr (
          a.0 ∙ b.0,
          elim a.1 [
            | inl c ↦ elim b.1 [ inl d ↦ inl (omega arith) | inr d ↦ let one : (choice_of f).arm ≡ (choice_of g).arm = d.0 in inl (omega arith) ]
            | inr c ↦ let two : (choice_of e).arm ≡ (choice_of f).arm = c.0 in elim b.1 [
              | inl d ↦ inl (omega arith)
              | inr d ↦ inr (c.0 ∙ d.0, order-transitive (other e) (other f) (other g) c.1 d.1)
            ]
          ],
        )
      ]
    ]

-- the addresses of an event, by its kind
places_by : Kind → Place → Place → List Place
places_by Meet a b = b ∷ a ∷ []
places_by Open a b = b ∷ a ∷ []
places_by Close a b = b ∷ a ∷ []
places_by Sync a b = a ∷ b ∷ []
places_by _ a b = a ∷ []

made-places : (s : Store) (ls : List Located) (e : Event) → Makes s ls e → places e ≡ places_by e.kind (acting e) (other e)
unfolding places_by
made-places s ls e (assigning a x w f) = refl
made-places s ls e (testing a d k h) = refl
made-places s ls e (turning a) = refl
made-places s ls e (meeting a b c w f x h) = refl
made-places s ls e (opening a b c w k f h) = refl
made-places s ls e (opening_without_data a b c k h) = refl
made-places s ls e (shutting a b c h) = refl
made-places s ls e (syncing a b c h o) = refl

-- two allowed events with one choice and one other address are one
pub one-by-other : (S : State) (e f : Event) → WellFormed S.residual → Allowed S e → Allowed S f → choice_of e ≡ choice_of f → other e ≡ other f → e ≡ f
one-by-other S e f w (T, one) (U, two) same others =
    let a = alike S e f w (T, one) (U, two) same in
    one_event S e f T U w one two
    (made-places S.store one.moves e one.makes ∙ (λ i. places_by (a.kind i) (a.acts i) (others i)) ∙ sym (made-places S.store two.moves f two.makes))
    a.one_arm

choices-equal : (e f : Event) → acting e ≡ acting f → (choice_of e).arm ≡ (choice_of f).arm → choice_of e ≡ choice_of f
choices-equal e f p q = λ i. record { place = p i; arm = q i }

-- of two allowed events one comes before the other, or they are one
pub sooner? : (S : State) (e f : Event) → WellFormed S.residual → Allowed S e → Allowed S f → Sooner e f ⊎ (e ≡ f) ⊎ Sooner f e
sooner? S e f w a b =
    elim (order-total (acting e) (acting f)) [
      | inl p ↦ inl (inl p)
      | inr (inl p) ↦ inr (inr (inl p))
      | inr (inr p) ↦ elim (cases_order (choice_of e).arm (choice_of f).arm) [
        | inr (inl q) ↦ inl (inr (p, inl q))
        | inr (inr q) ↦ inr (inr (inr (sym p, inl q)))
        | inl q ↦ elim (order-total (other e) (other f)) [
          | inl r ↦ inl (inr (p, inr (q, r)))
          | inr (inl r) ↦ inr (inr (inr (sym p, inr (sym q, r))))
          | inr (inr r) ↦ inr (inl (one-by-other S e f w a b (choices-equal e f p q) r))
        ]
      ]
    ]

-- a list in order with one more event in its place
record Inserted (e : Event) (es : List Event) : Type 0 where
  list : List Event
  of : (f : Event) → In f list → (f ≡ e) ⊎ In f es
  to : (f : Event) → (f ≡ e) ⊎ In f es → In f list
  sorted : InOrder Sooner list

insert : (S : State) (e : Event) (es : List Event) → WellFormed S.residual → Allowed S e → ((f : Event) → In f es → Allowed S f) → InOrder Sooner es → Inserted e es
insert S e [] w a all order = record { list = e ∷ []; of = λ f i. i; to = λ f i. i; sorted = (tt, tt) }
insert S e (f ∷ es) w a all order =
    elim (sooner? S e f w a (all f (inl refl))) [
      | inl before ↦ record {
        list = e ∷ f ∷ es;
        of = λ g i. i;
        to = λ g i. i;
        sorted = ((before, every-of (Sooner e) es (λ g i. sooner-transitive e f g before (every-in (Sooner f) es g order.0 i))), order);
      }
      | inr (inl same) ↦ record {
        list = f ∷ es;
        of = λ g i. inr i;
        to = λ g i. elim i [ inl u ↦ inl (u ∙ same) | inr u ↦ u ];
        sorted = order;
      }
      | inr (inr after) ↦
          let rest = insert S e es w a (λ g i. all g (inr i)) order.1 in
          record {
            list = f ∷ rest.list;
            of = λ g i. elim i [ inl u ↦ inr (inl u) | inr u ↦ elim (rest.of g u) [ inl v ↦ inl v | inr v ↦ inr (inr v) ] ];
            to = λ g i. elim i [ inl u ↦ inr (rest.to g (inl u)) | inr (inl u) ↦ inl u | inr (inr u) ↦ inr (rest.to g (inr u)) ];
            sorted = (
              every-of (Sooner f) rest.list (λ g i. elim (rest.of g i) [
                | inl u ↦ subst (λ (x : Event). Sooner f x) (sym u) after
                | inr u ↦ every-in (Sooner f) es g order.0 u
              ]),
              rest.sorted,
            );
          }
    ]

-- the events of a list in order, each once
record Sorted (es : List Event) : Type 0 where
  list : List Event
  same : (e : Event) → In e list ↔ In e es
  sorted : InOrder Sooner list

sort : (S : State) (es : List Event) → WellFormed S.residual → ((e : Event) → In e es → Allowed S e) → Sorted es
sort S [] w all = record { list = []; same = λ e. ((λ i. i), (λ i. i)); sorted = tt }
sort S (e ∷ es) w all =
    let rest = sort S es w (λ f i. all f (inr i)) in
    let more = insert S e rest.list w (all e (inl refl)) (λ f i. all f (inr ((rest.same f).0 i))) rest.sorted in
    record {
      list = more.list;
      same = λ f. (
        (λ i. elim (more.of f i) [ inl u ↦ inl u | inr u ↦ inr ((rest.same f).0 u) ]),
        (λ i. elim i [ inl u ↦ more.to f (inl u) | inr u ↦ more.to f (inr ((rest.same f).1 u)) ]),
      );
      sorted = more.sorted;
    }

-- there is a ready list
pub ready-list : (S : State) → WellFormed S.residual → (es : List Event) × ReadyList S es
ready-list S w =
    let all = sort S (allowed_events S) w (events-sound S) in (
      all.list,
      record {
        exactly = λ e. ((λ i. events-sound S e ((all.same e).0 i)), (λ a. (all.same e).1 (events-complete S w e a)));
        in_order = all.sorted;
      },
    )

-- the event of a list that a choice means
record First (c : Choice) (es : List Event) : Type 0 where
  event : Event
  inside : In event es
  choice : choice_of event ≡ c
  least : (f : Event) → In f es → choice_of f ≡ c → order_of (other f) (other event) ≡ Less → ⊥

choice? : (e : Event) (c : Choice) → (choice_of e ≡ c) ⊎ (choice_of e ≡ c → ⊥)
choice? e c =
    elim (same? (acting e) c.place) [
      | inl p ↦ elim (cases_eq (choice_of e).arm c.arm) [
        | inl q ↦ inl (λ i. record { place = p i; arm = q i })
        | inr q ↦ inr (λ is. q (ap (λ (d : Choice). d.arm) is))
      ]
      | inr p ↦ inr (λ is. p (ap (λ (d : Choice). d.place) is))
    ]

-- a later event with the same choice has no lesser other address
not-less : (e f : Event) → Sooner e f → choice_of e ≡ choice_of f → order_of (other f) (other e) ≡ Less → ⊥
not-less e f h same less =
    elim h [
      | inl a ↦ not-itself (acting e) (subst (λ (p : Place). order_of (acting e) p ≡ Less) (sym (ap (λ (c : Choice). c.place) same)) a)
      | inr a ↦ elim a.1 [
        | inl b ↦ let one : (choice_of e).arm ≡ (choice_of f).arm = ap (λ (c : Choice). c.arm) same in omega arith
        | inr b ↦ not-both (other e) (other f) b.1 less
      ]
    ]

-- in a list in order an event comes before each that stands after it
order-after : (before after : List Event) (e f : Event) → InOrder Sooner (before ++ e ∷ after) → In f after → Sooner e f
order-after [] after e f order i = every-in (Sooner e) after f order.0 i
order-after (x ∷ before) after e f order i = order-after before after e f order.1 i

first? : (c : Choice) (es : List Event) → InOrder Sooner es → First c es ⊎ ((f : Event) → In f es → choice_of f ≡ c → ⊥)
first? c [] order = inr (λ f i same. i)
first? c (e ∷ es) order =
    elim (choice? e c) [
      | inl same ↦ inl (record {
        event = e;
        inside = inl refl;
        choice = same;
        least = λ f i is less. elim i [
          | inl u ↦ not-itself (other e) (subst (λ (x : Event). order_of (other x) (other e) ≡ Less) u less)
          | inr u ↦ not-less e f (every-in (Sooner e) es f order.0 u) (same ∙ sym is) less
        ];
      })
      | inr differs ↦ elim (first? c es order.1) [
        | inl rest ↦ inl (record {
          event = rest.event;
          inside = inr rest.inside;
          choice = rest.choice;
          least = λ f i is less. elim i [
            | inl u ↦ differs (subst (λ (x : Event). choice_of x ≡ c) u is)
            | inr u ↦ rest.least f u is less
          ];
        })
        | inr none ↦ inr (λ f i is. elim i [ inl u ↦ differs (subst (λ (x : Event). choice_of x ≡ c) u is) | inr u ↦ none f u is ])
      ]
    ]

-- a choice means an event, or none with it is allowed
pub chosen? : (S : State) (c : Choice) → WellFormed S.residual → ((e : Event) × Chosen S c e) ⊎ (ChoiceAllowed S c → ⊥)
chosen? S c w =
    let ready = ready-list S w in
    elim (first? c ready.0 ready.1.in_order) [
      | inl first ↦ inl (
        first.event,
        record {
          allowed = (ready.1.exactly first.event).0 first.inside;
          choice = first.choice;
          least = λ f a is less. first.least f ((ready.1.exactly f).1 a) is less;
        },
      )
      | inr none ↦ inr (λ p. none p.0 ((ready.1.exactly p.0).1 p.1) p.2)
    ]

-- the first event of the ready list with a choice is the one that the choice means
pub first-chosen : (S : State) (c : Choice) (before after : List Event) (e : Event) → ReadyList S (before ++ e ∷ after) → choice_of e ≡ c →
    ((f : Event) → In f before → choice_of f ≡ c → ⊥) → Chosen S c e
first-chosen S c before after e ready same none = record {
  allowed = (ready.exactly e).0 (in-right e before (e ∷ after) (inl refl));
  choice = same;
  least = λ f a is less. elim (in-parts f before (e ∷ after) ((ready.exactly f).1 a)) [
    | inl u ↦ none f u is
    | inr (inl u) ↦ not-itself (other e) (subst (λ (x : Event). order_of (other x) (other e) ≡ Less) u less)
    | inr (inr u) ↦ not-less e f (order-after before after e f ready.in_order u) (same ∙ sym is) less
  ];
}

-- a choice means one event
pub chosen-one : (S : State) (c : Choice) (e f : Event) → WellFormed S.residual → Chosen S c e → Chosen S c f → e ≡ f
chosen-one S c e f w h g =
    elim (order-total (other e) (other f)) [
      | inl less ↦ absurd (g.least e h.allowed h.choice less)
      | inr (inl less) ↦ absurd (h.least f g.allowed g.choice less)
      | inr (inr same) ↦ one-by-other S e f w h.allowed g.allowed (h.choice ∙ sym g.choice) same
    ]
