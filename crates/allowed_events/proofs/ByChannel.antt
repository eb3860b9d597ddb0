-- The events that actions make among themselves, by the numbers of partners on each channel.
use Rattle.std.proofs.Common.{◌≡◌, ◌⊎◌, inl, inr, ℕ, zero, suc, ◌+◌, ◌<◌, ◌≤◌, List, [], ◌∷◌, ◌++◌, length, true, Option, Some, slice_get, slice_index_or, refl, sym, ◌∙◌, ap, subst, arith}
use Rattle.std.proofs.lemmas.Bool.{eqb-true, cases_eq, cases_lt}
use Rattle.std.proofs.lemmas.Option.{slice_get-get_or, slice_get_within}
use Rattle.std.specs.Prelude.{◌↔◌}
use Rattle.syntax.specs.Lists.{In}
use Rattle.runs.specs.Moves.{Place}
use Rattle.runs.specs.Ready.{ReadyList}
use Rattle.runs.specs.Steps.{State, Allowed}
use Rattle.runs.specs.internal.AllowedEvents.{those}
use Rattle.runs.specs.declared.event.Event.{Event}
use Rattle.runs.proofs.public.Lists.{in-left, in-right, in-parts}
use Rattle.runs.proofs.public.Options.{none-some, some-injective}
use Rattle.dependence.specs.LastEvents.{Uses, LastUse}
use Rattle.dependence.specs.declared.uses.UseTable.{UseTable}
use Rattle.local_actions.specs.Actions.{Offered, OffersExactly}
use Rattle.local_actions.specs.declared.action.LocalAction.{LocalAction}
use Rattle.local_actions.specs.declared.action.ActionKind.{ActionKind}
use Rattle.local_actions.specs.declared.action.ActionKind.TheVariants.{Sends, Receives, Syncs, Opens, Releases, Closes}
use Rattle.channel_uses.specs.OnChannel.{is_partner_on}
use Rattle.allowed_events.specs.internal.Acting.{ActedBy, ActedByOne, SortedOf}
use Rattle.allowed_events.specs.internal.Among.{partner_on, IsPartner, HasPartners, MetFrom}
use Rattle.allowed_events.specs.internal.Meeting.{solo, met}
use Rattle.allowed_events.proofs.ActedActions.{in-alone, acted-allowed, acted-all}
use Rattle.allowed_events.proofs.Listed.{in-those-first}

-- ---- the table
-- it has those before index n
abbrev pub HasBelow : UseTable → List LocalAction → ℕ → Type 0
HasBelow table xs n = (c i : ℕ) → Uses table c i ↔ ((i < n) × IsPartner xs c i)

pub has-none : (table : UseTable) (xs : List LocalAction) → ((c i : ℕ) → Uses table c i → ⊥) → HasBelow table xs 0
has-none table xs h c i = (λ u. absurd (h c i u), λ u. let less : i < 0 = u.0 in absurd (omega (arith, less)))

pub has-more : (old new : UseTable) (xs : List LocalAction) (n : ℕ) (x : LocalAction) (o : Option ℕ) → HasBelow old xs n → slice_get xs n ≡ Some x → o ≡ partner_on x.action
    → ((c i : ℕ) → Uses new c i ↔ (Uses old c i ⊎ ((o ≡ Some c) × (i ≡ n)))) → HasBelow new xs (n + 1)
has-more old new xs n x o h at is put c i = (
  λ u. elim ((put c i).0 u) [
    | inl v ↦ let below = (h c i).0 v in let less : i < n = below.0 in (omega (arith, less), below.1)
    | inr v ↦ let same : i ≡ n = v.1 in (omega (arith, same), (x, ap (slice_get xs) same ∙ at, sym is ∙ v.0))
  ],
  λ u.
      let less : i < n + 1 = u.0 in
      let p : IsPartner xs c i = u.1 in
      elim (cases_eq i n) [
        | inl same ↦
            let one : x ≡ p.0 = some-injective x p.0 (sym at ∙ sym (ap (slice_get xs) same) ∙ p.1) in
            (put c i).1 (inr (is ∙ ap (λ (z : LocalAction). partner_on z.action) one ∙ p.2, same))
        | inr apart ↦ (put c i).1 (inl ((h c i).1 (omega (arith, less, apart), p)))
      ],
)

pub has-all : (table : UseTable) (xs : List LocalAction) (n : ℕ) → HasBelow table xs n → length xs ≤ n → HasPartners table xs
has-all table xs n h all c i = (
  λ u. ((h c i).0 u).1,
  λ p. let less : i < length xs = slice_get_within xs i p.0 p.1 in (h c i).1 (omega (arith, less, all), p),
)

-- ---- actions by their numbers
got-in : (xs : List LocalAction) (i : ℕ) (x : LocalAction) → slice_get xs i ≡ Some x → In x xs
got-in [] i x h = none-some x h
got-in (y ∷ xs) zero x h = inl (sym (some-injective y x h))
got-in (y ∷ xs) (suc i) x h = inr (got-in xs i x h)

in-got : (xs : List LocalAction) (x : LocalAction) → In x xs → (i : ℕ) × (slice_get xs i ≡ Some x)
in-got [] x h = absurd h
in-got (y ∷ xs) x (inl is) = (0, ap (λ (z : LocalAction). Some z) (sym is))
in-got (y ∷ xs) x (inr h) = let found = in-got xs x h in (suc found.0, found.1)

-- ---- the search from the last partner
-- the event is there, or is made with one from index n on
abbrev pub MadeFrom : List Event → List Event → ℕ → LocalAction → ℕ → List LocalAction → Type 0
MadeFrom old new n x c xs = (e : Event) → In e new ↔ (In e old ⊎ MetFrom n x c xs e)

pub made-none : (old : List Event) (x : LocalAction) (c n : ℕ) (xs : List LocalAction) → n ≡ length xs → MadeFrom old old n x c xs
made-none old x c n xs all e = (
  λ i. inl i,
  λ h. elim h [
    | inl i ↦ i
    | inr m ↦
        let less : m.index < length xs = slice_get_within xs m.index m.partner m.at in
        let from : n ≤ m.index = m.from in absurd (omega (arith, all, less, from))
  ],
)

pub made-more : (table : UseTable) (xs : List LocalAction) (old mid new : List Event) (x y : LocalAction) (c below number : ℕ) (made : Option Event) → HasPartners table xs
    → LastUse table c below number → number < length xs → y ≡ slice_index_or xs number y → MadeFrom old mid below x c xs
    → made ≡ met x.place x.action y.place y.action → new ≡ mid ++ those made [] → MadeFrom old new number x c xs
made-more table xs old mid new x y c below number made has found within at so_far is added e = (
  λ i. elim (in-parts e mid (those made []) (subst (λ (l : List Event). In e l) added i)) [
    | inl u ↦ elim ((so_far e).0 u) [ inl v ↦ inl v | inr m ↦ inr (less m) ]
    | inr u ↦ inr (record { index = number; partner = y; from = omega arith; at = there; on = on-y; made = sym is ∙ in-alone made e u })
  ],
  λ h. subst (λ (l : List Event). In e l) (sym added) (elim h [
    | inl u ↦ in-left e mid (those made []) ((so_far e).1 (inl u))
    | inr m ↦ elim (cases_lt m.index below) [
      | inl under ↦
          let up : m.index ≤ number = found.last m.index ((has c m.index).1 (m.partner, m.at, m.on)) under in
          let from : number ≤ m.index = m.from in
          let same : m.index ≡ number = omega (arith, up, from) in
          let one : m.partner ≡ y = some-injective m.partner y (sym m.at ∙ ap (slice_get xs) same ∙ there) in
          in-right e mid (those made [])
          (in-those-first made e [] (is ∙ ap (λ (z : LocalAction). met x.place x.action z.place z.action) (sym one) ∙ m.made))
      | inr over ↦
          in-left e mid (those made [])
          ((so_far e).1 (inr (record { index = m.index; partner = m.partner; from = over; at = m.at; on = m.on; made = m.made })))
    ]
  ]),
)
  where
    there : slice_get xs number ≡ Some y
    there = slice_get-get_or xs number y within ∙ ap (λ (z : LocalAction). Some z) (sym at)

    on-y : partner_on y.action ≡ Some c
    on-y =
        let p : IsPartner xs c number = (has c number).0 found.uses in
        let one : y ≡ p.0 = some-injective y p.0 (sym there ∙ p.1) in ap (λ (z : LocalAction). partner_on z.action) one ∙ p.2

    less : MetFrom below x c xs e → MetFrom number x c xs e
    less m =
        let under : number < below = found.less in
        let from : below ≤ m.index = m.from in
        record { index = m.index; partner = m.partner; from = omega (arith, under, from); at = m.at; on = m.on; made = m.made }

pub made-all : (table : UseTable) (xs : List LocalAction) (old new : List Event) (x : LocalAction) (c below : ℕ) → HasPartners table xs
    → ((i : ℕ) → Uses table c i → i < below → ⊥) → MadeFrom old new below x c xs → MadeFrom old new 0 x c xs
made-all table xs old new x c below has none so_far e = (
  λ i. elim ((so_far e).0 i) [
    | inl u ↦ inl u
    | inr m ↦ inr (record { index = m.index; partner = m.partner; from = omega arith; at = m.at; on = m.on; made = m.made })
  ],
  λ h. elim h [
    | inl u ↦ (so_far e).1 (inl u)
    | inr m ↦ elim (cases_lt m.index below) [
      | inl under ↦ absurd (none m.index ((has c m.index).1 (m.partner, m.at, m.on)) under)
      | inr over ↦ (so_far e).1 (inr (record { index = m.index; partner = m.partner; from = over; at = m.at; on = m.on; made = m.made }))
    ]
  ],
)

-- ---- the events of one action
-- who makes an event with one that acts, and is on its channel, is a partner on it
met-on : (x y : ActionKind) (b a : Place) (e : Event) (c : ℕ) → met b x a y ≡ Some e → is_partner_on c y ≡ true → partner_on y ≡ Some c
met-on (Receives f v) (Sends d w read) b a e c h on = ap (λ (k : ℕ). Some k) (eqb-true d c on)
met-on (Receives f v) _ b a e c h on = none-some e h
met-on (Opens f k) (Sends d w read) b a e c h on = ap (λ (k : ℕ). Some k) (eqb-true d c on)
met-on (Opens f k) (Syncs d) b a e c h on = ap (λ (k : ℕ). Some k) (eqb-true d c on)
met-on (Opens f k) _ b a e c h on = none-some e h
met-on (Closes f) (Releases d) b a e c h on = ap (λ (k : ℕ). Some k) (eqb-true d c on)
met-on (Closes f) _ b a e c h on = none-some e h
met-on (Syncs f) (Syncs d) b a e c h on = ap (λ (k : ℕ). Some k) (eqb-true d c on)
met-on (Syncs f) _ b a e c h on = none-some e h
met-on _ y b a e c h on = none-some e h

pub acted-among : (S : State) (x : LocalAction) (c : ℕ) (xs : List LocalAction) (old mid new : List Event) (made : Option Event) → made ≡ solo x.place x.action → mid ≡ old ++ those made []
    → MadeFrom mid new 0 x c xs → OffersExactly S xs → ((b a : Place) (y : ActionKind) (e : Event) → met b x.action a y ≡ Some e → is_partner_on c y ≡ true)
    → (e : Event) → In e new ↔ (In e old ⊎ ActedBy S x e)
acted-among S x c xs old mid new made is first added offers looks e = (
  λ i. elim ((added e).0 i) [
    | inl u ↦ elim (in-parts e old (those made []) (subst (λ (l : List Event). In e l) first u)) [
      | inl v ↦ inl v
      | inr v ↦ inr (inl (sym is ∙ in-alone made e v))
    ]
    | inr m ↦ inr (inr (m.partner, (offers.exactly m.partner).0 (got-in xs m.index m.partner m.at), m.made))
  ],
  λ h. (added e).1 (elim h [
    | inl u ↦ inl (subst (λ (l : List Event). In e l) (sym first) (in-left e old (those made []) u))
    | inr (inl u) ↦ inl (subst (λ (l : List Event). In e l) (sym first) (in-right e old (those made []) (in-those-first made e [] (is ∙ u))))
    | inr (inr u) ↦
        let found = in-got xs u.0 ((offers.exactly u.0).1 u.1) in
        inr (record {
          index = found.0;
          partner = u.0;
          from = omega arith;
          at = found.1;
          on = met-on x.action u.0.action x.place u.0.place e c u.2 (looks x.place u.0.place u.0.action e u.2);
          made = u.2;
        })
  ]),
)

-- ---- all of them
abbrev Any : LocalAction → Type 0
Any x = Unit {0}

any-offered : (S : State) (xs : List LocalAction) → OffersExactly S xs → (x : LocalAction) → In x xs ↔ (Offered S x × Any x)
any-offered S xs offers x = (λ i. ((offers.exactly x).0 i, tt), λ h. (offers.exactly x).1 h.0)

pub among-allowed : (S : State) (xs : List LocalAction) (made : List Event) → OffersExactly S xs → ((e : Event) → In e made ↔ ActedByOne S xs e) → (e : Event) → In e made → Allowed S e
among-allowed S xs made offers acted = acted-allowed S Any xs xs made offers.formed (any-offered S xs offers) refl acted

pub among-ready : (S : State) (xs : List LocalAction) (made sorted : List Event) → OffersExactly S xs → ((e : Event) → In e made ↔ ActedByOne S xs e) → SortedOf made sorted → ReadyList S sorted
among-ready S xs made sorted offers acted s = record {
  exactly = λ e. (
    λ i. among-allowed S xs made offers acted e ((s.same e).0 i),
    λ a. (s.same e).1 (acted-all S Any xs xs made offers.formed (any-offered S xs offers) refl acted e a (λ x is. tt)),
  );
  in_order = s.in_order;
}
