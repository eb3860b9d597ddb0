-- The allowed events are those that the actions make which are offered.
use Rattle.std.proofs.Common.{◌≡◌, ◌⊎◌, inl, inr, ℕ, ◌==◌, ◌&&◌, List, [], ◌∷◌, Bool, true, false, Option, Some, None, refl, sym, ◌∙◌, ap, subst}
use Rattle.std.proofs.lemmas.Bool.{eqb-true, eq-eqb, and_parts, and_from}
use Rattle.std.specs.Ordering.{is_lt}
use Rattle.std.specs.declared.cmp.Ordering.{Ordering}
use Rattle.std.specs.declared.cmp.Ordering.TheVariants.{Less, Equal, Greater}
use Rattle.value.specs.Word.{Word}
use Rattle.address.specs.Places.{Apart}
use Rattle.address.specs.Order.{order_of}
use Rattle.address.specs.internal.OrderLaws.{less-not-equal}
use Rattle.address.proofs.public.Total.{order-itself}
use Rattle.system.specs.Expression.{Expression, Store}
use Rattle.system.specs.Residual.{Residual, done, halted, inside, beside, assign, send, receive, sync, held, loop, while, test, choose, closing, drain, within, along, arm_at, opened}
use Rattle.runs.specs.Moves.{Place, Move, Local, assigns, tests, turns, sends, receives, syncs, opens, releases, closes}
use Rattle.runs.specs.Events.{Located, at, sent, Makes, assigning, testing, turning, meeting, opening, opening_without_data, shutting, syncing, store_after, acting}
use Rattle.runs.specs.Steps.{State, Allowed}
use Rattle.runs.specs.WellFormed.{WellFormed}
use Rattle.runs.specs.declared.event.Event.{Event}
use Rattle.runs.proofs.public.AtOnce.{OffersAll, Offers, offered, apart_now}
use Rattle.runs.proofs.public.Together.{together}
use Rattle.runs.proofs.public.SameCommand.{SameCommand, same_command}
use Rattle.runs.proofs.public.Options.{none-some, some-injective, cond-some, cond-at}
use Rattle.local_actions.specs.Actions.{action_of, Decided, Offered}
use Rattle.allowed_events.specs.internal.Meeting.{solo, met}
use Rattle.local_actions.specs.declared.action.LocalAction.{LocalAction}
use Rattle.local_actions.specs.declared.action.ActionKind.{ActionKind}
use Rattle.local_actions.specs.declared.action.ActionKind.TheVariants.{Assigns, Tests, Turns, Sends, Receives, Syncs, Opens, Releases, Closes}

-- the event is made by actions that the state offers: by one alone, or by one that acts and its partner
pub data ByActions (S : State) (e : Event) : Type 0 where
  alone : (x : LocalAction) → Offered S x → solo x.place x.action ≡ Some e → ByActions S e
  meets : (x y : LocalAction) → Offered S x → Offered S y → met x.place x.action y.place y.action ≡ Some e → ByActions S e

-- a move that is offered, with what is left after it, shows its action
abbrev shown_as : Store → Place → Move → LocalAction
shown_as s a m = record { place = a; action = action_of s m }

shows : (S : State) (a : Place) (m : Move) → Offers S.residual (at a m) → Decided S.store m → Offered S (shown_as S.store a m)
shows S a m o d = record { move = m; after = o.0; possible = o.1; decided = d; shown = refl }

-- one channel, and a lesser place
on_channel : (c : ℕ) (b : Bool) → b ≡ true → ((c == c) && b) ≡ true
on_channel c b h = and_from (c == c) b (eq-eqb c c refl) h

module _ (S : State) where
  -- the moves of an event, as actions
  actions_make : (ls : List Located) (e : Event) → Makes S.store ls e → OffersAll S.residual ls → ByActions S e
  actions_make ls e (assigning a x w f) o = alone _ (shows S a (assigns x w f) o.0 tt) refl
  actions_make ls e (testing a d k h) o = alone _ (shows S a (tests d k) o.0 h) refl
  actions_make ls e (turning a) o = alone _ (shows S a turns o.0 tt) refl
  actions_make ls e (meeting a b c w f x p) o =
      meets _ _ (shows S b (receives c x) o.1.0 tt) (shows S a (sends c w f false) o.0 tt) (cond-at _ _ (eq-eqb c c refl))
  actions_make ls e (opening a b c w k f p) o =
      meets _ _ (shows S b (opens c k (Some (sent S.store w f))) o.1.0 tt) (shows S a (sends c w f true) o.0 tt) (cond-at _ _ (eq-eqb c c refl))
  actions_make ls e (opening_without_data a b c k p) o =
      meets _ _ (shows S b (opens c k None) o.1.0 tt) (shows S a (syncs c true) o.0 tt) (cond-at _ _ (eq-eqb c c refl))
  actions_make ls e (shutting a b c p) o =
      meets _ _ (shows S b (closes c) o.1.0 tt) (shows S a (releases c) o.0 tt) (cond-at _ _ (eq-eqb c c refl))
  actions_make ls e (syncing a b c p l) o =
      meets _ _ (shows S a (syncs c false) o.0 tt) (shows S b (syncs c false) o.1.0 tt)
      (cond-at _ _ (on_channel c (is_lt (order_of a b)) (ap is_lt l)))

  -- an allowed event is made by actions
  pub by_actions : (e : Event) → WellFormed S.residual → Allowed S e → ByActions S e
  by_actions e w h = actions_make h.1.moves e h.1.makes (offered S.residual h.0.residual S.store h.1.moves e w h.1.makes h.1.moved)

-- moves of one command of which a partner may ask for either
abbrev Twin : Move → Move → Type 0
Twin (sends c w e g) (sends d v f h) = (c ≡ d) × (w ≡ v) × (e ≡ f)
Twin (syncs c g) (syncs d h) = c ≡ d
Twin (opens c k v) (opens d j u) = (c ≡ d) × (k ≡ j)
Twin _ _ = ⊥

send-is : (n : Move) (c w : ℕ) (e : Expression) (g : Bool) → Twin (sends c w e g) n → (n ≡ sends c w e false) ⊎ (n ≡ sends c w e true)
send-is (sends d v f false) c w e g t = inl (sym (λ i. sends (t.0 i) (t.1 i) (t.2 i) false))
send-is (sends d v f true) c w e g t = inr (sym (λ i. sends (t.0 i) (t.1 i) (t.2 i) true))
send-is _ c w e g t = absurd t

sync-is : (n : Move) (c : ℕ) (g : Bool) → Twin (syncs c g) n → (n ≡ syncs c false) ⊎ (n ≡ syncs c true)
sync-is (syncs d false) c g t = inl (sym (λ i. syncs (t i) false))
sync-is (syncs d true) c g t = inr (sym (λ i. syncs (t i) true))
sync-is _ c g t = absurd t

open-is : (n : Move) (c k : ℕ) (v : Option Word) → Twin (opens c k v) n → (u : Option Word) × (n ≡ opens c k u)
open-is (opens d j u) c k v t = (u, sym (λ i. opens (t.0 i) (t.1 i) u))
open-is _ c k v t = absurd t

-- a move that is not what the twin is of
no-twin : {A : Type 0} (m k n : Move) → m ≡ k → Twin m n → (Twin k n → ⊥) → A
no-twin m k n e t h = absurd (h (subst (λ (x : Move). Twin x n) e t))

-- where one is possible, the other is
twin : (r : Residual) (a : Place) (m n : Move) (q : Residual) → Local r a m q → Twin m n → (t : Residual) × Local r a n t
twin done a m n q h t = absurd h
twin halted a m n q h t = absurd h
twin (inside i child next) a m n q h t =
    let deep = twin child h.0 m n h.1 h.3 t in
    (within i deep.0 next, (h.0, deep.0, h.2, deep.1, refl))
twin (beside i child rest) a m n q h t =
    elim h [
      | inl u ↦ let deep = twin child u.0 m n u.1 u.3 t in (along i deep.0 rest, inl (u.0, deep.0, u.2, deep.1, refl))
      | inr u ↦ let deep = twin rest a m n u.0 u.1 t in (along i child deep.0, inr (deep.0, deep.1, refl))
    ]
twin (assign x w e) a m n q h t = no-twin m (assigns x w e) n h.1 t (λ u. u)
twin (send c w e) a m n q h t = elim h.1 [ inl u ↦ other false (subst (λ (x : Move). Twin x n) u.0 t) | inr u ↦ other true (subst (λ (x : Move). Twin x n) u.0 t) ]
  where
    other : (g : Bool) → Twin (sends c w e g) n → (s : Residual) × Local (send c w e) a n s
    other g u = elim (send-is n c w e g u) [ inl is ↦ (done, (h.0, inl (is, refl))) | inr is ↦ (held c, (h.0, inr (is, refl))) ]
twin (receive c x) a m n q h t = no-twin m (receives c (Some x)) n h.1 t (λ u. u)
twin (sync c) a m n q h t = elim h.1 [ inl u ↦ other false (subst (λ (x : Move). Twin x n) u.0 t) | inr u ↦ other true (subst (λ (x : Move). Twin x n) u.0 t) ]
  where
    other : (g : Bool) → Twin (syncs c g) n → (s : Residual) × Local (sync c) a n s
    other g u = elim (sync-is n c g u) [ inl is ↦ (done, (h.0, inl (is, refl))) | inr is ↦ (held c, (h.0, inr (is, refl))) ]
twin (held c) a m n q h t = no-twin m (releases c) n h.1 t (λ u. u)
twin (loop k body) a m n q h t = no-twin m turns n h.1 t (λ u. u)
twin (while k e body) a m n q h t = elim h.1 [ inl u ↦ no-twin m _ n u.0 t (λ v. v) | inr u ↦ no-twin m _ n u.0 t (λ v. v) ]
twin (test d arms) a m n q h t = elim h.1 [ inl u ↦ no-twin m (tests d (Some u.0)) n u.1 t (λ v. v) | inr u ↦ no-twin m (tests d None) n u.0 t (λ v. v) ]
twin (choose channels arms) a m n q h t =
    let is = open-is n h.1 h.2 h.3 (subst (λ (x : Move). Twin x n) h.5 t) in
    (within 1 (opened h.1 is.0 (arm_at arms h.2)) (closing h.1), (h.0, h.1, h.2, is.0, h.4, is.1, refl))
twin (closing c) a m n q h t = no-twin m (closes c) n h.1 t (λ u. u)
twin (drain c k) a m n q h t = no-twin m (receives c None) n h.1 t (λ u. u)

not-itself : (a : Place) → order_of a a ≡ Less → ⊥
not-itself a h = less-not-equal (sym h ∙ order-itself a)

less-only : (q : Ordering) → is_lt q ≡ true → q ≡ Less
less-only Less h = refl
less-only Equal h = cc
less-only Greater h = cc

module _ (S : State) (w : WellFormed S.residual) where
  -- an event of one move
  one_allowed : (l : Located) (e : Event) → Makes S.store (l ∷ []) e → Offers S.residual l → Allowed S e
  one_allowed l e makes o = (
    record { residual = o.0; store = store_after e S.store },
    record { moves = l ∷ []; makes = makes; moved = (o.0, o.1, refl); stored = refl },
  )

  -- an event of two moves, which are not of one command
  two_allowed : (l k : Located) (e : Event) → (Apart l.place k.place → Makes S.store (l ∷ k ∷ []) e) → Offers S.residual l → Offers S.residual k →
      (l.place ≡ k.place → SameCommand l.move k.move → ⊥) → Allowed S e
  two_allowed l k e makes one two differ =
      elim (apart_now S.residual l.place l.move one.0 k.place k.move two.0 w one.1 two.1) [
        | inl same ↦ absurd (differ same (same_command S.residual l.place l.move k.move one.0 two.0 w one.1
            (subst (λ (p : Place). Local S.residual p k.move two.0) (sym same) two.1)))
        | inr apart ↦
            let last = together S.residual l.place k.place l.move k.move one.0 two.0 apart one.1 two.1 in (
              record { residual = last.0; store = store_after e S.store },
              record { moves = l ∷ k ∷ []; makes = makes apart; moved = (one.0, one.1, (last.0, last.1, refl)); stored = refl },
            )
      ]

  alone_allowed : (a : Place) (m : Move) (e : Event) → Offers S.residual (at a m) → Decided S.store m → solo a (action_of S.store m) ≡ Some e → Allowed S e
  alone_allowed a (assigns x v f) e o d h =
      one_allowed (at a (assigns x v f)) e (subst (λ (g : Event). Makes S.store (at a (assigns x v f) ∷ []) g) (some-injective _ e h) (assigning a x v f)) o
  alone_allowed a (tests t k) e o d h =
      one_allowed (at a (tests t k)) e (subst (λ (g : Event). Makes S.store (at a (tests t k) ∷ []) g) (some-injective _ e h) (testing a t k d)) o
  alone_allowed a turns e o d h =
      one_allowed (at a turns) e (subst (λ (g : Event). Makes S.store (at a turns ∷ []) g) (some-injective _ e h) (turning a)) o
  alone_allowed a _ e o d h = none-some e h

  -- the other move of the command
  instead : (a : Place) (m n : Move) → Offers S.residual (at a m) → Twin m n → Offers S.residual (at a n)
  instead a m n o t = twin S.residual a m n o.0 o.1 t

  met_allowed : (b : Place) (m : Move) (a : Place) (n : Move) (e : Event) → Offers S.residual (at b m) → Offers S.residual (at a n) →
      met b (action_of S.store m) a (action_of S.store n) ≡ Some e → Allowed S e
  met_allowed b (receives c x) a (sends d v f g) e o p h =
      let told = cond-some (c == d) _ e h in
      let same : d ≡ c = sym (eqb-true c d told.0) in
      two_allowed (at a (sends c v f false)) (at b (receives c x)) e
      (λ apart. subst (λ (y : Event). Makes S.store (at a (sends c v f false) ∷ at b (receives c x) ∷ []) y) (some-injective _ e told.1) (meeting a b c v f x apart))
      (instead a (sends d v f g) (sends c v f false) p (same, refl, refl)) o (λ i u. u)
  met_allowed b (opens c k u) a (sends d v f g) e o p h =
      let told = cond-some (c == d) _ e h in
      let same : d ≡ c = sym (eqb-true c d told.0) in
      two_allowed (at a (sends c v f true)) (at b (opens c k (Some (sent S.store v f)))) e
      (λ apart. subst (λ (y : Event). Makes S.store (at a (sends c v f true) ∷ at b (opens c k (Some (sent S.store v f))) ∷ []) y) (some-injective _ e told.1)
      (opening a b c v k f apart))
      (instead a (sends d v f g) (sends c v f true) p (same, refl, refl))
      (instead b (opens c k u) (opens c k (Some (sent S.store v f))) o (refl, refl)) (λ i y. y)
  met_allowed b (opens c k u) a (syncs d g) e o p h =
      let told = cond-some (c == d) _ e h in
      let same : d ≡ c = sym (eqb-true c d told.0) in
      two_allowed (at a (syncs c true)) (at b (opens c k None)) e
      (λ apart. subst (λ (y : Event). Makes S.store (at a (syncs c true) ∷ at b (opens c k None) ∷ []) y) (some-injective _ e told.1)
      (opening_without_data a b c k apart))
      (instead a (syncs d g) (syncs c true) p same) (instead b (opens c k u) (opens c k None) o (refl, refl)) (λ i y. y)
  met_allowed b (closes c) a (releases d) e o p h =
      let told = cond-some (c == d) _ e h in
      let same : d ≡ c = sym (eqb-true c d told.0) in
      two_allowed (at a (releases c)) (at b (closes c)) e
      (λ apart. subst (λ (y : Event). Makes S.store (at a (releases c) ∷ at b (closes c) ∷ []) y) (some-injective _ e told.1) (shutting a b c apart))
      (subst (λ j. Offers S.residual (at a (releases j))) same p) o (λ i y. y)
  met_allowed b (syncs c u) a (syncs d g) e o p h =
      let told = cond-some ((c == d) && is_lt (order_of b a)) _ e h in
      let both = and_parts (c == d) (is_lt (order_of b a)) told.0 in
      let same : d ≡ c = sym (eqb-true c d both.0) in
      let less : order_of b a ≡ Less = less-only (order_of b a) both.1 in
      two_allowed (at b (syncs c false)) (at a (syncs c false)) e
      (λ apart. subst (λ (y : Event). Makes S.store (at b (syncs c false) ∷ at a (syncs c false) ∷ []) y) (some-injective _ e told.1) (syncing b a c apart less))
      (instead b (syncs c u) (syncs c false) o refl) (instead a (syncs d g) (syncs c false) p same)
      (λ i y. not-itself b (subst (λ (z : Place). order_of b z ≡ Less) (sym i) less))
  met_allowed b m a n e o p h = none-some e h

  pub actions_allowed : (e : Event) → ByActions S e → Allowed S e
  actions_allowed e (alone x o h) =
      alone_allowed x.place o.move e (o.after, o.possible) o.decided (ap (solo x.place) (sym o.shown) ∙ h)
  actions_allowed e (meets x y o p h) =
      met_allowed x.place o.move y.place p.move e (o.after, o.possible) (p.after, p.possible) ((λ i. met x.place (sym o.shown i) y.place (sym p.shown i)) ∙ h)

-- the action acts
pub solo-acts : (a : Place) (x : ActionKind) (e : Event) → solo a x ≡ Some e → acting e ≡ a
solo-acts a (Assigns x v read) e h = sym (ap acting (some-injective _ e h))
solo-acts a (Tests k read) e h = sym (ap acting (some-injective _ e h))
solo-acts a Turns e h = sym (ap acting (some-injective _ e h))
solo-acts a _ e h = none-some e h

pub met-acts : (b : Place) (x : ActionKind) (a : Place) (y : ActionKind) (e : Event) → met b x a y ≡ Some e → acting e ≡ b
met-acts b (Receives c x) a (Sends d v read) e h = sym (ap acting (some-injective _ e (cond-some (c == d) _ e h).1))
met-acts b (Opens c k) a (Sends d v read) e h = sym (ap acting (some-injective _ e (cond-some (c == d) _ e h).1))
met-acts b (Opens c k) a (Syncs d) e h = sym (ap acting (some-injective _ e (cond-some (c == d) _ e h).1))
met-acts b (Closes c) a (Releases d) e h = sym (ap acting (some-injective _ e (cond-some (c == d) _ e h).1))
met-acts b (Syncs c) a (Syncs d) e h = sym (ap acting (some-injective _ e (cond-some ((c == d) && is_lt (order_of b a)) _ e h).1))
met-acts b x a y e h = none-some e h
