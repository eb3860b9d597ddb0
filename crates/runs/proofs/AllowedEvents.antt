-- The list of allowed events has exactly the events that are allowed.
use Rattle.std.proofs.Common.{◌≡◌, ◌⊎◌, inl, inr, List, [], ◌∷◌, Option, Some, None, true, false, refl, sym, ◌∙◌, ap, subst}
use Rattle.address.specs.Places.{Apart}
use Rattle.syntax.specs.Lists.{In}
use Rattle.system.specs.Expression.{Store}
use Rattle.system.specs.Residual.{Residual}
use Rattle.runs.specs.Moves.{Move, Local, assigns, tests, turns, sends, receives, syncs, opens, releases, closes}
use Rattle.runs.specs.Events.{Located, at, sent, Makes, assigning, testing, turning, meeting, opening, opening_without_data, shutting, syncing, store_after}
use Rattle.runs.specs.internal.Made.{event_of}
use Rattle.runs.specs.Steps.{State, Allowed}
use Rattle.runs.specs.internal.AllowedEvents.{offers, received_by, meets, those, events_alone, events_with, events_together, allowed_events}
use Rattle.runs.specs.WellFormed.{WellFormed}
use Rattle.runs.specs.declared.event.Event.{Event}
use Rattle.runs.proofs.public.Made.{made-found, made-only}
use Rattle.runs.proofs.public.AtOnce.{offered, OffersAll}
use Rattle.runs.proofs.public.Together.{together}
use Rattle.runs.proofs.Offered.{unvalued, Decided, all-offered, possible, offer-unvalued}
use Rattle.runs.proofs.public.Lists.{in-left, in-right, in-parts}

in-those-first : (o : Option Event) (e : Event) (rest : List Event) → o ≡ Some e → In e (those o rest)
in-those-first None e rest h = cc
in-those-first (Some f) e rest h = inl (let same : e ≡ f = cc in same)

in-those-rest : (o : Option Event) (e : Event) (rest : List Event) → In e rest → In e (those o rest)
in-those-rest None e rest h = h
in-those-rest (Some f) e rest h = inr h

those-in : (o : Option Event) (e : Event) (rest : List Event) → In e (those o rest) → (o ≡ Some e) ⊎ In e rest
those-in None e rest h = inr h
those-in (Some f) e rest h = elim h [ inl u ↦ inl (ap (λ (x : Event). Some x) (sym u)) | inr u ↦ inr u ]

-- the event of one move of the list is among its events
in-alone : (s : Store) (l : Located) (ls : List Located) (e : Event) → In l ls → event_of s (l ∷ []) ≡ Some e → In e (events_alone s ls)
in-alone s l [] e i h = absurd i
in-alone s l (k ∷ ls) e i h =
    elim i [
      | inl u ↦ in-those-first (event_of s (k ∷ [])) e (events_alone s ls) (subst (λ (o : Located). event_of s (o ∷ []) ≡ Some e) u h)
      | inr u ↦ in-those-rest (event_of s (k ∷ [])) e (events_alone s ls) (in-alone s l ls e u h)
    ]

-- an event of one move of the list
record ByOne (s : Store) (ls : List Located) (e : Event) : Type 0 where
  pub located : Located
  pub there : In located ls
  pub made : event_of s (located ∷ []) ≡ Some e

alone-in : (s : Store) (ls : List Located) (e : Event) → In e (events_alone s ls) → ByOne s ls e
alone-in s [] e i = absurd i
alone-in s (l ∷ ls) e i =
    elim (those-in (event_of s (l ∷ [])) e (events_alone s ls) i) [
      | inl u ↦ record { located = l; there = inl refl; made = u }
      | inr u ↦ let later = alone-in s ls e u in record { located = later.located; there = inr later.there; made = later.made }
    ]

in-with : (s : Store) (l k : Located) (ks : List Located) (e : Event) → In k ks → event_of s (l ∷ meets s l k ∷ []) ≡ Some e → In e (events_with s l ks)
in-with s l k [] e i h = absurd i
in-with s l k (o ∷ ks) e i h =
    elim i [
      | inl u ↦ in-those-first (event_of s (l ∷ meets s l o ∷ [])) e (events_with s l ks) (subst (λ (x : Located). event_of s (l ∷ meets s l x ∷ []) ≡ Some e) u h)
      | inr u ↦ in-those-rest (event_of s (l ∷ meets s l o ∷ [])) e (events_with s l ks) (in-with s l k ks e u h)
    ]

-- the event of a move of the one list and one of the other is among their events
in-together : (s : Store) (l k : Located) (ls ks : List Located) (e : Event) → In l ls → In k ks → event_of s (l ∷ meets s l k ∷ []) ≡ Some e →
    In e (events_together s ls ks)
in-together s l k [] ks e i j h = absurd i
in-together s l k (o ∷ ls) ks e i j h =
    elim i [
      | inl u ↦ in-left e (events_with s o ks) (events_together s ls ks) (in-with s o k ks e j (subst (λ (x : Located). event_of s (x ∷ meets s x k ∷ []) ≡ Some e) u h))
      | inr u ↦ in-right e (events_with s o ks) (events_together s ls ks) (in-together s l k ls ks e u j h)
    ]

-- an event of a move of the one list and one of the other
record ByTwo (s : Store) (ls ks : List Located) (e : Event) : Type 0 where
  pub one : Located
  pub other : Located
  pub one_there : In one ls
  pub other_there : In other ks
  pub made : event_of s (one ∷ meets s one other ∷ []) ≡ Some e

-- an event of l and a move of the list
record ByThis (s : Store) (l : Located) (ks : List Located) (e : Event) : Type 0 where
  pub other : Located
  pub there : In other ks
  pub made : event_of s (l ∷ meets s l other ∷ []) ≡ Some e

with-in : (s : Store) (l : Located) (ks : List Located) (e : Event) → In e (events_with s l ks) → ByThis s l ks e
with-in s l [] e i = absurd i
with-in s l (k ∷ ks) e i =
    elim (those-in (event_of s (l ∷ meets s l k ∷ [])) e (events_with s l ks) i) [
      | inl u ↦ record { other = k; there = inl refl; made = u }
      | inr u ↦ let later = with-in s l ks e u in record { other = later.other; there = inr later.there; made = later.made }
    ]

together-in : (s : Store) (ls ks : List Located) (e : Event) → In e (events_together s ls ks) → ByTwo s ls ks e
together-in s [] ks e i = absurd i
together-in s (l ∷ ls) ks e i =
    elim (in-parts e (events_with s l ks) (events_together s ls ks) i) [
      | inl u ↦ let this = with-in s l ks e u in
          record { one = l; other = this.other; one_there = inl refl; other_there = this.there; made = this.made }
      | inr u ↦ let later = together-in s ls ks e u in
          record { one = later.one; other = later.other; one_there = inr later.one_there; other_there = later.other_there; made = later.made }
    ]

received-unvalued : (s : Store) (m n : Move) → unvalued (received_by s m n) ≡ unvalued n
received-unvalued s (sends c w e true) (opens d k v) = refl
received-unvalued s (sends c w e true) n = refl
received-unvalued s (sends c w e false) n = refl
received-unvalued s m n = refl

one-unvalued : (s : Store) (l : Located) (e : Event) → Makes s (l ∷ []) e → unvalued l.move ≡ l.move
one-unvalued s l e (assigning a x w f) = refl
one-unvalued s l e (testing a d k h) = refl
one-unvalued s l e (turning a) = refl

two-apart : (s : Store) (l k : Located) (e : Event) → Makes s (l ∷ k ∷ []) e → Apart l.place k.place
two-apart s l k e (meeting a b c w f x h) = h
two-apart s l k e (opening a b c w j f h) = h
two-apart s l k e (opening_without_data a b c j h) = h
two-apart s l k e (shutting a b c h) = h
two-apart s l k e (syncing a b c h o) = h

by-one : (S : State) (e : Event) → ByOne S.store (offers S.store S.residual) e → Allowed S e
by-one S e b =
    let makes = made-only S.store (b.located ∷ []) e b.made in
    let moved = possible S.store S.residual b.located b.located.move b.there (one-unvalued S.store b.located e makes) in (
      record { residual = moved.0; store = store_after e S.store },
      record { moves = b.located ∷ []; makes = makes; moved = (moved.0, moved.1, refl); stored = refl },
    )

by-two : (S : State) (e : Event) → ByTwo S.store (offers S.store S.residual) (offers S.store S.residual) e → Allowed S e
by-two S e b =
    let k : Located = meets S.store b.one b.other in
    let makes = made-only S.store (b.one ∷ k ∷ []) e b.made in
    let first = possible S.store S.residual b.one b.one.move b.one_there (offer-unvalued S.store S.residual b.one b.one_there) in
    let second = possible S.store S.residual b.other k.move b.other_there
    (received-unvalued S.store b.one.move b.other.move ∙ offer-unvalued S.store S.residual b.other b.other_there) in
    let last = together S.residual b.one.place k.place b.one.move k.move first.0 second.0 (two-apart S.store b.one k e makes) first.1 second.1 in (
      record { residual = last.0; store = store_after e S.store },
      record { moves = b.one ∷ k ∷ []; makes = makes; moved = (first.0, first.1, (last.0, last.1, refl)); stored = refl },
    )

-- each event of the list is allowed
pub events-sound : (S : State) (e : Event) → In e (allowed_events S) → Allowed S e
events-sound S e i =
    elim (in-parts e (events_alone S.store (offers S.store S.residual)) (events_together S.store (offers S.store S.residual) (offers S.store S.residual)) i) [
      | inl u ↦ by-one S e (alone-in S.store (offers S.store S.residual) e u)
      | inr u ↦ by-two S e (together-in S.store (offers S.store S.residual) (offers S.store S.residual) e u)
    ]

module _ (S : State) (w : WellFormed S.residual) where
  alone-there : (l : Located) (e : Event) (q : Residual) → Makes S.store (l ∷ []) e → Local S.residual l.place l.move q → Decided S.store l.move →
      unvalued l.move ≡ l.move → In e (allowed_events S)
  alone-there l e q m h d u =
      in-left e (events_alone S.store (offers S.store S.residual)) (events_together S.store (offers S.store S.residual) (offers S.store S.residual))
      (in-alone S.store l (offers S.store S.residual) e
      (subst (λ (n : Move). In (at l.place n) (offers S.store S.residual)) u (all-offered S.store S.residual l.place l.move q h d))
      (made-found S.store (l ∷ []) e m))

  -- two moves that are offered make an event of the list
  two-there : (l k o : Located) (e : Event) (p q : Residual) → Makes S.store (l ∷ k ∷ []) e →
      Local S.residual l.place l.move p → Local S.residual k.place k.move q → Decided S.store l.move → Decided S.store k.move →
      unvalued l.move ≡ l.move → at k.place (unvalued k.move) ≡ o → meets S.store l o ≡ k → In e (allowed_events S)
  two-there l k o e p q m hl hk dl dk ul same met =
      in-right e (events_alone S.store (offers S.store S.residual)) (events_together S.store (offers S.store S.residual) (offers S.store S.residual))
      (in-together S.store l o (offers S.store S.residual) (offers S.store S.residual) e
      (subst (λ (n : Move). In (at l.place n) (offers S.store S.residual)) ul (all-offered S.store S.residual l.place l.move p hl dl))
      (subst (λ (x : Located). In x (offers S.store S.residual)) same (all-offered S.store S.residual k.place k.move q hk dk))
      (subst (λ (x : Located). event_of S.store (l ∷ x ∷ []) ≡ Some e) (sym met) (made-found S.store (l ∷ k ∷ []) e m)))

  made-there : (ls : List Located) (e : Event) → (m : Makes S.store ls e) → OffersAll S.residual ls → In e (allowed_events S)
  made-there ls e (assigning a x v g) o = alone-there (at a (assigns x v g)) e o.0.0 (assigning a x v g) o.0.1 tt refl
  made-there ls e (testing a d k same) o = alone-there (at a (tests d k)) e o.0.0 (testing a d k same) o.0.1 same refl
  made-there ls e (turning a) o = alone-there (at a turns) e o.0.0 (turning a) o.0.1 tt refl
  made-there ls e (meeting a b c v g x apart) o =
      two-there (at a (sends c v g false)) (at b (receives c x)) (at b (receives c x)) e o.0.0 o.1.0.0 (meeting a b c v g x apart) o.0.1 o.1.0.1 tt tt refl refl refl
  made-there ls e (opening a b c v k g apart) o =
      two-there (at a (sends c v g true)) (at b (opens c k (Some (sent S.store v g)))) (at b (opens c k None)) e o.0.0 o.1.0.0 (opening a b c v k g apart) o.0.1 o.1.0.1 tt tt refl refl refl
  made-there ls e (opening_without_data a b c k apart) o =
      two-there (at a (syncs c true)) (at b (opens c k None)) (at b (opens c k None)) e o.0.0 o.1.0.0 (opening_without_data a b c k apart) o.0.1 o.1.0.1 tt tt refl refl refl
  made-there ls e (shutting a b c apart) o =
      two-there (at a (releases c)) (at b (closes c)) (at b (closes c)) e o.0.0 o.1.0.0 (shutting a b c apart) o.0.1 o.1.0.1 tt tt refl refl refl
  made-there ls e (syncing a b c apart order) o =
      two-there (at a (syncs c false)) (at b (syncs c false)) (at b (syncs c false)) e o.0.0 o.1.0.0 (syncing a b c apart order) o.0.1 o.1.0.1 tt tt refl refl refl

  -- each event that is allowed is in the list
  pub events-complete : (e : Event) → Allowed S e → In e (allowed_events S)
  events-complete e h = made-there h.1.moves e h.1.makes (offered S.residual h.0.residual S.store h.1.moves e w h.1.makes h.1.moved)
