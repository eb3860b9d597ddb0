-- Rings of places, and of the indexes of actions that stand there.
use Rattle.std.proofs.Common.{◌≡◌, inl, inr, ℕ, zero, suc, ◌+◌, ◌<◌, ◌≤◌, List, [], ◌∷◌, map, drop, length, slice_index_or, Bool, true, Option, Some, None, option_map, slice_get, refl, sym, ◌∙◌, ap, ap₂, subst, arith}
use Rattle.std.proofs.lemmas.Bool.{and_from, and_parts}
use Rattle.std.proofs.lemmas.List.{drop_all, drop_more}
use Rattle.std.proofs.lemmas.Option.{slice_get-map}
use Rattle.runs.proofs.public.Options.{none-some, some-injective}
use Rattle.runs.specs.Moves.{Place}
use Rattle.runs.specs.Tests.{same_place}
use Rattle.syntax.specs.Lists.{In}
use Rattle.system.specs.Residual.{Residual}
use Rattle.local_actions.proofs.public.PlacedActions.{place-true, place-itself, under-true, under-told}
use Rattle.local_actions.specs.declared.action.LocalAction.{LocalAction}
use Rattle.rings.specs.Partners.{partner_in}
use Rattle.rings.specs.Rings.{Helped, IsBehind, IsDeadlocked, Waiters, WaitsFor, Linked, IsRing, EachOnce, IsNext, InTurn, places_at, TellsDeadlocked, TellsRing}
use Rattle.rings.specs.declared.partner.Partner.{Partner}
use Rattle.rings.specs.declared.partner.Partner.TheVariants as partner
use Rattle.rings.specs.internal.Loosened.{is_marked}
use Rattle.rings.specs.internal.Search.{is_behind, behind_at, comes_behind, may_wait, place_at, waits, same_places, same_at, Apart, Chain, Ring, Names}

-- ---- behind a place
pub behind-true : (p : Partner) (a : Place) → is_behind p a ≡ true → IsBehind p a
behind-true (partner.Behind b) a h = under-true b a h
behind-true partner.Gone a h = cc
behind-true partner.Open a h = cc

pub behind-is : (p : Partner) (a : Place) → IsBehind p a → is_behind p a ≡ true
behind-is (partner.Behind b) a h = under-told b a h
behind-is partner.Gone a h = absurd h
behind-is partner.Open a h = absurd h

-- what may wait for no place waits for none
behind_comes : (p : Option Partner) (y : Option LocalAction) → behind_at p y ≡ true → comes_behind p ≡ true
behind_comes None y h = cc
behind_comes (Some p) None h = cc
behind_comes (Some (partner.Behind b)) (Some y) h = refl
behind_comes (Some partner.Gone) (Some y) h = cc
behind_comes (Some partner.Open) (Some y) h = cc

pub waits_may : (xs : List LocalAction) (ps : List Partner) (ms : List Bool) (i j : ℕ) → waits xs ps ms i j ≡ true
    → may_wait ps ms i ≡ true
waits_may xs ps ms i j h =
    let both = and_parts (is_marked (slice_get ms i)) (behind_at (slice_get ps i) (slice_get xs j)) h in
    and_from (is_marked (slice_get ms i)) (comes_behind (slice_get ps i)) both.0
    (behind_comes (slice_get ps i) (slice_get xs j) both.1)

-- these actions wait
abbrev pub Among : List LocalAction → Waiters
Among xs = λ x. In x xs

-- ---- actions by their indexes
pub got-in : (xs : List LocalAction) (i : ℕ) (x : LocalAction) → slice_get xs i ≡ Some x → In x xs
got-in [] i x h = none-some x h
got-in (y ∷ xs) zero x h = inl (sym (some-injective y x h))
got-in (y ∷ xs) (suc i) x h = inr (got-in xs i x h)

pub in-got : (xs : List LocalAction) (x : LocalAction) → In x xs → (i : ℕ) × (i < length xs) × (slice_get xs i ≡ Some x)
in-got [] x h = absurd h
in-got (y ∷ xs) x (inl is) = (0, omega arith, ap (λ (z : LocalAction). Some z) (sym is))
in-got (y ∷ xs) x (inr h) = let found = in-got xs x h in let less : found.0 < length xs = found.1 in (suc found.0, omega (arith, less), found.2)

pub got-within : (xs : List LocalAction) (i : ℕ) → i < length xs → (x : LocalAction) × (slice_get xs i ≡ Some x)
got-within [] i h = absurd (omega (arith, h))
got-within (y ∷ xs) zero h = (y, refl)
got-within (y ∷ xs) (suc i) h = got-within xs i (omega (arith, h))

-- ---- indexes of actions at one place
pub itself : (xs : List LocalAction) (i : ℕ) → i < length xs → same_at xs i i ≡ true
itself [] i h = absurd (omega (arith, h))
itself (y ∷ xs) zero h = place-itself y.place
itself (y ∷ xs) (suc i) h = itself xs i (omega (arith, h))

-- to wait for one is to wait for the other
alike-at : (p : Option Partner) (y z : Option LocalAction) → same_places y z ≡ true → behind_at p z ≡ true → behind_at p y ≡ true
alike-at None None z u h = cc
alike-at None (Some y) None u h = cc
alike-at None (Some y) (Some z) u h = cc
alike-at (Some p) None z u h = cc
alike-at (Some p) (Some y) None u h = cc
alike-at (Some p) (Some y) (Some z) u h = subst (λ (a : Place). is_behind p a ≡ true) (sym (place-true y.place z.place u)) h

pub alike : (xs : List LocalAction) (ps : List Partner) (marks : List Bool) (i j k : ℕ) → same_at xs j k ≡ true → waits xs ps marks i k ≡ true → waits xs ps marks i j ≡ true
alike xs ps marks i j k u h =
    let parts = and_parts (is_marked (slice_get marks i)) (behind_at (slice_get ps i) (slice_get xs k)) h in
    and_from (is_marked (slice_get marks i)) (behind_at (slice_get ps i) (slice_get xs j)) parts.0
    (alike-at (slice_get ps i) (slice_get xs j) (slice_get xs k) u parts.1)

pub one-place : (a : Place) (x y : Option LocalAction) → option_map (λ (z : LocalAction). z.place) x ≡ Some a → option_map (λ (z : LocalAction). z.place) y ≡ Some a
    → same_places x y ≡ true
one-place a None y e f = cc
one-place a (Some x) None e f = cc
one-place a (Some x) (Some y) e f =
    let both : x.place ≡ y.place = some-injective x.place a e ∙ sym (some-injective y.place a f) in
    subst (λ (b : Place). same_place x.place b ≡ true) both (place-itself x.place)

-- one of the indexes is that of an action at each of their places
index-of : (xs : List LocalAction) (is : List ℕ) (ring : List Place) (a : Place) → places_at xs is ≡ map (λ (b : Place). Some b) ring → In a ring
    → (j : ℕ) × In j is × (place_at xs j ≡ Some a)
index-of xs is [] a e i = absurd i
index-of xs [] (b ∷ ring) a e i = cc
index-of xs (j ∷ is) (b ∷ ring) a e (inl is-b) =
    let head : place_at xs j ≡ Some b = cc in (j, inl refl, head ∙ ap (λ (c : Place). Some c) (sym is-b))
index-of xs (j ∷ is) (b ∷ ring) a e (inr i) =
    let rest : places_at xs is ≡ map (λ (c : Place). Some c) ring = cc in
    let found = index-of xs is ring a rest i in (found.0, inr found.1, found.2)

places-once : (xs : List LocalAction) (is : List ℕ) (ring : List Place) → places_at xs is ≡ map (λ (b : Place). Some b) ring → Apart (same_at xs) is → EachOnce ring
places-once xs is [] e apart = tt
places-once xs [] (a ∷ ring) e apart = tt-of e
  where
    tt-of : [] ≡ map (λ (b : Place). Some b) (a ∷ ring) → EachOnce (a ∷ ring)
    tt-of f = cc
places-once xs (i ∷ is) (a ∷ ring) e apart =
    let head : place_at xs i ≡ Some a = cc in
    let rest : places_at xs is ≡ map (λ (c : Place). Some c) ring = cc in (
      λ there.
          let found = index-of xs is ring a rest there in
          apart.0 found.0 found.1 (one-place a (slice_get xs i) (slice_get xs found.0) head found.2),
      places-once xs is ring rest apart.1,
    )

-- a mark that is set
pub marked-some : (o : Option Bool) → is_marked o ≡ true → o ≡ Some true
marked-some None h = cc
marked-some (Some b) h = ap (λ (c : Bool). Some c) h

module _ (r : Residual) (help : Helped) (xs : List LocalAction) (ps : List Partner) (marks : List Bool) (given : ps ≡ map (partner_in r) xs) (told : TellsDeadlocked help r xs marks) where
  -- the partner of an action
  partner-at : (i : ℕ) (x : LocalAction) → slice_get xs i ≡ Some x → slice_get ps i ≡ Some (partner_in r x)
  partner-at i x at =
      ap (λ (qs : List Partner). slice_get qs i) given ∙ slice_get-map (partner_in r) xs i ∙ ap (λ (o : Option LocalAction). option_map (partner_in r) o) at

  behind-next : (i j : ℕ) (x y : LocalAction) → slice_get xs i ≡ Some x → slice_get xs j ≡ Some y → waits xs ps marks i j ≡ true → IsBehind (partner_in r x) y.place
  behind-next i j x y at goes h =
      let parts = and_parts (is_marked (slice_get marks i)) (behind_at (slice_get ps i) (slice_get xs j)) h in
      behind-true (partner_in r x) y.place (sym (ap₂ (λ (p : Option Partner) (o : Option LocalAction). behind_at p o) (partner-at i x at) goes) ∙ parts.1)

  wait-true : (i j : ℕ) (x y : LocalAction) → slice_get xs i ≡ Some x → slice_get xs j ≡ Some y → waits xs ps marks i j ≡ true
      → IsDeadlocked (Among xs) help r x.place × WaitsFor (Among xs) r x.place y.place
  wait-true i j x y at goes h =
      let parts = and_parts (is_marked (slice_get marks i)) (behind_at (slice_get ps i) (slice_get xs j)) h in (
        (told.1 i x at).0 (marked-some (slice_get marks i) parts.0),
        (x, got-in xs i x at, refl, behind-next i j x y at goes h),
      )

  next-is : (i j : ℕ) → i < length xs → j < length xs → waits xs ps marks i j ≡ true → IsNext r xs i j
  next-is i j less below h =
      let x = got-within xs i less in
      let y = got-within xs j below in
      (x.0, y.0, x.1, y.1, behind-next i j x.0 y.0 x.1 y.1 h)

  -- ---- from indexes to places
  chain-head : (first i : ℕ) (rest : List ℕ) → Chain (length xs) (waits xs ps marks) first i rest → i < length xs
  chain-head first i [] k = k.0
  chain-head first i (m ∷ rest) k = k.0

  chain-turns : (first i : ℕ) (rest : List ℕ) → first < length xs → Chain (length xs) (waits xs ps marks) first i rest → InTurn r xs first i rest
  chain-turns first i [] below h = next-is i first h.0 below h.1
  chain-turns first i (j ∷ rest) below h = (next-is i j h.0 (chain-head first j rest h.2) h.1, chain-turns first j rest below h.2)

  chain-linked : (first i : ℕ) (rest : List ℕ) (f x : LocalAction) → slice_get xs first ≡ Some f → slice_get xs i ≡ Some x → Chain (length xs) (waits xs ps marks) first i rest
      → (ring : List Place) × (places_at xs rest ≡ map (λ (a : Place). Some a) ring) × Linked (Among xs) help r f.place x.place ring
  chain-linked first i [] f x start at h =
      let step = wait-true i first x f at start h.1 in ([], refl, (step.0, step.1))
  chain-linked first i (j ∷ rest) f x start at h =
      let next = got-within xs j (chain-head first j rest h.2) in
      let on = chain-linked first j rest f next.0 start next.1 h.2 in
      let step = wait-true i j x next.0 at next.1 h.1 in (
        next.0.place ∷ on.0,
        ap₂ (λ (a : Option Place) (bs : List (Option Place)). a ∷ bs) (ap (option_map (λ (z : LocalAction). z.place)) next.1) on.1,
        (step.0, step.1, on.2),
      )

  ring-places : (i : ℕ) (rest : List ℕ) → Ring (length xs) (waits xs ps marks) (i ∷ rest) → Apart (same_at xs) (i ∷ rest) → TellsRing help r xs (i ∷ rest)
  ring-places i rest h apart =
      let first = got-within xs i (chain-head i i rest h) in
      let on = chain-linked i i rest first.0 first.0 first.1 first.1 h in
      let at : places_at xs (i ∷ rest) ≡ map (λ (a : Place). Some a) (first.0.place ∷ on.0) =
      ap₂ (λ (a : Option Place) (bs : List (Option Place)). a ∷ bs) (ap (option_map (λ (z : LocalAction). z.place)) first.1) on.1 in
      (first.0.place ∷ on.0, at, on.2, places-once xs (i ∷ rest) (first.0.place ∷ on.0) at apart, chain-turns i i rest (chain-head i i rest h) h)

  -- ---- from places to indexes
  -- an action stands at the index, with the place, which is deadlocked
  pub record At (a : Place) : Type 0 where
    pub index : ℕ
    pub action : LocalAction
    pub below : index < length xs
    pub got : slice_get xs index ≡ Some action
    pub place : action.place ≡ a
    pub marked : is_marked (slice_get marks index) ≡ true

  -- the action by which it waits for the next one
  at : (a b : Place) → IsDeadlocked (Among xs) help r a → WaitsFor (Among xs) r a b → At a
  at a b dead h =
      let found = in-got xs h.0 h.1 in
      let on : slice_get marks found.0 ≡ Some true = (told.1 found.0 h.0 found.2).1 (subst (λ (c : Place). IsDeadlocked (Among xs) help r c) (sym h.2) dead) in
      record { index = found.0; action = h.0; below = found.1; got = found.2; place = h.2; marked = ap is_marked on }

  head-at : (f a : Place) (ring : List Place) → Linked (Among xs) help r f a ring → At a
  head-at f a [] h = at a f h.0 h.1
  head-at f a (b ∷ ring) h = at a b h.0 h.1

  waits-at : (a b : Place) (dead : IsDeadlocked (Among xs) help r a) (h : WaitsFor (Among xs) r a b) (y : At b) → waits xs ps marks (at a b dead h).index y.index ≡ true
  unfolding at
  waits-at a b dead h y =
      let x = at a b dead h in
      let behind : is_behind (partner_in r x.action) y.action.place ≡ true =
      behind-is (partner_in r x.action) y.action.place (subst (λ (c : Place). IsBehind (partner_in r x.action) c) (sym y.place) h.3) in
      and_from (is_marked (slice_get marks x.index)) (behind_at (slice_get ps x.index) (slice_get xs y.index)) x.marked
      (ap₂ (λ (p : Option Partner) (o : Option LocalAction). behind_at p o) (partner-at x.index x.action x.got) y.got ∙ behind)

  linked-chain : (f a : Place) (ring : List Place) (first : At f) (h : Linked (Among xs) help r f a ring)
      → (rest : List ℕ) × Chain (length xs) (waits xs ps marks) first.index (head-at f a ring h).index rest
  unfolding at head-at
  linked-chain f a [] first h = ([], ((at a f h.0 h.1).below, waits-at a f h.0 h.1 first))
  linked-chain f a (b ∷ ring) first h =
      let next = head-at f b ring h.2 in
      let on = linked-chain f b ring first h.2 in (next.index ∷ on.0, ((at a b h.0 h.1).below, waits-at a b h.0 h.1 next, on.1))

  no-places : ((ring : List ℕ) → Ring (length xs) (waits xs ps marks) ring → ⊥) → (ring : List Place) → IsRing (Among xs) help r ring → ⊥
  no-places none [] h = h
  no-places none (a ∷ ring) h =
      let first = head-at a a ring h in
      let on = linked-chain a a ring first h in none (first.index ∷ on.0) on.1

  pub tells : (ring : List ℕ) → Names (length xs) (waits xs ps marks) (same_at xs) ring → TellsRing help r xs ring
  tells [] h = no-places h
  tells (i ∷ rest) h = ring-places i rest h.0 h.1

-- ---- indexes on a way
pub not-here : (xs : List ℕ) (i d y : ℕ) → i < length xs → (slice_index_or xs i d ≡ y → ⊥) → In y (drop i xs) → In y (drop (i + 1) xs)
not-here xs i d y less other h = elim (subst (λ (zs : List ℕ). In y zs) (drop_more xs i d less) h) [
  | inl is ↦ absurd (other (sym is))
  | inr later ↦ later
]

pub not-there : (xs : List ℕ) (i y : ℕ) → length xs ≤ i → In y (drop i xs) → ⊥
not-there xs i y l h = subst (λ (zs : List ℕ). In y zs) (drop_all i xs l) h
