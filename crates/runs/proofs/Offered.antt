-- The list of a residual's offers: each is possible, and each possible move is in it.
use Rattle.std.proofs.Common.{◌≡◌, ◌⊎◌, inl, inr, ℕ, zero, suc, ◌+◌, ◌*◌, List, [], ◌∷◌, Option, Some, None, true, false, cond, refl, sym, ◌∙◌, ap, subst, arith}
use Rattle.address.specs.declared.Entry.{Entry}
use Rattle.address.specs.declared.Entry.TheVariants.{Ordered, Branch}
use Rattle.syntax.specs.Lists.{In}
use Rattle.system.specs.Expression.{Store, Expression, by_guards, decide, value}
use Rattle.system.specs.Residual.{Residual, done, halted, inside, beside, assign, send, receive, sync, held, loop, while, test, choose, closing, drain, within, along, arm_at, opened}
use Rattle.std.specs.Prelude.{slice_get, Bool, ◌==◌}
use Rattle.value.specs.Word.{Word}
use Rattle.runs.specs.Moves.{Place, Move, Local, assigns, tests, turns, sends, receives, syncs, opens, releases, closes}
use Rattle.runs.specs.Events.{Located, at}
use Rattle.runs.specs.internal.AllowedEvents.{behind, opens_from, offers}
use Rattle.runs.proofs.public.Lists.{in-left, in-right, in-parts}

-- the move as an offer names it: an open without what it receives
abbrev pub unvalued : Move → Move
unvalued (opens c k v) = opens c k None
unvalued m = m

-- the move takes the arm that its test decides over the store
abbrev pub Decided : Store → Move → Type 0
Decided s (tests d k) = decide s d ≡ k
Decided s m = Unit {0}

in-behind : (x : Entry) (a : Place) (m : Move) (ls : List Located) → In (at a m) ls → In (at (x ∷ a) m) (behind x ls)
in-behind x a m [] h = absurd h
in-behind x a m (l ∷ ls) h =
    elim h [ inl u ↦ inl (ap (λ (k : Located). at (x ∷ k.place) k.move) u) | inr u ↦ inr (in-behind x a m ls u) ]

-- an offer behind an entry is one of the child's
record Behind (x : Entry) (l : Located) (ls : List Located) : Type 0 where
  pub rest : Place
  pub is : l.place ≡ x ∷ rest
  pub inner : In (at rest l.move) ls

behind-in : (x : Entry) (l : Located) (ls : List Located) → In l (behind x ls) → Behind x l ls
behind-in x l [] h = absurd h
behind-in x l (k ∷ ls) h =
    elim h [
      | inl u ↦ record {
        rest = k.place;
        is = ap (λ (o : Located). o.place) u;
        inner = inl (ap (λ (o : Located). at k.place o.move) u);
      }
      | inr u ↦ let later = behind-in x l ls u in record { rest = later.rest; is = later.is; inner = inr later.inner }
    ]

in-opens : (k j c : ℕ) (channels : List ℕ) → slice_get channels j ≡ Some c → In (at (Ordered 0 ∷ []) (opens c (k + j) None)) (opens_from k channels)
in-opens k j c [] h = cc
in-opens k zero c (d ∷ ds) h =
    let same : d ≡ c = cc in
    let number : k + 0 ≡ k = omega arith in
    let move : opens c (k + 0) None ≡ opens d k None = cc in
    inl (ap (λ (m : Move). at (Ordered 0 ∷ []) m) move)
in-opens k (suc j) c (d ∷ ds) h =
    let number : k + suc j ≡ suc k + j = omega arith in
    inr (subst (λ (n : ℕ). In (at (Ordered 0 ∷ []) (opens c n None)) (opens_from (suc k) ds)) (sym number) (in-opens (suc k) j c ds h))

in-all-opens : (j c : ℕ) (channels : List ℕ) → slice_get channels j ≡ Some c → In (at (Ordered 0 ∷ []) (opens c j None)) (opens_from 0 channels)
in-all-opens j c channels h =
    let number : 0 + j ≡ j = omega arith in
    subst (λ (n : ℕ). In (at (Ordered 0 ∷ []) (opens c n None)) (opens_from 0 channels)) number (in-opens 0 j c channels h)

-- an open in the list is of an arm that there is
record Opening (k : ℕ) (l : Located) (channels : List ℕ) : Type 0 where
  pub number : ℕ
  pub channel : ℕ
  pub there : slice_get channels number ≡ Some channel
  pub is : l ≡ at (Ordered 0 ∷ []) (opens channel (k + number) None)

opens-in : (k : ℕ) (l : Located) (channels : List ℕ) → In l (opens_from k channels) → Opening k l channels
opens-in k l [] h = absurd h
opens-in k l (c ∷ cs) h =
    elim h [
      | inl u ↦ record { number = 0; channel = c; there = refl; is = u ∙ ap (λ n. at (Ordered 0 ∷ []) (opens c n None)) (let e : k ≡ k + 0 = omega arith in e) }
      | inr u ↦ let later = opens-in (suc k) l cs u in
          record {
            number = suc later.number;
            channel = later.channel;
            there = later.there;
            is = later.is ∙ ap (λ n. at (Ordered 0 ∷ []) (opens later.channel n None)) (let e : suc k + later.number ≡ k + suc later.number = omega arith in e);
          }
    ]

one_guard_holds : (b : Bool) → (cond {A = Option ℕ} b (Some 0) None ≡ Some 0) ⊎ (cond {A = Option ℕ} b (Some 0) None ≡ None)
one_guard_holds true = inl refl
one_guard_holds false = inr refl

-- one guard takes arm 0 or none
one_guard : (s : Store) (e : Expression) → (decide s (by_guards (e ∷ []) false) ≡ Some 0) ⊎ (decide s (by_guards (e ∷ []) false) ≡ None)
one_guard s e = one_guard_holds ((value s e).bits == 1)

-- each move that is possible, and decided by the store, is offered
pub all-offered : (s : Store) (r : Residual) (a : Place) (m : Move) (q : Residual) → Local r a m q → Decided s m →
    In (at a (unvalued m)) (offers s r)
all-offered s done a m q h d = absurd h
all-offered s halted a m q h d = absurd h
all-offered s (inside i child next) a m q h d =
    rw h.2 (in-behind (Ordered i) h.0 (unvalued m) (offers s child) (all-offered s child h.0 m h.1 h.3 d))
all-offered s (beside k child rest) a m q h d =
    elim h [
      | inl u ↦ rw u.2 (in-left (at (Branch k ∷ u.0) (unvalued m)) (behind (Branch k) (offers s child)) (offers s rest)
          (in-behind (Branch k) u.0 (unvalued m) (offers s child) (all-offered s child u.0 m u.1 u.3 d)))
      | inr u ↦ in-right (at a (unvalued m)) (behind (Branch k) (offers s child)) (offers s rest) (all-offered s rest a m u.0 u.1 d)
    ]
all-offered s (assign x w e) a m q h d = rw (h.0, h.1) (inl refl)
all-offered s (send c w e) a m q h d = elim h.1 [ inl u ↦ rw (h.0, u.0) (inl refl) | inr u ↦ rw (h.0, u.0) (inr (inl refl)) ]
all-offered s (receive c x) a m q h d = rw (h.0, h.1) (inl refl)
all-offered s (sync c) a m q h d = elim h.1 [ inl u ↦ rw (h.0, u.0) (inl refl) | inr u ↦ rw (h.0, u.0) (inr (inl refl)) ]
all-offered s (held c) a m q h d = rw (h.0, h.1) (inl refl)
all-offered s (loop k body) a m q h d = rw (h.0, h.1) (inl refl)
all-offered s (while k e body) a m q h d =
    elim h.1 [
      | inl u ↦ let same : decide s (by_guards (e ∷ []) false) ≡ Some 0 = rw u.0 at d in rw (h.0, u.0) (inl (ap (λ o. at (Ordered (2 * k) ∷ []) (tests (by_guards (e ∷ []) false) o)) (sym same)))
      | inr u ↦ let same : decide s (by_guards (e ∷ []) false) ≡ None = rw u.0 at d in rw (h.0, u.0) (inl (ap (λ o. at (Ordered (2 * k) ∷ []) (tests (by_guards (e ∷ []) false) o)) (sym same)))
    ]
all-offered s (test t arms) a m q h d =
    elim h.1 [
      | inl u ↦ let same : decide s t ≡ Some u.0 = rw u.1 at d in rw (h.0, u.1) (inl (ap (λ o. at (Ordered 0 ∷ []) (tests t o)) (sym same)))
      | inr u ↦ let same : decide s t ≡ None = rw u.0 at d in rw (h.0, u.0) (inl (ap (λ o. at (Ordered 0 ∷ []) (tests t o)) (sym same)))
    ]
all-offered s (choose channels arms) a m q h d =
    rw (h.0, h.5) (in-all-opens h.2 h.1 channels h.4)
all-offered s (closing c) a m q h d = rw (h.0, h.1) (inl refl)
all-offered s (drain c k) a m q h d = rw (h.0, h.1) (inl refl)

-- a move that is no open
abbrev pub IsPlain : Move → Type 0
IsPlain (opens c k v) = ⊥
IsPlain m = Unit {0}

plain : (n m : Move) → unvalued n ≡ m → IsPlain m → n ≡ m
plain (opens c k v) m e p = absurd (subst IsPlain (sym e) p)
plain n m e p = e

an-open : (n : Move) (c k : ℕ) → unvalued n ≡ opens c k None → (v : Option Word) × (n ≡ opens c k v)
an-open (opens d j v) c k e =
    let channel : d ≡ c = cc in
    let number : j ≡ k = cc in
    (v, rw (channel, number))
an-open (assigns x w e') c k e = cc
an-open (tests d j) c k e = cc
an-open turns c k e = cc
an-open (sends d w e' b) c k e = cc
an-open (receives d x) c k e = cc
an-open (syncs d b) c k e = cc
an-open (releases d) c k e = cc
an-open (closes d) c k e = cc

-- r offers the move n at the place of l
abbrev pub PossibleAt : Residual → Located → Move → Type 0
PossibleAt r l n = (q : Residual) × Local r l.place n q

-- one move of a leaf
one : (r q : Residual) (l : Located) (n m : Move) (a : Place) → IsPlain m → l ≡ at a m → unvalued n ≡ l.move → Local r a m q → PossibleAt r l n
one r q l n m a p e u h =
    let move : l.move ≡ m = ap (λ (o : Located). o.move) e in
    let place : l.place ≡ a = ap (λ (o : Located). o.place) e in
    let same : n ≡ m = plain n m (u ∙ move) p in
    (q, rw (place, same) h)

-- each offer is possible, an open with whatever it receives
pub possible : (s : Store) (r : Residual) (l : Located) (n : Move) → In l (offers s r) → unvalued n ≡ l.move → PossibleAt r l n
possible s done l n i u = absurd i
possible s halted l n i u = absurd i
possible s (inside i child next) l n h u =
    let deep = behind-in (Ordered i) l (offers s child) h in
    let below = possible s child (at deep.rest l.move) n deep.inner u in
    (within i below.0 next, (deep.rest, below.0, deep.is, below.1, refl))
possible s (beside k child rest) l n h u =
    elim (in-parts l (behind (Branch k) (offers s child)) (offers s rest) h) [
      | inl v ↦ let deep = behind-in (Branch k) l (offers s child) v in
          let below = possible s child (at deep.rest l.move) n deep.inner u in
          (along k below.0 rest, inl (deep.rest, below.0, deep.is, below.1, refl))
      | inr v ↦ let below = possible s rest l n v u in (along k child below.0, inr (below.0, below.1, refl))
    ]
possible s (assign x w e) l n h u = elim h [ inl v ↦ one (assign x w e) done l n (assigns x w e) [] tt v u (refl, refl, refl) | inr v ↦ absurd v ]
possible s (send c w e) l n h u =
    elim h [
      | inl v ↦ one (send c w e) done l n (sends c w e false) (Ordered 0 ∷ []) tt v u (refl, inl (refl, refl))
      | inr (inl v) ↦ one (send c w e) (held c) l n (sends c w e true) (Ordered 0 ∷ []) tt v u (refl, inr (refl, refl))
      | inr (inr v) ↦ absurd v
    ]
possible s (receive c x) l n h u = elim h [ inl v ↦ one (receive c x) done l n (receives c (Some x)) [] tt v u (refl, refl, refl) | inr v ↦ absurd v ]
possible s (sync c) l n h u =
    elim h [
      | inl v ↦ one (sync c) done l n (syncs c false) (Ordered 0 ∷ []) tt v u (refl, inl (refl, refl))
      | inr (inl v) ↦ one (sync c) (held c) l n (syncs c true) (Ordered 0 ∷ []) tt v u (refl, inr (refl, refl))
      | inr (inr v) ↦ absurd v
    ]
possible s (held c) l n h u = elim h [ inl v ↦ one (held c) done l n (releases c) (Ordered 1 ∷ []) tt v u (refl, refl, refl) | inr v ↦ absurd v ]
possible s (loop k body) l n h u =
    elim h [ inl v ↦ one (loop k body) (within (2 * k + 1) body (loop (k + 1) body)) l n turns (Ordered (2 * k) ∷ []) tt v u (refl, refl, refl) | inr v ↦ absurd v ]
possible s (while k e body) l n h u =
    elim h [ inl v ↦ while-test (decide s (by_guards (e ∷ []) false)) (one_guard s e) v | inr v ↦ absurd v ]
  where
    while-test : (o : Option ℕ) → (o ≡ Some 0) ⊎ (o ≡ None) → l ≡ at (Ordered (2 * k) ∷ []) (tests (by_guards (e ∷ []) false) o) → PossibleAt (while k e body) l n
    while-test o (inl some) v =
        one (while k e body) (within (2 * k + 1) body (while (k + 1) e body)) l n (tests (by_guards (e ∷ []) false) (Some 0)) (Ordered (2 * k) ∷ []) tt
        (subst (λ (o' : Option ℕ). l ≡ at (Ordered (2 * k) ∷ []) (tests (by_guards (e ∷ []) false) o')) some v) u (refl, inl (refl, refl))
    while-test o (inr none) v =
        one (while k e body) done l n (tests (by_guards (e ∷ []) false) None) (Ordered (2 * k) ∷ []) tt
        (subst (λ (o' : Option ℕ). l ≡ at (Ordered (2 * k) ∷ []) (tests (by_guards (e ∷ []) false) o')) none v) u (refl, inr (refl, refl))
possible s (test d arms) l n h u =
    elim h [ inl v ↦ a-test (decide s d) v | inr v ↦ absurd v ]
  where
    a-test : (o : Option ℕ) → l ≡ at (Ordered 0 ∷ []) (tests d o) → PossibleAt (test d arms) l n
    a-test None v = one (test d arms) done l n (tests d None) (Ordered 0 ∷ []) tt v u (refl, inr (refl, refl))
    a-test (Some k) v = one (test d arms) (within 1 (arm_at arms k) done) l n (tests d (Some k)) (Ordered 0 ∷ []) tt v u (refl, inl (k, refl, refl))
possible s (choose channels arms) l n h u =
    let found = opens-in 0 l channels h in
    let number : 0 + found.number ≡ found.number = omega arith in
    let move : l.move ≡ opens found.channel found.number None =
    ap (λ (o : Located). o.move) found.is ∙ ap (λ k. opens found.channel k None) number in
    let receives_it = an-open n found.channel found.number (u ∙ move) in (
      within 1 (opened found.channel receives_it.0 (arm_at arms found.number)) (closing found.channel),
      (ap (λ (o : Located). o.place) found.is, found.channel, found.number, receives_it.0, found.there, receives_it.1, refl),
    )
possible s (closing c) l n h u = elim h [ inl v ↦ one (closing c) done l n (closes c) (Ordered 2 ∷ []) tt v u (refl, refl, refl) | inr v ↦ absurd v ]
possible s (drain c k) l n h u = elim h [ inl v ↦ one (drain c k) (drain c (k + 1)) l n (receives c None) (Ordered k ∷ []) tt v u (refl, refl, refl) | inr v ↦ absurd v ]

unvalued-twice : (m : Move) → unvalued (unvalued m) ≡ unvalued m
unvalued-twice (opens c k v) = refl
unvalued-twice m = refl

unvalued-behind : (x : Entry) (l : Located) (ls : List Located) → ((k : Located) → In k ls → unvalued k.move ≡ k.move) → In l (behind x ls) → unvalued l.move ≡ l.move
unvalued-behind x l ls every i =
    let deep = behind-in x l ls i in every (at deep.rest l.move) deep.inner

of-plain : (l : Located) (a : Place) (m : Move) → IsPlain m → l ≡ at a m → unvalued l.move ≡ l.move
of-plain l a m p e = rw e (plain-unvalued m p)
  where
    plain-unvalued : (m : Move) → IsPlain m → unvalued m ≡ m
    plain-unvalued (opens c k v) p = absurd p
    plain-unvalued m p = refl

-- an offer says nothing of what an open receives
pub offer-unvalued : (s : Store) (r : Residual) (l : Located) → In l (offers s r) → unvalued l.move ≡ l.move
offer-unvalued s done l i = absurd i
offer-unvalued s halted l i = absurd i
offer-unvalued s (inside i child next) l h = unvalued-behind (Ordered i) l (offers s child) (λ k j. offer-unvalued s child k j) h
offer-unvalued s (beside k child rest) l h =
    elim (in-parts l (behind (Branch k) (offers s child)) (offers s rest) h) [
      | inl v ↦ unvalued-behind (Branch k) l (offers s child) (λ o j. offer-unvalued s child o j) v
      | inr v ↦ offer-unvalued s rest l v
    ]
offer-unvalued s (assign x w e) l h = elim h [ inl v ↦ of-plain l [] (assigns x w e) tt v | inr v ↦ absurd v ]
offer-unvalued s (send c w e) l h =
    elim h [
      | inl v ↦ of-plain l (Ordered 0 ∷ []) (sends c w e false) tt v
      | inr (inl v) ↦ of-plain l (Ordered 0 ∷ []) (sends c w e true) tt v
      | inr (inr v) ↦ absurd v
    ]
offer-unvalued s (receive c x) l h = elim h [ inl v ↦ of-plain l [] (receives c (Some x)) tt v | inr v ↦ absurd v ]
offer-unvalued s (sync c) l h =
    elim h [
      | inl v ↦ of-plain l (Ordered 0 ∷ []) (syncs c false) tt v
      | inr (inl v) ↦ of-plain l (Ordered 0 ∷ []) (syncs c true) tt v
      | inr (inr v) ↦ absurd v
    ]
offer-unvalued s (held c) l h = elim h [ inl v ↦ of-plain l (Ordered 1 ∷ []) (releases c) tt v | inr v ↦ absurd v ]
offer-unvalued s (loop k body) l h = elim h [ inl v ↦ of-plain l (Ordered (2 * k) ∷ []) turns tt v | inr v ↦ absurd v ]
offer-unvalued s (while k e body) l h =
    elim h [ inl v ↦ of-plain l (Ordered (2 * k) ∷ []) (tests (by_guards (e ∷ []) false) (decide s (by_guards (e ∷ []) false))) tt v | inr v ↦ absurd v ]
offer-unvalued s (test d arms) l h = elim h [ inl v ↦ of-plain l (Ordered 0 ∷ []) (tests d (decide s d)) tt v | inr v ↦ absurd v ]
offer-unvalued s (choose channels arms) l h =
    let found = opens-in 0 l channels h in
    rw found.is refl
offer-unvalued s (closing c) l h = elim h [ inl v ↦ of-plain l (Ordered 2 ∷ []) (closes c) tt v | inr v ↦ absurd v ]
offer-unvalued s (drain c k) l h = elim h [ inl v ↦ of-plain l (Ordered k ∷ []) (receives c None) tt v | inr v ↦ absurd v ]
