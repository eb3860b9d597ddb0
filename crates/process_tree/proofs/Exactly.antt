-- The list of a residual's offers is exactly what it offers, in order, and that of a process is the list of what is left.
use Rattle.std.proofs.Common.{◌≡◌, ◌⊎◌, inl, inr, ℕ, zero, suc, ◌+◌, ◌*◌, ◌<◌, ◌≤◌, List, [], ◌∷◌, ◌++◌, Bool, true, false, ◌&&◌, cond, Option, Some, None, slice_get, refl, sym, ◌∙◌, ap, ap₂, subst, arith}
use Rattle.std.specs.Ordering.{MatchOrdering, nat_cmp, ordering_then}
use Rattle.std.specs.declared.cmp.Ordering.{Ordering}
use Rattle.std.specs.declared.cmp.Ordering.TheVariants.{Less, Equal, Greater}
use Rattle.std.proofs.lemmas.Cmp.{ranked}
use Rattle.address.specs.Order.{entry_order, order_of}
use Rattle.address.specs.declared.Entry.{Entry}
use Rattle.address.specs.declared.Entry.TheVariants.{Ordered, Branch}
use Rattle.address.proofs.public.Total.{order-itself}
use Rattle.syntax.specs.Lists.{In, Every}
use Rattle.system.specs.Expression.{by_guards}
use Rattle.system.specs.Residual.{Residual, done, halted, inside, beside, assign, send, receive, sync, held, loop, while, test, choose, closing, drain, within, along, arm_at, opened}
use Rattle.runs.specs.InOrder.{InOrder}
use Rattle.runs.specs.Moves.{Place, Move, Local, assigns, tests, turns, sends, receives, syncs, opens, releases, closes}
use Rattle.runs.specs.WellFormed.{WellFormed}
use Rattle.runs.proofs.public.Kept.{branches-place}
use Rattle.runs.proofs.public.Lists.{in-left, in-right, in-parts, every-of}
use Rattle.process_tree.specs.Offers.{kind_of, Offers, AreOffers, opened_arm, PrecedesOffer}
use Rattle.process_tree.specs.declared.offer.Offer.{Offer}
use Rattle.process_tree.specs.declared.offer.OfferKind.{OfferKind}
use Rattle.process_tree.specs.declared.offer.OfferKind.TheVariants.{Opens}
use Rattle.process_tree.specs.internal.Listed.{offer_at, behind, opens_from, offers_of}

in-behind : (x : Entry) (a : Place) (v : OfferKind) (rs : List Offer) → In (offer_at a v) rs → In (offer_at (x ∷ a) v) (behind x rs)
in-behind x a v [] h = absurd h
in-behind x a v (r ∷ rs) h =
    elim h [ inl u ↦ inl (ap (λ (k : Offer). offer_at (x ∷ k.place) k.kind) u) | inr u ↦ inr (in-behind x a v rs u) ]

-- an offer behind an entry is one of the child's
record Behind (x : Entry) (l : Offer) (rs : List Offer) : Type 0 where
  pub rest : Place
  pub is : l.place ≡ x ∷ rest
  pub inner : In (offer_at rest l.kind) rs

behind-in : (x : Entry) (l : Offer) (rs : List Offer) → In l (behind x rs) → Behind x l rs
behind-in x l [] h = absurd h
behind-in x l (k ∷ rs) h =
    elim h [
      | inl u ↦ record {
        rest = k.place;
        is = ap (λ (o : Offer). o.place) u;
        inner = inl (ap (λ (o : Offer). offer_at k.place o.kind) u);
      }
      | inr u ↦ let later = behind-in x l rs u in record { rest = later.rest; is = later.is; inner = inr later.inner }
    ]

in-opens : (k j n c : ℕ) (channels : List ℕ) → slice_get channels j ≡ Some c → n ≡ k + j → In (offer_at (Ordered 0 ∷ []) (Opens c n)) (opens_from k channels)
in-opens k j n c [] h e = cc
in-opens k zero n c (d ∷ ds) h e =
    let same : c ≡ d = cc in
    let number : n ≡ k = omega (arith, e) in
    inl (λ i. offer_at (Ordered 0 ∷ []) (Opens (same i) (number i)))
in-opens k (suc j) n c (d ∷ ds) h e = inr (in-opens (suc k) j n c ds h (omega (arith, e)))

-- an opening in the list is of an arm that there is
record Opening (k : ℕ) (l : Offer) (channels : List ℕ) : Type 0 where
  pub number : ℕ
  pub channel : ℕ
  pub there : slice_get channels number ≡ Some channel
  pub is : l ≡ offer_at (Ordered 0 ∷ []) (Opens channel (k + number))

opens-in : (k : ℕ) (l : Offer) (channels : List ℕ) → In l (opens_from k channels) → Opening k l channels
opens-in k l [] h = absurd h
opens-in k l (c ∷ cs) h =
    elim h [
      | inl u ↦ record { number = 0; channel = c; there = refl; is = u ∙ ap (λ n. offer_at (Ordered 0 ∷ []) (Opens c n)) (let e : k ≡ k + 0 = omega arith in e) }
      | inr u ↦ let later = opens-in (suc k) l cs u in
          record {
            number = suc later.number;
            channel = later.channel;
            there = later.there;
            is = later.is ∙ ap (λ n. offer_at (Ordered 0 ∷ []) (Opens later.channel n)) (let e : suc k + later.number ≡ k + suc later.number = omega arith in e);
          }
    ]

-- each move that is possible is listed
complete : (r : Residual) (a : Place) (m : Move) (q : Residual) → Local r a m q → In (offer_at a (kind_of m)) (offers_of r)
complete done a m q h = absurd h
complete halted a m q h = absurd h
complete (inside i child next) a m q h =
    rw h.2 (in-behind (Ordered i) h.0 (kind_of m) (offers_of child) (complete child h.0 m h.1 h.3))
complete (beside k child rest) a m q h =
    elim h [
      | inl u ↦ rw u.2 (in-left (offer_at (Branch k ∷ u.0) (kind_of m)) (behind (Branch k) (offers_of child)) (offers_of rest)
          (in-behind (Branch k) u.0 (kind_of m) (offers_of child) (complete child u.0 m u.1 u.3)))
      | inr u ↦ in-right (offer_at a (kind_of m)) (behind (Branch k) (offers_of child)) (offers_of rest) (complete rest a m u.0 u.1)
    ]
complete (assign x w e) a m q h = rw (h.0, h.1) (inl refl)
complete (send c w e) a m q h = elim h.1 [ inl u ↦ rw (h.0, u.0) (inl refl) | inr u ↦ rw (h.0, u.0) (inl refl) ]
complete (receive c x) a m q h = rw (h.0, h.1) (inl refl)
complete (sync c) a m q h = elim h.1 [ inl u ↦ rw (h.0, u.0) (inl refl) | inr u ↦ rw (h.0, u.0) (inl refl) ]
complete (held c) a m q h = rw (h.0, h.1) (inl refl)
complete (loop k body) a m q h = rw (h.0, h.1) (inl refl)
complete (while k e body) a m q h = elim h.1 [ inl u ↦ rw (h.0, u.0) (inl refl) | inr u ↦ rw (h.0, u.0) (inl refl) ]
complete (test t arms) a m q h = elim h.1 [ inl u ↦ rw (h.0, u.1) (inl refl) | inr u ↦ rw (h.0, u.0) (inl refl) ]
complete (choose channels arms) a m q h = rw (h.0, h.5) (in-opens 0 h.2 h.2 h.1 channels h.4 (omega arith))
complete (closing c) a m q h = rw (h.0, h.1) (inl refl)
complete (drain c k) a m q h = rw (h.0, h.1) (inl refl)

-- one offer of a leaf
one : (r q : Residual) (x : Offer) (a : Place) (m : Move) → x ≡ offer_at a (kind_of m) → Local r a m q → Offers r x
one r q x a m e h = record {
  move = m;
  after = q;
  possible = subst (λ b. Local r b m q) (sym (ap (λ (y : Offer). y.place) e)) h;
  shown = ap (λ (y : Offer). y.kind) e;
}

-- each offer in the list is possible
sound : (r : Residual) (x : Offer) → In x (offers_of r) → Offers r x
sound done x i = absurd i
sound halted x i = absurd i
sound (inside i child next) x h =
    let deep = behind-in (Ordered i) x (offers_of child) h in
    let below = sound child (offer_at deep.rest x.kind) deep.inner in
    record { move = below.move; after = within i below.after next; possible = (deep.rest, below.after, deep.is, below.possible, refl); shown = below.shown }
sound (beside k child rest) x h =
    elim (in-parts x (behind (Branch k) (offers_of child)) (offers_of rest) h) [
      | inl v ↦ let deep = behind-in (Branch k) x (offers_of child) v in
          let below = sound child (offer_at deep.rest x.kind) deep.inner in
          record { move = below.move; after = along k below.after rest; possible = inl (deep.rest, below.after, deep.is, below.possible, refl); shown = below.shown }
      | inr v ↦ let below = sound rest x v in
          record { move = below.move; after = along k child below.after; possible = inr (below.after, below.possible, refl); shown = below.shown }
    ]
sound (assign y w e) x h = elim h [ inl v ↦ one (assign y w e) done x [] (assigns y w e) v (refl, refl, refl) | inr v ↦ absurd v ]
sound (send c w e) x h = elim h [ inl v ↦ one (send c w e) done x (Ordered 0 ∷ []) (sends c w e false) v (refl, inl (refl, refl)) | inr v ↦ absurd v ]
sound (receive c y) x h = elim h [ inl v ↦ one (receive c y) done x [] (receives c (Some y)) v (refl, refl, refl) | inr v ↦ absurd v ]
sound (sync c) x h = elim h [ inl v ↦ one (sync c) done x (Ordered 0 ∷ []) (syncs c false) v (refl, inl (refl, refl)) | inr v ↦ absurd v ]
sound (held c) x h = elim h [ inl v ↦ one (held c) done x (Ordered 1 ∷ []) (releases c) v (refl, refl, refl) | inr v ↦ absurd v ]
sound (loop k body) x h =
    elim h [ inl v ↦ one (loop k body) (within (2 * k + 1) body (loop (k + 1) body)) x (Ordered (2 * k) ∷ []) turns v (refl, refl, refl) | inr v ↦ absurd v ]
sound (while k e body) x h =
    elim h [
      | inl v ↦ one (while k e body) done x (Ordered (2 * k) ∷ []) (tests (by_guards (e ∷ []) false) None) v (refl, inr (refl, refl))
      | inr v ↦ absurd v
    ]
sound (test d arms) x h = elim h [ inl v ↦ one (test d arms) done x (Ordered 0 ∷ []) (tests d None) v (refl, inr (refl, refl)) | inr v ↦ absurd v ]
sound (choose channels arms) x h =
    let o = opens-in 0 x channels h in
    one (choose channels arms) (within 1 (opened o.channel None (arm_at arms o.number)) (closing o.channel)) x (Ordered 0 ∷ []) (opens o.channel o.number None)
    (o.is ∙ ap (λ n. offer_at (Ordered 0 ∷ []) (Opens o.channel n)) (let e : 0 + o.number ≡ o.number = omega arith in e)) (refl, o.channel, o.number, None, o.there, refl, refl)
sound (closing c) x h = elim h [ inl v ↦ one (closing c) done x (Ordered 2 ∷ []) (closes c) v (refl, refl, refl) | inr v ↦ absurd v ]
sound (drain c k) x h = elim h [ inl v ↦ one (drain c k) (drain c (k + 1)) x (Ordered k ∷ []) (receives c None) v (refl, refl, refl) | inr v ↦ absurd v ]

-- the list of a residual's offers is exactly what it offers
pub exactly : (r : Residual) → AreOffers r (offers_of r)
exactly r = λ x. (
  sound r x,
  λ o. subst (λ (v : OfferKind). In (offer_at x.place v) (offers_of r)) (sym o.shown) (complete r x.place o.move o.after o.possible),
)

-- an entry is in one place of the order with itself
no-first : (o : Ordering) → ordering_then o Equal ≡ Equal → o ≡ Equal
no-first Less h = cc
no-first Equal h = refl
no-first Greater h = cc

same-entry : (x : Entry) (a b : Place) → order_of (x ∷ a) (x ∷ b) ≡ order_of a b
same-entry x a b = ap (λ o. ordering_then o (order_of a b)) (no-first (entry_order x x) (order-itself (x ∷ [])))

behind-one : (x : Entry) (r y : Offer) → PrecedesOffer r y → PrecedesOffer (offer_at (x ∷ r.place) r.kind) (offer_at (x ∷ y.place) y.kind)
behind-one x r y h = elim h [ inl u ↦ inl (same-entry x r.place y.place ∙ u) | inr u ↦ inr (ap (λ a. x ∷ a) u.0, u.1) ]

behind-every : (x : Entry) (r : Offer) (rs : List Offer) → Every (PrecedesOffer r) rs → Every (PrecedesOffer (offer_at (x ∷ r.place) r.kind)) (behind x rs)
behind-every x r [] h = tt
behind-every x r (y ∷ rs) h = (behind-one x r y h.0, behind-every x r rs h.1)

behind-order : (x : Entry) (rs : List Offer) → InOrder PrecedesOffer rs → InOrder PrecedesOffer (behind x rs)
behind-order x [] h = tt
behind-order x (r ∷ rs) h = (behind-every x r rs h.0, behind-order x rs h.1)

-- lists of which the first stands in front of the second
every-both : {X : Type 0} (P : X → Type 0) (xs ys : List X) → Every P xs → Every P ys → Every P (xs ++ ys)
every-both P [] ys h g = g
every-both P (x ∷ xs) ys h g = (h.0, every-both P xs ys h.1 g)

order-both : {X : Type 0} (R : X → X → Type 0) (xs ys : List X) → InOrder R xs → InOrder R ys → ((x : X) → In x xs → (y : X) → In y ys → R x y) → InOrder R (xs ++ ys)
order-both R [] ys h g f = g
order-both R (x ∷ xs) ys h g f =
    (every-both (R x) xs ys h.0 (every-of (R x) ys (f x (inl refl))), order-both R xs ys h.1 g (λ z i. f z (inr i)))

-- a lesser branch stands before a greater one
lesser : (o u : Ordering) (k n : ℕ) → MatchOrdering o (k < n) (k ≡ n) (n < k) → k < n → ordering_then o u ≡ Less
lesser Less u k n m l = refl
lesser Equal u k n m l = absurd (omega (arith, m, l))
lesser Greater u k n m l = absurd (omega (arith, m, l))

lesser-branch : (k n : ℕ) (a b c d : Place) → a ≡ Branch k ∷ c → b ≡ Branch n ∷ d → k + 1 ≤ n → order_of a b ≡ Less
lesser-branch k n a b c d e f l =
    (λ i. order_of (e i) (f i)) ∙ lesser (nat_cmp k n) (order_of c d) k n (ranked k n (nat_cmp k n) refl) (omega (arith, l))

opens-every : (k j c : ℕ) (channels : List ℕ) → j < k → Every (PrecedesOffer (offer_at (Ordered 0 ∷ []) (Opens c j))) (opens_from k channels)
opens-every k j c [] l = tt
opens-every k j c (d ∷ ds) l = (inr (refl, l), opens-every (suc k) j c ds (omega (arith, l)))

opens-order : (k : ℕ) (channels : List ℕ) → InOrder PrecedesOffer (opens_from k channels)
opens-order k [] = tt
opens-order k (c ∷ cs) = (opens-every (suc k) k c cs (omega arith), opens-order (suc k) cs)

-- the offers of a residual stand in order
pub in-order : (r : Residual) → WellFormed r → InOrder PrecedesOffer (offers_of r)
in-order done w = tt
in-order halted w = tt
in-order (inside i child next) w = behind-order (Ordered i) (offers_of child) (in-order child w.0)
in-order (beside k child rest) w =
    order-both PrecedesOffer (behind (Branch k) (offers_of child)) (offers_of rest) (behind-order (Branch k) (offers_of child) (in-order child w.0)) (in-order rest w.1)
    (λ x i y j.
    let here = behind-in (Branch k) x (offers_of child) i in
    let there = sound rest y j in
    let d = branches-place (k + 1) rest y.place there.move there.after w.2 w.1 there.possible in
    inl (lesser-branch k d.number x.place y.place here.rest d.rest here.is d.is d.from))
in-order (assign x y e) w = (tt, tt)
in-order (send c y e) w = (tt, tt)
in-order (receive c x) w = (tt, tt)
in-order (sync c) w = (tt, tt)
in-order (held c) w = (tt, tt)
in-order (loop k body) w = (tt, tt)
in-order (while k e body) w = (tt, tt)
in-order (test d arms) w = (tt, tt)
in-order (choose channels arms) w = opens-order 0 channels
in-order (closing c) w = (tt, tt)
in-order (drain c k) w = (tt, tt)
