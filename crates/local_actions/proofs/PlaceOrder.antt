-- The actions of a residual stand in the order of their places, at one place in that of their arms.
use Rattle.std.proofs.Common.{◌≡◌, ◌⊎◌, inl, inr, ℕ, suc, ◌+◌, ◌<◌, ◌≤◌, List, [], ◌∷◌, ◌++◌, refl, sym, ◌∙◌, ap, arith}
use Rattle.std.specs.Ordering.{MatchOrdering, nat_cmp, ordering_then}
use Rattle.std.specs.declared.cmp.Ordering.{Ordering}
use Rattle.std.specs.declared.cmp.Ordering.TheVariants.{Less, Equal, Greater}
use Rattle.std.proofs.lemmas.Cmp.{ranked}
use Rattle.address.specs.Order.{entry_order, order_of}
use Rattle.address.specs.declared.Entry.{Entry}
use Rattle.address.specs.declared.Entry.TheVariants.{Ordered, Branch}
use Rattle.address.proofs.public.Total.{order-itself}
use Rattle.syntax.specs.Lists.{In, Every}
use Rattle.system.specs.Expression.{Store}
use Rattle.system.specs.Residual.{Residual, done, halted, inside, beside, assign, send, receive, sync, held, loop, while, test, choose, closing, drain}
use Rattle.runs.specs.InOrder.{InOrder}
use Rattle.runs.specs.Moves.{Place}
use Rattle.runs.specs.WellFormed.{WellFormed}
use Rattle.runs.proofs.public.Kept.{branches-place}
use Rattle.runs.proofs.public.Lists.{every-of}
use Rattle.local_actions.specs.Actions.{NotBehind, Precedes}
use Rattle.local_actions.specs.Walk.{action_at}
use Rattle.local_actions.specs.internal.Listed.{behind, open_actions, actions_of_residual}
use Rattle.local_actions.specs.declared.action.LocalAction.{LocalAction}
use Rattle.local_actions.specs.declared.action.ActionKind.TheVariants.{Opens}
use Rattle.local_actions.proofs.public.Exactly.{behind-in, sound}

-- an entry is in one place of the order with itself
no-first : (o : Ordering) → ordering_then o Equal ≡ Equal → o ≡ Equal
no-first Less h = cc
no-first Equal h = refl
no-first Greater h = cc

same-entry : (x : Entry) (a b : Place) → order_of (x ∷ a) (x ∷ b) ≡ order_of a b
same-entry x a b = ap (λ o. ordering_then o (order_of a b)) (no-first (entry_order x x) (order-itself (x ∷ [])))

behind-one : (x : Entry) (r y : LocalAction) → Precedes r y → Precedes (action_at (x ∷ r.place) r.action) (action_at (x ∷ y.place) y.action)
behind-one x r y h = elim h [ inl u ↦ inl (same-entry x r.place y.place ∙ u) | inr u ↦ inr (ap (λ a. x ∷ a) u.0, u.1) ]

behind-every : (x : Entry) (r : LocalAction) (rs : List LocalAction) → Every (Precedes r) rs → Every (Precedes (action_at (x ∷ r.place) r.action)) (behind x rs)
behind-every x r [] h = tt
behind-every x r (y ∷ rs) h = (behind-one x r y h.0, behind-every x r rs h.1)

behind-order : (x : Entry) (rs : List LocalAction) → InOrder Precedes rs → InOrder Precedes (behind x rs)
behind-order x [] h = tt
behind-order x (r ∷ rs) h = (behind-every x r rs h.0, behind-order x rs h.1)

-- lists of which the first stands in front of the second
every-both : {X : Type 0} (P : X → Type 0) (xs ys : List X) → Every P xs → Every P ys → Every P (xs ++ ys)
every-both P [] ys h g = g
every-both P (x ∷ xs) ys h g = (h.0, every-both P xs ys h.1 g)

order-both : {X : Type 0} (R : X → X → Type 0) (xs ys : List X) → InOrder R xs → InOrder R ys → ((x : X) → In x xs → (y : X) → In y ys → R x y) → InOrder R (xs ++ ys)
order-both R [] ys h g f = g
order-both R (x ∷ xs) ys h g f =
    (every-both (R x) xs ys h.0 (every-of (R x) ys (f x (inl refl))), order-both R xs ys h.1 g (λ z i. f z (inr i)))

-- a lesser branch stands before a greater one
lesser : (o u : Ordering) (k n : ℕ) → MatchOrdering o (k < n) (k ≡ n) (n < k) → k < n → ordering_then o u ≡ Less
lesser Less u k n m l = refl
lesser Equal u k n m l = absurd (omega (arith, m, l))
lesser Greater u k n m l = absurd (omega (arith, m, l))

lesser-branch : (k n : ℕ) (a b c d : Place) → a ≡ Branch k ∷ c → b ≡ Branch n ∷ d → k + 1 ≤ n → order_of a b ≡ Less
lesser-branch k n a b c d e f l =
    (λ i. order_of (e i) (f i)) ∙ lesser (nat_cmp k n) (order_of c d) k n (ranked k n (nat_cmp k n) refl) (omega (arith, l))

opens-every : (k j c : ℕ) (channels : List ℕ) → j < k → Every (Precedes (action_at (Ordered 0 ∷ []) (Opens c j))) (open_actions k channels)
opens-every k j c [] l = tt
opens-every k j c (d ∷ ds) l = (inr (refl, l), opens-every (suc k) j c ds (omega (arith, l)))

opens-order : (k : ℕ) (channels : List ℕ) → InOrder Precedes (open_actions k channels)
opens-order k [] = tt
opens-order k (c ∷ cs) = (opens-every (suc k) k c cs (omega arith), opens-order (suc k) cs)

-- the actions of a residual stand in order
pub in-order : (s : Store) (r : Residual) → WellFormed r → InOrder Precedes (actions_of_residual s r)
in-order s done w = tt
in-order s halted w = tt
in-order s (inside i child next) w = behind-order (Ordered i) (actions_of_residual s child) (in-order s child w.0)
in-order s (beside k child rest) w =
    order-both Precedes (behind (Branch k) (actions_of_residual s child)) (actions_of_residual s rest) (behind-order (Branch k) (actions_of_residual s child) (in-order s child w.0)) (in-order s rest w.1)
    (λ x i y j.
    let here = behind-in (Branch k) x (actions_of_residual s child) i in
    let there = sound s rest y j in
    let d = branches-place (k + 1) rest y.place there.move there.after w.2 w.1 there.possible in
    inl (lesser-branch k d.number x.place y.place here.rest d.rest here.is d.is d.from))
in-order s (assign x y e) w = (tt, tt)
in-order s (send c y e) w = (tt, tt)
in-order s (receive c x) w = (tt, tt)
in-order s (sync c) w = (tt, tt)
in-order s (held c) w = (tt, tt)
in-order s (loop k body) w = (tt, tt)
in-order s (while k e body) w = (tt, tt)
in-order s (test d arms) w = (tt, tt)
in-order s (choose channels arms) w = opens-order 0 channels
in-order s (closing c) w = (tt, tt)
in-order s (drain c k) w = (tt, tt)

-- what precedes another does not stand behind it
less-greater : Less ≡ Greater → ⊥
less-greater e = cc

equal-greater : Equal ≡ Greater → ⊥
equal-greater e = cc

not-behind : (x y : LocalAction) → Precedes x y → NotBehind x y
not-behind x y h e =
    elim h [
      | inl u ↦ less-greater (sym u ∙ e)
      | inr u ↦ equal-greater (sym (order-itself x.place) ∙ ap (order_of x.place) u.0 ∙ e)
    ]

none-behind : (x : LocalAction) (ys : List LocalAction) → Every (Precedes x) ys → Every (NotBehind x) ys
none-behind x [] h = tt
none-behind x (y ∷ ys) h = (not-behind x y h.0, none-behind x ys h.1)

pub in-place-order : (xs : List LocalAction) → InOrder Precedes xs → InOrder NotBehind xs
in-place-order [] h = tt
in-place-order (x ∷ xs) h = (none-behind x xs h.0, in-place-order xs h.1)
