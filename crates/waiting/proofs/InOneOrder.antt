-- Actions of which each precedes those behind it are told in the one order.
use Rattle.std.proofs.Common.{◌≡◌, inl, inr, ℕ, ◌<◌, List, [], ◌∷◌, Option, Some, None, refl, sym, ◌∙◌, ap, ap₂, subst, arith}
use Rattle.std.specs.Ordering.{ordering_reverse}
use Rattle.std.specs.declared.cmp.Ordering.{Ordering}
use Rattle.std.specs.declared.cmp.Ordering.TheVariants.{Less, Equal, Greater}
use Rattle.address.specs.Order.{order_of}
use Rattle.address.proofs.public.Total.{order-antisymmetric, order-itself, order-ties}
use Rattle.syntax.specs.Lists.{In}
use Rattle.runs.specs.InOrder.{InOrder}
use Rattle.runs.specs.Moves.{Place}
use Rattle.runs.proofs.public.Lists.{every-in, every-map}
use Rattle.local_actions.specs.Actions.{NotBehind, opened_arm, Precedes}
use Rattle.local_actions.specs.declared.action.ActionKind.{ActionKind}
use Rattle.local_actions.specs.declared.action.ActionKind.TheVariants.{Assigns, Tests, Turns, Sends, Receives, Syncs, Opens, Releases, Closes}
use Rattle.local_actions.specs.declared.action.LocalAction.{LocalAction}
use Rattle.waiting.specs.Waits.{arm_of, ArmBefore, ArmsRise, NoTwoAlike, OneList}

-- ---- the order of arms
arm-chain : (i j k : Option ℕ) → ArmBefore i j → ArmBefore j k → ArmBefore i k
arm-chain None None k h g = absurd h
arm-chain None (Some j) None h g = absurd g
arm-chain None (Some j) (Some k) h g = tt
arm-chain (Some i) None k h g = absurd h
arm-chain (Some i) (Some j) None h g = absurd g
arm-chain (Some i) (Some j) (Some k) h g = omega (arith, h, g)

arm-itself : (k : Option ℕ) → ArmBefore k k → ⊥
arm-itself None h = h
arm-itself (Some k) h = omega (arith, h)

-- the number of an arm, 0 where there is none
abbrev number-of : Option ℕ → ℕ
number-of None = 0
number-of (Some k) = k

arm-number : (a : ActionKind) → opened_arm a ≡ number-of (arm_of a)
arm-number (Assigns x v xs) = refl
arm-number (Tests k xs) = refl
arm-number Turns = refl
arm-number (Sends c v xs) = refl
arm-number (Receives c x) = refl
arm-number (Syncs c) = refl
arm-number (Opens c k) = refl
arm-number (Releases c) = refl
arm-number (Closes c) = refl

less-before : (j k : Option ℕ) → number-of j < number-of k → ArmBefore j k
less-before None None h = omega (arith, h)
less-before None (Some k) h = tt
less-before (Some j) None h = omega (arith, h)
less-before (Some j) (Some k) h = h

-- ---- what precedes is at another place, or has a lesser arm
less-apart : (a b : Place) → order_of a b ≡ Less → a ≡ b → ⊥
less-apart a b less is =
    let same : order_of a a ≡ Equal = order-itself a in
    let both : Equal ≡ Less = sym same ∙ subst (λ (c : Place). order_of a c ≡ Less) (sym is) less in cc

arms-rise : (x y : LocalAction) → Precedes x y → ArmsRise x y
arms-rise x y (inl less) at = absurd (less-apart x.place y.place less at)
arms-rise x y (inr later) at =
    less-before (arm_of x.action) (arm_of y.action)
    (subst (λ (n : ℕ). n < number-of (arm_of y.action)) (arm-number x.action)
    (subst (λ (n : ℕ). opened_arm x.action < n) (arm-number y.action) later.1))

pub all-rise : (xs : List LocalAction) → InOrder Precedes xs → InOrder ArmsRise xs
all-rise [] order = tt
all-rise (x ∷ xs) order = (every-map (Precedes x) (ArmsRise x) xs (arms-rise x) order.0, all-rise xs order.1)

pub arms-once : (xs : List LocalAction) → InOrder ArmsRise xs → NoTwoAlike xs
arms-once [] arms = tt
arms-once (x ∷ xs) arms = (
  λ y i at arm.
      arm-itself (arm_of x.action)
      (subst (λ (k : Option ℕ). ArmBefore (arm_of x.action) k) arm (every-in (ArmsRise x) xs y arms.0 i (sym at))),
  arms-once xs arms.1,
)

-- ---- there is one such list

-- what is behind each other is at one place
not-behind : (a b : Place) → (order_of a b ≡ Greater → ⊥) → (order_of b a ≡ Greater → ⊥) → a ≡ b
not-behind a b h g = order-ties a b (pick (order_of a b) (order_of b a) (order-antisymmetric a b) h g)
  where
    pick : (o u : Ordering) → o ≡ ordering_reverse u → (o ≡ Greater → ⊥) → (u ≡ Greater → ⊥) → o ≡ Equal
    pick Equal u e h g = refl
    pick Greater u e h g = absurd (h refl)
    pick Less Less e h g = cc
    pick Less Equal e h g = cc
    pick Less Greater e h g = absurd (g refl)

fewer : (x y : LocalAction) (xs ys : List LocalAction) → x ≡ y → InOrder ArmsRise (x ∷ xs) → ((z : LocalAction) → In z (x ∷ xs) → In z (y ∷ ys))
    → (z : LocalAction) → In z xs → In z ys
fewer x y xs ys same arms each z i = elim (each z (inr i)) [
  | inl is ↦
      let here : x ≡ z = same ∙ sym is in
      absurd (arm-itself (arm_of x.action)
      (subst (λ (u : LocalAction). ArmBefore (arm_of x.action) (arm_of u.action)) (sym here)
      (every-in (ArmsRise x) xs z arms.0 i (ap (λ (u : LocalAction). u.place) here))))
  | inr j ↦ j
]

first-is : (x y : LocalAction) (xs ys : List LocalAction) → InOrder NotBehind (x ∷ xs) → InOrder ArmsRise (x ∷ xs) → InOrder NotBehind (y ∷ ys)
    → InOrder ArmsRise (y ∷ ys) → In x (y ∷ ys) → In y (x ∷ xs) → x ≡ y
first-is x y xs ys order arms other others (inl is) j = is
first-is x y xs ys order arms other others (inr i) (inl is) = sym is
first-is x y xs ys order arms other others (inr i) (inr j) =
    let at : x.place ≡ y.place = not-behind x.place y.place (every-in (NotBehind x) xs y order.0 j) (every-in (NotBehind y) ys x other.0 i) in
    absurd (arm-itself (arm_of x.action)
    (arm-chain (arm_of x.action) (arm_of y.action) (arm_of x.action) (every-in (ArmsRise x) xs y arms.0 j at) (every-in (ArmsRise y) ys x others.0 i (sym at))))

one-order : (xs ys : List LocalAction) → InOrder NotBehind xs → InOrder ArmsRise xs → InOrder NotBehind ys → InOrder ArmsRise ys
    → ((z : LocalAction) → In z xs → In z ys) → ((z : LocalAction) → In z ys → In z xs) → xs ≡ ys
one-order [] [] order arms other others each back = refl
one-order [] (y ∷ ys) order arms other others each back = absurd (back y (inl refl))
one-order (x ∷ xs) [] order arms other others each back = absurd (each x (inl refl))
one-order (x ∷ xs) (y ∷ ys) order arms other others each back =
    let same : x ≡ y = first-is x y xs ys order arms other others (each x (inl refl)) (back y (inl refl)) in
    ap₂ (λ (z : LocalAction) (zs : List LocalAction). z ∷ zs) same
    (one-order xs ys order.1 arms.1 other.1 others.1 (fewer x y xs ys same arms each) (fewer y x ys xs (sym same) others back))

pub one-list : OneList
one-list S xs ys h g =
    one-order xs ys h.in_order h.arms g.in_order g.arms (λ z i. (g.exactly z).1 ((h.exactly z).0 i)) (λ z i. (h.exactly z).1 ((g.exactly z).0 i))
