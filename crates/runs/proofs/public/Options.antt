-- On options: what there is when a chain answers.
use Rattle.std.proofs.Common.{◌≡◌, Bool, true, false, cond, Option, Some, None, refl, ap}
use Rattle.std.specs.Option.{option_and_then}

-- nothing is not something
pub none-some : {X : Type 0} {P : Type 0} (x : X) → None ≡ Some x → P
none-some x e = cc

-- what is held, or x
value_or : {X : Type 0} → X → Option X → X
value_or x None = x
value_or x (Some y) = y

-- equal options hold equal values
pub some-injective : {X : Type 0} (x y : X) → Some x ≡ Some y → x ≡ y
unfolding value_or
some-injective x y e = ap (value_or x) e

-- a conditional answer that there is
pub cond-some : {X : Type 0} (b : Bool) (x : Option X) (z : X) → cond b x None ≡ Some z → (b ≡ true) × (x ≡ Some z)
cond-some true x z e = (refl, e)
cond-some false x z e = none-some z e

-- a conditional answer where the test holds
pub cond-at : {X : Type 0} (b : Bool) (x : Option X) → b ≡ true → cond b x None ≡ x
cond-at b x e = ap (λ c. cond c x None) e

-- a chain that answers has an answer in between
pub and_then-some : {X Y : Type 0} (f : X → Option Y) (x : Option X) (z : Y) → option_and_then f x ≡ Some z
    → (y : X) × (x ≡ Some y) × (f y ≡ Some z)
and_then-some f None z e = none-some z e
and_then-some f (Some y) z e = (y, refl, e)

-- a chain goes on from an answer
pub and_then-at : {X Y : Type 0} (f : X → Option Y) (x : Option X) (y : X) → x ≡ Some y → option_and_then f x ≡ f y
and_then-at f x y e = ap (option_and_then f) e
