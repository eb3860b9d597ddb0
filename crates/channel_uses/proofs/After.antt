-- What a move leads to, by the forms of places.
use Rattle.std.proofs.Common.{◌≡◌, ℕ, ◌==◌, [], ◌∷◌, Bool, true, false, cond, Option, Some, None, refl}
use Rattle.address.specs.declared.Entry.TheVariants.{Ordered, Branch}
use Rattle.runs.specs.Moves.{Place}
use Rattle.runs.specs.ByPlace.{if_here, if_act, if_child, if_branch}
use Rattle.process_tree.specs.Proc.{Proc}
use Rattle.process_tree.specs.Places.{wrap}

-- what a move leads to, if it is made
abbrev pub After : {X : Type 0} → (X → Type 0) → Option (X × Option Proc) → Type 0
After Q None = Unit {0}
After Q (Some x) = Q x.0

-- by one test
pub cond-after : {X : Type 0} (Q : X → Type 0) (b : Bool) (o u : Option (X × Option Proc)) → (b ≡ true → After Q o) → (b ≡ false → After Q u) → After Q (cond b o u)
cond-after Q true o u h k = h refl
cond-after Q false o u h k = k refl

pub here-after : {X : Type 0} (Q : X → Type 0) (a : Place) (o : Option (X × Option Proc)) → After Q o → After Q (if_here a o)
here-after Q [] o h = h
here-after Q (x ∷ a) o h = tt

pub act-after : {X : Type 0} (Q : X → Type 0) (n : ℕ) (a : Place) (o : Option (X × Option Proc)) → After Q o → After Q (if_act n a o)
act-after Q n [] o h = tt
act-after Q n (Ordered i ∷ []) o h = cond-after Q (i == n) o None (λ e. h) (λ e. tt)
act-after Q n (Ordered i ∷ x ∷ a) o h = tt
act-after Q n (Branch i ∷ a) o h = tt

pub child-after : {X : Type 0} (Q : X → Type 0) (n : ℕ) (a : Place) (f : Place → Option (X × Option Proc)) → ((b : Place) → After Q (f b)) → After Q (if_child n a f)
child-after Q n [] f h = tt
child-after Q n (Ordered i ∷ a) f h = cond-after Q (i == n) (f a) None (λ e. h a) (λ e. tt)
child-after Q n (Branch i ∷ a) f h = tt

pub branch-after : {X : Type 0} (Q : X → Type 0) (n : ℕ) (a : Place) (f : Place → Option (X × Option Proc)) (o : Option (X × Option Proc)) → ((b : Place) → After Q (f b)) → After Q o
    → After Q (if_branch n a f o)
branch-after Q n [] f o h k = k
branch-after Q n (Ordered i ∷ a) f o h k = k
branch-after Q n (Branch i ∷ a) f o h k = cond-after Q (i == n) (f a) o (λ e. h a) (λ e. k)

pub wrap-after : {X Y : Type 0} (P : X → Type 0) (Q : Y → Type 0) (w : X → Y) (o : Option (X × Option Proc)) → ((x : X) → P x → Q (w x)) → After P o → After Q (wrap w o)
wrap-after P Q w None f h = tt
wrap-after P Q w (Some x) f h = f x.0 h
