-- What an answer at a place says of the place, and what the answer is at the place that it is for.
use Rattle.std.proofs.Common.{◌≡◌, ◌≢◌, ℕ, ◌==◌, [], ◌∷◌, Bool, true, false, cond, Option, Some, None, option_map, refl, sym, ap, subst, eq-eqb, ne_eqb, eqb-true}
use Rattle.std.specs.Option.{option_and_then}
use Rattle.address.specs.declared.Entry.TheVariants.{Ordered, Branch}
use Rattle.runs.specs.Moves.{Place}
use Rattle.runs.proofs.public.Options.{none-some, some-injective, cond-some}
use Rattle.process_tree.specs.Proc.{Proc}
use Rattle.runs.specs.ByPlace.{if_here, if_act, if_child, if_branch}
use Rattle.process_tree.specs.Places.{if_child_or, wrap}

-- a number equals itself
pub same : (n : ℕ) → (n == n) ≡ true
same n = eq-eqb n n refl

-- what holds of the one thing that is there, holds of it by another name
pub some-elim : {X : Type 0} (x y : X) (P : X → Type 0) → Some x ≡ Some y → P x → P y
some-elim x y P e h = subst P (some-injective x y e) h

-- a conditional answer comes of one of two
pub cond-elim : {X : Type 0} (b : Bool) (o u : Option X) (x : X) (R : Type 0) → cond b o u ≡ Some x
    → (b ≡ true → o ≡ Some x → R) → (b ≡ false → u ≡ Some x → R) → R
cond-elim true o u x R e f g = f refl e
cond-elim false o u x R e f g = g refl e

-- a conditional answer by its test
pub cond-true : {X : Type 0} (b : Bool) (o u : X) → b ≡ true → cond b o u ≡ o
cond-true b o u e = ap (λ c. cond c o u) e

-- and where the test fails
pub cond-false : {X : Type 0} (b : Bool) (o u : X) → b ≡ false → cond b o u ≡ u
cond-false b o u e = ap (λ c. cond c o u) e

-- an answer at the own place
pub here-elim : {X : Type 0} (a : Place) (o : Option X) (x : X) (P : Place → Type 0) → if_here a o ≡ Some x → (o ≡ Some x → P []) → P a
here-elim [] o x P e h = h e
here-elim (y ∷ a) o x P e h = none-some x e

-- an answer at act n
pub act-elim : {X : Type 0} (n : ℕ) (a : Place) (o : Option X) (x : X) (P : Place → Type 0) → if_act n a o ≡ Some x
    → (o ≡ Some x → P (Ordered n ∷ [])) → P a
act-elim n [] o x P e h = none-some x e
act-elim n (Ordered i ∷ []) o x P e h =
    let c = cond-some (i == n) o x e in
    subst (λ j. P (Ordered j ∷ [])) (sym (eqb-true i n c.0)) (h c.1)
act-elim n (Ordered i ∷ y ∷ a) o x P e h = none-some x e
act-elim n (Branch i ∷ a) o x P e h = none-some x e

-- an answer in child n
pub child-elim : {X : Type 0} (n : ℕ) (a : Place) (f : Place → Option X) (x : X) (P : Place → Type 0) → if_child n a f ≡ Some x
    → ((b : Place) → f b ≡ Some x → P (Ordered n ∷ b)) → P a
child-elim n [] f x P e h = none-some x e
child-elim n (Ordered i ∷ a) f x P e h =
    let c = cond-some (i == n) (f a) x e in
    subst (λ j. P (Ordered j ∷ a)) (sym (eqb-true i n c.0)) (h a c.1)
child-elim n (Branch i ∷ a) f x P e h = none-some x e

-- a place that is not in branch n
abbrev pub NotIn : ℕ → Place → Type 1
NotIn n a = (Y : Type 0) (g : Place → Option Y) (r : Option Y) → if_branch n a g r ≡ r

-- by the test of the branch
branch-cases : {X : Type 0} (n i : ℕ) (a : Place) (c : Bool) → (i == n) ≡ c → (f : Place → Option X) (rest : Option X) (x : X) (P : Place → Type 0)
    → cond c (f a) rest ≡ Some x → ((b : Place) → f b ≡ Some x → P (Branch n ∷ b)) → (rest ≡ Some x → NotIn n (Branch i ∷ a) → P (Branch i ∷ a)) → P (Branch i ∷ a)
branch-cases n i a true t f rest x P e h k = subst (λ j. P (Branch j ∷ a)) (sym (eqb-true i n t)) (h a e)
branch-cases n i a false t f rest x P e h k = k e (λ Y g r. cond-false (i == n) (g a) r t)

-- an answer in branch n, or of the rest
pub branch-elim : {X : Type 0} (n : ℕ) (a : Place) (f : Place → Option X) (rest : Option X) (x : X) (P : Place → Type 0) → if_branch n a f rest ≡ Some x
    → ((b : Place) → f b ≡ Some x → P (Branch n ∷ b)) → (rest ≡ Some x → NotIn n a → P a) → P a
branch-elim n [] f rest x P e h k = k e (λ Y g r. refl)
branch-elim n (Ordered i ∷ a) f rest x P e h k = k e (λ Y g r. refl)
branch-elim n (Branch i ∷ a) f rest x P e h k = branch-cases n i a (i == n) refl f rest x P e h k

-- an answer with the rest put around it
pub wrap-elim : {X Y : Type 0} (w : X → Y) (o : Option (X × Option Proc)) (y : Y × Option Proc) (P : Y × Option Proc → Type 0) → wrap w o ≡ Some y
    → ((x : X × Option Proc) → o ≡ Some x → P (w x.0, x.1)) → P y
wrap-elim w None y P e h = none-some y e
wrap-elim w (Some x) y P e h = some-elim (w x.0, x.1) y P e (h x refl)

-- an answer that was changed on its way
pub map-elim : {X Y : Type 0} (f : X → Y) (o : Option X) (y : Y) (P : Y → Type 0) → option_map f o ≡ Some y → ((x : X) → o ≡ Some x → P (f x)) → P y
map-elim f None y P e h = none-some y e
map-elim f (Some x) y P e h = some-elim (f x) y P e (h x refl)

-- an answer that was gone on from
pub then-elim : {X Y : Type 0} (f : X → Option Y) (o : Option X) (y : Y) (R : Type 0) → option_and_then f o ≡ Some y → ((x : X) → o ≡ Some x → f x ≡ Some y → R) → R
then-elim f None y R e h = none-some y e
then-elim f (Some x) y R e h = h x refl e

-- the answer at the place of act n
pub act-at : {X : Type 0} (n : ℕ) (o : Option X) → if_act n (Ordered n ∷ []) o ≡ o
act-at n o = cond-true (n == n) o None (same n)

-- at a place in child n
pub child-at : {X : Type 0} (n : ℕ) (b : Place) (f : Place → Option X) → if_child n (Ordered n ∷ b) f ≡ f b
child-at n b f = cond-true (n == n) (f b) None (same n)

-- and where there is a rest
pub child_or-at : {X : Type 0} (n : ℕ) (b : Place) (f : Place → Option X) (rest : Option X) → if_child_or n (Ordered n ∷ b) f rest ≡ f b
child_or-at n b f rest = cond-true (n == n) (f b) rest (same n)

-- the rest, at a place in another child
pub child_or-other : {X : Type 0} (n i : ℕ) (b : Place) (f : Place → Option X) (rest : Option X) → i ≢ n → if_child_or n (Ordered i ∷ b) f rest ≡ rest
child_or-other n i b f rest d = cond-false (i == n) (f b) rest (ne_eqb i n d)

-- at a place in branch n
pub branch-at : {X : Type 0} (n : ℕ) (b : Place) (f : Place → Option X) (rest : Option X) → if_branch n (Branch n ∷ b) f rest ≡ f b
branch-at n b f rest = cond-true (n == n) (f b) rest (same n)
