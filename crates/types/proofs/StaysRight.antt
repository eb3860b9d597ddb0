-- What stays right: two findings, of which the second is right where the first is.
use Rattle.std.proofs.Common.{◌≡◌, List, [], ◌∷◌, ◌++◌, true, false, Bool, if◌then◌else◌, Result, Ok, Err, refl}
use Rattle.std.proofs.lemmas.Bool.{false≢true}
use Rattle.types.specs.Findings.{Verdict, Findings, becomes, if_right, both, with_next, one_fault, every}
use Rattle.refusals.specs.declared.types.Fault.{Fault}

-- ---- what stays right

-- where the first is right, so is the second, and the two go together so
abbrev pub Stays : {A B E : Type 0} → (A → B → Type 0) → Result A E → Result B E → Type 0
Stays R (Ok a) (Ok b) = R a b
Stays R (Ok a) (Err e) = ⊥
Stays R (Err e) y = Unit {0}

abbrev pub Always : {A B : Type 0} → A → B → Type 0
Always a b = Unit {0}

pub stays-becomes : {A B C D E : Type 0} (R : A → B → Type 0) (Q : C → D → Type 0) (f : A → C) (g : B → D) (x : Result A E) (y : Result B E)
    → ((a : A) (b : B) → R a b → Q (f a) (g b)) → Stays R x y → Stays Q (becomes f x) (becomes g y)
stays-becomes R Q f g (Ok a) (Ok b) h s = h a b s
stays-becomes R Q f g (Ok a) (Err e) h s = absurd s
stays-becomes R Q f g (Err e) y h s = tt

pub stays-if_right : {A B C D E : Type 0} (R : A → B → Type 0) (Q : C → D → Type 0) (f : A → Result C E) (g : B → Result D E) (x : Result A E) (y : Result B E)
    → ((a : A) (b : B) → R a b → Stays Q (f a) (g b)) → Stays R x y → Stays Q (if_right x f) (if_right y g)
stays-if_right R Q f g (Ok a) (Ok b) h s = h a b s
stays-if_right R Q f g (Ok a) (Err e) h s = absurd s
stays-if_right R Q f g (Err e) y h s = tt

abbrev pub Both : {A B C D : Type 0} → (A → B → Type 0) → (C → D → Type 0) → A × C → B × D → Type 0
Both R Q p q = R p.0 q.0 × Q p.1 q.1

-- the second part, where the first one is right
pub stays-inside : {A B C D : Type 0} (R : A → B → Type 0) (Q : C → D → Type 0) (x : Findings every A) (x' : Findings every B) (y : Findings every C) (y' : Findings every D)
    → Stays R x x' → ((a : A) (b : B) → x ≡ Ok a → x' ≡ Ok b → R a b → Stays Q y y') → Stays (Both R Q) (both every x y) (both every x' y')
stays-inside R Q (Ok a) (Ok b) (Ok c) (Ok d) r q = (r, q a b refl refl r)
stays-inside R Q (Ok a) (Ok b) (Ok c) (Err e) r q = absurd (q a b refl refl r)
stays-inside R Q (Ok a) (Err e) (Ok c) y' r q = absurd r
stays-inside R Q (Ok a) x' (Err e) y' r q = tt
stays-inside R Q (Err e) x' (Ok c) y' r q = tt
stays-inside R Q (Err e) x' (Err f) y' r q = tt

pub stays-both : {A B C D : Type 0} (R : A → B → Type 0) (Q : C → D → Type 0) (x : Findings every A) (x' : Findings every B) (y : Findings every C) (y' : Findings every D)
    → Stays R x x' → Stays Q y y' → Stays (Both R Q) (both every x y) (both every x' y')
stays-both R Q x x' y y' r q = stays-inside R Q x x' y y' r (λ a b is is' h. q)

pub stays-alone : {A B : Type 0} (R : A → B → Type 0) (x : Verdict A) (y : Verdict B) → Stays R x y → Stays R (one_fault x) (one_fault y)
stays-alone R (Ok a) (Ok b) s = s
stays-alone R (Ok a) (Err e) s = absurd s
stays-alone R (Err e) y s = tt

pub stays-same : {A E : Type 0} (R : A → A → Type 0) → ((a : A) → R a a) → (x : Result A E) → Stays R x x
stays-same R own (Ok a) = own a
stays-same R own (Err e) = tt

pub stays-if : {A B : Type 0} (b c : Bool) (x : A) (y : B) (e f : Fault) → (b ≡ true → c ≡ true)
    → Stays Always (one_fault (if b then Ok x else Err e)) (one_fault (if c then Ok y else Err f))
stays-if true true x y e f h = tt
stays-if true false x y e f h = absurd (false≢true (h refl))
stays-if false c x y e f h = tt

-- elements that go together one by one
abbrev pub Pairs : {A B : Type 0} → (A → B → Type 0) → List A → List B → Type 0
Pairs R [] [] = Unit {0}
Pairs R [] (b ∷ bs) = ⊥
Pairs R (a ∷ us) [] = ⊥
Pairs R (a ∷ us) (b ∷ bs) = R a b × Pairs R us bs

pub pairs-next : {A B : Type 0} (R : A → B → Type 0) (us : List A) (bs : List B) (a : A) (b : B) → Pairs R us bs → R a b → Pairs R (us ++ a ∷ []) (bs ++ b ∷ [])
pairs-next R [] [] a b ps r = (r, tt)
pairs-next R [] (y ∷ bs) a b ps r = absurd ps
pairs-next R (x ∷ us) [] a b ps r = absurd ps
pairs-next R (x ∷ us) (y ∷ bs) a b ps r = (ps.0, pairs-next R us bs a b ps.1 r)

pub stays-next : {A B : Type 0} (R : A → B → Type 0) (l : Findings every (List A)) (l' : Findings every (List B)) (x : Findings every A) (x' : Findings every B)
    → Stays (Pairs R) l l' → Stays R x x' → Stays (Pairs R) (with_next every l x) (with_next every l' x')
stays-next R l l' x x' ls xs =
    stays-becomes (Both (Pairs R) R) (Pairs R) _ _ (both every l x) (both every l' x') (λ p q h. pairs-next R p.0 q.0 p.1 q.1 h.0 h.1)
    (stays-both (Pairs R) R l l' x x' ls xs)
