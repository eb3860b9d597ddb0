-- The answer to what is one_fault: of all faults the least.
use Rattle.std.proofs.Common.{◌≡◌, List, [], ◌∷◌, ◌++◌, map, Ok, Err, inl, inr, refl, ap, sym, subst, ◌∙◌}
use Rattle.types.specs.Findings.{Verdict, Findings, becomes, if_right, both, and, with_next, with_all, all, and_all, demands, one_fault, every, IsRefused}
use Rattle.types.specs.Refusal.{lesser}
use Rattle.types.specs.internal.Least.{least}
use Rattle.refusals.specs.declared.types.Fault.{Fault}
use Rattle.syntax.specs.Lists.{In, Every}
use Rattle.types.proofs.Order.{lesser-lesser, lesser-same, lesser-again, lesser-one}

-- the one of these faults that is answered
abbrev pub least_of : Fault → List Fault → Fault
least_of f [] = f
least_of f (g ∷ gs) = lesser f (least_of g gs)

abbrev pub answer : {A : Type 0} → Findings every A → Verdict A
answer (Ok a) = Ok a
answer (Err fs) = Err (least_of fs.first fs.others)

least-append : (f : Fault) (fs : List Fault) (g : Fault) (gs : List Fault) → least_of f (fs ++ g ∷ gs) ≡ lesser (least_of f fs) (least_of g gs)
least-append f [] g gs = refl
least-append f (x ∷ fs) g gs = ap (lesser f) (least-append x fs g gs) ∙ sym (lesser-lesser f (least_of x fs) (least_of g gs))

pub answer-one_fault : {A : Type 0} (r : Verdict A) → answer (one_fault r) ≡ r
answer-one_fault (Ok a) = refl
answer-one_fault (Err f) = refl

pub answer-becomes : {A B : Type 0} (f : A → B) (x : Findings every A) → answer (becomes f x) ≡ becomes f (answer x)
answer-becomes f (Ok a) = refl
answer-becomes f (Err fs) = refl

pub answer-if_right : {A B : Type 0} (x : Findings every A) (k : A → Findings every B) (l : A → Verdict B) → ((a : A) → answer (k a) ≡ l a)
    → answer (if_right x k) ≡ if_right (answer x) l
answer-if_right (Ok a) k l same = same a
answer-if_right (Err fs) k l same = refl

pub answer-both : {A B : Type 0} (x : Findings every A) (y : Findings every B) → answer (both every x y) ≡ both least (answer x) (answer y)
answer-both (Ok a) (Ok b) = refl
answer-both (Ok a) (Err gs) = refl
answer-both (Err fs) (Ok b) = refl
answer-both (Err fs) (Err gs) = ap (λ f. Err f) (least-append fs.first fs.others gs.first gs.others)

-- parts that agree
pub both_is : {A B : Type 0} (x : Findings every A) (y : Findings every B) (a : Verdict A) (b : Verdict B) → answer x ≡ a → answer y ≡ b
    → answer (both every x y) ≡ both least a b
both_is x y a b e f = answer-both x y ∙ ap (λ z. both least z (answer y)) e ∙ ap (λ z. both least a z) f

pub becomes_is : {A B : Type 0} (f : A → B) (x : Findings every A) (a : Verdict A) → answer x ≡ a → answer (becomes f x) ≡ becomes f a
becomes_is f x a e = answer-becomes f x ∙ ap (becomes f) e

pub joined_is : {A B C : Type 0} (f : A × B → C) (x : Findings every A) (y : Findings every B) (a : Verdict A) (b : Verdict B) → answer x ≡ a → answer y ≡ b
    → answer (becomes f (both every x y)) ≡ becomes f (both least a b)
joined_is f x y a b e g = becomes_is f (both every x y) (both least a b) (both_is x y a b e g)

pub if_right_is : {A B : Type 0} (x : Findings every A) (a : Verdict A) (k : A → Findings every B) (l : A → Verdict B)
    → answer x ≡ a → ((z : A) → answer (k z) ≡ l z) → answer (if_right x k) ≡ if_right a l
if_right_is x a k l e same = answer-if_right x k l same ∙ ap (λ z. if_right z l) e

pub asked_is : {A B C : Type 0} (x : Findings every A) (y : Findings every B) (a : Verdict A) (b : Verdict B) (k : A × B → Verdict C) → answer x ≡ a → answer y ≡ b
    → answer (if_right (both every x y) (λ p. one_fault (k p))) ≡ if_right (both least a b) k
asked_is x y a b k e f = if_right_is (both every x y) (both least a b) (λ p. one_fault (k p)) k (both_is x y a b e f) (λ p. answer-one_fault (k p))

pub and_is : (x y : Findings every (Unit {0})) (a b : Verdict (Unit {0})) → answer x ≡ a → answer y ≡ b → answer (and every x y) ≡ and least a b
and_is x y a b e f = joined_is (λ _. tt) x y a b e f

pub with_next_is : {A : Type 0} (x : Findings every (List A)) (y : Findings every A) (a : Verdict (List A)) (b : Verdict A) → answer x ≡ a → answer y ≡ b
    → answer (with_next every x y) ≡ with_next least a b
with_next_is x y a b e f = joined_is (λ p. p.0 ++ p.1 ∷ []) x y a b e f

answer-with_all : {A : Type 0} (l : Findings every (List A)) (xs : List (Findings every A)) → answer (with_all every l xs) ≡ with_all least (answer l) (map answer xs)
answer-with_all l [] = refl
answer-with_all l (x ∷ xs) =
    answer-with_all (with_next every l x) xs ∙ ap (λ z. with_all least z (map answer xs)) (with_next_is l x (answer l) (answer x) refl refl)

pub all_is : {A : Type 0} (xs : List (Findings every A)) (ys : List (Verdict A)) → map answer xs ≡ ys → answer (all every xs) ≡ all least ys
all_is xs ys e = answer-with_all (Ok []) xs ∙ ap (with_all least (Ok [])) e

answer-and_all : (l : Findings every (Unit {0})) (verdicts : List (Verdict (Unit {0}))) → answer (and_all every l verdicts) ≡ and_all least (answer l) verdicts
answer-and_all l [] = refl
answer-and_all l (next ∷ rest) =
    answer-and_all (and every l (one_fault next)) rest
    ∙ ap (λ z. and_all least z rest) (and_is l (one_fault next) (answer l) next refl (answer-one_fault next))

pub demands_are : (verdicts : List (Verdict (Unit {0}))) → answer (demands every verdicts) ≡ demands least verdicts
demands_are verdicts = answer-and_all (Ok tt) verdicts

-- verdicts, each one_fault alone
pub one_fault-each : {X A : Type 0} (f : X → Verdict A) (xs : List X) → map answer (map (λ x. one_fault (f x)) xs) ≡ map f xs
one_fault-each f [] = refl
one_fault-each f (x ∷ xs) = ap (λ z. z ∷ map answer (map (λ y. one_fault (f y)) xs)) (answer-one_fault (f x)) ∙ ap (λ zs. f x ∷ zs) (one_fault-each f xs)

-- an element with its proof
abbrev pub With : {X : Type 0} → (X → Type 0) → Type 0
With {X = X} P = (x : X) × P x

-- children that agree
pub each_is : {X Y Z A : Type 0} (P : X → Type 0) (F : X → Y) (G : X → Z) (f : Y → Findings every A) (g : Z → Verdict A)
    → ((x : X) → P x → answer (f (F x)) ≡ g (G x)) → (ys : List (With P))
    → map answer (map f (map F (map (λ y. y.0) ys))) ≡ map g (map G (map (λ y. y.0) ys))
each_is P F G f g same [] = refl
each_is P F G f g same (y ∷ ys) =
    ap (λ z. z ∷ map answer (map f (map F (map (λ e. e.0) ys)))) (same y.0 y.1)
    ∙ ap (λ zs. g (G y.0) ∷ zs) (each_is P F G f g same ys)

-- what is answered is one of the faults, and none is answered before it
least_among : (f : Fault) (fs : List Fault) → In (least_of f fs) (f ∷ fs)
least_among f [] = inl refl
least_among f (g ∷ gs) = elim (lesser-one f (least_of g gs)) [
  | inl e ↦ inl e
  | inr e ↦ inr (subst (λ x. In x (g ∷ gs)) (sym e) (least_among g gs))
]

-- of the fault and any of these the fault is answered
abbrev First : Fault → List Fault → Type 0
First fault = Every (λ other. lesser fault other ≡ fault)

none_before : (f r : Fault) (xs : List Fault) → First r xs → First (lesser f r) xs
none_before f r [] none = tt
none_before f r (x ∷ xs) none = (lesser-lesser f r x ∙ ap (lesser f) none.0, none_before f r xs none.1)

least_first : (f : Fault) (fs : List Fault) → First (least_of f fs) (f ∷ fs)
least_first f [] = (lesser-same f, tt)
least_first f (g ∷ gs) = (lesser-again f (least_of g gs), none_before f (least_of g gs) (g ∷ gs) (least_first g gs))

pub right_from : {A : Type 0} (x : Findings every A) (a : A) → answer x ≡ Ok a → x ≡ Ok a
right_from (Ok b) a e = let same : b ≡ a = cc in ap (λ x. Ok x) same
right_from (Err fs) a e = cc

pub refused_from : {A : Type 0} (x : Findings every A) (f : Fault) → answer x ≡ Err f → IsRefused x f
refused_from (Ok b) f e = cc
refused_from (Err fs) f e =
    let same : least_of fs.first fs.others ≡ f = cc in (
      subst (λ x. In x (fs.first ∷ fs.others)) same (least_among fs.first fs.others),
      subst (λ x. First x (fs.first ∷ fs.others)) same (least_first fs.first fs.others),
    )
