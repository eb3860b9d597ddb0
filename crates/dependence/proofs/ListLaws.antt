-- Elements and parts of lists.
use Rattle.std.proofs.Common.{◌≡◌, subst, ◌⊎◌, inl, inr, ℕ, zero, suc, ◌<◌, ◌≤◌, List, [], ◌∷◌, ◌++◌, length, take, drop, map, set, Result, Ok, Err, IfOk, OnOk, OnErr, Some, slice_get, get_or, refl, sym, ap, ◌∙◌, arith}
use Rattle.syntax.specs.Lists.{In, Every}
use Rattle.dependence.proofs.SearchLaws.{some-is, none-some}

pub in-left : {X : Type 0} (x : X) (xs ys : List X) → In x xs → In x (xs ++ ys)
in-left x [] ys i = absurd i
in-left x (y ∷ xs) ys i = elim i [ inl is ↦ inl is | inr later ↦ inr (in-left x xs ys later) ]

pub in-right : {X : Type 0} (x : X) (xs ys : List X) → In x ys → In x (xs ++ ys)
in-right x [] ys i = i
in-right x (y ∷ xs) ys i = inr (in-right x xs ys i)

pub in-either : {X : Type 0} (x : X) (xs ys : List X) → In x (xs ++ ys) → In x xs ⊎ In x ys
in-either x [] ys i = inr i
in-either x (y ∷ xs) ys i = elim i [
  | inl is ↦ inl (inl is)
  | inr later ↦ elim (in-either x xs ys later) [ inl here ↦ inl (inr here) | inr there ↦ inr there ]
]

pub in-map : {X Y : Type 0} (f : X → Y) (x : X) (xs : List X) → In x xs → In (f x) (map f xs)
in-map f x [] i = absurd i
in-map f x (y ∷ xs) i = elim i [ inl is ↦ inl (ap f is) | inr later ↦ inr (in-map f x xs later) ]

pub map-in : {X Y : Type 0} (f : X → Y) (y : Y) (xs : List X) → In y (map f xs) → (x : X) × In x xs × (y ≡ f x)
map-in f y [] i = absurd i
map-in f y (x ∷ xs) i = elim i [
  | inl is ↦ (x, inl refl, is)
  | inr later ↦ let z = map-in f y xs later in (z.0, inr z.1, z.2)
]

pub in-map-take : {X Y : Type 0} (f : X → Y) (x : X) (n : ℕ) (xs : List X) → In x (take n xs) → In (f x) (take n (map f xs))
in-map-take f x zero xs i = absurd i
in-map-take f x (suc n) [] i = absurd i
in-map-take f x (suc n) (y ∷ xs) i = elim i [ inl is ↦ inl (ap f is) | inr later ↦ inr (in-map-take f x n xs later) ]

pub in-map-drop : {X Y : Type 0} (f : X → Y) (x : X) (n : ℕ) (xs : List X) → In x (drop n xs) → In (f x) (drop n (map f xs))
in-map-drop f x zero xs i = in-map f x xs i
in-map-drop f x (suc n) [] i = absurd i
in-map-drop f x (suc n) (y ∷ xs) i = in-map-drop f x n xs i

pub map-in-drop : {X Y : Type 0} (f : X → Y) (y : Y) (n : ℕ) (xs : List X) → In y (drop n (map f xs)) → (x : X) × In x (drop n xs) × (y ≡ f x)
map-in-drop f y zero xs i = map-in f y xs i
map-in-drop f y (suc n) [] i = absurd i
map-in-drop f y (suc n) (x ∷ xs) i = map-in-drop f y n xs i

pub every-left : {X : Type 0} (P : X → Type 0) (xs ys : List X) → Every P (xs ++ ys) → Every P xs
every-left P [] ys h = tt
every-left P (x ∷ xs) ys h = (h.0, every-left P xs ys h.1)

pub every-right : {X : Type 0} (P : X → Type 0) (xs ys : List X) → Every P (xs ++ ys) → Every P ys
every-right P [] ys h = h
every-right P (x ∷ xs) ys h = every-right P xs ys h.1

pub every-both : {X : Type 0} (P : X → Type 0) (xs ys : List X) → Every P xs → Every P ys → Every P (xs ++ ys)
every-both P [] ys h k = k
every-both P (x ∷ xs) ys h k = (h.0, every-both P xs ys h.1 k)

pub every-in : {X : Type 0} (P : X → Type 0) (xs : List X) (x : X) → Every P xs → In x xs → P x
every-in P [] x h i = absurd i
every-in P (y ∷ xs) x h i = elim i [ inl is ↦ subst P (sym is) h.0 | inr later ↦ every-in P xs x h.1 later ]

-- ---- parts
pub whole : {X : Type 0} (i : ℕ) (xs : List X) → take i xs ++ drop i xs ≡ xs
whole zero xs = refl
whole (suc i) [] = refl
whole (suc i) (x ∷ xs) = ap (λ ys. x ∷ ys) (whole i xs)

pub split-at : {X : Type 0} (xs : List X) (i : ℕ) (x : X) → slice_get xs i ≡ Some x → xs ≡ take i xs ++ x ∷ drop (suc i) xs
split-at [] zero x at = absurd (none-some x at)
split-at [] (suc i) x at = absurd (none-some x at)
split-at (y ∷ xs) zero x at = ap (λ z. z ∷ xs) (some-is y x at)
split-at (y ∷ xs) (suc i) x at = ap (λ zs. y ∷ zs) (split-at xs i x at)

pub get-at : {X : Type 0} (xs : List X) (i : ℕ) (d : X) → i < length xs → slice_get xs i ≡ Some (get_or xs i d)
get-at [] i d h = absurd (omega arith)
get-at (x ∷ xs) zero d h = refl
get-at (x ∷ xs) (suc i) d h = let less : i < length xs = omega arith in get-at xs i d less

pub set-split : {X : Type 0} (xs : List X) (i : ℕ) (x : X) → i < length xs → set xs i x ≡ take i xs ++ x ∷ drop (suc i) xs
set-split [] i x h = absurd (omega arith)
set-split (y ∷ xs) zero x h = refl
set-split (y ∷ xs) (suc i) x h = let less : i < length xs = omega arith in ap (λ ys. y ∷ ys) (set-split xs i x less)

pub map-at : {X Y : Type 0} (f : X → Y) (xs : List X) (i : ℕ) (y : Y) → slice_get (map f xs) i ≡ Some y → (x : X) × (slice_get xs i ≡ Some x) × (f x ≡ y)
map-at f [] zero y at = absurd (none-some y at)
map-at f [] (suc i) y at = absurd (none-some y at)
map-at f (x ∷ xs) zero y at = (x, refl, some-is (f x) y at)
map-at f (x ∷ xs) (suc i) y at = map-at f xs i y at

pub at-map : {X Y : Type 0} (f : X → Y) (xs : List X) (i : ℕ) (x : X) → slice_get xs i ≡ Some x → slice_get (map f xs) i ≡ Some (f x)
at-map f [] zero x at = absurd (none-some x at)
at-map f [] (suc i) x at = absurd (none-some x at)
at-map f (y ∷ xs) zero x at = ap (λ z. Some (f z)) (some-is y x at)
at-map f (y ∷ xs) (suc i) x at = at-map f xs i x at

pub at-within : {X : Type 0} (xs : List X) (i : ℕ) (x : X) → slice_get xs i ≡ Some x → i < length xs
at-within [] zero x at = absurd (none-some x at)
at-within [] (suc i) x at = absurd (none-some x at)
at-within (y ∷ xs) zero x at = omega arith
at-within (y ∷ xs) (suc i) x at = let rest : i < length xs = at-within xs i x at in omega arith

-- what holds anyway holds of an error
pub on-err : {T E P : Type 0} (r : Result T E) → P → OnErr r P
on-err (Ok x) p = tt
on-err (Err e) p = p

-- what follows of what holds of a result
pub if-ok : {A E : Type 0} (P Q : A → Type 0) (r : Result A E) → ((x : A) → P x → Q x) → IfOk r P → IfOk r Q
if-ok P Q (Ok x) f h = f x h
if-ok P Q (Err e) f h = tt

pub on-ok : {A E P Q : Type 0} (r : Result A E) → (P → Q) → OnOk r P → OnOk r Q
on-ok (Ok x) f h = f h
on-ok (Err e) f h = tt

pub ok-if : {A E P Q : Type 0} (r : Result A E) → (P → Q) → OnOk r P → IfOk r (λ x. Q)
ok-if (Ok x) f h = f h
ok-if (Err e) f h = tt

pub err-on : {A E P Q : Type 0} (r : Result A E) → (P → Q) → OnErr r P → OnErr r Q
err-on (Ok x) f h = tt
err-on (Err e) f h = f h

-- ---- taking twice
pub map-take : {X Y : Type 0} (f : X → Y) (i : ℕ) (xs : List X) → map f (take i xs) ≡ take i (map f xs)
map-take f zero [] = refl
map-take f zero (x ∷ xs) = refl
map-take f (suc i) [] = refl
map-take f (suc i) (x ∷ xs) = ap (λ ys. f x ∷ ys) (map-take f i xs)

pub take-none : {X : Type 0} (xs : List X) → take 0 xs ≡ []
take-none [] = refl
take-none (x ∷ xs) = refl

pub take-some : {X : Type 0} (xs : List X) (n : ℕ) → 0 < n → n ≤ length xs → 0 < length (take n xs)
take-some [] n some h = absurd (omega arith)
take-some (x ∷ xs) zero some h = absurd (omega arith)
take-some (x ∷ xs) (suc n) some h = omega arith

pub take-again : {X : Type 0} (xs : List X) (n i : ℕ) → n ≤ length (take i xs) → take n (take i xs) ≡ take n xs
take-again [] zero zero h = refl
take-again [] zero (suc i) h = refl
take-again [] (suc n) zero h = refl
take-again [] (suc n) (suc i) h = refl
take-again (x ∷ xs) zero zero h = refl
take-again (x ∷ xs) zero (suc i) h = refl
take-again (x ∷ xs) (suc n) zero h = absurd (omega arith)
take-again (x ∷ xs) (suc n) (suc i) h = let less : n ≤ length (take i xs) = omega arith in ap (λ ys. x ∷ ys) (take-again xs n i less)

pub take-within : {X : Type 0} (xs : List X) (i : ℕ) → length (take i xs) ≤ length xs
take-within [] zero = omega arith
take-within [] (suc i) = omega arith
take-within (x ∷ xs) zero = omega arith
take-within (x ∷ xs) (suc i) = omega (arith, take-within xs i)

drop-none : {X : Type 0} (xs : List X) → drop 0 xs ≡ xs
drop-none [] = refl
drop-none (x ∷ xs) = refl

pub drop-either : {X : Type 0} (xs : List X) (n i : ℕ) (b : X) → n ≤ length (take i xs) → In b (drop n xs) → In b (drop n (take i xs)) ⊎ In b (drop i xs)
drop-either [] zero i b h at = absurd at
drop-either [] (suc n) i b h at = absurd at
drop-either (x ∷ xs) zero zero b h at = inr at
drop-either (x ∷ xs) (suc n) zero b h at = absurd (omega arith)
drop-either (x ∷ xs) zero (suc i) b h at = elim at [
  | inl is ↦ inl (inl is)
  | inr later ↦
      let none : 0 ≤ length (take i xs) = omega arith in
      elim (drop-either xs zero i b none (subst (λ ys. In b ys) (sym (drop-none xs)) later)) [
        | inl low ↦ inl (inr (subst (λ ys. In b ys) (drop-none (take i xs)) low))
        | inr high ↦ inr high
      ]
]
drop-either (x ∷ xs) (suc n) (suc i) b h at = let less : n ≤ length (take i xs) = omega arith in drop-either xs n i b less at

-- ---- one changed behind a cut
set-dropped : {X : Type 0} (xs : List X) (i : ℕ) (x : X) → i < length xs → take i xs ++ set (drop i xs) 0 x ≡ set xs i x
set-dropped [] i x h = absurd (omega arith)
set-dropped (y ∷ xs) zero x h = refl
set-dropped (y ∷ xs) (suc i) x h = let less : i < length xs = omega arith in ap (λ ys. y ∷ ys) (set-dropped xs i x less)

set-long : {X : Type 0} (xs : List X) (i : ℕ) (x : X) → length (set xs i x) ≡ length xs
set-long [] zero x = refl
set-long [] (suc i) x = refl
set-long (y ∷ xs) zero x = refl
set-long (y ∷ xs) (suc i) x = ap suc (set-long xs i x)

take-front : {X : Type 0} (xs ys : List X) (n : ℕ) → n ≡ length xs → take n (xs ++ ys) ≡ xs
take-front [] ys n is = subst (λ k. take k ys ≡ []) (sym is) (take-none ys)
take-front (x ∷ xs) ys zero is = absurd (omega arith)
take-front (x ∷ xs) ys (suc n) is = let less : n ≡ length xs = omega arith in ap (λ zs. x ∷ zs) (take-front xs ys n less)

pub set-behind : {X : Type 0} (xs before behind : List X) (i n : ℕ) (x : X) → before ≡ take i xs → behind ≡ drop i xs → i < length xs → n ≡ length xs →
    take n ((before ++ set behind 0 x) ++ drop (length (before ++ set behind 0 x)) xs) ≡ set xs i x
set-behind xs before behind i n x one two less size =
    let is : before ++ set behind 0 x ≡ set xs i x =
    ap (λ ys. ys ++ set behind 0 x) one ∙ (ap (λ ys. take i xs ++ set ys 0 x) two ∙ set-dropped xs i x less) in
    let long : n ≡ length (before ++ set behind 0 x) = size ∙ (sym (set-long xs i x) ∙ sym (ap length is)) in
    take-front (before ++ set behind 0 x) (drop (length (before ++ set behind 0 x)) xs) n long ∙ is
