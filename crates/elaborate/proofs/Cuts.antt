-- A text is cut at the first of a byte in one way.
use Rattle.std.proofs.Common.{◌≡◌, ℕ, ◌<◌, ◌+◌, List, [], ◌∷◌, ◌++◌, length, take, get_or, refl, ap, sym, ◌∙◌, subst}
use Rattle.std.proofs.lemmas.List.{take_more}
use Rattle.elaborate.specs.internal.CutAt.{Lacks, StartsWith}

first_of : List ℕ → ℕ
first_of [] = 0
first_of (x ∷ xs) = x

rest_of : List ℕ → List ℕ
rest_of [] = []
rest_of (x ∷ xs) = xs

-- equal lists have equal firsts
pub heads : (x y : ℕ) (xs ys : List ℕ) → x ∷ xs ≡ y ∷ ys → x ≡ y
unfolding first_of
heads x y xs ys e = ap first_of e

-- equal lists have equal rests
pub tails : (x y : ℕ) (xs ys : List ℕ) → x ∷ xs ≡ y ∷ ys → xs ≡ ys
unfolding rest_of
tails x y xs ys e = ap rest_of e

-- texts without the byte, each with one that begins with it behind, are equal in both parts
pub cut_once : (b : ℕ) (xs ys u v : List ℕ) → Lacks b xs → Lacks b ys → StartsWith b u → StartsWith b v
    → xs ++ u ≡ ys ++ v → (xs ≡ ys) × (u ≡ v)
cut_once b [] [] u v h k m n e = (refl, e)
cut_once b [] (y ∷ ys) u v h k m n e = let at : y ≡ b = subst (StartsWith b) e m in absurd (k.0 at)
cut_once b (x ∷ xs) [] u v h k m n e = let at : x ≡ b = subst (StartsWith b) (sym e) n in absurd (h.0 at)
cut_once b (x ∷ xs) (y ∷ ys) u v h k m n e =
    let rest : (xs ≡ ys) × (u ≡ v) = cut_once b xs ys u v h.1 k.1 m n (tails x y (xs ++ u) (ys ++ v) e) in
    (ap (λ c. c ∷ xs) (heads x y (xs ++ u) (ys ++ v) e) ∙ ap (λ zs. y ∷ zs) rest.0, rest.1)

-- one more byte that is another
pub without_push : (b : ℕ) (xs : List ℕ) (x : ℕ) → Lacks b xs → (x ≡ b → ⊥) → Lacks b (xs ++ x ∷ [])
without_push b [] x h n = (n, tt)
without_push b (y ∷ ys) x h n = (h.0, without_push b ys x h.1 n)

-- one more byte of a text is passed
pub without_more : (b : ℕ) (text : List ℕ) (i : ℕ) → i < length text → Lacks b (take i text) → (get_or text i 0 ≡ b → ⊥)
    → Lacks b (take (i + 1) text)
without_more b text i lt h n = subst (Lacks b) (sym (take_more text i 0 lt)) (without_push b (take i text) (get_or text i 0) h n)
