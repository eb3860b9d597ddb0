-- The uses of children as the code counts, and those of an `else` behind them.
use Rattle.std.proofs.Common.{◌≡◌, ℕ, suc, ◌+◌, List, [], ◌∷◌, ◌++◌, length, Option, None, Some, refl, sym, ap, ◌∙◌, arith}
use Rattle.std.proofs.lemmas.List.{append-nil, append_assoc}
use Rattle.address.specs.declared.Entry.{Entry}
use Rattle.address.specs.declared.Entry.TheVariants.{Ordered}
use Rattle.sharing_check.specs.Uses.{VariableUse, behind, numbered, with_last}
use Rattle.clash_places.specs.Parts.{from_number, of_last}

pub from-is : (entry : ℕ → Entry) (n : ℕ) (uss : List (List VariableUse)) → from_number entry n uss ≡ numbered entry n uss
from-is entry n [] = refl
from-is entry n (us ∷ rest) =
    let next : n + 1 ≡ suc n = omega arith in
    ap (λ (x : List VariableUse). behind (entry n) us ++ x) (ap (λ (k : ℕ). from_number entry k rest) next ∙ from-is entry (suc n) rest)

-- arms, and what stands behind an `else`
pub last-is : (n : ℕ) (uss : List (List VariableUse)) (last : Option (List VariableUse))
    → from_number Ordered n uss ++ of_last (n + length uss) last ≡ numbered Ordered n (with_last uss last)
last-is n uss None = append-nil (from_number Ordered n uss) ∙ from-is Ordered n uss
last-is n [] (Some us) = ap (λ (k : ℕ). behind (Ordered k) us) (omega arith) ∙ sym (append-nil (behind (Ordered n) us))
last-is n (vs ∷ uss) (Some us) =
    let next : n + 1 ≡ suc n = omega arith in
    let count : n + length (vs ∷ uss) ≡ (n + 1) + length uss = omega arith in
    append_assoc (behind (Ordered n) vs) (from_number Ordered (n + 1) uss) (of_last (n + length (vs ∷ uss)) (Some us))
    ∙ ap (λ (x : List VariableUse). behind (Ordered n) vs ++ x)
    (ap (λ (k : ℕ). from_number Ordered (n + 1) uss ++ of_last k (Some us)) count ∙ last-is (n + 1) uss (Some us)
    ∙ ap (λ (k : ℕ). numbered Ordered k (with_last uss (Some us))) next)

-- the same behind other uses, where so many arms stand before it
pub with-last : (before arms all : List VariableUse) (uss : List (List VariableUse)) (last : Option (List VariableUse)) (n : ℕ)
    → arms ≡ before ++ numbered Ordered 0 uss → n ≡ length uss → all ≡ arms ++ of_last n last → all ≡ before ++ numbered Ordered 0 (with_last uss last)
with-last before arms all uss last n first count is =
    let many : n ≡ 0 + length uss = count ∙ omega arith in
    is ∙ ap (λ (x : List VariableUse). x ++ of_last n last) first
    ∙ append_assoc before (numbered Ordered 0 uss) (of_last n last)
    ∙ ap (λ (x : List VariableUse). before ++ x)
    (ap (λ (x : List VariableUse). x ++ of_last n last) (sym (from-is Ordered 0 uss)) ∙ ap (λ (k : ℕ). from_number Ordered 0 uss ++ of_last k last) many
    ∙ last-is 0 uss last)
