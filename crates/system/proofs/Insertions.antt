-- Variables inserted into a list one after another, in any order.
use Rattle.std.proofs.Common.{◌≡◌, ℕ, ◌+◌, ◌<◌, List, [], ◌∷◌, ◌++◌, length, get_or, drop, map, refl, sym, ap, ◌∙◌, arith, rules}
use Rattle.std.proofs.lemmas.List.{at_drop_more}
use Rattle.std.proofs.lemmas.Bool.Decides.{nat_tests}
use Rattle.system.specs.Expression.{inserted, ascending, variables, variables_of_all, binary}
use Rattle.system.specs.internal.Variables.{inserted_all}
use Rattle.system.specs.Translation.{expression_of}
use Rattle.system.specs.declared.expression.Operator.{Operator}
use Rattle.system.specs.declared.expression.Expression.{Expression}
use Rattle.system.specs.declared.expression.Expression.TheViews.{Binary}
use Rattle.system.specs.declared.expression.Expression.TheFolds.{the_lemmas}

-- two variables come in either order
pub inserted-swap : (x y : ℕ) (zs : List ℕ) → inserted x (inserted y zs) ≡ inserted y (inserted x zs)
inserted-swap x y [] = grind (arith, nat_tests)
inserted-swap x y (z ∷ zs) = grind (arith, nat_tests, inserted-swap x y zs)

-- one variable comes before the others or after them
pub inserted-past : (x : ℕ) (ys zs : List ℕ) → inserted x (inserted_all ys zs) ≡ inserted_all ys (inserted x zs)
inserted-past x [] zs = refl
inserted-past x (y ∷ ys) zs = inserted-swap x y (inserted_all ys zs) ∙ ap (inserted y) (inserted-past x ys zs)

-- two lists after one another
pub inserted_all-append : (xs ys zs : List ℕ) → inserted_all (xs ++ ys) zs ≡ inserted_all xs (inserted_all ys zs)
inserted_all-append [] ys zs = refl
inserted_all-append (x ∷ xs) ys zs = ap (inserted x) (inserted_all-append xs ys zs)

-- the first of two lists may come first
pub inserted_all_in_turn : (xs ys zs : List ℕ) → inserted_all (xs ++ ys) zs ≡ inserted_all ys (inserted_all xs zs)
inserted_all_in_turn [] ys zs = refl
inserted_all_in_turn (x ∷ xs) ys zs =
    ap (inserted x) (inserted_all_in_turn xs ys zs) ∙ inserted-past x ys (inserted_all xs zs)

-- the variables of two lists, ascending
pub ascending-append : (xs ys : List ℕ) → ascending (xs ++ ys) ≡ inserted_all xs (ascending ys)
ascending-append [] ys = refl
ascending-append (x ∷ xs) ys = ap (inserted x) (ascending-append xs ys)

-- inserted into no list, they are ascending
pub inserted_all_none : (xs : List ℕ) → inserted_all xs [] ≡ ascending xs
inserted_all_none [] = refl
inserted_all_none (x ∷ xs) = ap (inserted x) (inserted_all_none xs)

-- the variables of two lists, inserted one list after the other
pub inserted_all-both : (xs ys zs us vs : List ℕ) → us ≡ inserted_all xs zs → vs ≡ inserted_all ys us → vs ≡ inserted_all (xs ++ ys) zs
inserted_all-both xs ys zs us vs p q = q ∙ ap (inserted_all ys) p ∙ sym (inserted_all_in_turn xs ys zs)

-- the variables of one guard more
pub inserted_all-guard : (gs : List Expression) (i : ℕ) (g : Expression) (us vs : List ℕ) → i < length gs → g ≡ get_or gs i g → vs ≡ inserted_all (variables (expression_of g)) us → inserted_all (variables_of_all (map expression_of (drop i gs))) us ≡ inserted_all (variables_of_all (map expression_of (drop (i + 1) gs))) vs
inserted_all-guard gs i g us vs lt is new =
    at_drop_more (λ rest. inserted_all (variables_of_all (map expression_of rest)) us) gs i g lt
    ∙ ap (λ h. inserted_all (variables (expression_of h) ++ variables_of_all (map expression_of (drop (i + 1) gs))) us) (sym is)
    ∙ inserted_all_in_turn (variables (expression_of g)) (variables_of_all (map expression_of (drop (i + 1) gs))) us
    ∙ ap (inserted_all (variables_of_all (map expression_of (drop (i + 1) gs)))) (sym new)

-- the variables of two operands, inserted one operand after the other
pub inserted_all-binary : (op : Operator) (a b : Expression) (zs us vs : List ℕ) → us ≡ inserted_all (variables (expression_of a)) zs → vs ≡ inserted_all (variables (expression_of b)) us → vs ≡ inserted_all (variables (expression_of (Binary op a b))) zs
inserted_all-binary op a b zs us vs p q =
    let e : expression_of (Binary op a b) ≡ binary op (expression_of a) (expression_of b) = search (rules, the_lemmas) in
    rw e (inserted_all-both (variables (expression_of a)) (variables (expression_of b)) zs us vs p q)
