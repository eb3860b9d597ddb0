-- Trees in memory as arms.
use Rattle.std.proofs.Common.{◌≡◌, ℕ, zero, suc, List, [], ◌∷◌, ◌++◌, map, slice_get, Option, None, Some, refl, sym, ap, ◌∙◌}
use Rattle.std.specs.Option.{option_map}
use Rattle.std.proofs.lemmas.List.{map-append}
use Rattle.system.specs.Residual.{Residual, done, arm_at}
use Rattle.system.specs.declared.command.Command.{Command}
use Rattle.system.specs.Translation.{arms_of, residual_of}
use Rattle.calculus.specs.declared.residual_tree.ResidualTree.{ResidualTree}
use Rattle.calculus.specs.ResidualTree.{residual_of_tree}
use Rattle.calculus.proofs.Arms.{arms_of_last}
use Rattle.runs.proofs.public.Options.{none-some, some-injective}

-- an else is the last arm
arms_with_last : (xs : List ResidualTree) (x : ResidualTree)
    → arms_of (map residual_of_tree (xs ++ x ∷ [])) None ≡ arms_of (map residual_of_tree xs) (Some (residual_of_tree x))
arms_with_last xs x =
    let f : ResidualTree → Residual = residual_of_tree in
    ap (λ rs. arms_of rs None) (map-append f xs (x ∷ [])) ∙ arms_of_last (map f xs) (f x)

-- what the `else` is to do is the last arm
pub arms_and_last : (new xs : List ResidualTree) (x : ResidualTree) (body : Command) (last : Option Command) → last ≡ Some body
    → residual_of_tree x ≡ residual_of body → new ≡ xs ++ x ∷ []
    → arms_of (map residual_of_tree new) None ≡ arms_of (map residual_of_tree xs) (option_map residual_of last)
arms_and_last new xs x body last h e n =
    ap (λ ys. arms_of (map residual_of_tree ys) None) n
    ∙ arms_with_last xs x
    ∙ ap (λ r. arms_of (map residual_of_tree xs) (Some r)) e
    ∙ sym (ap (λ o. arms_of (map residual_of_tree xs) (option_map residual_of o)) h)

-- an arm by its number
pub arm_found : (xs : List ResidualTree) (k : ℕ) (x : ResidualTree) → slice_get xs k ≡ Some x → arm_at (arms_of (map residual_of_tree xs) None) k ≡ residual_of_tree x
arm_found [] k x h = none-some x h
arm_found (y ∷ xs) zero x h = ap residual_of_tree (some-injective y x h)
arm_found (y ∷ xs) (suc k) x h = arm_found xs k x h

-- past the last arm there is nothing to do
pub arm_past : (xs : List ResidualTree) (k : ℕ) → slice_get xs k ≡ None → arm_at (arms_of (map residual_of_tree xs) None) k ≡ done
arm_past [] k h = refl
arm_past (y ∷ xs) zero h = none-some y (sym h)
arm_past (y ∷ xs) (suc k) h = arm_past xs k h
