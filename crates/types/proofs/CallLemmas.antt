-- Arguments against ports.
use Rattle.std.proofs.Common.{◌≡◌, suc, List, [], ◌∷◌, length, Bool, true, false, ◌&&◌, refl, ap}
use Rattle.types.specs.Calls.{all_fit}
use Rattle.types.specs.Names.{VisibleNames}
use Rattle.types.specs.declared.tree.PortKind.{PortKind}
use Rattle.syntax.specs.declared.name.Identifier.{Identifier}

both_false : (a b : Bool) → false ≡ b → false ≡ (a && b)
both_false true b not_so = not_so
both_false false b not_so = refl

-- other numbers of ports and arguments do not fit
pub all_fit-lengths : (names : VisibleNames) (ports : List PortKind) (arguments : List Identifier)
    → (length ports ≡ length arguments → ⊥) → false ≡ all_fit names ports arguments
all_fit-lengths names [] [] other = absurd (other refl)
all_fit-lengths names [] (a ∷ arguments) other = refl
all_fit-lengths names (p ∷ ports) [] other = refl
all_fit-lengths names (p ∷ ports) (a ∷ arguments) other = both_false _ _ (all_fit-lengths names ports arguments (λ same. other (ap suc same)))
