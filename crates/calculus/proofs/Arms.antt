-- The arms of a test as a list, and the constructors that erase what is finished.
use Rattle.std.proofs.Common.{◌≡◌, ℕ, List, [], ◌∷◌, ◌++◌, map, cond, None, Some, refl, ap}
use Rattle.value.specs.Word.{Word}
use Rattle.system.specs.Residual.{Residual, done, inside, beside, arm, within, along, put_residual, put_arms}
use Rattle.system.specs.Translation.{arms_of}
use Rattle.runs.specs.internal.After.{is_done}

-- a value is put into each arm
pub put_arms_of : (c : ℕ) (v : Word) (rs : List Residual) → put_arms c v (arms_of rs None) ≡ arms_of (map (put_residual c v) rs) None
put_arms_of c v [] = refl
put_arms_of c v (r ∷ rs) = ap (arm (put_residual c v r)) (put_arms_of c v rs)

-- an else is the last arm
pub arms_of_last : (rs : List Residual) (r : Residual) → arms_of (rs ++ r ∷ []) None ≡ arms_of rs (Some r)
arms_of_last [] r = refl
arms_of_last (a ∷ rs) r = ap (arm a) (arms_of_last rs r)

-- a finished child in order is erased, and no other
pub within_is : (i : ℕ) (r next : Residual) → within i r next ≡ cond (is_done r) next (inside i r next)
within_is i done next = refl
within_is i _ next = refl

-- a finished child in a branch is erased, and no other
pub along_is : (k : ℕ) (r rest : Residual) → along k r rest ≡ cond (is_done r) rest (beside k r rest)
along_is k done rest = refl
along_is k _ rest = refl
