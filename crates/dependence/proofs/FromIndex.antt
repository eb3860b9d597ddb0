-- The live events from an index on.
use Rattle.std.proofs.Common.{◌≡◌, ℕ, zero, suc, ◌+◌, List, [], ◌∷◌, drop, refl, ◌∙◌, ap, arith}
use Rattle.std.specs.Prelude.{slice_get}
use Rattle.runs.specs.Live.{Live}
use Rattle.runs.proofs.public.Tickets.{rising-lower}
use Rattle.dependence.specs.internal.Tables.{IsRising}

pub get-drop : {X : Type 0} (l : List X) (n i : ℕ) → slice_get (drop n l) i ≡ slice_get l (n + i)
get-drop l zero i = let e : i ≡ 0 + i = omega arith in ap (λ (k : ℕ). slice_get l k) e
get-drop [] (suc n) i = refl
get-drop (x ∷ l) (suc n) i = let e : suc (n + i) ≡ suc n + i = omega arith in get-drop l n i ∙ ap (λ (k : ℕ). slice_get (x ∷ l) k) e

pub rising-drop : (l : Live) (n : ℕ) → IsRising l → IsRising (drop n l)
rising-drop l zero r = r
rising-drop [] (suc n) r = r
rising-drop (x ∷ l) (suc n) r = rising-drop l n (r.0, rising-lower 0 (suc x.0) r.0 l (omega arith) r.1.1)
