-- Events at indexes of a list.
use Rattle.std.proofs.Common.{◌≡◌, ℕ, zero, suc, ◌<◌, List, [], ◌∷◌, ◌++◌, length, get_or, Some, refl, sym, ap, ◌∙◌, arith}
use Rattle.std.specs.Prelude.{slice_get}
use Rattle.std.proofs.lemmas.Option.{slice_get_within}
use Rattle.runs.specs.Live.{Live}
use Rattle.runs.specs.declared.event.Event.{Event}
use Rattle.runs.proofs.public.Options.{some-injective}
use Rattle.trace_file.specs.Canonical.{StandAt}

-- they are as many
pub stand-length : (l : Live) (indexes : List ℕ) (g : List Event) → StandAt l indexes g → length indexes ≡ length g
stand-length l [] [] s = refl
stand-length l [] (e ∷ g) s = absurd s
stand-length l (i ∷ indexes) [] s = absurd s
stand-length l (i ∷ indexes) (e ∷ g) s = ap suc (stand-length l indexes g s.1)

-- one of them
pub stand-one : (l : Live) (indexes : List ℕ) (g : List Event) (k d t : ℕ) (e : Event) → StandAt l indexes g → k < length indexes
    → slice_get l (get_or indexes k d) ≡ Some (t, e) → slice_get g k ≡ Some e
stand-one l [] g k d t e s within is = absurd (omega arith)
stand-one l (j ∷ indexes) [] k d t e s within is = absurd s
stand-one l (j ∷ indexes) (f ∷ g) zero d t e s within is =
    let both : (s.0.0, f) ≡ (t, e) = some-injective (s.0.0, f) (t, e) (sym s.0.1 ∙ is) in
    ap (λ (x : ℕ × Event). Some x.1) both
stand-one l (j ∷ indexes) (f ∷ g) (suc k) d t e s within is =
    let less : k < length indexes = omega arith in
    stand-one l indexes g k d t e s.1 less is

-- one event more behind them
pub stand-more : (l : Live) (indexes : List ℕ) (g : List Event) (i t : ℕ) (e : Event) → StandAt l indexes g → slice_get l i ≡ Some (t, e)
    → StandAt l (indexes ++ i ∷ []) (g ++ e ∷ [])
stand-more l [] [] i t e s at = ((t, at), tt)
stand-more l [] (f ∷ g) i t e s at = absurd s
stand-more l (j ∷ indexes) [] i t e s at = absurd s
stand-more l (j ∷ indexes) (f ∷ g) i t e s at = (s.0, stand-more l indexes g i t e s.1 at)

-- the indexes are of the list
pub stand-within : (l : Live) (indexes : List ℕ) (g : List Event) (k d : ℕ) → StandAt l indexes g → k < length indexes → get_or indexes k d < length l
stand-within l [] g k d s within = absurd (omega arith)
stand-within l (j ∷ indexes) [] k d s within = absurd s
stand-within l (j ∷ indexes) (f ∷ g) zero d s within = slice_get_within l j (s.0.0, f) s.0.1
stand-within l (j ∷ indexes) (f ∷ g) (suc k) d s within =
    let less : k < length indexes = omega arith in
    stand-within l indexes g k d s.1 less
