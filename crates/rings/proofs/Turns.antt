-- What is sought in the turns of a loop, as a list without places.
use Rattle.std.proofs.Common.{◌≡◌, List, [], ◌∷◌, refl, ap}
use Rattle.rings.specs.declared.ends.Kind.TheVariants.{Within}
use Rattle.rings.specs.declared.sought.Sought.{Sought}
use Rattle.rings.specs.internal.Placed.{Placed, placed}
use Rattle.rings.specs.internal.Ends.{all_here, soughts, within}

pub here_within : (ss : List Sought) → all_here Within (within ss) ≡ within ss
here_within [] = refl
here_within (s ∷ ss) = ap (λ (es : List Placed). placed s [] Within ∷ es) (here_within ss)

pub here_soughts : (es : List Placed) → within (soughts es) ≡ all_here Within es
here_soughts [] = refl
here_soughts (e ∷ es) = ap (λ (fs : List Placed). placed e.sought [] Within ∷ fs) (here_soughts es)

pub soughts_within : (ss : List Sought) → soughts (within ss) ≡ ss
soughts_within [] = refl
soughts_within (s ∷ ss) = ap (λ (ts : List Sought). s ∷ ts) (soughts_within ss)
