-- What the environment is to do on a port, as children of a sequence.
use Rattle.std.proofs.Common.{◌≡◌, ℕ, suc, List, [], ◌∷◌, map, refl, ap}
use Rattle.value.specs.Word.{Word}
use Rattle.system.specs.Expression.{constant}
use Rattle.system.specs.Residual.{send, within}
use Rattle.system.specs.Translation.{in_sequence, feed_from}

feed_from_is : (k c w : ℕ) (vs : List Word) → feed_from k c w vs ≡ in_sequence k (map (λ v. send c w (constant v)) vs)
feed_from_is k c w [] = refl
feed_from_is k c w (v ∷ vs) = ap (within k (send c w (constant v))) (feed_from_is (suc k) c w vs)

-- a feed is a sequence of sends
pub feed_is : (c w : ℕ) (vs : List Word) → feed_from 0 c w vs ≡ in_sequence 0 (map (λ v. send c w (constant v)) vs)
feed_is c w vs = feed_from_is 0 c w vs
