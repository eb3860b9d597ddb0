use Rattle.std.proofs.Common.{[], length}
use Rattle.rings.specs.FirstRing.{Awaits, StandTogether}
use Rattle.rings.proofs.OneRing.{one-ring}
use Rattle.rings.proofs.laws.first_rings_are_one.Goals as goal

pub returns : goal.returns
returns c = λ actions partners marks ring other.
    one-ring (length actions) (Awaits actions partners marks) (StandTogether actions) [] [] ring other
