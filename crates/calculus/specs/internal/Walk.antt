-- The moves that a tree in memory offers, as they are gathered.
-- No reader has to believe it: `proofs/Walking.antt` ties it to `allowed_events`, and the law `AllowedAreListed` that
-- to `Allowed`.
use Rattle.std.specs.Prelude.{List, [], ◌∷◌, ◌++◌}
use Rattle.runs.specs.Moves.{Place}
use Rattle.runs.specs.Events.{Located, at}
use Rattle.calculus.specs.internal.Meanings.{move_of}
use Rattle.calculus.specs.declared.walk.Offer.{Offer}

-- an offer as a move at a place
abbrev pub located_of : Offer → Located
located_of offer = at offer.place (move_of offer.by)

-- moves, each at a place below this one
abbrev pub below : Place → List Located → List Located
below p [] = []
below p (l ∷ ls) = at (p ++ l.place) l.move ∷ below p ls
