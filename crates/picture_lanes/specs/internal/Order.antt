-- Lanes in order of their paths. No reader has to believe it: `with_stops` in `Lanes.antt` says where each stands.
use Rattle.std.specs.Prelude.{◌≡◌, ℕ, List, [], ◌∷◌, Bool, false, Option, None, Some}
use Rattle.std.specs.Cmp.Lexicographic.{slice_cmp}
use Rattle.std.specs.Ordering.{nat_cmp}
use Rattle.std.specs.declared.cmp.Ordering.TheVariants.{Less}
use Rattle.picture_lanes.specs.Lanes.{same_path}
use Rattle.picture_lanes.specs.declared.lane.Lane.{Lane}

-- the path is before each of theirs
abbrev pub IsBeforeAll : List ℕ → List Lane → Type 0
IsBeforeAll path [] = Unit {0}
IsBeforeAll path (lane ∷ lanes) = (slice_cmp nat_cmp path lane.path ≡ Less) × IsBeforeAll path lanes

-- each path is before those of the lanes behind it
abbrev pub InOrder : List Lane → Type 0
InOrder [] = Unit {0}
InOrder (lane ∷ lanes) = IsBeforeAll lane.path lanes × InOrder lanes

-- whether there is a lane, and it has the path
abbrev pub is_along : Option Lane → List ℕ → Bool
is_along None path = false
is_along (Some lane) path = same_path lane.path path
