-- For each lane of a list its path, with the index at which it stands.
-- No reader has to believe it: `lane_index` in `Lanes.antt` is what is found.
use Rattle.std.specs.Prelude.{◌≡◌, ℕ, ◌+◌, nat_eq, List, [], ◌∷◌, Option, Some, None, if◌then◌else◌}
use Rattle.std.specs.Cmp.Lexicographic.{pointwise}
use Rattle.picture_lanes.specs.declared.lane.Lane.{Lane}

-- paths, each with an index
abbrev pub Places : Type 0
Places = List (List ℕ × ℕ)

-- the index of the path
abbrev pub place_of : Places → List ℕ → Option ℕ
place_of [] path = None
place_of (entry ∷ rest) path = if pointwise nat_eq path entry.0 then Some entry.1 else place_of rest path

-- those of these lanes, of which the first has the index n
abbrev pub numbered : ℕ → List Lane → Places
numbered n [] = []
numbered n (lane ∷ lanes) = (lane.path, n) ∷ numbered (n + 1) lanes

-- none of them has the path
abbrev pub NoneHas : List Lane → List ℕ → Type 0
NoneHas [] path = Unit {0}
NoneHas (lane ∷ lanes) path = (lane.path ≡ path → ⊥) × NoneHas lanes path

-- no two have one path
abbrev pub EachOnce : List Lane → Type 0
EachOnce [] = Unit {0}
EachOnce (lane ∷ lanes) = NoneHas lanes lane.path × EachOnce lanes

-- no two lanes have one path, and these are their places
pub record ArePlaced (lanes : List Lane) (places : Places) : Type 0 where
  pub each : EachOnce lanes
  pub numbers : places ≡ numbered 0 lanes
