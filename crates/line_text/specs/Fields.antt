-- A line cut at its first space.
use Rattle.std.specs.Prelude.{ℕ, ◌≡◌, ◌≢◌, List, [], ◌∷◌, ◌++◌}
use Rattle.std.specs.List.{All}

-- a byte that is no space
abbrev pub IsNoSpace : ℕ → Type 0
IsNoSpace byte = byte ≢ 32

-- the text is empty or begins with a space
abbrev pub BeginsField : List ℕ → Type 0
BeginsField [] = Unit {0}
BeginsField (byte ∷ _) = byte ≡ 32

-- `front` is what stands before the first space, and `back` what stands from there on
pub record CutAtSpace (text front back : List ℕ) : Type 0 where
  pub joined : front ++ back ≡ text
  pub clear : All IsNoSpace front
  pub begins : BeginsField back
