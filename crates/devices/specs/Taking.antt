-- A line that is taken from a reader.
use Rattle.std.specs.Prelude.{ℕ, ◌≡◌, ◌++◌, ◌∷◌, List, [], Bool, Option, IfSome, MatchBool}
use Rattle.std.specs.List.{All}
use Rattle.std.specs.Io.KnownBytes.{Consumes, IsAtEnd}
use Rattle.devices.specs.Counting.{IsNoEnd}

-- the bytes begin with the line and its end
abbrev pub StandsFirst : List ℕ → List ℕ → Type 0
StandsFirst bytes line = All IsNoEnd line × ((rest : List ℕ) × (bytes ≡ line ++ 10 ∷ rest))

-- the reader gave the line and its end, or a last line without one, behind which it is at its end
abbrev pub TakesLine : Option (List ℕ) → Option (List ℕ) → List ℕ → Bool → Type 0
TakesLine old new line complete =
    All IsNoEnd line
    × MatchBool complete (Consumes old new (line ++ 10 ∷ [])) (Consumes old new line × IfSome old (λ _. IsAtEnd new))

-- the reader gave a part of a line
abbrev pub TakesPart : Option (List ℕ) → Option (List ℕ) → List ℕ → Type 0
TakesPart old new part = All IsNoEnd part × Consumes old new part
