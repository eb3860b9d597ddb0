-- The bytes of a script as lines.
use Rattle.std.specs.Prelude.{ℕ, ◌≡◌, ◌⊎◌, List, [], ◌∷◌, ◌++◌}
use Rattle.std.specs.List.{All, flat_map}
use Rattle.syntax.specs.Lists.{Every}
use Rattle.syntax.specs.Texts.{line_end}
use Rattle.devices.specs.Counting.{IsNoEnd}

-- a line and its end
abbrev pub with_end : List ℕ → List ℕ
with_end line = line ++ line_end ∷ []

-- a line without its end
abbrev pub IsLine : List ℕ → Type 0
IsLine text = All IsNoEnd text

-- the bytes are these lines, each with its end, and behind them `last`, which has no end
pub record AreLines (bytes : List ℕ) (lines : List (List ℕ)) (last : List ℕ) : Type 0 where
  pub joined : bytes ≡ flat_map with_end lines ++ last
  pub each : Every IsLine lines
  pub unended : IsLine last

-- an end of a line, or none at the end of all
abbrev pub IsEnding : Type 0 → List ℕ → Type 0
IsEnding at_end tail = (tail ≡ line_end ∷ []) ⊎ ((tail ≡ []) × at_end)

-- the bytes are these lines, each with its end, and then the whole line `last`, which lacks its end only at the end of
-- all
pub record EndWith (at_end : Type 0) (bytes : List ℕ) (lines : List (List ℕ)) (last : List ℕ) : Type 0 where
  pub tail : List ℕ
  pub joined : bytes ≡ flat_map with_end lines ++ (last ++ tail)
  pub each : Every IsLine lines
  pub unended : IsLine last
  pub ending : IsEnding at_end tail
