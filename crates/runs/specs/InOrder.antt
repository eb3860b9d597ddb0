-- Lists in an order.
use Rattle.std.specs.Prelude.{List, [], ◌∷◌}
use Rattle.syntax.specs.Lists.{Every}

-- each element comes before all after it
abbrev pub InOrder : {X : Type 0} → (X → X → Type 0) → List X → Type 0
InOrder before [] = Unit {0}
InOrder before (x ∷ xs) = Every (before x) xs × InOrder before xs
