-- Variables put one after another into an ascending list.
-- No reader has to believe it: what `variables` answers is `ascending` of `Expression.antt`.
use Rattle.std.specs.Prelude.{ℕ, List, [], ◌∷◌}
use Rattle.system.specs.Expression.{inserted}

-- ys with each of xs at its position, once
abbrev pub inserted_all : List ℕ → List ℕ → List ℕ
inserted_all [] ys = ys
inserted_all (x ∷ xs) ys = inserted x (inserted_all xs ys)
