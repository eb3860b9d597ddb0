-- Where lines begin.
use Rattle.std.specs.Prelude.{ℕ, ◌+◌, ◌==◌, List, [], ◌∷◌, cond}
use Rattle.source_places.specs.Places.{line_end}

-- the lines that begin in a text behind its first byte, which has the offset k
abbrev pub starts_behind : ℕ → List ℕ → List ℕ
starts_behind k [] = []
starts_behind k (b ∷ bs) = cond (b == line_end) ((k + 1) ∷ starts_behind (k + 1) bs) (starts_behind (k + 1) bs)

abbrev pub line_starts : List ℕ → List ℕ
line_starts source = 0 ∷ starts_behind 0 source
