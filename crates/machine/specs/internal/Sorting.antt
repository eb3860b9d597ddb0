-- Lines counted, as a function.
-- No reader has to believe it: `proofs/SetLines.antt` ties it to `with_line`.
use Rattle.std.specs.Prelude.{ℕ, suc, List, [], ◌∷◌, cond, nat_lt}

-- how many of the first lines are less than this one
abbrev pub lesser_count : ℕ → List ℕ → ℕ
lesser_count line [] = 0
lesser_count line (held ∷ lines) = cond (nat_lt held line) (suc (lesser_count line lines)) 0
