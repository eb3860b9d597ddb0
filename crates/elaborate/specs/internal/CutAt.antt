-- Texts cut at the first of a byte.
-- No reader has to believe it: `proofs/Lines.antt` ties a cut at byte 10 to `lines`, and `proofs/Entries.antt` one at a
-- space to `Gives`.
use Rattle.std.specs.Prelude.{◌≡◌, ℕ, ◌≤◌, List, [], ◌∷◌, length, take, drop}

-- the byte does not stand in the text
abbrev pub Lacks : ℕ → List ℕ → Type 0
Lacks b [] = Unit {0}
Lacks b (x ∷ xs) = (x ≡ b → ⊥) × Lacks b xs

-- the text begins with the byte, or is empty
abbrev pub StartsWith : ℕ → List ℕ → Type 0
StartsWith b [] = Unit {0}
StartsWith b (x ∷ xs) = x ≡ b

-- so many bytes stand before the first of this byte, or before the end
abbrev pub IsBefore : ℕ → List ℕ → ℕ → Type 0
IsBefore b text count = (count ≤ length text) × Lacks b (take count text) × StartsWith b (drop count text)
