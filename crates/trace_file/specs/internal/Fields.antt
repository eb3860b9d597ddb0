-- The fields of a line of a trace, by their bytes.
-- No reader has to believe it: `proofs/LineLemmas.antt` ties it to `IsStep` of `Loading.antt`.
use Rattle.std.specs.Prelude.{ℕ, ◌≡◌, ◌≢◌, ◌<◌, ◌^◌, List, ◌∷◌, ◌++◌, codes}
use Rattle.std.specs.List.{All}
use Rattle.std.specs.Fmt.{decimal}

-- none of the bytes is this one
abbrev pub HasNone : ℕ → List ℕ → Type 0
HasNone byte text = All (λ x. x ≢ byte) text

-- the text at its first byte of this value: what stands before it, and what behind it
abbrev pub IsCut : ℕ → List ℕ → List ℕ → List ℕ → Type 0
IsCut byte text front back = (text ≡ front ++ byte ∷ back) × HasNone byte front

-- the text begins with the word of a step and these two fields, a space between them and an end behind them
pub record AreFields (text place arm after : List ℕ) : Type 0 where
  pub joined : text ≡ codes "step " ++ (place ++ 32 ∷ (arm ++ 10 ∷ after))
  pub no_space : HasNone 32 place
  pub no_end : HasNone 10 arm

-- the text does not begin so
abbrev pub HasNoFields : List ℕ → Type 0
HasNoFields text = (place arm after : List ℕ) → AreFields text place arm after → ⊥

-- the text of a number of 32 bits
abbrev pub IsArm : ℕ → List ℕ → Type 0
IsArm arm text = (decimal arm ≡ text) × (arm < 2 ^ 32)

-- no number of 32 bits has the text
abbrev pub IsNoArm : List ℕ → Type 0
IsNoArm text = (arm : ℕ) → IsArm arm text → ⊥

-- the text does not begin with the word of a step and a space
abbrev pub HasNoWord : List ℕ → Type 0
HasNoWord text = (rest : List ℕ) → text ≡ codes "step " ++ rest → ⊥
