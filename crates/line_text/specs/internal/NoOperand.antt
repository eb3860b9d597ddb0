-- What is found behind a keyword where it is none of the forms of `Operands.antt`.
-- No reader has to believe it: each says that there is nothing of that form.
use Rattle.std.specs.Prelude.{ℕ, List}
use Rattle.system.specs.declared.system.System.{System}
use Rattle.runs.specs.declared.event.Choice.{Choice}
use Rattle.line_text.specs.Operands.{IsNumber, IsBranch, IsVariable, IsArm, IsChoice}

-- the rest is no number of 64 bits behind a space
abbrev pub IsNoTicket : List ℕ → Type 0
IsNoTicket rest = (n : ℕ) → IsNumber n rest → ⊥

-- the rest is no number of a branch
abbrev pub IsNoBranch : List ℕ → Type 0
IsNoBranch rest = (k : ℕ) → IsBranch k rest → ⊥

-- the rest names no variable
abbrev pub IsNoVariable : System → List ℕ → Type 0
IsNoVariable system rest = (x : ℕ) → IsVariable system x rest → ⊥

-- the rest gives no arm
abbrev pub IsNoArm : List ℕ → Type 0
IsNoArm rest = (arm : ℕ) → IsArm arm rest → ⊥

-- the rest gives no choice
abbrev pub IsNoChoice : List ℕ → Type 0
IsNoChoice rest = (c : Choice) → IsChoice c rest → ⊥
