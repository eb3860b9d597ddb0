-- The lines of a session that have a breakpoint: a list of lines, ascending.
use Rattle.std.specs.Prelude.{◌≡◌, ◌⊎◌, ℕ, ◌==◌, ◌<◌, ◌≤◌, List, [], ◌∷◌, true, false, not, cond, nat_lt, filter, length, Result, Ok, Err}
use Rattle.system.specs.Expression.{is_in}
use Rattle.runs.specs.declared.command.Refusal.{Refusal}
use Rattle.runs.specs.declared.command.Refusal.TheVariants.{BreaksFull}

-- the most lines that may have a breakpoint
abbrev pub most_breaks : ℕ
most_breaks = 64

-- the lines and this one, at its place
abbrev pub with_line : ℕ → List ℕ → List ℕ
with_line line [] = line ∷ []
with_line line (held ∷ lines) =
    cond (nat_lt held line) (held ∷ with_line line lines) (cond (held == line) (held ∷ lines) (line ∷ held ∷ lines))

-- the lines without this one
abbrev pub without_line : ℕ → List ℕ → List ℕ
without_line line lines = filter (λ held. not (held == line)) lines

-- a breakpoint is set: refused where as many others are set as may be, and then nothing changes
abbrev pub SetsBreak : {U : Type 0} → ℕ → List ℕ → Result U Refusal → List ℕ → Type 0
SetsBreak line lines (Ok _) after =
    ((is_in line lines ≡ true) ⊎ (length lines < most_breaks)) × (after ≡ with_line line lines)
SetsBreak line lines (Err why) after =
    (why ≡ BreaksFull) × (is_in line lines ≡ false) × (most_breaks ≤ length lines) × (after ≡ lines)
