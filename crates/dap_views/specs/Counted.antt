-- How lines are counted.
use Rattle.std.specs.Prelude.{ℕ, ◌+◌, ◌-◌, ◌^◌, min}
use Rattle.dap_views.specs.declared.program.Program.{Program}

-- the sum, or the largest number that there is
abbrev pub at_most_all : ℕ → ℕ → ℕ
at_most_all m n = min (m + n) (2 ^ 64 - 1)

-- the line that the client means, from 1
abbrev pub meant_line : Program → ℕ → ℕ
meant_line p line = at_most_all line p.counting.lines

-- the line, as the client counts
abbrev pub shown_line : Program → ℕ → ℕ
shown_line p line = line - p.counting.lines
