-- Breakpoints that are set again, one after another.
-- No reader has to believe it: what it leads to is `SetsBreaksOf` of `Does.antt`.
use Rattle.std.specs.Prelude.{◌≡◌, ℕ, ◌<◌, ◌≤◌, List, true, Contains}
use Rattle.system.specs.Expression.{is_in}
use Rattle.locked_execution.specs.AtDesk.{AtDesk, breaks_of}
use Rattle.locked_execution.specs.Answered.{Answered}
use Rattle.locked_execution.specs.declared.command.Command.{Command}
use Rattle.locked_execution.specs.declared.command.Reply.{Reply}
use Rattle.shell_desk.specs.Does.{AreBreaksAt}

-- breakpoints of `before`, set at d, leave d', and each that is due is among them
abbrev pub SetsAgain : AtDesk → (ℕ → ℕ → Type 0) → AtDesk → AtDesk → Type 0
SetsAgain before IsDue d d' =
    (breaks : List (ℕ × Command)) × (replies : List Reply) × AreBreaksAt before breaks × Answered d breaks replies d'
    × ((session line : ℕ) → IsDue session line → is_in line (breaks_of before session) ≡ true
    → Contains breaks (session, Command.Break line))

-- what is due: this line of this session
abbrev pub IsAt : ℕ → ℕ → ℕ → ℕ → Type 0
IsAt session line s l = (s ≡ session) × (l ≡ line)

-- the lines from 1 to the last of this session
abbrev pub IsUpTo : ℕ → ℕ → ℕ → ℕ → Type 0
IsUpTo session last s l = (s ≡ session) × (0 < l) × (l ≤ last)

-- the lines from 1 to the last of so many sessions
abbrev pub IsOfFirst : ℕ → ℕ → ℕ → ℕ → Type 0
IsOfFirst count last s l = (s < count) × (0 < l) × (l ≤ last)
