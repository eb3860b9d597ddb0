-- The numbers of the refusals of one execution.
use Rattle.std.specs.Prelude.{ℕ}
use Rattle.runs.specs.declared.command.Refusal.{Refusal}
use Rattle.runs.specs.declared.command.Refusal.TheVariants.{Memory, NotReady, HistoryFull, NoSuchEvent, NeededBy, NeverWritten, Spent, BreaksFull, NoSuchLine}

-- the number by which programs know a refusal
abbrev pub refusal_number : Refusal → ℕ
refusal_number Memory = 1
refusal_number NotReady = 21
refusal_number HistoryFull = 22
refusal_number NoSuchEvent = 23
refusal_number (NeededBy t) = 24
refusal_number NeverWritten = 25
refusal_number Spent = 26
refusal_number BreaksFull = 27
refusal_number NoSuchLine = 28
