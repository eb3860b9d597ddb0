-- Several passes on one execution.
use Rattle.std.specs.Prelude.{◌≡◌, ◌⊎◌, ℕ, Bool, true, false, List}
use Rattle.runs.specs.declared.command.Refusal.TheVariants.{Memory, Spent}
use Rattle.recorded_calls.specs.History.{IsLegal}
use Rattle.recorded_calls.specs.declared.entry.Entry.{Entry}
use Rattle.locked_execution.specs.AtDesk.{AtDesk}
use Rattle.locked_execution.specs.Performs.{Performs, MayWantMemory}
use Rattle.locked_execution.specs.declared.command.Command.{Command}
use Rattle.locked_execution.specs.declared.command.Reply.{Reply}

-- a list of calls, each with the number of its pass, what it asked and what it was told
abbrev pub History : Type 0
History = List (Entry Command Reply)

-- the command of the session is answered by this reply, which is recorded, and leaves d': any reply but that no ticket
-- is left
abbrev pub Keeps : AtDesk → ℕ → Command → Reply → AtDesk → Type 0
Keeps d session command reply d' = Performs d session command reply d' × (reply ≡ Reply.Refused Spent → ⊥)

-- a legal history: each reply is the desk's after the entries before it
abbrev pub Legal : AtDesk → History → Type 0
Legal = IsLegal Keeps

-- there may be no memory for the command of the session, and it is told so
abbrev pub WantsMemory : AtDesk → ℕ → Command → Reply → Type 0
WantsMemory d session command reply = MayWantMemory d command × (reply ≡ Reply.Refused Memory)

-- there is no ticket for the command of the session, and it is told so
abbrev pub WantsTicket : AtDesk → ℕ → Command → Reply → Type 0
WantsTicket d session command reply = (reply ≡ Reply.Refused Spent) × Performs d session command reply d

-- this reply to the command of the session is not recorded, and the desk is as it was
abbrev pub NotKept : AtDesk → ℕ → Command → Reply → Type 0
NotKept d session command reply = WantsMemory d session command reply ⊎ WantsTicket d session command reply

-- whether the reply tells of a step
abbrev pub is_step : Reply → Bool
is_step (Reply.Stepped t e) = true
is_step _ = false
