-- What each command of a session answers and leaves.
use Rattle.std.specs.Prelude.{◌≡◌, ◌⊎◌, ℕ, ◌<◌, ◌≤◌, length, true, false, Option, Some, None, MatchOption}
use Rattle.system.specs.Expression.{is_in}
use Rattle.system_places.specs.LinesBegun.{begins}
use Rattle.runs.specs.Does as calculus
use Rattle.runs.specs.Commands as runs
use Rattle.runs.specs.declared.command.Refusal.{Refusal}
use Rattle.runs.specs.declared.command.Refusal.TheVariants.{Memory, BreaksFull, NoSuchLine}
use Rattle.machine.specs.Breakpoints.{most_breaks, with_line, without_line}
use Rattle.machine.specs.Branching.{StepsBranch}
use Rattle.machine.specs.Marks.{marks_behind}
use Rattle.machine.specs.declared.branch.BranchReply.{BranchReply}
use Rattle.locked_execution.specs.AtDesk.{AtDesk, execution, breaks_of, with_breaks}
use Rattle.locked_execution.specs.declared.command.Command.{Command}
use Rattle.locked_execution.specs.declared.command.Reply.{Reply}

-- the command of the execution that a session's command is; a step in a branch and those on breakpoints are none
abbrev pub execution_command : Command → Option runs.Command
execution_command (Command.Step c) = Some (runs.Command.Step c)
execution_command (Command.Undo t) = Some (runs.Command.Undo t)
execution_command (Command.Roll t) = Some (runs.Command.Roll t)
execution_command (Command.RollValue x) = Some (runs.Command.RollValue x)
execution_command (Command.Blame x) = Some (runs.Command.Blame x)
execution_command Command.Ready = Some runs.Command.Ready
execution_command (Command.Consequences t) = Some (runs.Command.Consequences t)
execution_command Command.Live = Some runs.Command.Live
execution_command (Command.Value x) = Some (runs.Command.Value x)
execution_command _ = None

-- what a session is told where the execution answers so
abbrev pub session_reply : runs.Reply → Reply
session_reply (runs.Reply.Stepped t e) = Reply.Stepped t e
session_reply (runs.Reply.Undone t e) = Reply.Undone t e
session_reply (runs.Reply.Rolled n) = Reply.Rolled n
session_reply (runs.Reply.Blamed t) = Reply.Blamed t
session_reply (runs.Reply.Ready es) = Reply.Ready es
session_reply (runs.Reply.Consequences ts) = Reply.Consequences ts
session_reply (runs.Reply.Live l) = Reply.Live l
session_reply (runs.Reply.Value v) = Reply.Value v
session_reply (runs.Reply.Refused why) = Reply.Refused why

-- what a session is told of a step in a branch
abbrev pub branch_reply : BranchReply → Reply
branch_reply (BranchReply.Stepped t e) = Reply.Stepped t e
branch_reply (BranchReply.Stopped line) = Reply.Stopped line
branch_reply BranchReply.Idle = Reply.Idle
branch_reply (BranchReply.Refused why) = Reply.Refused why

-- a command of the execution: no breakpoint changes
abbrev pub OnExecution : AtDesk → runs.Command → Reply → AtDesk → Type 0
OnExecution d c reply d' =
    (answer : runs.Reply) × (reply ≡ session_reply answer) × calculus.Does (execution d) c answer (execution d')
    × (d'.machine.checked ≡ d.machine.checked) × (d'.breaks ≡ d.breaks)
    × (d'.machine.marked ≡ marks_behind answer d.machine.marked)

-- a step in the branch, past the breakpoints of the session: no breakpoint changes, and no mark
abbrev pub OnBranch : AtDesk → ℕ → ℕ → Reply → AtDesk → Type 0
OnBranch d session k reply d' =
    (answer : BranchReply) × (reply ≡ branch_reply answer)
    × StepsBranch d.machine k (breaks_of d session) answer d'.machine
    × (d'.machine.checked ≡ d.machine.checked) × (d'.breaks ≡ d.breaks) × (d'.machine.marked ≡ d.machine.marked)

-- why a session gets no breakpoint on a line: no command begins there; or it has none there yet, and as many as may be
abbrev pub RefusesBreak : AtDesk → ℕ → ℕ → Refusal → Type 0
RefusesBreak d session line NoSuchLine = begins line d.machine.checked.main ≡ false
RefusesBreak d session line BreaksFull =
    (begins line d.machine.checked.main ≡ true) × (is_in line (breaks_of d session) ≡ false)
    × (most_breaks ≤ length (breaks_of d session))
RefusesBreak d session line _ = ⊥

-- a breakpoint of the session on a line on which a command begins: it has it already, or there is room for it
abbrev pub SetsBreak : AtDesk → ℕ → ℕ → Reply → AtDesk → Type 0
SetsBreak d session line Reply.Done d' =
    (begins line d.machine.checked.main ≡ true)
    × ((is_in line (breaks_of d session) ≡ true) ⊎ (length (breaks_of d session) < most_breaks))
    × (d' ≡ with_breaks d session (with_line line (breaks_of d session)))
SetsBreak d session line (Reply.Refused why) d' = RefusesBreak d session line why × (d' ≡ d)
SetsBreak d session line _ d' = ⊥

-- no breakpoint of the session on the line
abbrev pub ClearsBreak : AtDesk → ℕ → ℕ → Reply → AtDesk → Type 0
ClearsBreak d session line Reply.Done d' = d' ≡ with_breaks d session (without_line line (breaks_of d session))
ClearsBreak d session line _ d' = ⊥

-- the command of the session is answered by this reply, and leaves d'
abbrev pub Performs : AtDesk → ℕ → Command → Reply → AtDesk → Type 0
Performs d session (Command.Branch k) reply d' = OnBranch d session k reply d'
Performs d session (Command.Break line) reply d' = SetsBreak d session line reply d'
Performs d session (Command.Clear line) reply d' = ClearsBreak d session line reply d'
Performs d session command reply d' = MatchOption (execution_command command) ⊥ (λ c. OnExecution d c reply d')

-- there may be no memory for the command: a step in a branch may want some, breakpoints take none
abbrev pub MayWantMemory : AtDesk → Command → Type 0
MayWantMemory d (Command.Branch k) = Unit {0}
MayWantMemory d (Command.Break line) = ⊥
MayWantMemory d (Command.Clear line) = ⊥
MayWantMemory d command = MatchOption (execution_command command) ⊥ (λ c. calculus.MayWantMemory (execution d) c)

-- the same, or there was no memory for it and nothing changed
abbrev pub Answers : AtDesk → ℕ → Command → Reply → AtDesk → Type 0
Answers d session command reply d' =
    Performs d session command reply d' ⊎ (MayWantMemory d command × (reply ≡ Reply.Refused Memory) × (d' ≡ d))
