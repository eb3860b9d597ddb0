-- What a command of a session leaves as it is.
use Rattle.std.specs.Prelude.{◌≡◌, ◌≢◌, ◌⊎◌, ◌↔◌, ℕ, ◌<◌, List, length}
use Rattle.syntax.specs.Lists.{In, Every}
use Rattle.runs.specs.declared.command.Refusal.{Refusal}
use Rattle.locked_execution.specs.AtDesk.{AtDesk, breaks_of}
use Rattle.locked_execution.specs.Answered.{Answered}
use Rattle.locked_execution.specs.Performs.{Answers}
use Rattle.locked_execution.specs.declared.command.Command.{Command}
use Rattle.locked_execution.specs.declared.command.Reply.{Reply}

-- breakpoints change by a break or a clear alone
abbrev pub OnlyBreaksAndClears : Type 0
OnlyBreaksAndClears =
    (d d' : AtDesk) (session : ℕ) (command : Command) (reply : Reply) → Answers d session command reply d' →
    (d'.breaks ≡ d.breaks) ⊎ ((line : ℕ) × ((command ≡ Command.Break line) ⊎ (command ≡ Command.Clear line)))

-- no command of another session changes a session's breakpoints
abbrev pub OthersKeepTheirs : Type 0
OthersKeepTheirs =
    (d d' : AtDesk) (session other : ℕ) (command : Command) (reply : Reply) → Answers d session command reply d' →
    other ≢ session → breaks_of d' other ≡ breaks_of d other

-- nor do any commands of others
abbrev pub OthersKeepTheirsOverLists : Type 0
OthersKeepTheirsOverLists = (d d' : AtDesk) (other : ℕ) (commands : List (ℕ × Command)) (replies : List Reply) →
    Answered d commands replies d' → Every (λ x. other ≢ x.0) commands → breaks_of d' other ≡ breaks_of d other

-- a break leaves the execution
abbrev pub BreakLeavesExecution : Type 0
BreakLeavesExecution =
    (d d' : AtDesk) (session line : ℕ) (reply : Reply) → Answers d session (Command.Break line) reply d' →
    d'.machine ≡ d.machine

-- and so does a clear
abbrev pub ClearLeavesExecution : Type 0
ClearLeavesExecution =
    (d d' : AtDesk) (session line : ℕ) (reply : Reply) → Answers d session (Command.Clear line) reply d' →
    d'.machine ≡ d.machine

-- a refusal leaves everything
abbrev pub RefusalLeavesAll : Type 0
RefusalLeavesAll = (d d' : AtDesk) (session : ℕ) (command : Command) (why : Refusal) →
    Answers d session command (Reply.Refused why) d' → d' ≡ d

-- a line that is set has a breakpoint, and the others are as they were
abbrev pub BreakSets : Type 0
BreakSets =
    (d d' : AtDesk) (session line : ℕ) → session < length d.breaks →
    Answers d session (Command.Break line) Reply.Done d' →
    (n : ℕ) → In n (breaks_of d' session) ↔ ((n ≡ line) ⊎ In n (breaks_of d session))

-- a line that is cleared has none, and the others are as they were
abbrev pub ClearClears : Type 0
ClearClears =
    (d d' : AtDesk) (session line : ℕ) → session < length d.breaks →
    Answers d session (Command.Clear line) Reply.Done d' →
    (n : ℕ) → In n (breaks_of d' session) ↔ ((n ≢ line) × In n (breaks_of d session))
