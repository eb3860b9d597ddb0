-- What a command of a session leaves as it is.
use Rattle.std.proofs.Common.{◌≡◌, ◌≢◌, ◌⊎◌, ◌↔◌, inl, inr, ℕ, ◌<◌, List, [], ◌∷◌, length, Option, Some, None, refl, sym, ◌∙◌, ap, subst, get_or, get_or-set_same, get_or-set_other}
use Rattle.std.specs.Prelude.{MatchOption}
use Rattle.syntax.specs.Lists.{In}
use Rattle.runs.specs.Does.{Does, MayWantMemory}
use Rattle.runs.specs.Commands as runs
use Rattle.runs.specs.declared.command.Refusal.{Refusal}
use Rattle.runs.specs.declared.command.Refusal.TheVariants.{Memory}
use Rattle.machine.specs.AtMachine.{object}
use Rattle.machine.specs.Branching.{StepsBranch}
use Rattle.machine.specs.Marks.{marks_behind}
use Rattle.machine.specs.declared.branch.BranchReply.{BranchReply}
use Rattle.locked_execution.specs.AtDesk.{AtDesk, execution, breaks_of, with_breaks}
use Rattle.locked_execution.specs.Performs.{Answers, execution_command, OnExecution, OnBranch, SetsBreak, ClearsBreak, session_reply, branch_reply}
use Rattle.locked_execution.specs.Frames.{OnlyBreaksAndClears, OthersKeepTheirs, OthersKeepTheirsOverLists, BreakLeavesExecution, ClearLeavesExecution, RefusalLeavesAll, BreakSets, ClearClears}
use Rattle.locked_execution.specs.declared.command.Command.{Command}
use Rattle.locked_execution.specs.declared.command.Reply.{Reply}
use Rattle.locked_execution.proofs.LineLaws.{line-in, line-out}
use Rattle.locked_execution.proofs.public.Unchanged.{refused-leaves, all-same}

-- a command of the execution keeps the breakpoints
kept : (d d' : AtDesk) (o : Option runs.Command) (reply : Reply) → MatchOption o ⊥ (λ c. OnExecution d c reply d')
    ⊎ (MatchOption o ⊥ (λ c. MayWantMemory (execution d) c) × (reply ≡ Reply.Refused Memory) × (d' ≡ d)) → d'.breaks ≡ d.breaks
kept d d' None reply (inl h) = absurd h
kept d d' (Some c) reply (inl h) = h.4
kept d d' o reply (inr h) = ap (λ (a : AtDesk). a.breaks) h.2

pub only-breaks-and-clears : OnlyBreaksAndClears
only-breaks-and-clears d d' session (Command.Branch k) reply (inl h) = inl h.4
only-breaks-and-clears d d' session (Command.Branch k) reply (inr h) = inl (ap (λ (a : AtDesk). a.breaks) h.2)
only-breaks-and-clears d d' session (Command.Break line) reply h = inr (line, inl refl)
only-breaks-and-clears d d' session (Command.Clear line) reply h = inr (line, inr refl)
only-breaks-and-clears d d' session command reply h = inl (kept d d' (execution_command command) reply h)

-- the breakpoints of one session alone are written
elsewhere : (d d' : AtDesk) (session other : ℕ) (lines : List ℕ) → d' ≡ with_breaks d session lines → other ≢ session → breaks_of d' other ≡ breaks_of d other
elsewhere d d' session other lines is apart = ap (λ (a : AtDesk). breaks_of a other) is ∙ get_or-set_other d.breaks session other lines [] apart

-- all is as it was
same : (d d' : AtDesk) (other : ℕ) → d' ≡ d → breaks_of d' other ≡ breaks_of d other
same d d' other is = ap (λ (a : AtDesk). breaks_of a other) is

set-elsewhere : (d d' : AtDesk) (session other line : ℕ) (reply : Reply) → SetsBreak d session line reply d' → other ≢ session → breaks_of d' other ≡ breaks_of d other
set-elsewhere d d' session other line Reply.Done h apart = elsewhere d d' session other _ h.2 apart
set-elsewhere d d' session other line (Reply.Refused why) h apart = same d d' other h.1
set-elsewhere d d' session other line _ h apart = absurd h

cleared-elsewhere : (d d' : AtDesk) (session other line : ℕ) (reply : Reply) → ClearsBreak d session line reply d' → other ≢ session → breaks_of d' other ≡ breaks_of d other
cleared-elsewhere d d' session other line Reply.Done h apart = elsewhere d d' session other _ h apart
cleared-elsewhere d d' session other line _ h apart = absurd h

at-break : (d d' : AtDesk) (session other line : ℕ) (reply : Reply) → Answers d session (Command.Break line) reply d' → other ≢ session → breaks_of d' other ≡ breaks_of d other
at-break d d' session other line reply (inl h) apart = set-elsewhere d d' session other line reply h apart
at-break d d' session other line reply (inr h) apart = absurd h.0

at-clear : (d d' : AtDesk) (session other line : ℕ) (reply : Reply) → Answers d session (Command.Clear line) reply d' → other ≢ session → breaks_of d' other ≡ breaks_of d other
at-clear d d' session other line reply (inl h) apart = cleared-elsewhere d d' session other line reply h apart
at-clear d d' session other line reply (inr h) apart = absurd h.0

pub others-keep-theirs : OthersKeepTheirs
others-keep-theirs d d' session other command reply h apart =
    elim (only-breaks-and-clears d d' session command reply h) [
      | inl is ↦ ap (λ (bs : List (List ℕ)). get_or bs other []) is
      | inr (line, inl is) ↦ at-break d d' session other line reply (subst (λ (c : Command). Answers d session c reply d') is h) apart
      | inr (line, inr is) ↦ at-clear d d' session other line reply (subst (λ (c : Command). Answers d session c reply d') is h) apart
    ]

pub others-keep-theirs-over-lists : OthersKeepTheirsOverLists
others-keep-theirs-over-lists d d' other [] replies h none = same d d' other h.1
others-keep-theirs-over-lists d d' other (x ∷ xs) replies h none =
    others-keep-theirs-over-lists h.2 d' other xs h.1 h.5 none.1 ∙ others-keep-theirs d h.2 x.0 other x.1 h.0 h.4 none.0

set-leaves : (d d' : AtDesk) (session line : ℕ) (reply : Reply) → SetsBreak d session line reply d' → d'.machine ≡ d.machine
set-leaves d d' session line Reply.Done h = ap (λ (a : AtDesk). a.machine) h.2
set-leaves d d' session line (Reply.Refused why) h = ap (λ (a : AtDesk). a.machine) h.1
set-leaves d d' session line _ h = absurd h

clear-leaves : (d d' : AtDesk) (session line : ℕ) (reply : Reply) → ClearsBreak d session line reply d' → d'.machine ≡ d.machine
clear-leaves d d' session line Reply.Done h = ap (λ (a : AtDesk). a.machine) h
clear-leaves d d' session line _ h = absurd h

pub break-leaves-execution : BreakLeavesExecution
break-leaves-execution d d' session line reply (inl h) = set-leaves d d' session line reply h
break-leaves-execution d d' session line reply (inr h) = absurd h.0

pub clear-leaves-execution : ClearLeavesExecution
clear-leaves-execution d d' session line reply (inl h) = clear-leaves d d' session line reply h
clear-leaves-execution d d' session line reply (inr h) = absurd h.0

-- a refusal of the execution leaves all
refused : (d d' : AtDesk) (o : Option runs.Command) (why : Refusal) → MatchOption o ⊥ (λ c. OnExecution d c (Reply.Refused why) d')
    ⊎ (MatchOption o ⊥ (λ c. MayWantMemory (execution d) c) × (Reply.Refused why ≡ Reply.Refused Memory) × (d' ≡ d)) → d' ≡ d
refused d d' None why (inl h) = absurd h
refused d d' (Some c) why (inl h) = by_answer h.0 h.1 h.2 h.5
  where
    by_answer : (answer : runs.Reply) → Reply.Refused why ≡ session_reply answer → Does (execution d) c answer (execution d') →
        d'.machine.marked ≡ marks_behind answer d.machine.marked → d' ≡ d
    by_answer (runs.Reply.Refused because) is does marks = all-same d d' h.3 (refused-leaves (execution d) (execution d') c because does) h.4 marks
    by_answer _ is does marks = cc
refused d d' o why (inr h) = h.2

-- and so does one of a step in a branch
branch-refused : (d d' : AtDesk) (session k : ℕ) (why : Refusal) → OnBranch d session k (Reply.Refused why) d' → d' ≡ d
branch-refused d d' session k why h = by_answer h.0 h.1 h.2
  where
    by_answer : (answer : BranchReply) → Reply.Refused why ≡ branch_reply answer → StepsBranch d.machine k (breaks_of d session) answer d'.machine → d' ≡ d
    by_answer (BranchReply.Refused because) is steps = all-same d d' h.3 (ap object steps.4.1) h.4 h.5
    by_answer _ is steps = cc

pub refusal-leaves-all : RefusalLeavesAll
refusal-leaves-all d d' session (Command.Branch k) why (inl h) = branch-refused d d' session k why h
refusal-leaves-all d d' session (Command.Branch k) why (inr h) = h.2
refusal-leaves-all d d' session (Command.Break line) why (inl h) = h.1
refusal-leaves-all d d' session (Command.Break line) why (inr h) = absurd h.0
refusal-leaves-all d d' session (Command.Clear line) why (inl h) = absurd h
refusal-leaves-all d d' session (Command.Clear line) why (inr h) = absurd h.0
refusal-leaves-all d d' session command why h = refused d d' (execution_command command) why h

-- what a session has after its breakpoints were written
written : (d d' : AtDesk) (session : ℕ) (lines : List ℕ) → session < length d.breaks → d' ≡ with_breaks d session lines → breaks_of d' session ≡ lines
written d d' session lines less is = ap (λ (a : AtDesk). breaks_of a session) is ∙ get_or-set_same d.breaks session lines [] less

pub break-sets : BreakSets
break-sets d d' session line less (inl h) n =
    subst (λ (lines : List ℕ). In n lines ↔ ((n ≡ line) ⊎ In n (breaks_of d session))) (sym (written d d' session _ less h.2)) (line-in line (breaks_of d session) n)
break-sets d d' session line less (inr h) n = absurd h.0

pub clear-clears : ClearClears
clear-clears d d' session line less (inl h) n =
    subst (λ (lines : List ℕ). In n lines ↔ ((n ≢ line) × In n (breaks_of d session))) (sym (written d d' session _ less h)) (line-out line (breaks_of d session) n)
clear-clears d d' session line less (inr h) n = absurd h.0
