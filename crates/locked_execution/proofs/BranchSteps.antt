-- A step in a branch is the step of the event that it took.
use Rattle.std.proofs.Common.{◌≡◌, inl, inr, ℕ, refl, sym, subst}
use Rattle.runs.specs.Choices.{choice_of}
use Rattle.runs.specs.Commands as runs
use Rattle.runs.specs.declared.command.Refusal.TheVariants.{Memory}
use Rattle.machine.specs.Branching.{StepsBranch}
use Rattle.machine.specs.declared.branch.BranchReply.{BranchReply}
use Rattle.locked_execution.specs.AtDesk.{AtDesk, breaks_of}
use Rattle.locked_execution.specs.Performs.{Performs, branch_reply}
use Rattle.locked_execution.specs.Replies.{BranchIsStep}
use Rattle.locked_execution.specs.declared.command.Command.{Command}
use Rattle.locked_execution.specs.declared.command.Reply.{Reply}

-- where this is told of a step, it is the step of that event
IsStep : AtDesk → AtDesk → ℕ → Reply → Type 0
IsStep d d' session (Reply.Stepped t e) = Performs d session (Command.Step (choice_of e)) (Reply.Stepped t e) d'
IsStep d d' session _ = Unit {0}

-- it is told of a step
TellsStep : Reply → Type 0
TellsStep (Reply.Stepped t e) = Unit {0}
TellsStep _ = ⊥

is-step : (d d' : AtDesk) (session k : ℕ) (answer : BranchReply) → StepsBranch d.machine k (breaks_of d session) answer d'.machine →
    d'.machine.checked ≡ d.machine.checked → d'.breaks ≡ d.breaks → d'.machine.marked ≡ d.machine.marked →
    IsStep d d' session (branch_reply answer)
unfolding IsStep
is-step d d' session k (BranchReply.Stepped t e) h checked breaks marked =
    (runs.Reply.Stepped t e, refl, h.4.1, checked, breaks, marked)
is-step d d' session k (BranchReply.Stopped line) h checked breaks marked = tt
is-step d d' session k BranchReply.Idle h checked breaks marked = tt
is-step d d' session k (BranchReply.Refused why) h checked breaks marked = tt

pub branch-is-step : BranchIsStep
unfolding IsStep TellsStep
branch-is-step d d' session k t e (inl h) =
    subst (λ (r : Reply). IsStep d d' session r) (sym h.1) (is-step d d' session k h.0 h.2 h.3 h.4 h.5)
branch-is-step d d' session k t e (inr h) = absurd (subst TellsStep h.1 tt)
