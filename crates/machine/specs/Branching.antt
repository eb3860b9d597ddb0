-- What a branch does: the first of its events that no breakpoint keeps back is taken.
use Rattle.std.specs.Prelude.{◌≡◌, ◌⊎◌, ℕ, ◌==◌, List, [], ◌∷◌, ◌++◌, Bool, true, false, not, Option, Some, None, filter}
use Rattle.syntax.specs.Lists.{Every}
use Rattle.system.specs.Expression.{is_in}
use Rattle.system_places.specs.SystemBranches.{branch_at}
use Rattle.runs.specs.Steps.{State}
use Rattle.runs.specs.Events.{acting}
use Rattle.runs.specs.Choices.{choice_of}
use Rattle.runs.specs.Ready.{ReadyList}
use Rattle.runs.specs.Live.{events}
use Rattle.runs.specs.Object.{Reaches}
use Rattle.runs.specs.Does.{Steps, Does, RefusesStep}
use Rattle.runs.specs.declared.event.Event.{Event}
use Rattle.runs.specs.Commands.{Command, Reply}
use Rattle.runs.specs.declared.command.Refusal.TheVariants.{Memory}
use Rattle.dependence.specs.EventPlaces.{line_after}
use Rattle.machine.specs.AtMachine.{AtMachine, object}
use Rattle.machine.specs.declared.branch.BranchReply.{BranchReply}
use Rattle.machine.specs.declared.branch.BranchReply.TheVariants.{Stepped, Stopped, Idle, Refused}

-- the line of the command at which an event acts, after the live events
abbrev pub line_of : AtMachine → Event → Option ℕ
line_of h e = line_after (events h.live) h.checked (acting e)

-- whether this is branch k
abbrev pub is_branch : ℕ → Option ℕ → Bool
is_branch k None = false
is_branch k (Some b) = b == k

-- whether an event acts in branch k
abbrev pub acts_in : AtMachine → ℕ → Event → Bool
acts_in h k e = is_branch k (branch_at h.checked (acting e))

-- the events that act in branch k, in order
abbrev pub in_branch : AtMachine → ℕ → List Event → List Event
in_branch h k es = filter (acts_in h k) es

-- whether a line has no breakpoint
abbrev pub has_no_break : List ℕ → Option ℕ → Bool
has_no_break breaks None = true
has_no_break breaks (Some line) = not (is_in line breaks)

-- whether no breakpoint keeps an event back
abbrev pub is_free : AtMachine → List ℕ → Event → Bool
is_free h breaks e = has_no_break breaks (line_of h e)

-- e is the first event of the list that is free
pub record FirstFree (free : Event → Bool) (es : List Event) (e : Event) : Type 0 where
  pub before : List Event
  pub after : List Event
  pub parts : es ≡ before ++ e ∷ after
  pub is_free : free e ≡ true
  pub kept_back : Every (λ f. free f ≡ false) before

-- breakpoints keep all events back, and `line` is that of the first
abbrev pub AllKeptBack : AtMachine → List ℕ → List Event → ℕ → Type 0
AllKeptBack h breaks [] line = ⊥
AllKeptBack h breaks (e ∷ es) line = (line_of h e ≡ Some line) × Every (λ f. is_free h breaks f ≡ false) (e ∷ es)

-- what is answered where these are the events of the branch that are ready, and what is left
abbrev pub Branched : AtMachine → List ℕ → List Event → BranchReply → AtMachine → Type 0
Branched h breaks es (Stepped t e) h' =
    FirstFree (is_free h breaks) es e × Steps (object h) (choice_of e) (Reply.Stepped t e) (object h')
Branched h breaks es (Stopped line) h' = AllKeptBack h breaks es line × (h' ≡ h)
Branched h breaks es Idle h' = (es ≡ []) × (h' ≡ h)
Branched h breaks es (Refused why) h' =
    ((e : Event) × FirstFree (is_free h breaks) es e × RefusesStep (object h) (choice_of e) why) × (h' ≡ h)

-- a step of branch k
abbrev pub StepsBranch : AtMachine → ℕ → List ℕ → BranchReply → AtMachine → Type 0
StepsBranch h k breaks reply h' =
    (T : State) × (es : List Event) × Reaches (object h) T × ReadyList T es
    × Branched h breaks (in_branch h k es) reply h'

-- the same, or there was no memory for it and nothing changed
abbrev pub AnswersBranch : AtMachine → ℕ → List ℕ → BranchReply → AtMachine → Type 0
AnswersBranch h k breaks reply h' = StepsBranch h k breaks reply h' ⊎ ((reply ≡ Refused Memory) × (h' ≡ h))

-- a branch that takes an event takes a step at its choice
abbrev pub SteppedIsStep : Type 0
SteppedIsStep = (h h' : AtMachine) (k t : ℕ) (breaks : List ℕ) (e : Event) → AnswersBranch h k breaks (Stepped t e) h' →
    Does (object h) (Command.Step (choice_of e)) (Reply.Stepped t e) (object h')

-- one that takes none leaves all as it was
abbrev pub OthersLeave : Type 0
OthersLeave = (h h' : AtMachine) (k : ℕ) (breaks : List ℕ) (reply : BranchReply) → AnswersBranch h k breaks reply h' →
    ((t : ℕ) × (e : Event) × (reply ≡ Stepped t e)) ⊎ (h' ≡ h)
